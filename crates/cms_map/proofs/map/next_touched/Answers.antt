use Rattle.std.proofs.Common.{ℕ, List, subst, arith}
use Rattle.std.specs.Prelude.{map}
use Rattle.std.proofs.lemmas.List.{take_all}
use Rattle.cms_map.specs.Touched.{data_block, IsLowest}
use Rattle.std.proofs.Common.{refl}
use Rattle.cms_map.proofs.TouchedBlocks.{passed_more, found_more}
use Rattle.cms_map.proofs.map.next_touched.Goals as goal
use Rattle.cms_map.proofs.map.next_touched.Goals.{then-place-from, else-place-from}

pub loop-block-preserved : goal.loop-block-preserved
loop-block-preserved c =
    let l = c.loop-block in
    let blocks = c.args.blocks.now in
    elim c.if-place-from.branch [
      | then-place-from w ↦ rw w.lowest-is (found_more c.args.from c.args.bsize _ w.lower_of.result blocks l.block-index l.lowest (omega arith) refl w.if-place-from.true w.lower_of.ensures l.invariant)
      | else-place-from w ↦ rw w.lowest-is (passed_more c.args.from c.args.bsize _ blocks l.block-index l.lowest (omega arith) refl w.if-place-from.false l.invariant)
    ]

pub returns : goal.returns
returns c =
    let l = c.loop-block in
    let blocks = c.args.blocks.now in
    record { lowest = subst (λ (ns : List ℕ). IsLowest c.args.from (map (data_block c.args.bsize) ns) l.lowest) (take_all l.block-index blocks (omega arith)) l.invariant }
