use Rattle.std.proofs.Common.{arith}
use Rattle.std.proofs.lemmas.Grind.{common_steps}
use Rattle.cms_journal.proofs.Cuts.{cut_more, first_blocks_more}
use Rattle.cms_journal.proofs.bytes.Blocks.cut.Goals as goal

pub loop-place-preserved : goal.loop-place-preserved
loop-place-preserved c =
    let more = cut_more c.args.bytes.now c.loop-place.blocks _ c.loop-place.place c.args.size c.loop-place.invariant.joined c.in_ok-of.ensures in
    let blocks = first_blocks_more c.args.bytes.now c.loop-place.blocks _ c.loop-place.place c.args.size c.loop-place.invariant.blocks c.in_ok-of.ensures in
    grind (arith, common_steps, more, blocks)
