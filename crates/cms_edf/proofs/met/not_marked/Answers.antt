use Rattle.std.proofs.Common.{rules, sym, ◌∙◌, arith}
use Rattle.cms_edf.proofs.Marked.{looks_found, looks_next, looks_last}
use Rattle.cms_edf.proofs.met.not_marked.Goals as goal

pub returns-then-is_missing : goal.returns-then-is_missing
returns-then-is_missing c = looks_found c.args.map.now c.args.seen.now c.loop-block.block c.loop-block.invariant.low (search rules)
    (sym c.is_missing.ensures ∙ c.if-is_missing.true) c.loop-block.invariant.looks

pub loop-block-preserved : goal.loop-block-preserved
loop-block-preserved c = record {
  looks = looks_next c.args.map.now c.args.seen.now c.loop-block.block c.loop-block.invariant.low (search rules) (sym c.is_missing.ensures ∙ c.if-is_missing.false) c.loop-block.invariant.looks;
  low = omega (arith, c.loop-block.invariant.low);
}

pub returns : goal.returns
returns c = looks_last c.args.map.now c.args.seen.now c.loop-block.block (search rules) c.loop-block.invariant.looks
