use Rattle.std.proofs.Common.{◌∙◌, arith, sym}
use Rattle.cms_edit.proofs.Places.{further, here, nowhere}
use Rattle.cms_edit.proofs.place.place_in.Goals as goal

pub returns-then-starts_with-clause-place : goal.returns-then-starts_with-clause-place
returns-then-starts_with-clause-place c =
    sym (here c.args.text.now c.args.line.now c.loop-place.place c.loop-place-test.true
    (sym c.starts_with.ensures.value ∙ c.if-starts_with.true)) ∙ c.loop-place.invariant

pub loop-place-preserved : goal.loop-place-preserved
loop-place-preserved c =
    further c.args.text.now c.args.line.now c.loop-place.place c.loop-place-test.true
    (sym c.starts_with.ensures.value ∙ c.if-starts_with.false) ∙ c.loop-place.invariant

pub returns-clause-place : goal.returns-clause-place
returns-clause-place c =
    sym (nowhere c.args.text.now c.args.line.now c.loop-place.place (omega arith)) ∙ c.loop-place.invariant
