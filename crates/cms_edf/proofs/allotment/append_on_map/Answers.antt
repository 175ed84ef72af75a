use Rattle.cms_edf.proofs.Exits.{ok_at_err}
use Rattle.std.proofs.Common.{Vec, Global, ℕ, sym, ◌∙◌, ap}
use Rattle.cms_edf.proofs.BlocksMade.{bit_passed, bit_taken}
use Rattle.cms_edf.proofs.allotment.append_on_map.Goals as goal
use Rattle.cms_edf.proofs.allotment.append_on_map.Goals.{then-has_bit+in_ok-push, else-has_bit}

pub returns-in_err-push : goal.returns-in_err-push
returns-in_err-push c = ok_at_err _ c.from_residual.result _ c.from_residual.ensures.1

pub loop-block-preserved : goal.loop-block-preserved
loop-block-preserved c =
    let l = c.loop-block in
    let a = c.args in
    elim c.if-has_bit.branch [
      | then-has_bit+in_ok-push w ↦
          ap (λ (v : Vec ℕ Global). v.items) w.into-is
          ∙ (w.in_ok-push.ensures.items
          ∙ bit_taken a.total a.blocks.now a.into.now.items l.into.items l.block-index c.loop-block-test.true l.invariant (sym c.has_bit.ensures ∙ w.if-has_bit.true))
      | else-has_bit w ↦
          ap (λ (v : Vec ℕ Global). v.items) w.into-is
          ∙ bit_passed a.total a.blocks.now a.into.now.items l.into.items l.block-index c.loop-block-test.true l.invariant (sym c.has_bit.ensures ∙ w.if-has_bit.false)
    ]
