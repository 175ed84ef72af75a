use Rattle.std.proofs.Common.{◌∙◌, refl, sym, rules, w64, FitsSigned}
use Rattle.std.proofs.lemmas.Int.{to_z-of_z}
use Rattle.exec2_run.specs.Given.{bound}
use Rattle.exec2_run.proofs.Sums.{sum_is}
use Rattle.exec2_run.proofs.assignment.sum_of_two.Goals as goal

pub returns-in-Ok : goal.returns-in-Ok
returns-in-Ok c =
    let fx : FitsSigned w64 c.in_ok-left.left = search rules in
    let fy : FitsSigned w64 c.in_ok-right.right = search rules in
    let ft : FitsSigned w64 c.in-Ok.total = search rules in
    let first = c.in_ok-left.ensures in
    let second = c.in_ok-right.ensures in
    rw (to_z-of_z w64 c.in-Ok.total ft)
    (sum_is (bound c.args.seen.now) c.args.words.now c.left-item.result c.sign-item.result c.right-item.result c.left-item.result c.bytes.result.now c.right-item.result
    first.0 second.0 c.in_ok-sign.sign c.in_ok-left.left c.in_ok-right.right c.in-Ok.total c.in-len3.len_at_least c.in-len3.len_below
    c.left-item.is c.sign-item.is c.right-item.is refl c.bytes.ensures.bytes refl first.1 (sym c.sign_of.ensures ∙ c.in_ok-sign.was) second.1 first.2 second.2
    (simp to_z-of_z at (sym c.apply.ensures ∙ c.in-Ok.is)))
