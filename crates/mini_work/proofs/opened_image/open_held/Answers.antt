use Rattle.mini_work.specs.Causes.{counts}
use Rattle.mini_work.proofs.Caused.{cause_done, cause_fails, cause_then, later_same}
use Rattle.std.proofs.Common.{◌≡◌, ℕ, List, None, inl, subst}
use Rattle.std.specs.Prelude.{IfOk, IfSome}
use Rattle.mini_work.specs.Checks.{Holds, IsShut}
use Rattle.mini_work.specs.OpenedImages.{IsNew}
use Rattle.mini_work.proofs.LoneUnit.{unwritten_new}
use Rattle.mini_work.proofs.opened_image.open_held.Goals as goal

pub returns-in_err-size-clause-unwritten : goal.returns-in_err-size-clause-unwritten
returns-in_err-size-clause-unwritten g c = λ is. unwritten_new (g.W.World.told c.args.world.now) is

pub returns-in-None-clause-unwritten : goal.returns-in-None-clause-unwritten
returns-in-None-clause-unwritten g c = λ is. unwritten_new (g.W.World.told c.args.world.now) is

pub returns-in-None-clause-shut : goal.returns-in-None-clause-shut
returns-in-None-clause-shut g c = λ none is. inl is

pub returns-in-Some-clause-holds : goal.returns-in-Some-clause-holds
returns-in-Some-clause-holds g c =
    let told = g.W.World.told in
    subst (λ (n : List ℕ). IfOk c.hold_sized.result (λ found. IfSome found (λ held. IsNew (told c.args.world.now)
    → Holds n (told c.hold_sized.new.world) held.volume))) c.text.ensures c.hold_sized.ensures.holds

pub returns-in-Some-clause-shut : goal.returns-in-Some-clause-shut
returns-in-Some-clause-shut g c =
    let told = g.W.World.told in
    subst (λ (n : List ℕ). IfOk c.hold_sized.result (λ found. found ≡ None → IsNew (told c.args.world.now)
    → IsShut n (told c.hold_sized.new.world))) c.text.ensures c.hold_sized.ensures.shut

pub returns-in_err-size-clause-cause : goal.returns-in_err-size-clause-cause
returns-in_err-size-clause-cause g c = let at = counts g.W.World g.H.Host in let x = c.in_err-size.ensures.cause (at c.args.world.now c.args.host.now) in cause_fails _ _ _ c.in_err-size.field-0.0 c.from_residual.result (later_same _) c.from_residual.ensures.1 x.later x.failed

pub returns-in-Some-clause-cause : goal.returns-in-Some-clause-cause
returns-in-Some-clause-cause g c = let at = counts g.W.World g.H.Host in cause_then _ _ _ _ (c.in_ok-size.ensures.cause (at c.args.world.now c.args.host.now)).later (c.hold_sized.ensures.cause)

pub returns-in-None-clause-cause : goal.returns-in-None-clause-cause
returns-in-None-clause-cause g c = let at = counts g.W.World g.H.Host in cause_done _ _ _ (c.in_ok-size.ensures.cause (at c.args.world.now c.args.host.now)).later
