use Rattle.mini_work.proofs.Caused.{end_fails, end_refused, end_then, later_same}
use Rattle.std.proofs.Common.{List, Option, subst, ℕ}
use Rattle.std.specs.Prelude.{IfSome}
use Rattle.std.proofs.lemmas.Result.{err_from_is_err_and}
use Rattle.cms_held.specs.HeldVolumes.{Held}
use Rattle.mini_work.specs.Checks.{Holds, Shows, sound_text}
use Rattle.mini_work.specs.OpenedImages.{IsNew}
use Rattle.mini_work.proofs.Checked.{showing_err, showing_on, showing_shut}
use Rattle.mini_work.proofs.LoneUnit.{unwritten_types}
use Rattle.mini_work.proofs.check.check.Goals as goal

pub returns-in_err-held-clause-goes : goal.returns-in_err-held-clause-goes
returns-in_err-held-clause-goes g c = λ is.
    let p = err_from_is_err_and c.from_residual.result c.from_residual.ensures.1 in
    let name = c.args.image.now.name in
    showing_err name (sound_text name) _ _ p.0 p.1 (c.in_err-held.ensures.unwritten is)

pub returns-in-None-clause-goes : goal.returns-in-None-clause-goes
returns-in-None-clause-goes g c = λ is.
    let name = c.args.image.now.name in
    showing_shut name (sound_text name) _ (c.in_ok-held.ensures.shut c.in-None.is is)

pub returns-in-Some-clause-goes : goal.returns-in-Some-clause-goes
returns-in-Some-clause-goes g c = λ is.
    let told = g.W.World.told in
    let name = c.args.image.now.name in
    let holds = subst (λ (o : Option Held). IfSome o (λ h. IsNew (told c.args.world.now) → Holds name (told c.open_held.new.world) h.volume))
    c.in-Some.is c.in_ok-held.ensures.holds in
    let shows = subst (λ (n : List ℕ). Shows (told c.open_held.new.world) (told c.say_sound-done.new.world) (sound_text n c.in-Some.held.volume) c.say_sound-done.result)
    c.text.ensures c.say_sound-done.ensures.shows in
    showing_on name (sound_text name) (told c.open_held.new.world) (told c.say_sound-done.new.world) c.in-Some.held.volume c.say_sound-done.result (holds is)
    shows (unwritten_types _ _ c.say_sound-done.ensures.typed (c.in_ok-held.ensures.unwritten is))

pub returns-in_err-held-clause-cause : goal.returns-in_err-held-clause-cause
returns-in_err-held-clause-cause g c = let x = c.in_err-held.ensures.cause in end_fails _ _ _ c.in_err-held.field-0.0 c.from_residual.result (later_same _) c.from_residual.ensures.1 x.later x.failed

pub returns-in-Some-clause-cause : goal.returns-in-Some-clause-cause
returns-in-Some-clause-cause g c = end_then _ _ _ _ (c.in_ok-held.ensures.cause).later (c.say_sound-done.ensures.cause (g.H.Host.faults c.open_held.new.host))

pub returns-in-None-clause-cause : goal.returns-in-None-clause-cause
returns-in-None-clause-cause g c = end_refused _ _ (c.in_ok-held.ensures.cause).later
