use Rattle.mini_work.proofs.Caused.{later_same}
use Rattle.mini_work.specs.Causes.{counts}
use Rattle.std.proofs.Common.{◌∙◌, FitsSigned, subst, sym, w32, ℤ}
use Rattle.std.proofs.lemmas.Int.{to_z-of_z}
use Rattle.cms_model.specs.Changes.{Rename}
use Rattle.mini_work.specs.Changes.{IsChange, IsTimed}
use Rattle.mini_work.specs.CommandActs.{Continues}
use Rattle.mini_work.specs.Output.{name_line}
use Rattle.mini_work.proofs.Worked.{renamed_none, renamed_some}
use Rattle.mini_work.proofs.change.rename_file.Goals as goal

pub returns-in_default-clause-goes : goal.returns-in_default-clause-goes
returns-in_default-clause-goes g c =
    renamed_none c.args.says c.args.offset c.args.from.now c.args.to.now _ c.args.disk.now c.refuse_change.result (sym c.find.ensures ∙ c.in_default.is)
    c.refuse_change.ensures.refused

pub returns-clause-goes : goal.returns-clause-goes
returns-clause-goes g c =
    let told = g.W.World.told in
    let number = c.mode_number-number.result in
    let from = c.args.from.now in
    let to = c.args.to.now in
    let small : FitsSigned w32 c.args.offset = c.ranges.offset in
    let o = to_z-of_z w32 c.args.offset small in
    let timed = subst (λ (x : ℤ). Continues (IsTimed x (λ stamp. IsChange (Rename from to number) stamp c.args.says (name_line to))) (told c.args.world.now)
    c.args.disk.now (told c.rename_timed.new.world) c.rename_timed.new.disk c.rename_timed.result) o c.rename_timed.ensures.goes in
    renamed_some c.args.says c.args.offset from to c.in-Some.place number _ _ c.args.disk.now c.rename_timed.new.disk c.rename_timed.result
    (sym c.in-Some.ensures) c.mode_number-number.ensures.told timed

pub returns-in_default-clause-cause : goal.returns-in_default-clause-cause
returns-in_default-clause-cause g c = λ may. let at = counts g.W.World g.H.Host in c.refuse_change.ensures.cause (at c.args.world.now c.args.host.now) _ _ (later_same (at c.args.world.now c.args.host.now)) (λ e. absurd (cc e))

pub returns-clause-cause : goal.returns-clause-cause
returns-clause-cause g c = λ may. c.rename_timed.ensures.cause may
