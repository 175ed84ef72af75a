use Rattle.mini_work.proofs.Caused.{end_fails, end_then, later_same}
use Rattle.std.proofs.Common.{FitsSigned, Err, Ok, subst, w32, ℤ}
use Rattle.std.proofs.lemmas.Int.{to_z-of_z}
use Rattle.std.proofs.lemmas.Result.{err_from_is_err_and}
use Rattle.cms_fields.specs.declared.time.Stamp.{Stamp}
use Rattle.cms_model.specs.Changes.{Rename}
use Rattle.mini_work.specs.Changes.{IsAsked, IsChange, IsTimed}
use Rattle.mini_work.specs.CommandActs.{Continues}
use Rattle.mini_work.specs.Output.{name_line}
use Rattle.mini_work.proofs.PartsJoined.{cut_any}
use Rattle.mini_work.proofs.UnitStands.{may_still, same_on}
use Rattle.mini_work.proofs.Worked.{timed_on}
use Rattle.mini_work.proofs.change.rename_timed.Goals as goal

pub rename_one-requires-clause-may : goal.rename_one-requires-clause-may
rename_one-requires-clause-may g c =
    may_still _ _ c.args.disk.now c.args.disk.now c.ask_clock.ensures.grown (same_on c.args.disk.now) c.requires.may

pub returns-in_err-stamp-clause-goes : goal.returns-in_err-stamp-clause-goes
returns-in_err-stamp-clause-goes g c =
    let told = g.W.World.told in
    let p = err_from_is_err_and c.from_residual.result c.from_residual.ensures.1 in
    let d = c.args.disk.now in
    let P = λ (stamp : Stamp). IsChange (Rename c.args.from.now c.args.to.now c.args.number) stamp c.args.says (name_line c.args.to.now) in
    let small : FitsSigned w32 c.args.offset = c.ranges.offset in
    let o = to_z-of_z w32 c.args.offset small in
    let asked = subst (λ (x : ℤ). Continues (IsAsked x) (told c.args.world.now) d (told c.ask_clock.new.world) d (Err c.in_err-stamp.field-0.0)) o
    (c.in_err-stamp.ensures.goes d) in
    cut_any (IsAsked c.args.offset) (IsTimed c.args.offset P) _ _ d d c.in_err-stamp.field-0.0 p.0 _ p.1 asked

pub returns-clause-goes : goal.returns-clause-goes
returns-clause-goes g c =
    let told = g.W.World.told in
    let d = c.args.disk.now in
    let P = λ (stamp : Stamp). IsChange (Rename c.args.from.now c.args.to.now c.args.number) stamp c.args.says (name_line c.args.to.now) in
    let small : FitsSigned w32 c.args.offset = c.ranges.offset in
    let o = to_z-of_z w32 c.args.offset small in
    let asked = subst (λ (x : ℤ). Continues (IsAsked x) (told c.args.world.now) d (told c.ask_clock.new.world) d (Ok c.in_ok-stamp.stamp)) o
    (c.in_ok-stamp.ensures.goes d) in
    timed_on c.args.offset P c.in_ok-stamp.stamp _ _ _ d c.rename_one.new.disk _ asked c.rename_one.ensures.goes

pub returns-in_err-stamp-clause-cause : goal.returns-in_err-stamp-clause-cause
returns-in_err-stamp-clause-cause g c = λ may. let x = c.in_err-stamp.ensures.cause (g.H.Host.faults c.args.host.now) in end_fails _ _ _ c.in_err-stamp.field-0.0 c.from_residual.result (later_same _) c.from_residual.ensures.1 x.later x.failed

pub returns-clause-cause : goal.returns-clause-cause
returns-clause-cause g c = λ may. end_then _ _ _ _ (c.in_ok-stamp.ensures.cause (g.H.Host.faults c.args.host.now)).later (c.rename_one.ensures.cause may)
