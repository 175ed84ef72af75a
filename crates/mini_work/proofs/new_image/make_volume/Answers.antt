use Rattle.mini_work.proofs.Caused.{cause_done, cause_fails, later_same, later_then, made_devices, units_failed, units_later}
use Rattle.mini_work.specs.Faults.{fault_of}
use Rattle.std.proofs.Common.{FitsSigned, Ok, subst, w32, ℤ}
use Rattle.std.proofs.lemmas.Int.{to_z-of_z}
use Rattle.std.proofs.lemmas.Result.{err_from_is_err_and}
use Rattle.mini_work.specs.Changes.{Asks}
use Rattle.mini_work.specs.NewImages.{first_state}
use Rattle.mini_work.proofs.LoneUnit.{may_use_still}
use Rattle.mini_work.proofs.Made.{makes_cut, makes_done, makes_unasked}
use Rattle.mini_work.proofs.new_image.make_volume.Goals as goal

pub make-requires-clause-blocks : goal.make-requires-clause-blocks
make-requires-clause-blocks g c = (may_use_still _ _ c.args.unit.now c.ask_clock.ensures.grown c.requires.may).blocks

pub make-requires-clause-writable : goal.make-requires-clause-writable
make-requires-clause-writable g c = (may_use_still _ _ c.args.unit.now c.ask_clock.ensures.grown c.requires.may).writable c.requires.writable

pub returns-in_err-stamp-clause-goes : goal.returns-in_err-stamp-clause-goes
returns-in_err-stamp-clause-goes g c = λ name size access a.
    let p = err_from_is_err_and c.from_residual.result c.from_residual.ensures.1 in
    makes_unasked c.args.unit.now (first_state a.alone.unit) c.args.label c.args.offset _ _ p.0 _ p.1 c.in_err-stamp.ensures.asks

pub returns-in_err-make-clause-goes : goal.returns-in_err-make-clause-goes
returns-in_err-make-clause-goes g c = λ name size access a.
    let told = g.W.World.told in
    let p = err_from_is_err_and c.from_residual-in_err-make.result c.from_residual-in_err-make.ensures.1 in
    let small : FitsSigned w32 c.args.offset = c.ranges.offset in
    let o = to_z-of_z w32 c.args.offset small in
    let asks = subst (λ (x : ℤ). Asks x (told c.args.world.now) (told c.ask_clock.new.world) (Ok c.in_ok-stamp.stamp)) o c.in_ok-stamp.ensures.asks in
    makes_cut name size access (told c.args.world.now) (told c.ask_clock.new.world) (told c.make.new.world) c.args.unit.now a c.args.label
    c.in_ok-stamp.stamp c.args.offset c.in_err-make.field-0.0 p.0 _ p.1 asks c.in_err-make.ensures.formats

pub returns-clause-goes : goal.returns-clause-goes
returns-clause-goes g c = λ name size access a.
    let told = g.W.World.told in
    let small : FitsSigned w32 c.args.offset = c.ranges.offset in
    let o = to_z-of_z w32 c.args.offset small in
    let asks = subst (λ (x : ℤ). Asks x (told c.args.world.now) (told c.ask_clock.new.world) (Ok c.in_ok-stamp.stamp)) o c.in_ok-stamp.ensures.asks in
    makes_done name size access (told c.args.world.now) (told c.ask_clock.new.world) (told c.make.new.world) c.args.unit.now a c.args.label
    c.in_ok-stamp.stamp c.args.offset c.in_ok-make.field-0 tt asks c.in_ok-make.ensures.formats

pub returns-in_err-stamp-clause-cause : goal.returns-in_err-stamp-clause-cause
returns-in_err-stamp-clause-cause g c = λ n. let x = c.in_err-stamp.ensures.cause n in cause_fails _ _ _ c.in_err-stamp.field-0.0 c.from_residual.result (later_same _) c.from_residual.ensures.1 x.later x.failed

pub returns-in_err-make-clause-cause : goal.returns-in_err-make-clause-cause
returns-in_err-make-clause-cause g c = λ n. let p = c.in_err-make.ensures in cause_fails _ _ _ (fault_of c.in_err-make.field-0.0) c.from_residual-in_err-make.result (c.in_ok-stamp.ensures.cause n).later c.from_residual-in_err-make.ensures.1 (units_later _ _ _ _ n p.changes) (units_failed _ _ c.in_err-make.field-0.0 n p.changes (made_devices c.in_err-make.field-0.0 p.fault))

pub returns-clause-cause : goal.returns-clause-cause
returns-clause-cause g c = λ n. cause_done _ _ _ (later_then _ _ _ (c.in_ok-stamp.ensures.cause n).later (units_later _ _ _ _ n c.in_ok-make.ensures.changes))
