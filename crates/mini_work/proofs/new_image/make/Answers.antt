use Rattle.mini_work.specs.Causes.{counts}
use Rattle.mini_work.proofs.Caused.{cause_then, end_done, end_fails, end_refuse, end_then, later_same, later_then, end_err}
use Rattle.std.proofs.Common.{Err, FitsSigned, Ok, refl, rules, subst, w32, ℤ}
use Rattle.std.proofs.lemmas.Int.{to_z-of_z}
use Rattle.std.proofs.lemmas.Result.{err_from_is_err_and}
use Rattle.cms_journal.specs.declared.event.Access.TheVariants.{New}
use Rattle.mini_work.specs.NewImages.{Makes, first_state}
use Rattle.mini_work.proofs.LoneUnit.{unwritten_new}
use Rattle.mini_work.proofs.Made.{making_cut, making_done, making_err}
use Rattle.mini_work.proofs.new_image.make.Goals as goal

pub returns-in_err-open_file-clause-goes : goal.returns-in_err-open_file-clause-goes
returns-in_err-open_file-clause-goes g c = λ is.
    let p = err_from_is_err_and c.from_residual.result c.from_residual.ensures.1 in
    making_err c.args.image.now c.args.size c.args.blocks c.args.label c.args.offset _ p.0 _ p.1 (unwritten_new (g.W.World.told c.args.world.now) is)

pub returns-in_err-unit-clause-goes : goal.returns-in_err-unit-clause-goes
returns-in_err-unit-clause-goes g c = λ is.
    let p = err_from_is_err_and c.from_residual-in_err-unit.result c.from_residual-in_err-unit.ensures.1 in
    making_err c.args.image.now c.args.size c.args.blocks c.args.label c.args.offset _ p.0 _ p.1 (c.in_err-unit.ensures.unwritten is)

pub returns-in-Ok-clause-goes : goal.returns-in-Ok-clause-goes
returns-in-Ok-clause-goes g c = λ is.
    let told = g.W.World.told in
    let name = c.args.image.now in
    let unit = c.in_ok-unit.unit in
    let a = c.in_ok-unit.ensures.attaches is in
    let small : FitsSigned w32 c.args.offset = search rules in
    let o = to_z-of_z w32 c.args.offset small in
    let makes = subst (λ (x : ℤ). Makes unit (first_state a.alone.unit) c.args.label x (told c.attach.new.world) (told c.make_volume.new.world) (Ok tt)) o
    (c.in-Ok.ensures.goes name c.args.size (New c.args.blocks) a) in
    making_done name c.args.size c.args.blocks c.args.label c.args.offset (told c.attach.new.world) (told c.make_volume.new.world) unit tt a makes

pub returns-in_err-refuse-in-Err-clause-goes : goal.returns-in_err-refuse-in-Err-clause-goes
returns-in_err-refuse-in-Err-clause-goes g c = λ is.
    let p = err_from_is_err_and c.from_residual-in_err-refuse-in-Err.result c.from_residual-in_err-refuse-in-Err.ensures.1 in
    let told = g.W.World.told in
    let name = c.args.image.now in
    let unit = c.in_ok-unit.unit in
    let a = c.in_ok-unit.ensures.attaches is in
    let small : FitsSigned w32 c.args.offset = search rules in
    let o = to_z-of_z w32 c.args.offset small in
    let makes = subst (λ (x : ℤ). Makes unit (first_state a.alone.unit) c.args.label x (told c.attach.new.world) (told c.make_volume.new.world) (Err c.in-Err.fault)) o
    (c.in-Err.ensures.goes name c.args.size (New c.args.blocks) a) in
    making_cut name c.args.size c.args.blocks c.args.label c.args.offset (told c.attach.new.world) (told c.make_volume.new.world) unit
    c.in-Err.fault p.0 _ p.1 a makes

pub returns-in_ok-refuse-in-Err-clause-goes : goal.returns-in_ok-refuse-in-Err-clause-goes
returns-in_ok-refuse-in-Err-clause-goes g c = λ is.
    let told = g.W.World.told in
    let name = c.args.image.now in
    let unit = c.in_ok-unit.unit in
    let a = c.in_ok-unit.ensures.attaches is in
    let small : FitsSigned w32 c.args.offset = search rules in
    let o = to_z-of_z w32 c.args.offset small in
    let makes = subst (λ (x : ℤ). Makes unit (first_state a.alone.unit) c.args.label x (told c.attach.new.world) (told c.make_volume.new.world) (Err c.in-Err.fault)) o
    (c.in-Err.ensures.goes name c.args.size (New c.args.blocks) a) in
    making_cut name c.args.size c.args.blocks c.args.label c.args.offset (told c.attach.new.world) (told c.make_volume.new.world) unit
    c.in-Err.fault c.in-Err.fault _ refl a makes

pub returns-in_err-open_file-clause-cause : goal.returns-in_err-open_file-clause-cause
returns-in_err-open_file-clause-cause g c = let at = counts g.W.World g.H.Host in let x = c.in_err-open_file.ensures.cause (at c.args.world.now c.args.host.now) in end_fails _ _ _ c.in_err-open_file.field-0.0 c.from_residual.result (later_same _) c.from_residual.ensures.1 x.later x.failed

pub returns-then-branch-clause-cause : goal.returns-then-branch-clause-cause
returns-then-branch-clause-cause g c = let at = counts g.W.World g.H.Host in end_then _ _ _ _ (c.in_ok-open_file.ensures.cause (at c.args.world.now c.args.host.now)).later (end_refuse _ _ c.refuse.result (c.refuse.ensures.cause (at c.args.world.now c.open_file.new.host)) c.refuse.ensures.status)

pub returns-in_err-unit-clause-cause : goal.returns-in_err-unit-clause-cause
returns-in_err-unit-clause-cause g c = let at = counts g.W.World g.H.Host in let x = c.in_err-unit.ensures.cause (g.H.Host.faults c.open_file.new.host) in end_fails _ _ _ c.in_err-unit.field-0.0 c.from_residual-in_err-unit.result (c.in_ok-open_file.ensures.cause (at c.args.world.now c.args.host.now)).later c.from_residual-in_err-unit.ensures.1 x.later x.failed

pub returns-then-unit-lt-LEAST_BLOCKS-clause-cause : goal.returns-then-unit-lt-LEAST_BLOCKS-clause-cause
returns-then-unit-lt-LEAST_BLOCKS-clause-cause g c = let at = counts g.W.World g.H.Host in end_then _ _ _ _ (later_then _ _ _ (c.in_ok-open_file.ensures.cause (at c.args.world.now c.args.host.now)).later (c.in_ok-unit.ensures.cause (g.H.Host.faults c.open_file.new.host)).later) (end_refuse _ _ c.refuse-then-unit-lt-LEAST_BLOCKS.result (c.refuse-then-unit-lt-LEAST_BLOCKS.ensures.cause (at c.attach.new.world c.open_file.new.host)) c.refuse-then-unit-lt-LEAST_BLOCKS.ensures.status)

pub returns-in-Ok-clause-cause : goal.returns-in-Ok-clause-cause
returns-in-Ok-clause-cause g c = let at = counts g.W.World g.H.Host in end_done _ _ (later_then _ _ _ (later_then _ _ _ (c.in_ok-open_file.ensures.cause (at c.args.world.now c.args.host.now)).later (c.in_ok-unit.ensures.cause (g.H.Host.faults c.open_file.new.host)).later) (c.in-Ok.ensures.cause (g.H.Host.faults c.open_file.new.host)).later)

pub returns-in_ok-refuse-in-Err-clause-cause : goal.returns-in_ok-refuse-in-Err-clause-cause
returns-in_ok-refuse-in-Err-clause-cause g c = let at = counts g.W.World g.H.Host in let x = cause_then _ _ _ (Err c.in-Err.fault) (later_then _ _ _ (c.in_ok-open_file.ensures.cause (at c.args.world.now c.args.host.now)).later (c.in_ok-unit.ensures.cause (g.H.Host.faults c.open_file.new.host)).later) (c.in-Err.ensures.cause (g.H.Host.faults c.open_file.new.host)) in end_err _ _ _ c.in-Err.fault x.later x.failed (c.in_ok-refuse-in-Err.ensures.cause (at c.make_volume.new.world c.open_file.new.host)).later

pub returns-in_err-refuse-in-Err-clause-cause : goal.returns-in_err-refuse-in-Err-clause-cause
returns-in_err-refuse-in-Err-clause-cause g c = let at = counts g.W.World g.H.Host in let x = c.in_err-refuse-in-Err.ensures.cause (at c.make_volume.new.world c.open_file.new.host) in end_fails _ _ _ c.in_err-refuse-in-Err.field-0.0 c.from_residual-in_err-refuse-in-Err.result (later_then _ _ _ (later_then _ _ _ (c.in_ok-open_file.ensures.cause (at c.args.world.now c.args.host.now)).later (c.in_ok-unit.ensures.cause (g.H.Host.faults c.open_file.new.host)).later) (c.in-Err.ensures.cause (g.H.Host.faults c.open_file.new.host)).later) c.from_residual-in_err-refuse-in-Err.ensures.1 x.later x.failed
