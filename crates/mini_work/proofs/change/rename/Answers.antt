use Rattle.mini_work.proofs.Caused.{end_fails, end_refused, end_then, later_same}
use Rattle.std.proofs.Common.{FitsSigned, Option, rules, subst, w32, ℤ}
use Rattle.std.proofs.lemmas.Int.{to_z-of_z}
use Rattle.std.specs.Prelude.{IfSome}
use Rattle.std.proofs.lemmas.Result.{err_from_is_err_and}
use Rattle.cms_journal.specs.declared.event.Access.TheVariants.{ReadWrite}
use Rattle.cms_disk.specs.Disks.{Accessed}
use Rattle.mini_work.specs.CommandActs.{Continues}
use Rattle.mini_work.specs.Commands.{IsRenaming}
use Rattle.mini_work.specs.FoundDisks.{IsFound}
use Rattle.mini_work.proofs.Worked.{shut_err, shut_none, worked_open}
use Rattle.mini_work.proofs.change.rename.Goals as goal

pub rename_file-done-requires-clause-may : goal.rename_file-done-requires-clause-may
rename_file-done-requires-clause-may g c =
    (subst (λ (o : Option Accessed). IfSome o (IsFound c.args.image.now.name ReadWrite (g.W.World.told c.args.world.now) (g.W.World.told c.open_disk.new.world))) c.in-Some.is c.in_ok-disk.ensures.found).may

pub returns-in_err-disk-clause-goes : goal.returns-in_err-disk-clause-goes
returns-in_err-disk-clause-goes g c = λ is.
    let p = err_from_is_err_and c.from_residual.result c.from_residual.ensures.1 in
    shut_err c.args.image.now.name ReadWrite (IsRenaming c.args.says c.args.offset c.args.from.now c.args.to.now) _ _ p.0 p.1 (c.in_err-disk.ensures.unwritten is)

pub returns-in-Some-clause-goes : goal.returns-in-Some-clause-goes
returns-in-Some-clause-goes g c = λ is.
    let told = g.W.World.told in
    let name = c.args.image.now.name in
    let found = subst (λ (o : Option Accessed). IfSome o (IsFound name ReadWrite (told c.args.world.now) (told c.open_disk.new.world))) c.in-Some.is
    c.in_ok-disk.ensures.found in
    let small : FitsSigned w32 c.args.offset = search rules in
    let o = to_z-of_z w32 c.args.offset small in
    let goes = subst (λ (x : ℤ). Continues (IsRenaming c.args.says x c.args.from.now c.args.to.now) (told c.open_disk.new.world) c.in-Some.disk (told c.rename_file-done.new.world)
    c.rename_file-done.new.disk c.rename_file-done.result) o c.rename_file-done.ensures.goes in
    worked_open name ReadWrite (IsRenaming c.args.says c.args.offset c.args.from.now c.args.to.now) (told c.open_disk.new.world) (told c.rename_file-done.new.world)
    c.in-Some.disk c.rename_file-done.new.disk c.rename_file-done.result (found.opens is) goes

pub returns-in-None-clause-goes : goal.returns-in-None-clause-goes
returns-in-None-clause-goes g c = λ is.
    shut_none c.args.image.now.name ReadWrite (IsRenaming c.args.says c.args.offset c.args.from.now c.args.to.now) _ (c.in_ok-disk.ensures.unwritten is)

pub returns-in_err-disk-clause-cause : goal.returns-in_err-disk-clause-cause
returns-in_err-disk-clause-cause g c = let x = c.in_err-disk.ensures.cause in end_fails _ _ _ c.in_err-disk.field-0.0 c.from_residual.result (later_same _) c.from_residual.ensures.1 x.later x.failed

pub returns-in-Some-clause-cause : goal.returns-in-Some-clause-cause
returns-in-Some-clause-cause g c = end_then _ _ _ _ (c.in_ok-disk.ensures.cause).later (c.rename_file-done.ensures.cause (subst (λ (o : Option Accessed). IfSome o (IsFound c.args.image.now.name ReadWrite (g.W.World.told c.args.world.now) (g.W.World.told c.open_disk.new.world))) c.in-Some.is c.in_ok-disk.ensures.found).writable)

pub returns-in-None-clause-cause : goal.returns-in-None-clause-cause
returns-in-None-clause-cause g c = end_refused _ _ (c.in_ok-disk.ensures.cause).later
