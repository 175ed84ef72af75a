use Rattle.mini_work.proofs.Caused.{end_fails, end_refused, end_then, later_same}
use Rattle.std.proofs.Common.{Option, subst}
use Rattle.std.specs.Prelude.{IfSome}
use Rattle.std.proofs.lemmas.Result.{err_from_is_err_and}
use Rattle.cms_journal.specs.declared.event.Access.TheVariants.{ReadOnly}
use Rattle.cms_disk.specs.Disks.{Accessed}
use Rattle.mini_work.specs.Commands.{IsListing}
use Rattle.mini_work.specs.FoundDisks.{IsFound}
use Rattle.mini_work.proofs.Worked.{shut_err, shut_none, worked_open}
use Rattle.mini_work.proofs.listing.list.Goals as goal

pub returns-in_err-disk-clause-goes : goal.returns-in_err-disk-clause-goes
returns-in_err-disk-clause-goes g c = λ is.
    let p = err_from_is_err_and c.from_residual.result c.from_residual.ensures.1 in
    shut_err c.args.image.now.name ReadOnly (IsListing c.args.long c.args.names.now) _ _ p.0 p.1 (c.in_err-disk.ensures.unwritten is)

pub returns-in-Some-clause-goes : goal.returns-in-Some-clause-goes
returns-in-Some-clause-goes g c = λ is.
    let told = g.W.World.told in
    let name = c.args.image.now.name in
    let found = subst (λ (o : Option Accessed). IfSome o (IsFound name ReadOnly (told c.args.world.now) (told c.open_disk.new.world))) c.in-Some.is
    c.in_ok-disk.ensures.found in
    worked_open name ReadOnly (IsListing c.args.long c.args.names.now) (told c.open_disk.new.world) (told c.list_fitting-done.new.world)
    c.in-Some.disk c.in-Some.disk c.list_fitting-done.result (found.opens is) c.list_fitting-done.ensures.goes

pub returns-in-None-clause-goes : goal.returns-in-None-clause-goes
returns-in-None-clause-goes g c = λ is.
    shut_none c.args.image.now.name ReadOnly (IsListing c.args.long c.args.names.now) _ (c.in_ok-disk.ensures.unwritten is)

pub returns-in_err-disk-clause-cause : goal.returns-in_err-disk-clause-cause
returns-in_err-disk-clause-cause g c = let x = c.in_err-disk.ensures.cause in end_fails _ _ _ c.in_err-disk.field-0.0 c.from_residual.result (later_same _) c.from_residual.ensures.1 x.later x.failed

pub returns-in-Some-clause-cause : goal.returns-in-Some-clause-cause
returns-in-Some-clause-cause g c = end_then _ _ _ _ (c.in_ok-disk.ensures.cause).later (c.list_fitting-done.ensures.cause)

pub returns-in-None-clause-cause : goal.returns-in-None-clause-cause
returns-in-None-clause-cause g c = end_refused _ _ (c.in_ok-disk.ensures.cause).later
