use Rattle.std.proofs.lemmas.Result.{err_from_is_err_and}
use Rattle.cms_access.specs.Query.{header}
use Rattle.cms_access.specs.Shown.{lines_from, seat_lines}
use Rattle.cms_access.specs.declared.shown.Shown.TheVariants.{Disk}
use Rattle.cms_access.proofs.Queries.{first_stops, lines_done, lines_stop}
use Rattle.cms_access.proofs.query.tell_disks.Goals as goal

pub returns-in_err-say-clause-does : goal.returns-in_err-say-clause-does
returns-in_err-say-clause-does g c =
    let p = err_from_is_err_and c.from_residual.result c.from_residual.ensures.1 in
    let text = c.header.ensures in
    rw (p.1, p.2) (first_stops _ _ header (lines_from (λ n. seat_lines Disk c.args.table.now n) 0 26) _ (rw text at c.in_err-say.ensures))

pub returns-in_err-type_disks-clause-does : goal.returns-in_err-type_disks-clause-does
returns-in_err-type_disks-clause-does g c =
    let p = err_from_is_err_and c.from_residual-in_err-type_disks.result c.from_residual-in_err-type_disks.ensures.1 in
    let text = c.header.ensures in
    rw (p.1, p.2) (lines_stop _ _ _ header (lines_from (λ n. seat_lines Disk c.args.table.now n) 0 26) c.in_ok-say.field-0 _ (rw text at c.in_ok-say.ensures) c.in_err-type_disks.ensures)

pub returns-clause-does : goal.returns-clause-does
returns-clause-does g c =
    let text = c.header.ensures in
    lines_done _ _ _ header (lines_from (λ n. seat_lines Disk c.args.table.now n) 0 26) c.in_ok-say.field-0 c.in_ok-type_disks.field-0 _ (rw text at c.in_ok-say.ensures) c.in_ok-type_disks.ensures
