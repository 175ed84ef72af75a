use Rattle.std.proofs.lemmas.Result.{err_from_is_err_and}
use Rattle.cms_access.specs.Query.{header}
use Rattle.cms_access.specs.Shown.{seat_lines}
use Rattle.cms_access.specs.declared.shown.Shown.TheVariants.{Disk}
use Rattle.cms_access.proofs.Queries.{first_stops, lines_done, lines_stop}
use Rattle.cms_access.proofs.query.tell_disk.Goals as goal

pub returns-in_err-say-clause-does : goal.returns-in_err-say-clause-does
returns-in_err-say-clause-does g c =
    let p = err_from_is_err_and c.from_residual.result c.from_residual.ensures.1 in
    let text = c.header.ensures in
    rw (p.1, p.2) (first_stops _ _ header (seat_lines Disk c.args.table.now c.args.letter) _ (rw text at c.in_err-say.ensures))

pub returns-in_err-type_disk-clause-does : goal.returns-in_err-type_disk-clause-does
returns-in_err-type_disk-clause-does g c =
    let p = err_from_is_err_and c.from_residual-in_err-type_disk.result c.from_residual-in_err-type_disk.ensures.1 in
    let text = c.header.ensures in
    rw (p.1, p.2) (lines_stop _ _ _ header (seat_lines Disk c.args.table.now c.args.letter) c.in_ok-say.field-0 _ (rw text at c.in_ok-say.ensures) c.in_err-type_disk.ensures)

pub returns-clause-does : goal.returns-clause-does
returns-clause-does g c =
    let text = c.header.ensures in
    lines_done _ _ _ header (seat_lines Disk c.args.table.now c.args.letter) c.in_ok-say.field-0 c.in_ok-type_disk.field-0 _ (rw text at c.in_ok-say.ensures) c.in_ok-type_disk.ensures
