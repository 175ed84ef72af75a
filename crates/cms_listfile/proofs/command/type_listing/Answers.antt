use Rattle.std.proofs.Common.{[]}
use Rattle.std.proofs.lemmas.Result.{err_from_is_err_and}
use Rattle.cms_listfile.specs.Listfile.{with_header}
use Rattle.cms_listfile.specs.Told.{lines_told}
use Rattle.cms_listfile.proofs.Delivered.{both_typed, front_stops, header_before, lines_stop}
use Rattle.cms_listfile.proofs.command.type_listing.Goals as goal

pub returns-in_err-type_header-clause-does : goal.returns-in_err-type_header-clause-does
returns-in_err-type_header-clause-does g c =
    let p = err_from_is_err_and c.from_residual.result c.from_residual.ensures.1 in
    let style = c.args.style.now in
    let lines = lines_told style.columns c.args.table.now c.args.found.now in
    let whole = header_before style lines in
    rw (p.1, p.2, ← whole) (front_stops _ _ (with_header style []) lines _ c.in_err-type_header.ensures)

pub returns-in_err-type_files-clause-does : goal.returns-in_err-type_files-clause-does
returns-in_err-type_files-clause-does g c =
    let p = err_from_is_err_and c.from_residual-in_err-type_files.result c.from_residual-in_err-type_files.ensures.1 in
    let style = c.args.style.now in
    let lines = lines_told style.columns c.args.table.now c.args.found.now in
    let whole = header_before style lines in
    rw (p.1, p.2, ← whole) (lines_stop _ _ _ (with_header style []) lines c.in_ok-type_header.field-0 _ c.in_ok-type_header.ensures c.in_err-type_files.ensures)

pub returns-clause-does : goal.returns-clause-does
returns-clause-does g c =
    let style = c.args.style.now in
    let lines = lines_told style.columns c.args.table.now c.args.found.now in
    let whole = header_before style lines in
    rw (← whole) (both_typed _ _ _ (with_header style []) lines c.in_ok-type_header.field-0 c.in_ok-type_files.field-0 _ c.in_ok-type_header.ensures c.in_ok-type_files.ensures)
