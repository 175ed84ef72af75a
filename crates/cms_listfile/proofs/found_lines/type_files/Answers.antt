use Rattle.std.proofs.lemmas.Option.{slice_get-get_or}
use Rattle.std.proofs.lemmas.Result.{err_from_is_err_and}
use Rattle.cms_listfile.specs.Told.{line_told}
use Rattle.cms_listfile.proofs.Lines.{items_done, items_off, items_on}
use Rattle.cms_listfile.proofs.found_lines.type_files.Goals as goal

pub returns-in_err-type_file : goal.returns-in_err-type_file
returns-in_err-type_file g c =
    let p = err_from_is_err_and c.from_residual.result c.from_residual.ensures.1 in
    rw (p.1, p.2)
    (items_off (λ f. line_told c.args.last c.args.table.now f) c.args.found.now _ _ _ c.loop-file.file-index _ _
    (slice_get-get_or c.args.found.now c.loop-file.file-index _ c.loop-file-test.true) c.loop-file.invariant c.in_err-type_file.ensures)

pub loop-file-preserved : goal.loop-file-preserved
loop-file-preserved g c =
    items_on (λ f. line_told c.args.last c.args.table.now f) c.args.found.now _ _ _ c.loop-file.file-index _ c.in_ok-type_file.field-0
    (slice_get-get_or c.args.found.now c.loop-file.file-index _ c.loop-file-test.true) c.loop-file.invariant c.in_ok-type_file.ensures

pub returns : goal.returns
returns g c = items_done (λ f. line_told c.args.last c.args.table.now f) c.args.found.now _ _ c.loop-file.file-index tt c.loop-file-test.false c.loop-file.invariant
