use Rattle.std.proofs.Common.{◌∙◌, Ok, Err, ⊎_elim, inl, inr, sym}
use Rattle.std.proofs.lemmas.Result.{IfOk-from_err, err_from_is_err_and}
use Rattle.cms_copyfile.proofs.FilesFound.{AreParts, no_items, none_copied, not_searched, searched_shown, some_copied, some_items}
use Rattle.cms_copyfile.proofs.named_files.files_copied.Goals as goal

pub returns-in_err-found-clause-refused : goal.returns-in_err-found-clause-refused
returns-in_err-found-clause-refused c =
    let p = err_from_is_err_and c.from_residual.result c.from_residual.ensures.1 in
    let t = c.args.table.now in
    let line = c.args.line.now in
    let file = c.pattern_for-file.ensures.pattern in
    let kind = c.pattern_for-kind.ensures.pattern in
    let are : AreParts line = record { file = c.pattern_for-file.ensures.part; kind = c.pattern_for-kind.ensures.part } in
    rw (p.1, p.2)
    (⊎_elim (λ m. inl m) (λ e. inr (λ s shows. not_searched s line c.in_err-found.field-0.0 (searched_shown t line (Err c.in_err-found.field-0.0) are (rw (file, kind) at e) s shows)))
    c.in_err-found.ensures.refused)

pub returns-then-is_empty-clause-refused : goal.returns-then-is_empty-clause-refused
returns-then-is_empty-clause-refused c = inr (λ s shows.
    let t = c.args.table.now in
    let line = c.args.line.now in
    let file = c.pattern_for-file.ensures.pattern in
    let kind = c.pattern_for-kind.ensures.pattern in
    let whole = c.as_slice.ensures in
    let are : AreParts line = record { file = c.pattern_for-file.ensures.part; kind = c.pattern_for-kind.ensures.part } in
    none_copied t s line c.in_ok-found.found c.in_ok-named.named.items c.in_ok-check_output.field-0 shows (searched_shown t line (Ok c.in_ok-found.found) are (rw (file, kind) at c.in_ok-found.ensures.found) s shows)
    (c.in_ok-check_output.ensures s shows) (rw whole at c.in_ok-named.ensures) (no_items c.in_ok-named.named.items c.in_ok-named.named.len c.in_ok-named.named.ok.0 (sym c.is_empty.ensures ∙ c.if-is_empty.true)))

pub returns-clause-found : goal.returns-clause-found
returns-clause-found c = λ s shows.
    let t = c.args.table.now in
    let line = c.args.line.now in
    let file = c.pattern_for-file.ensures.pattern in
    let kind = c.pattern_for-kind.ensures.pattern in
    let whole = c.as_slice.ensures in
    let are : AreParts line = record { file = c.pattern_for-file.ensures.part; kind = c.pattern_for-kind.ensures.part } in
    some_copied t s line c.in_ok-found.found c.in_ok-named.named.items c.in_ok-check_output.field-0 shows (searched_shown t line (Ok c.in_ok-found.found) are (rw (file, kind) at c.in_ok-found.ensures.found) s shows)
    (c.in_ok-check_output.ensures s shows) (rw whole at c.in_ok-named.ensures) (some_items c.in_ok-named.named.items c.in_ok-named.named.len c.in_ok-named.named.ok.0 (sym c.is_empty.ensures ∙ c.if-is_empty.false))

pub returns-in_err-found-clause-found : goal.returns-in_err-found-clause-found
returns-in_err-found-clause-found c = IfOk-from_err c.from_residual.result _ c.from_residual.ensures.0

pub returns-in_err-check_output-clause-found : goal.returns-in_err-check_output-clause-found
returns-in_err-check_output-clause-found c = IfOk-from_err c.from_residual-in_err-check_output.result _ c.from_residual-in_err-check_output.ensures.0

pub returns-in_err-named-clause-found : goal.returns-in_err-named-clause-found
returns-in_err-named-clause-found c = IfOk-from_err c.from_residual-in_err-named.result _ c.from_residual-in_err-named.ensures.0
