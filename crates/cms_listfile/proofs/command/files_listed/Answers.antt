use Rattle.std.proofs.Common.{⊎_elim, inl, inr, sym, ◌∙◌}
use Rattle.std.proofs.lemmas.Result.{err_from_is_err_and}
use Rattle.cms_search.specs.Searches.{fitting}
use Rattle.cms_listfile.proofs.FilesFound.{not_searched}
use Rattle.cms_listfile.proofs.SomeLines.{lines_some}
use Rattle.cms_listfile.proofs.command.files_listed.Goals as goal

pub returns-in_err-found-clause-refused : goal.returns-in_err-found-clause-refused
returns-in_err-found-clause-refused c =
    let p = err_from_is_err_and c.from_residual.result c.from_residual.ensures.1 in
    rw (p.1, p.2) (⊎_elim (λ m. inl m) (λ e. inr (not_searched c.args.table.now c.args.line.now _ e)) c.in_err-found.ensures.refused)

pub returns-clause-some : goal.returns-clause-some
returns-clause-some c =
    let line = c.args.line.now in
    lines_some c.args.table.now line.files.mode (fitting line.files.file line.files.kind) c.in_ok-found.found line.style.columns c.in_ok-found.ensures.found
    (λ none. absurd (cc (sym c.if-is_empty.false ∙ c.is_empty.ensures.1 none)))
