use Rattle.std.proofs.Common.{◌∙◌, inr, sym}
use Rattle.std.proofs.lemmas.Result.{err_from_is_err_and}
use Rattle.cms_search.specs.Searches.{item_at}
use Rattle.cms_search.specs.Tables.{letters_of, writing}
use Rattle.cms_files.proofs.TakenFiles.{files_found, files_refused, may_be, never_empty, no_files}
use Rattle.cms_files.proofs.taken.files_written.Goals as goal

pub returns-in_err-find_write-clause-refused : goal.returns-in_err-find_write-clause-refused
returns-in_err-find_write-clause-refused c =
    let p = err_from_is_err_and c.from_residual.result c.from_residual.ensures.1 in
    rw (p.1, p.2) (inr (files_refused c.args.table.now c.args.names.now c.args.mode.now c.in_err-find_write.field-0.0 (sym c.in_err-find_write.ensures)))

pub returns-in_default-clause-refused : goal.returns-in_default-clause-refused
returns-in_default-clause-refused c =
    let t = c.args.table.now in
    let n = c.args.mode.now.letter in
    let may = may_be c.in_ok-find_write.field-0 (writing (item_at (letters_of t) n) n) c.in_ok-find_write.ensures in
    let is = c.in_default.is in
    absurd (never_empty t n may (rw is at c.disk.ensures))

pub returns-then-is_empty-clause-refused : goal.returns-then-is_empty-clause-refused
returns-then-is_empty-clause-refused c =
    let t = c.args.table.now in
    let n = c.args.mode.now.letter in
    let may = may_be c.in_ok-find_write.field-0 (writing (item_at (letters_of t) n) n) c.in_ok-find_write.ensures in
    inr (no_files t c.args.names.now c.args.mode.now c.in-Some.disk.now c.in_ok-files.files may c.in-Some.ensures c.in_ok-files.ensures.taken (c.is_empty.ensures.0 c.if-is_empty.true))

pub returns-clause-found : goal.returns-clause-found
returns-clause-found c =
    let t = c.args.table.now in
    let n = c.args.mode.now.letter in
    let may = may_be c.in_ok-find_write.field-0 (writing (item_at (letters_of t) n) n) c.in_ok-find_write.ensures in
    files_found t c.args.names.now c.args.mode.now c.in-Some.disk.now c.in_ok-files.files may c.in-Some.ensures c.in_ok-files.ensures.taken
    (λ none. absurd (cc (sym c.if-is_empty.false ∙ c.is_empty.ensures.1 none)))
