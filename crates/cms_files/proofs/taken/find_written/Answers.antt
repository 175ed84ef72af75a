use Rattle.std.proofs.Common.{◌∙◌, sym}
use Rattle.std.proofs.lemmas.Result.{err_from_is_err_and}
use Rattle.cms_search.specs.Searches.{item_at}
use Rattle.cms_search.specs.Tables.{letters_of, writing}
use Rattle.cms_files.proofs.TakenFiles.{file_gone, file_refused, file_there, may_be, never_empty}
use Rattle.cms_files.proofs.taken.find_written.Goals as goal

pub returns-in_err-find_write-clause-refused : goal.returns-in_err-find_write-clause-refused
returns-in_err-find_write-clause-refused c =
    let p = err_from_is_err_and c.from_residual.result c.from_residual.ensures.1 in
    rw (p.1, p.2) (file_refused c.args.table.now c.args.letter c.args.name.now c.in_err-find_write.field-0.0 (sym c.in_err-find_write.ensures))

pub returns-in-Some-clause-found : goal.returns-in-Some-clause-found
returns-in-Some-clause-found c =
    let t = c.args.table.now in
    let may = may_be c.in_ok-find_write.field-0 (writing (item_at (letters_of t) c.args.letter) c.args.letter) c.in_ok-find_write.ensures in
    file_there t c.args.letter c.args.name.now c.in-Some.disk.now may c.in-Some.ensures (c.has.ensures.0 c.if-has.true)

pub returns-in-Some-2-clause-refused : goal.returns-in-Some-2-clause-refused
returns-in-Some-2-clause-refused c =
    let t = c.args.table.now in
    let may = may_be c.in_ok-find_write.field-0 (writing (item_at (letters_of t) c.args.letter) c.args.letter) c.in_ok-find_write.ensures in
    file_gone t c.args.letter c.args.name.now c.in-Some.disk.now may c.in-Some.ensures (λ some. absurd (cc (sym c.if-has.false ∙ c.has.ensures.1 some)))

pub returns-in-None-clause-refused : goal.returns-in-None-clause-refused
returns-in-None-clause-refused c =
    let t = c.args.table.now in
    let may = may_be c.in_ok-find_write.field-0 (writing (item_at (letters_of t) c.args.letter) c.args.letter) c.in_ok-find_write.ensures in
    absurd (never_empty t c.args.letter may c.in-None.ensures)
