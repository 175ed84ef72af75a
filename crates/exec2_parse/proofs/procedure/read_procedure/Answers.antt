use Rattle.std.proofs.Common.{◌∙◌, ◌≤◌, ℕ, Err, Ok, ap, inr, subst, sym}
use Rattle.cms_records.specs.Stored.{records_in}
use Rattle.exec2_parse.specs.Procedures.{lines_of}
use Rattle.exec2_parse.proofs.Procedures.{are_lines, length-records_in, said_of}
use Rattle.exec2_parse.proofs.procedure.read_procedure.Goals as goal

pub procedure_in-requires-clause-short : goal.procedure_in-requires-clause-short
procedure_in-requires-clause-short c =
    let records = records_in c.args.file.now in
    (are_lines records (lines_of records) c.in-None.ensures).0

pub procedure_in-requires-clause-few : goal.procedure_in-requires-clause-few
procedure_in-requires-clause-few c =
    let records = records_in c.args.file.now in
    subst (λ (n : ℕ). n ≤ 4096) (length-records_in c.args.file.now) (are_lines records (lines_of records) c.in-None.ensures).1

pub returns-in-Some-clause-fault : goal.returns-in-Some-clause-fault
returns-in-Some-clause-fault c = inr (λ records stands. said_of c.args.file.now records (Err c.in-Some.fault) stands c.in-Some.ensures)

pub returns-in_ok-procedure_in-in-None-clause-lines : goal.returns-in_ok-procedure_in-in-None-clause-lines
returns-in_ok-procedure_in-in-None-clause-lines c = λ records stands.
    said_of c.args.file.now records (Ok c.in_ok-procedure_in-in-None.field-0) stands (c.in-None.ensures ∙ ap Ok (sym c.in_ok-procedure_in-in-None.ensures))
