use Rattle.std.proofs.Common.{◌++◌, ◌∷◌, [], codes, subst, arith}
use Rattle.std.specs.Prelude.{IfSome, Option}
use Rattle.cms_names.specs.declared.name.Format.TheVariants.{F}
use Rattle.cms_text.specs.Texts.{coded}
use Rattle.cms_model.specs.declared.file.FileData.{FileData}
use Rattle.cms_files.specs.Gathered.{AreData, record_in}
use Rattle.cms_files.proofs.Records.{are_file}
use Rattle.cms_listfile.specs.Listfile.{procedure_lines, records_in, written_length}
use Rattle.cms_listfile.specs.Told.{lines_told}
use Rattle.cms_listfile.proofs.Procedures.{procedure_made}
use Rattle.cms_listfile.proofs.procedure.new_procedure.Goals as goal

pub unwrap-requires : goal.unwrap-requires
unwrap-requires c =
    let records = (record_in F written_length c.coded.result ∷ []) ++ records_in F written_length (procedure_lines (lines_told c.args.last c.args.table.now c.args.found.now)) in
    let gathered = c.in_ok-gather_files.ensures F written_length _ (c.in_ok-push.ensures F written_length [] c.new-records.ensures) in
    (c.data.ensures.some F written_length records gathered).1 (are_file F written_length records _ gathered (omega arith) (λ fixed. (omega arith, omega arith)))

pub returns : goal.returns
returns c =
    let lines = lines_told c.args.last c.args.table.now c.args.found.now in
    let records = (record_in F written_length c.coded.result ∷ []) ++ records_in F written_length (procedure_lines lines) in
    procedure_made c.unwrap.result written_length 1 c.args.stamp.now c.coded.result (coded (codes "&TRACE OFF")) lines c.coded.ensures
    (subst (λ (o : Option FileData). IfSome o (AreData F written_length 1 c.args.stamp.now records)) c.unwrap.ensures
    (c.data.ensures.«data» F written_length records (c.in_ok-gather_files.ensures F written_length _ (c.in_ok-push.ensures F written_length [] c.new-records.ensures))))
