use Rattle.std.proofs.Common.{◌≤◌, ◌++◌, List, [], ℕ, codes, length, subst, arith}
use Rattle.std.specs.Prelude.{IfSome, Option}
use Rattle.std.proofs.lemmas.List.{length-map}
use Rattle.cms_model.specs.declared.file.FileData.{FileData}
use Rattle.cms_text.specs.Texts.{coded}
use Rattle.cms_files.specs.Gathered.{AreData, record_in}
use Rattle.cms_files.proofs.Records.{are_file}
use Rattle.cms_listfile.specs.Listfile.{procedure_lines, records_in}
use Rattle.cms_listfile.specs.Told.{lines_told}
use Rattle.cms_listfile.proofs.procedure.more_lines.Goals as goal

pub unwrap-requires : goal.unwrap-requires
unwrap-requires c =
    let info = c.args.info.now in
    let lines = lines_told c.args.last c.args.table.now c.args.found.now in
    let records = records_in info.format info.length (procedure_lines lines) in
    let gathered = c.in_ok-gather_files.ensures info.format info.length [] c.new-records.ensures in
    let behind = length-map lines (λ (line : List ℕ). coded (codes "&1 &2 ") ++ line) in
    let many = length-map (procedure_lines lines) (record_in info.format info.length) in
    let some : 1 ≤ length records = omega (arith, c.requires.some, behind, many) in
    (c.data.ensures.some info.format info.length records gathered).1
    (are_file info.format info.length records _ gathered some (λ fixed. (c.requires.sound.some, c.requires.sound.short)))

pub returns : goal.returns
returns c =
    let info = c.args.info.now in
    let records = records_in info.format info.length (procedure_lines (lines_told c.args.last c.args.table.now c.args.found.now)) in
    subst (λ (o : Option FileData). IfSome o (AreData info.format info.length 1 c.args.stamp.now records)) c.unwrap.ensures
    (c.data.ensures.«data» info.format info.length records (c.in_ok-gather_files.ensures info.format info.length [] c.new-records.ensures))
