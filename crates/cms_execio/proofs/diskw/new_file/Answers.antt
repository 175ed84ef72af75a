use Rattle.std.proofs.Common.{◌≤◌, length, subst, arith}
use Rattle.std.proofs.lemmas.List.{length-map}
use Rattle.std.specs.Prelude.{IfSome, Option}
use Rattle.cms_names.specs.declared.name.Format.TheVariants.{V}
use Rattle.cms_model.specs.declared.file.FileData.{FileData}
use Rattle.cms_files.specs.Gathered.{AreData, IsGathered}
use Rattle.cms_files.proofs.Records.{are_file}
use Rattle.cms_execio.specs.Records.{record_of, records_of}
use Rattle.cms_execio.proofs.diskw.new_file.Goals as goal

pub unwrap-requires : goal.unwrap-requires
unwrap-requires c =
    let lines = c.args.lines.now in
    let records = records_of V 0 lines in
    let same = c.as_slice.ensures in
    let gathered : IsGathered V 0 records c.in_ok-records.records = rw same at c.in_ok-records.ensures in
    let many = length-map lines (record_of V 0) in
    let some : 1 ≤ length records = omega (arith, many, c.requires.some) in
    (c.data.ensures.some V 0 records gathered).1 (are_file V 0 records c.in_ok-records.records gathered some (λ e. absurd (cc e)))

pub returns : goal.returns
returns c =
    let records = records_of V 0 c.args.lines.now in
    let same = c.as_slice.ensures in
    subst (λ (o : Option FileData). IfSome o (AreData V 0 1 c.args.stamp.now records)) c.unwrap.ensures (c.data.ensures.«data» V 0 records (rw same at c.in_ok-records.ensures))
