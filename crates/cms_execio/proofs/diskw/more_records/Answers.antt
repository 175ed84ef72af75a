use Rattle.std.proofs.Common.{◌≤◌, length, subst, arith}
use Rattle.std.proofs.lemmas.List.{length-map}
use Rattle.std.specs.Prelude.{IfSome, Option}
use Rattle.cms_model.specs.declared.file.FileData.{FileData}
use Rattle.cms_files.specs.Gathered.{AreData, IsGathered}
use Rattle.cms_files.proofs.Records.{are_file}
use Rattle.cms_execio.specs.Records.{record_of, records_of}
use Rattle.cms_execio.proofs.diskw.more_records.Goals as goal

pub unwrap-requires : goal.unwrap-requires
unwrap-requires c =
    let format = c.args.info.now.format in
    let size = c.args.info.now.length in
    let lines = c.args.lines.now in
    let records = records_of format size lines in
    let same = c.as_slice.ensures in
    let gathered : IsGathered format size records c.in_ok-records.records = rw same at c.in_ok-records.ensures in
    let many = length-map lines (record_of format size) in
    let some : 1 ≤ length records = omega (arith, many, c.requires.some) in
    (c.data.ensures.some format size records gathered).1 (are_file format size records c.in_ok-records.records gathered some (λ fixed. (c.requires.sound.some, c.requires.sound.short)))

pub returns : goal.returns
returns c =
    let format = c.args.info.now.format in
    let size = c.args.info.now.length in
    let records = records_of format size c.args.lines.now in
    let same = c.as_slice.ensures in
    subst (λ (o : Option FileData). IfSome o (AreData format size 1 c.args.stamp.now records)) c.unwrap.ensures
    (c.data.ensures.«data» format size records (rw same at c.in_ok-records.ensures))
