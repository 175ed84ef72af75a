use Rattle.std.proofs.Common.{◌∙◌, ap, length}
use Rattle.cms_records.proofs.StoredRecords.{length-records_at, records_are}
use Rattle.cms_records.proofs.stored.Records.of.Goals as goal

pub returns-clause-stands : goal.returns-clause-stands
returns-clause-stands c = λ records stands. c.view_of.ensures.records ∙ records_are c.args.file.now records stands

pub returns-clause-count : goal.returns-clause-count
returns-clause-count c =
    let f = c.args.file.now in
    ap length c.view_of.ensures.records ∙ length-records_at f.format f.length f.count f.bytes
