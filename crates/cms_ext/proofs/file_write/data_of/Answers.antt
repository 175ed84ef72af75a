use Rattle.std.proofs.Common.{map}
use Rattle.cms_files.specs.Gathered.{AreData, record_in}
use Rattle.cms_ext.proofs.Puts.{made_ok}
use Rattle.cms_ext.proofs.file_write.data_of.Goals as goal

pub returns : goal.returns
returns c =
    let format = c.args.form.format in
    let size = c.args.form.length in
    let records = map (record_in format size) c.args.records.now in
    made_ok c.data.result c.ok_or.result _ (AreData format size c.args.form.number c.args.stamp.now records) c.ok_or.ensures.value
    (c.data.ensures.«data» format size records c.in_ok-gathered.ensures)
