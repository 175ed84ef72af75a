use Rattle.std.proofs.Common.{rules, ◌≡◌, Ok}
use Rattle.cms_fields.specs.Labels.{label_of}
use Rattle.cms_model.proofs.OpenedVolumes.{label_reads}
use Rattle.cms_edf.proofs.entries.label_of.Goals as goal

pub returns-in-Ok-clause-origin : goal.returns-in-Ok-clause-origin
returns-in-Ok-clause-origin c =
    let is : label_of c.args.bsize c.args.blocks c.args.bytes.now ≡ Ok c.in-Ok.label = search rules in
    (label_reads c.args.bsize c.args.blocks c.args.bytes.now c.in-Ok.label is).origin

pub returns-in-Ok-clause-within : goal.returns-in-Ok-clause-within
returns-in-Ok-clause-within c =
    let is : label_of c.args.bsize c.args.blocks c.args.bytes.now ≡ Ok c.in-Ok.label = search rules in
    let reads = label_reads c.args.bsize c.args.blocks c.args.bytes.now c.in-Ok.label is in
    (reads.low, reads.high)
