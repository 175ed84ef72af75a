use Rattle.std.proofs.Common.{◌∙◌, ap, take, rules}
use Rattle.cms_execio.specs.Records.{or_blank, records_of}
use Rattle.cms_execio.proofs.Gathers.{gathers_next}
use Rattle.cms_execio.proofs.record.gather_lines.Goals as goal

pub loop-line-preserved : goal.loop-line-preserved
loop-line-preserved c =
    gathers_next c.args.format c.args.size c.args.lines.now c.loop-line.line-index c.line-item.result c.or_blank.result.now _ (search rules) c.line-item.is
    (c.or_blank.ensures.text ∙ ap or_blank c.bytes.ensures.bytes)
    (c.in_ok-push.ensures c.args.format c.args.size (records_of c.args.format c.args.size (take c.loop-line.line-index c.args.lines.now)) c.loop-line.invariant)
