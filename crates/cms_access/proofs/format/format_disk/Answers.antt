use Rattle.std.proofs.Common.{◌∙◌, sym}
use Rattle.cms_access.proofs.Formats.{format_doubted, format_makes, format_missing, format_relabels}
use Rattle.cms_access.proofs.format.format_disk.Goals as goal

pub returns-in_default-clause-acts : goal.returns-in_default-clause-acts
returns-in_default-clause-acts g c =
    format_missing _ _ c.args.state.now c.args.asked c.refuse_no_device.result (sym c.unit.ensures.unit ∙ sym c.copied.ensures ∙ c.in_default.is) c.refuse_no_device.ensures.does
    c.refuse_no_device.ensures.went

pub returns-then-in_doubt-clause-acts : goal.returns-then-in_doubt-clause-acts
returns-then-in_doubt-clause-acts g c =
    format_doubted _ _ c.args.state.now c.args.asked c.in-Some.unit c.refuse_doubt.result (sym c.unit.ensures.unit ∙ sym c.copied.ensures ∙ c.in-Some.is)
    (sym c.in_doubt.ensures ∙ c.if-in_doubt.true) c.refuse_doubt.ensures.does c.refuse_doubt.ensures.went

pub returns-then-asked-clause-acts : goal.returns-then-asked-clause-acts
returns-then-asked-clause-acts g c =
    format_relabels _ _ c.args.asked c.in-Some.unit c.relabel.result _ (sym c.unit.ensures.unit ∙ sym c.copied.ensures ∙ c.in-Some.is) (sym c.in_doubt.ensures ∙ c.if-in_doubt.false)
    c.if-asked.true c.relabel.ensures.acts

pub returns-else-asked-clause-acts : goal.returns-else-asked-clause-acts
returns-else-asked-clause-acts g c =
    format_makes _ _ c.args.asked c.in-Some.unit c.format_unit.result _ (sym c.unit.ensures.unit ∙ sym c.copied.ensures ∙ c.in-Some.is) (sym c.in_doubt.ensures ∙ c.if-in_doubt.false)
    c.if-asked.false c.format_unit.ensures.acts
