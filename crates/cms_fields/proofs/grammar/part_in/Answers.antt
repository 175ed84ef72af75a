use Rattle.std.proofs.Common.{sym, ◌∙◌}
use Rattle.cms_fields.proofs.Parts.{field_read}
use Rattle.cms_fields.proofs.grammar.part_in.Goals as goal

pub returns-clause-variant : goal.returns-clause-variant
returns-clause-variant c = rw c.ok.ensures.value (field_read c.args.field.now c.name_length-end.result c.read.result c.requires c.name_length-end.ensures c.read.ensures
    (sym c.is_blank.ensures ∙ c.if-not-is_blank.false)).0

pub returns-clause-value : goal.returns-clause-value
returns-clause-value c = rw c.ok.ensures.value (field_read c.args.field.now c.name_length-end.result c.read.result c.requires c.name_length-end.ensures c.read.ensures
    (sym c.is_blank.ensures ∙ c.if-not-is_blank.false)).1
