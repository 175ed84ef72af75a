use Rattle.std.proofs.Common.{◌∙◌, sym}
use Rattle.cms_cards.proofs.Headers.{field_left, field_taken}
use Rattle.cms_cards.proofs.header.field_part.Goals as goal

pub returns-then-not-is_blank : goal.returns-then-not-is_blank
returns-then-not-is_blank c =
    field_left c.args.field.now c.name_length-end.result c.is_blank.result c.name_length-end.ensures c.is_blank.ensures c.if-not-is_blank.true

pub returns : goal.returns
returns c =
    c.ok.ensures.value ∙ field_taken c.args.field.now c.name_length-end.result c.read.result c.requires c.name_length-end.ensures c.read.ensures
    (sym c.is_blank.ensures ∙ c.if-not-is_blank.false)
