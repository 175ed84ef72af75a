use Rattle.std.proofs.Common.{◌≡◌, ◌∙◌, ap, rules}
use Rattle.std.specs.Fmt.{signed_decimal}
use Rattle.cms_text.specs.Texts.{ebcdic}
use Rattle.cms_text.specs.Numbers as spec
use Rattle.cms_text.proofs.Numerals.{written_is, written_short}
use Rattle.cms_text.proofs.numbers.written.Goals as goal

pub take-requires : goal.take-requires
take-requires c =
    let text : c.as_str.result.now ≡ signed_decimal c.args.number = search rules in
    let is : c.in_ok-ebcdic.field-0.items ≡ spec.written c.args.number = written_is c.args.number c.in_ok-ebcdic.field-0.items (c.in_ok-ebcdic.ensures ∙ ap ebcdic text) in
    rw is (written_short c.args.number c.ranges.number)

pub returns : goal.returns
returns c =
    let text : c.as_str.result.now ≡ signed_decimal c.args.number = search rules in
    c.take.ensures ∙ written_is c.args.number c.in_ok-ebcdic.field-0.items (c.in_ok-ebcdic.ensures ∙ ap ebcdic text)
