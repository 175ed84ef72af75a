use Rattle.std.proofs.Common.{◌∙◌, ap}
use Rattle.cms_text.specs.Texts.{without_leading_blanks, without_trailing_blanks}
use Rattle.cms_access.proofs.Questioned.{short_reply}
use Rattle.cms_access.proofs.questions.reply.Goals as goal

pub of-requires : goal.of-requires
of-requires c =
    let text = c.without_leading_blanks.ensures ∙ ap without_leading_blanks (c.without_trailing_blanks-text.ensures ∙ ap without_trailing_blanks c.bytes.ensures.bytes) in
    rw text (short_reply c.in_ok-text.text c.bytes.ensures.short)
