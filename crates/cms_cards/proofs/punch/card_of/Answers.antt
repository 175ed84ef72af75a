use Rattle.std.proofs.Common.{◌∙◌, ℕ, List, ap, replicate, take}
use Rattle.std.proofs.lemmas.List.{take_min}
use Rattle.cms_text.specs.Bytes.{overwritten}
use Rattle.cms_cards.proofs.Texts.{card_filled}
use Rattle.cms_cards.proofs.punch.card_of.Goals as goal

pub returns : goal.returns
returns c =
    let text : List ℕ = c.args.text.now in
    c.put.ensures
    ∙ (ap (λ (k : ℕ). overwritten 0 (take k text) (replicate 80 0x40)) c.min.ensures
    ∙ (ap (λ (front : List ℕ). overwritten 0 front (replicate 80 0x40)) (take_min 80 text) ∙ card_filled text))
