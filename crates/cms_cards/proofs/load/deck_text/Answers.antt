use Rattle.std.proofs.Common.{◌<◌, ◌∙◌, ◌++◌, [], ℕ, List, ap, get_or, length, sym, take}
use Rattle.cms_cards.specs.Dumps.{card_piece, deck_text}
use Rattle.cms_cards.proofs.Cards.{text_next}
use Rattle.cms_cards.proofs.load.deck_text.Goals as goal

pub loop-card-init : goal.loop-card-init
unfolding deck_text
loop-card-init c = c.new-text.ensures.items

pub loop-card-preserved : goal.loop-card-preserved
loop-card-preserved c =
    let deck : List (List ℕ) = c.args.deck.now in
    let k : ℕ = c.loop-card.card-index in
    let items = c.as_slice-card-items.ensures in
    let less : k < length deck = rw items at c.loop-card-test.true in
    c.in_ok-extend_from_slice.ensures.items
    ∙ (ap (λ (t : List ℕ). t ++ card_piece (get_or c.as_slice-card-items.result.now k [])) c.loop-card.invariant
    ∙ (ap (λ (d : List (List ℕ)). deck_text (take k deck) ++ card_piece (get_or d k [])) items ∙ sym (text_next deck k less)))
