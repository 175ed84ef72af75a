use Rattle.std.proofs.Common.{◌≡◌, take}
use Rattle.cms_cards.specs.Dumps.{deck_text}
use Rattle.cms_cards.proofs.load.deck_text.Given as goal

abbrev pub invariant-loop-card : goal.invariant-loop-card
invariant-loop-card l = l.text.items ≡ deck_text (take l.card-index l.deck)
