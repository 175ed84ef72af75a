use Rattle.std.proofs.Common.{refl}
use Rattle.cms_cards.specs.FirstDeck.{write_dump}
use Rattle.cms_cards.proofs.Loads.{deck_missing, deck_there}
use Rattle.cms_cards.proofs.first_deck.load_first.Goals as goal

pub returns-in-Some-clause-acts : goal.returns-in-Some-clause-acts
returns-in-Some-clause-acts g c =
    deck_there _ _ (λ s deck. write_dump s c.args.letter deck) _ c.in-Some.deck.now c.write_dump.result _ c.in-Some.ensures c.write_dump.ensures.acts

pub returns-in-None-clause-acts : goal.returns-in-None-clause-acts
returns-in-None-clause-acts g c =
    deck_missing _ _ (λ s deck. write_dump s c.args.letter deck) _ c.refuse.result c.in-None.ensures c.refuse.ensures.does c.refuse.ensures.went refl
