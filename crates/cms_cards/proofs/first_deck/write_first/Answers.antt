use Rattle.std.proofs.Common.{refl}
use Rattle.cms_cards.specs.FirstDeck.{write_cards}
use Rattle.cms_cards.proofs.Loads.{deck_missing, deck_there}
use Rattle.cms_cards.proofs.first_deck.write_first.Goals as goal

pub returns-in-Some-clause-acts : goal.returns-in-Some-clause-acts
returns-in-Some-clause-acts g c =
    deck_there _ _ (λ s deck. write_cards s c.args.target.now deck) _ c.in-Some.deck.now c.write_cards.result _ c.in-Some.ensures c.write_cards.ensures.acts

pub returns-in-None-clause-acts : goal.returns-in-None-clause-acts
returns-in-None-clause-acts g c =
    deck_missing _ _ (λ s deck. write_cards s c.args.target.now deck) _ c.refuse.result c.in-None.ensures c.refuse.ensures.does c.refuse.ensures.went refl
