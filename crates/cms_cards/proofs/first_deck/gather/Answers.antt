use Rattle.std.proofs.Common.{List, ℕ, map, subst, take}
use Rattle.std.proofs.lemmas.List.{take_all}
use Rattle.cms_names.specs.declared.name.Format.TheVariants.{F}
use Rattle.cms_files.specs.Gathered.{IsGathered}
use Rattle.cms_cards.specs.PunchedCards.{card_of}
use Rattle.cms_cards.proofs.Loads.{gathers_next}
use Rattle.cms_cards.proofs.first_deck.gather.Goals as goal

pub loop-card-preserved : goal.loop-card-preserved
loop-card-preserved c =
    gathers_next c.args.cards.now c.loop-card.card-index _ c.loop-card-test.true
    (c.in_ok-push.ensures F 80 (map card_of (take c.loop-card.card-index c.args.cards.now)) c.loop-card.invariant)

pub returns : goal.returns
returns c =
    subst (λ (rs : List (List ℕ)). IsGathered F 80 (map card_of rs) c.loop-card.gathered)
    (take_all c.loop-card.card-index c.args.cards.now c.loop-card-test.false) c.loop-card.invariant
