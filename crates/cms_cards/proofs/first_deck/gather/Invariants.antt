use Rattle.std.proofs.Common.{map, take}
use Rattle.cms_names.specs.declared.name.Format.TheVariants.{F}
use Rattle.cms_files.specs.Gathered.{IsGathered}
use Rattle.cms_cards.specs.PunchedCards.{card_of}
use Rattle.cms_cards.proofs.first_deck.gather.Given as goal

abbrev pub invariant-loop-card : goal.invariant-loop-card
invariant-loop-card l = IsGathered F 80 (map card_of (take l.card-index l.cards)) l.gathered
