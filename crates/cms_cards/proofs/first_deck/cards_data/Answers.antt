use Rattle.std.proofs.Common.{map}
use Rattle.cms_names.specs.declared.name.Format.TheVariants.{F}
use Rattle.cms_files.specs.Gathered.{AreData}
use Rattle.cms_cards.specs.PunchedCards.{card_of, record_cards}
use Rattle.cms_cards.proofs.Loads.{made_ok}
use Rattle.cms_cards.proofs.first_deck.cards_data.Goals as goal

pub returns : goal.returns
returns c =
    let records = map card_of (record_cards c.args.deck.now) in
    let same = c.record_cards.ensures in
    made_ok c.data.result c.ok_or.result _ (AreData F 80 c.args.number c.args.stamp.now records) c.ok_or.ensures.value
    (c.data.ensures.«data» F 80 records (rw same at c.in_ok-gathered.ensures))
