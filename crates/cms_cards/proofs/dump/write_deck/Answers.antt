use Rattle.std.proofs.Common.{◌∙◌}
use Rattle.cms_cards.proofs.Loaded.{deck_dumped}
use Rattle.cms_cards.proofs.dump.write_deck.Goals as goal

pub returns : goal.returns
returns c =
    deck_dumped c.cards_of.result c.args.name.now c.args.file.now c.deref.result.now (c.deref.ensures.value ∙ c.in_ok-text.ensures) c.cards_of.ensures
