use Rattle.std.proofs.Common.{◌≡◌}
use Rattle.cms_model.specs.Lists.{cut}
use Rattle.cms_cards.specs.Dumps.{numbered}
use Rattle.cms_cards.proofs.dump.cards_of.Given as goal

abbrev pub invariant-loop-number : goal.invariant-loop-number
invariant-loop-number l = l.deck ≡ numbered 0 (cut l.number 72 l.text)
