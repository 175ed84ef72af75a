use Rattle.std.proofs.Common.{refl, rules, lit≤}
use Rattle.cms_fields.specs.Stamps.{days_of_month, is_stamp}
use Rattle.exec2_parse.proofs.Cards.{cards_are_valid}
use Rattle.cms_base_tests.proofs.exec2.shared.cards.Goals as goal

pub returns-clause-valid : goal.returns-clause-valid
unfolding is_stamp days_of_month
returns-clause-valid g c = cards_are_valid _ refl (search rules, search rules) (search rules) (search rules) (lit≤ tt) refl
