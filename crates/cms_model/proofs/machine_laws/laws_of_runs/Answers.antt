use Rattle.cms_model.proofs.Feed.{feed_beats}
use Rattle.cms_model.proofs.Whole.{follows_tree, comes_to}
use Rattle.cms_model.proofs.machine_laws.laws_of_runs.Goals as goal

pub returns-clause-feeds : goal.returns-clause-feeds
returns-clause-feeds g c = λ t u p q bs chain leads more over goes ms os back. feed_beats t u p q bs chain leads more over goes ms os back

pub returns-clause-stops : goal.returns-clause-stops
returns-clause-stops g c = λ p q t b. follows_tree p q t b

pub returns-clause-ends : goal.returns-clause-ends
returns-clause-ends g c = λ p q t a ran. comes_to p q t a ran
