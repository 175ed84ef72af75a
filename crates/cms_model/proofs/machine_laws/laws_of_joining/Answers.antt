use Rattle.cms_model.proofs.Join.{after, broke_in, leads-bind}
use Rattle.cms_model.proofs.machine_laws.laws_of_joining.Goals as goal

pub returns-clause-runs : goal.returns-clause-runs
returns-clause-runs g c = λ p m q t s f a x y. after p m q t s f a x y

pub returns-clause-stops : goal.returns-clause-stops
returns-clause-stops g c = λ p m q t s f x y. broke_in p m q t s f x y

pub returns-clause-leads : goal.returns-clause-leads
returns-clause-leads g c = λ t u bs f l. leads-bind t u bs f l
