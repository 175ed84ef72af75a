use Rattle.cms_model.proofs.ObjectsAsked.{asked_answers, asked_no_more, dropped_is_gone, none_asked, ran_beside, broke_beside, stay_distinct}
use Rattle.cms_model.proofs.machine_laws.laws_of_objects.Goals as goal

pub returns-clause-asked : goal.returns-clause-asked
returns-clause-asked g c = asked_answers

pub returns-clause-distinct : goal.returns-clause-distinct
returns-clause-distinct g c = stay_distinct

pub returns-clause-dropped : goal.returns-clause-dropped
returns-clause-dropped g c = dropped_is_gone

pub returns-clause-gone : goal.returns-clause-gone
returns-clause-gone g c = asked_no_more

pub returns-clause-none : goal.returns-clause-none
returns-clause-none g c = none_asked

pub returns-clause-runs : goal.returns-clause-runs
returns-clause-runs g c = λ objects p q t u ran none. ran_beside objects p q t u ran none

pub returns-clause-stops : goal.returns-clause-stops
returns-clause-stops g c = λ objects p q t b none. broke_beside objects p q t b none
