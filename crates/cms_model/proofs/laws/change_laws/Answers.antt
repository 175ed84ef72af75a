use Rattle.cms_model.proofs.ListChanges.{names_told, place_found, place_changed, none_added, stay_distinct}
use Rattle.cms_model.proofs.OpenedNames.{opened_distinct}
use Rattle.cms_model.proofs.laws.change_laws.Goals as goal

pub returns-clause-names : goal.returns-clause-names
returns-clause-names c = names_told

pub returns-clause-found : goal.returns-clause-found
returns-clause-found c = place_found

pub returns-clause-place : goal.returns-clause-place
returns-clause-place c = place_changed

pub returns-clause-none : goal.returns-clause-none
returns-clause-none c = none_added

pub returns-clause-distinct : goal.returns-clause-distinct
returns-clause-distinct c = stay_distinct

pub returns-clause-opened : goal.returns-clause-opened
returns-clause-opened c = opened_distinct
