use Rattle.cms_model.proofs.Lookup.{changed_is_found, others_stay, rest_is_left}
use Rattle.cms_model.proofs.laws.lookup_laws.Goals as goal

pub returns-clause-found : goal.returns-clause-found
returns-clause-found c = changed_is_found

pub returns-clause-others : goal.returns-clause-others
returns-clause-others c = others_stay

pub returns-clause-rest : goal.returns-clause-rest
returns-clause-rest c = rest_is_left
