use Rattle.cms_held.proofs.AddAnswered.{add_is_answered}
use Rattle.cms_held.proofs.AddCarried.{add_is_carried, add_is_small}
use Rattle.cms_held.proofs.laws.adding_laws.Goals as goal

pub returns-clause-answered : goal.returns-clause-answered
returns-clause-answered c = add_is_answered

pub returns-clause-carried : goal.returns-clause-carried
returns-clause-carried c = add_is_carried

pub returns-clause-small : goal.returns-clause-small
returns-clause-small c = add_is_small
