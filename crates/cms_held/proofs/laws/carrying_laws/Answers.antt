use Rattle.cms_held.proofs.Carried.{lacking_is_full, planned_is_carried, update_is_small}
use Rattle.cms_held.proofs.laws.carrying_laws.Goals as goal

pub returns-clause-carried : goal.returns-clause-carried
returns-clause-carried c = planned_is_carried

pub returns-clause-full : goal.returns-clause-full
returns-clause-full c = lacking_is_full

pub returns-clause-small : goal.returns-clause-small
returns-clause-small c = update_is_small
