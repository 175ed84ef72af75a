use Rattle.cms_held.proofs.Made.{made_empty, made_placed}
use Rattle.cms_held.proofs.laws.making_laws.Goals as goal

pub returns-clause-placed : goal.returns-clause-placed
returns-clause-placed c = made_placed

pub returns-clause-made : goal.returns-clause-made
returns-clause-made c = made_empty
