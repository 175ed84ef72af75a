use Rattle.cms_held.proofs.PutAsides.{draft_goes_on, free_is_aside, put_is_answered}
use Rattle.cms_held.proofs.PutCarried.{put_is_carried}
use Rattle.cms_held.proofs.PutSmall.{put_is_small}
use Rattle.cms_held.proofs.laws.put_laws.Goals as goal

pub returns-clause-answered : goal.returns-clause-answered
returns-clause-answered c = put_is_answered

pub returns-clause-aside : goal.returns-clause-aside
returns-clause-aside c = free_is_aside

pub returns-clause-carried : goal.returns-clause-carried
returns-clause-carried c = put_is_carried

pub returns-clause-goes_on : goal.returns-clause-goes_on
returns-clause-goes_on c = draft_goes_on

pub returns-clause-small : goal.returns-clause-small
returns-clause-small c = put_is_small
