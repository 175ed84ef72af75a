use Rattle.cms_held.proofs.DraftBlocks.{draft_has_all, draft_is_put, draft_stays}
use Rattle.cms_held.proofs.Drafted.{draft_holds}
use Rattle.cms_held.proofs.laws.draft_laws.Goals as goal

pub returns-clause-holds : goal.returns-clause-holds
returns-clause-holds c = draft_holds

pub returns-clause-whole : goal.returns-clause-whole
returns-clause-whole c = draft_has_all

pub returns-clause-put : goal.returns-clause-put
returns-clause-put c = draft_is_put

pub returns-clause-stays : goal.returns-clause-stays
returns-clause-stays c = draft_stays
