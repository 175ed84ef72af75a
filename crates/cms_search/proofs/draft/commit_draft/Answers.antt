use Rattle.cms_search.proofs.draft.commit_draft.Goals as goal

pub returns : goal.returns
returns g c = record { alters = c.commit.ensures.alters; fault = c.commit.ensures.fault; changes = c.commit.ensures.changes }
