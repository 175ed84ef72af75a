use Rattle.cms_edf.proofs.growth.plan_more.Goals as goal

pub plan_more_at-requires-clause-grows : goal.plan_more_at-requires-clause-grows
plan_more_at-requires-clause-grows g c = c.requires.grows c.place-place.result c.place-place.ensures
