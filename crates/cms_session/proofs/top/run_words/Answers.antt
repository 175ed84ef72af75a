use Rattle.std.proofs.Common.{inl, inr}
use Rattle.cms_world.specs.Seen.{seen}
use Rattle.cms_ext.proofs.Lists.{list_distinct as objects_differ}
use Rattle.cms_session.proofs.Ends.{on_units}
use Rattle.cms_session.proofs.top.run_words.Goals as goal

pub returns-in-Ok-clause-headline : goal.returns-in-Ok-clause-headline
returns-in-Ok-clause-headline g c = λ told.
    let mid = c.in-Ok.ensures in
    inr (inr (on_units c.args.words.now _ (seen g.W.World c.args.world.now) (seen g.W.World c.attach_all.new.world) (seen g.W.World c.run_on.new.world) c.in-Ok.units c.run_on.result (objects_differ _ c.args.extensions)
    (let value = c.as_slice.ensures in rw value at (mid.attached told)) mid.distinct mid.sizes mid.faults mid.edges c.run_on.ensures.ran))

pub returns-in-Err-clause-headline : goal.returns-in-Err-clause-headline
returns-in-Err-clause-headline g c = λ told. rw c.status_at.ensures (inr (inl (let value = c.as_slice.ensures in rw value at (c.in-Err.ensures.stops told))))
