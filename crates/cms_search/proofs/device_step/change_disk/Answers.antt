use Rattle.std.proofs.Common.{slice_get}
use Rattle.cms_edf.specs.ChangePlans.{change_of}
use Rattle.cms_search.proofs.Came.{came_accessed, came_at_once, came_device}
use Rattle.cms_search.proofs.Stepped.{has_device, if_some, may_change, accessed_at}
use Rattle.cms_search.proofs.device_step.change_disk.Goals as goal

pub change-done-requires-clause-may : goal.change-done-requires-clause-may
change-done-requires-clause-may g c = λ s at.
    let t = c.args.state.now.table in
    let device = if_some _ _ s at c.vdev-vdev.ensures.accessed in
    let unit = has_device (slice_get t.units s.letter.unit) c.vdev-vdev.result device in
    may_change _ t c.args.letter s unit.0 c.args.change.now at unit.1 (c.requires.there s at) c.requires.usable

pub end_update-requires-clause-accessed : goal.end_update-requires-clause-accessed
end_update-requires-clause-accessed g c =
    came_accessed _ _ _ _ _ _ _
    (came_at_once _ _ c.args.state.now _ c.args.letter (change_of c.args.change.now) _ _ c.requires.writing c.of-stamp.ensures.value c.change-done.ensures)

pub end_update-requires-clause-device : goal.end_update-requires-clause-device
end_update-requires-clause-device g c =
    came_device _ _ _ _ _ _ _ c.vdev-vdev.result
    (came_at_once _ _ c.args.state.now _ c.args.letter (change_of c.args.change.now) _ _ c.requires.writing c.of-stamp.ensures.value c.change-done.ensures)
    c.vdev-vdev.ensures.accessed

pub returns-clause-acts : goal.returns-clause-acts
returns-clause-acts g c =
    let x = came_at_once _ _ c.args.state.now _ c.args.letter (change_of c.args.change.now) _ _ c.requires.writing c.of-stamp.ensures.value c.change-done.ensures in
    c.end_update.ensures.acts _ x.seat _ x.is

pub change-done-requires-clause-accessed : goal.change-done-requires-clause-accessed
change-done-requires-clause-accessed g c = accessed_at c.args.state.now.table c.args.letter c.requires.writing

pub change-done-requires-clause-stamp : goal.change-done-requires-clause-stamp
change-done-requires-clause-stamp g c = c.of-stamp.ensures.valid c.requires.moment

pub returns-clause-kept : goal.returns-clause-kept
returns-clause-kept g c = c.end_update.ensures.kept
