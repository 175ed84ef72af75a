use Rattle.std.proofs.Common.{slice_get}
use Rattle.cms_search.specs.FileWrites.{change_with}
use Rattle.cms_search.proofs.Came.{came, came_accessed, came_device}
use Rattle.cms_search.proofs.Updates.{may_update}
use Rattle.cms_search.proofs.Stepped.{has_device, if_some, accessed_at}
use Rattle.cms_search.proofs.file_write.update_file.Goals as goal

pub update-done-requires-clause-may : goal.update-done-requires-clause-may
update-done-requires-clause-may g c = λ s at.
    let t = c.args.state.now.table in
    let device = if_some _ _ s at c.vdev-vdev.ensures.accessed in
    let unit = has_device (slice_get t.units s.letter.unit) c.vdev-vdev.result device in
    may_update _ t c.args.letter s unit.0 c.args.name.now c.args.update at unit.1 (c.requires.fits s at) c.requires.usable

pub end_update-requires-clause-accessed : goal.end_update-requires-clause-accessed
end_update-requires-clause-accessed g c =
    let valid = c.requires.valid in
    came_accessed _ _ _ _ _ _ _
    (came _ _ c.args.state.now _ c.args.letter (change_with c.args.name.now c.args.update valid.records) _ _ c.requires.writing c.of-stamp.ensures.value
    (c.update-done.ensures valid.records valid.stands))

pub end_update-requires-clause-device : goal.end_update-requires-clause-device
end_update-requires-clause-device g c =
    let valid = c.requires.valid in
    came_device _ _ _ _ _ _ _ c.vdev-vdev.result
    (came _ _ c.args.state.now _ c.args.letter (change_with c.args.name.now c.args.update valid.records) _ _ c.requires.writing c.of-stamp.ensures.value
    (c.update-done.ensures valid.records valid.stands)) c.vdev-vdev.ensures.accessed

pub returns-clause-acts : goal.returns-clause-acts
returns-clause-acts g c = λ records stands.
    let x = came _ _ c.args.state.now _ c.args.letter (change_with c.args.name.now c.args.update records) _ _ c.requires.writing c.of-stamp.ensures.value (c.update-done.ensures records stands) in
    c.end_update.ensures.acts _ x.seat _ x.is

pub update-done-requires-clause-accessed : goal.update-done-requires-clause-accessed
update-done-requires-clause-accessed g c = accessed_at c.args.state.now.table c.args.letter c.requires.writing

pub update-done-requires-clause-valid : goal.update-done-requires-clause-valid
update-done-requires-clause-valid g c = c.requires.valid

pub update-done-requires-clause-stamp : goal.update-done-requires-clause-stamp
update-done-requires-clause-stamp g c = c.of-stamp.ensures.valid c.requires.moment

pub returns-clause-kept : goal.returns-clause-kept
returns-clause-kept g c = c.end_update.ensures.kept
