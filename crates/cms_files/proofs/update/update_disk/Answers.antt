use Rattle.std.proofs.lemmas.Result.{err_from_is_err_and}
use Rattle.cms_edf.specs.ChangePlans.{change_of}
use Rattle.cms_search.specs.Calls.{spot}
use Rattle.cms_search.proofs.Stepped.{if_some, written_at}
use Rattle.cms_files.proofs.Updates.{device_at, ends_told, update_cut, update_done, update_ends}
use Rattle.cms_files.proofs.update.update_disk.Goals as goal

pub returns-in_err-changed-clause-acts : goal.returns-in_err-changed-clause-acts
returns-in_err-changed-clause-acts g c =
    let p = err_from_is_err_and c.from_residual.result c.from_residual.ensures.1 in
    rw (p.1, p.2) (update_cut _ _ c.args.letter (change_of c.args.change.now) c.in_err-changed.field-0.0 c.in_err-changed.ensures.acts)

pub returns-in-Done-clause-acts : goal.returns-in-Done-clause-acts
returns-in-Done-clause-acts g c =
    let st = c.args.state.now in
    let n = c.args.letter in
    let vdev = c.vdev-vdev.result in
    let seat = written_at st.table n c.requires.writing in
    let device = device_at st n vdev seat.0 seat.1 (if_some _ _ seat.0 seat.1 c.vdev-vdev.ensures.accessed) in
    let places = c.forget_places.ensures in
    rw places (update_done (spot g.W.World c.args.world.now st) (spot g.W.World c.change_disk.new.world c.change_disk.new.state) n vdev (change_of c.args.change.now) c.in_ok-changed.changed
    c.in_ok-changed.ensures.acts c.in-Done.is device)

pub returns-in_default-clause-acts : goal.returns-in_default-clause-acts
returns-in_default-clause-acts g c =
    let st = c.args.state.now in
    let n = c.args.letter in
    let vdev = c.vdev-vdev.result in
    let change = change_of c.args.change.now in
    let mid = spot g.W.World c.change_disk.new.world c.change_disk.new.state in
    let new = spot g.W.World c.tell_change.new.world c.change_disk.new.state in
    let seat = written_at st.table n c.requires.writing in
    let device = device_at st n vdev seat.0 seat.1 (if_some _ _ seat.0 seat.1 c.vdev-vdev.ensures.accessed) in
    update_ends (spot g.W.World c.args.world.now st) mid new n vdev change c.in_ok-changed.changed c.stopped.result c.in_ok-changed.ensures.acts device
    (ends_told mid new n vdev change c.in_ok-changed.changed c.tell_change.result c.stopped.result c.in_default.not-Done c.tell_change.ensures c.stopped.ensures)
