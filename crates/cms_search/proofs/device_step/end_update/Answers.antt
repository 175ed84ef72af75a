use Rattle.std.proofs.Common.{refl, Ok, Err}
use Rattle.std.proofs.lemmas.Result.{err_from_is_err_and}
use Rattle.cms_disk.specs.declared.fault.DiskFault.TheVariants as failed
use Rattle.cms_search.specs.Calls.{spot}
use Rattle.cms_search.proofs.Updates.{came_to, came_why, device_was, update_failed}
use Rattle.cms_search.proofs.Stepped.{change_cut, change_done, change_doubted, change_failed, change_full, change_limited, change_stops, doubted_so, if_some, seat_is}
use Rattle.cms_search.proofs.device_step.end_update.Goals as goal

pub returns-in-Ok-clause-acts : goal.returns-in-Ok-clause-acts
returns-in-Ok-clause-acts g c = λ old s change u.
    let mid = spot g.W.World c.args.world.now c.args.state.now in
    let n = c.args.letter in
    let v = came_to old mid n s change c.args.done (Ok c.in-Ok.field-0) c.in-Ok.is u in
    change_done old mid n s change c.in-Ok.field-0 v

pub returns-in-Limit-clause-acts : goal.returns-in-Limit-clause-acts
returns-in-Limit-clause-acts g c = λ old s change u.
    let mid = spot g.W.World c.args.world.now c.args.state.now in
    let n = c.args.letter in
    let why = failed.Limit c.in-Limit.which in
    let v = came_why old mid n s change c.args.done c.in-Err.fault why c.in-Err.is c.in-Limit.is u in
    change_limited old mid n s change c.in-Limit.which v

pub returns-in-Full-clause-acts : goal.returns-in-Full-clause-acts
returns-in-Full-clause-acts g c = λ old s change u.
    let mid = spot g.W.World c.args.world.now c.args.state.now in
    let n = c.args.letter in
    let why = failed.Full c.in-Full.need c.in-Full.free in
    let v = came_why old mid n s change c.args.done c.in-Err.fault why c.in-Err.is c.in-Full.is u in
    change_full old mid n s change c.in-Full.need c.in-Full.free v

pub returns-in_err-refuse_device-in-Device-clause-acts : goal.returns-in_err-refuse_device-in-Device-clause-acts
returns-in_err-refuse_device-in-Device-clause-acts g c = λ old s change u.
    let p = err_from_is_err_and c.from_residual.result c.from_residual.ensures.1 in
    let st = c.args.state.now in
    let mid = spot g.W.World c.args.world.now st in
    let n = c.args.letter in
    let vdev = c.args.vdev in
    let v = came_why old mid n s change c.args.done c.in-Err.fault failed.Device c.in-Err.is c.in-Device.is u in
    let device = device_was old mid n s change (Err failed.Device) vdev v c.requires.device in
    rw (p.1, p.2)
    (change_stops old mid (spot g.W.World c.refuse_device.new.world st) n change vdev _
    (update_failed old mid n s change vdev v device) c.in_err-refuse_device-in-Device.ensures.does refl)

pub returns-in_ok-refuse_device-in-Device-clause-acts : goal.returns-in_ok-refuse_device-in-Device-clause-acts
returns-in_ok-refuse_device-in-Device-clause-acts g c = λ old s change u.
    let st = c.args.state.now in
    let mid = spot g.W.World c.args.world.now st in
    let n = c.args.letter in
    let vdev = c.args.vdev in
    let v = came_why old mid n s change c.args.done c.in-Err.fault failed.Device c.in-Err.is c.in-Device.is u in
    let device = device_was old mid n s change (Err failed.Device) vdev v c.requires.device in
    change_failed old mid (spot g.W.World c.refuse_device.new.world st) n change vdev _
    (update_failed old mid n s change vdev v device) c.in_ok-refuse_device-in-Device.ensures.does c.in_ok-refuse_device-in-Device.ensures.went refl

pub returns-in_err-refuse_device-in-InDoubt-clause-acts : goal.returns-in_err-refuse_device-in-InDoubt-clause-acts
returns-in_err-refuse_device-in-InDoubt-clause-acts g c = λ old s change u.
    let p = err_from_is_err_and c.from_residual-in_err-refuse_device-in-InDoubt.result c.from_residual-in_err-refuse_device-in-InDoubt.ensures.1 in
    let st = c.args.state.now in
    let mid = spot g.W.World c.args.world.now st in
    let n = c.args.letter in
    let vdev = c.args.vdev in
    let state' = record st { table = c.doubt.new.self; places = c.after.new.self } in
    let mid' = spot g.W.World c.args.world.now state' in
    let v = came_why old mid n s change c.args.done c.in-Err.fault failed.InDoubt c.in-Err.is c.in-InDoubt.is u in
    let device = device_was old mid n s change (Err failed.InDoubt) vdev v c.requires.device in
    let table = if_some _ _ _ (seat_is old mid n s change (Err failed.InDoubt) v) c.doubt.ensures in
    rw (p.1, p.2)
    (change_stops old mid' (spot g.W.World c.refuse_device-in-InDoubt.new.world state') n change vdev _
    (change_doubted old mid mid' n s change vdev v device refl (doubted_so st n s.letter.unit vdev c.doubt.new.self c.after.new.self table c.after.ensures))
    c.in_err-refuse_device-in-InDoubt.ensures.does refl)

pub returns-in_ok-refuse_device-in-InDoubt-clause-acts : goal.returns-in_ok-refuse_device-in-InDoubt-clause-acts
returns-in_ok-refuse_device-in-InDoubt-clause-acts g c = λ old s change u.
    let st = c.args.state.now in
    let mid = spot g.W.World c.args.world.now st in
    let n = c.args.letter in
    let vdev = c.args.vdev in
    let state' = record st { table = c.doubt.new.self; places = c.after.new.self } in
    let mid' = spot g.W.World c.args.world.now state' in
    let v = came_why old mid n s change c.args.done c.in-Err.fault failed.InDoubt c.in-Err.is c.in-InDoubt.is u in
    let device = device_was old mid n s change (Err failed.InDoubt) vdev v c.requires.device in
    let table = if_some _ _ _ (seat_is old mid n s change (Err failed.InDoubt) v) c.doubt.ensures in
    change_failed old mid' (spot g.W.World c.refuse_device-in-InDoubt.new.world state') n change vdev _
    (change_doubted old mid mid' n s change vdev v device refl (doubted_so st n s.letter.unit vdev c.doubt.new.self c.after.new.self table c.after.ensures))
    c.in_ok-refuse_device-in-InDoubt.ensures.does c.in_ok-refuse_device-in-InDoubt.ensures.went refl

pub returns-in_default-clause-acts : goal.returns-in_default-clause-acts
returns-in_default-clause-acts g c = λ old s change u.
    let mid = spot g.W.World c.args.world.now c.args.state.now in
    let n = c.args.letter in
    let v = came_to old mid n s change c.args.done (Err c.in-Err.fault) c.in-Err.is u in
    change_cut old mid n s change c.in-Err.fault v c.in_default.not-Limit c.in_default.not-Full c.in_default.not-Device c.in_default.not-InDoubt
