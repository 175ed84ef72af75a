use Rattle.std.proofs.lemmas.Result.{err_from_is_err_and}
use Rattle.cms_search.specs.Calls.{spot}
use Rattle.cms_execio.proofs.Takings.{erased, erasure_cut, erasure_ends}
use Rattle.cms_execio.proofs.diskr.erase_read.Goals as goal

pub returns-in_err-update_disk-clause-acts : goal.returns-in_err-update_disk-clause-acts
returns-in_err-update_disk-clause-acts g c =
    let p = err_from_is_err_and c.from_residual.result c.from_residual.ensures.1 in
    let old = spot g.W.World c.args.world.now c.args.state.now in
    let new = spot g.W.World c.update_disk.new.world c.update_disk.new.state in
    rw (p.1, p.2) (erasure_cut old new c.args.line.now c.args.letter c.args.taken c.in_err-update_disk.field-0.0 c.in_err-update_disk.ensures.acts)

pub returns-in-Done-clause-acts : goal.returns-in-Done-clause-acts
returns-in-Done-clause-acts g c =
    let old = spot g.W.World c.args.world.now c.args.state.now in
    let new = spot g.W.World c.update_disk.new.world c.update_disk.new.state in
    erased old new c.args.line.now c.args.letter c.args.taken c.in_ok-update_disk.field-0 c.course_behind.result c.in_ok-update_disk.ensures.acts c.in-Done.is c.course_behind.ensures

pub returns-in-Stopped-clause-acts : goal.returns-in-Stopped-clause-acts
returns-in-Stopped-clause-acts g c =
    let old = spot g.W.World c.args.world.now c.args.state.now in
    let new = spot g.W.World c.update_disk.new.world c.update_disk.new.state in
    erasure_ends old new c.args.line.now c.args.letter c.args.taken c.in_ok-update_disk.field-0 c.in-Stopped.course c.in_ok-update_disk.ensures.acts c.in-Stopped.is
