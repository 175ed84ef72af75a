use Rattle.std.proofs.Common.{◌<◌, arith, length}
use Rattle.std.proofs.lemmas.Result.{err_from_is_err_and}
use Rattle.cms_search.specs.Calls.{spot}
use Rattle.cms_files.proofs.Updates.{each_broken, each_done, each_ends, each_next, kept_then, moment_kept}
use Rattle.cms_files.proofs.each.update_each.Goals as goal

pub returns-in_err-update-clause-acts : goal.returns-in_err-update-clause-acts
returns-in_err-update-clause-acts g c =
    let p = err_from_is_err_and c.from_residual.result c.from_residual.ensures.1 in
    let old = spot g.W.World c.args.world.now c.args.state.now in
    let mid = spot g.W.World c.loop-file.world c.loop-file.state in
    let new = spot g.W.World c.update.new.world c.update.new.state in
    let within : c.loop-file.file-index < length c.args.files.now = omega arith in
    rw (p.1, p.2)
    (each_broken (g.U.FileUpdate.tree c.args.update.now) old mid new c.args.files.now c.loop-file.file-index c.file-item.result within c.file-item.is
    c.loop-file.invariant.comes c.in_err-update.field-0.0 c.in_err-update.ensures.acts)

pub returns-in-Stopped-clause-acts : goal.returns-in-Stopped-clause-acts
returns-in-Stopped-clause-acts g c =
    let old = spot g.W.World c.args.world.now c.args.state.now in
    let mid = spot g.W.World c.loop-file.world c.loop-file.state in
    let new = spot g.W.World c.update.new.world c.update.new.state in
    let within : c.loop-file.file-index < length c.args.files.now = omega arith in
    each_ends (g.U.FileUpdate.tree c.args.update.now) old mid new c.args.files.now c.loop-file.file-index c.file-item.result within c.file-item.is
    c.loop-file.invariant.comes c.in_ok-update.field-0 c.in-Stopped.course c.in_ok-update.ensures.acts c.in-Stopped.is

pub loop-file-preserved : goal.loop-file-preserved
loop-file-preserved g c =
    let old = spot g.W.World c.args.world.now c.args.state.now in
    let mid = spot g.W.World c.loop-file.world c.loop-file.state in
    let new = spot g.W.World c.update.new.world c.update.new.state in
    let within : c.loop-file.file-index < length c.args.files.now = omega arith in
    record {
      comes = each_next (g.U.FileUpdate.tree c.args.update.now) old mid new c.args.files.now c.loop-file.file-index c.file-item.result within c.file-item.is
          c.loop-file.invariant.comes c.in_ok-update.field-0 c.in_ok-update.ensures.acts c.in-Done.is;
      usable = c.in_ok-update.ensures.acts.usable c.loop-file.invariant.usable;
      moment = moment_kept mid.state new.state c.update.ensures.kept c.loop-file.invariant.moment;
      kept = kept_then old.state mid.state new.state c.loop-file.invariant.kept c.update.ensures.kept;
    }

pub returns-clause-acts : goal.returns-clause-acts
returns-clause-acts g c =
    let old = spot g.W.World c.args.world.now c.args.state.now in
    let new = spot g.W.World c.loop-file.world c.loop-file.state in
    each_done (g.U.FileUpdate.tree c.args.update.now) old new c.args.files.now c.loop-file.file-index (omega arith) c.loop-file.invariant.comes
