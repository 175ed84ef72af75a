use Rattle.std.proofs.lemmas.Result.{err_from_is_err_and}
use Rattle.cms_search.specs.Calls.{spot}
use Rattle.cms_files.proofs.Updates.{kept_then, moment_kept}
use Rattle.cms_copyfile.proofs.InputErased.{erased_behind, erased_never, erased_stopped}
use Rattle.cms_copyfile.proofs.command.copy_erased.Goals as goal

pub returns-in_err-copy_into-clause-acts : goal.returns-in_err-copy_into-clause-acts
returns-in_err-copy_into-clause-acts g c =
    let p = err_from_is_err_and c.from_residual.result c.from_residual.ensures.1 in
    let old = spot g.W.World c.args.world.now c.args.state.now in
    let new = spot g.W.World c.copy_into.new.world c.copy_into.new.state in
    rw (p.1, p.2) (erased_never old c.args.words.now c.args.line.now c.args.file.now c.requires.file new c.in_err-copy_into.field-0.0 c.in_err-copy_into.ensures.acts)

pub erase_input-requires-clause-usable : goal.erase_input-requires-clause-usable
erase_input-requires-clause-usable g c = c.in_ok-copy_into.ensures.acts.usable c.requires.usable

pub erase_input-requires-clause-moment : goal.erase_input-requires-clause-moment
erase_input-requires-clause-moment g c = moment_kept c.args.state.now c.copy_into.new.state c.copy_into.ensures.kept c.requires.moment

pub returns-in-Done-clause-acts : goal.returns-in-Done-clause-acts
returns-in-Done-clause-acts g c =
    let old = spot g.W.World c.args.world.now c.args.state.now in
    let mid = spot g.W.World c.copy_into.new.world c.copy_into.new.state in
    let new = spot g.W.World c.erase_input.new.world c.erase_input.new.state in
    erased_behind old c.args.words.now c.args.line.now c.args.file.now c.requires.file mid new c.in_ok-copy_into.field-0 c.erase_input.result
    c.in_ok-copy_into.ensures.acts c.in-Done.is c.erase_input.ensures.acts

pub returns-in-Done-clause-kept : goal.returns-in-Done-clause-kept
returns-in-Done-clause-kept g c = kept_then c.args.state.now c.copy_into.new.state c.erase_input.new.state c.copy_into.ensures.kept c.erase_input.ensures.kept

pub returns-in-Stopped-clause-acts : goal.returns-in-Stopped-clause-acts
returns-in-Stopped-clause-acts g c =
    let old = spot g.W.World c.args.world.now c.args.state.now in
    let new = spot g.W.World c.copy_into.new.world c.copy_into.new.state in
    erased_stopped old c.args.words.now c.args.line.now c.args.file.now c.requires.file new c.in_ok-copy_into.field-0 c.in-Stopped.course
    c.in_ok-copy_into.ensures.acts c.in-Stopped.is
