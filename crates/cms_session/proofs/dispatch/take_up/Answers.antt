use Rattle.std.proofs.Common.{Option, ap}
use Rattle.std.specs.Option.{option_map}
use Rattle.std.proofs.lemmas.Result.{err_from_is_err_and}
use Rattle.cms_search.specs.Calls.{machine_of}
use Rattle.cms_search.proofs.Acts.{comes_none, no_memory}
use Rattle.cms_exec.specs.Exec.{call_command}
use Rattle.cms_exec.specs.declared.search.FoundProcedure.{FoundProcedure}
use Rattle.exec2_run.specs.declared.exec.FileName.{FileName}
use Rattle.cms_world.specs.Seen.{seen}
use Rattle.cms_session.specs.RoundCalls.{take_up_tree}
use Rattle.cms_session.proofs.Alone.{standing}
use Rattle.cms_session.proofs.Requests.{call_off, call_so, command_taken, procedure_taken}
use Rattle.cms_session.proofs.dispatch.take_up.Goals as goal

abbrev files : Option FoundProcedure → Option FileName
files x = option_map (λ (f : FoundProcedure). f.file) x

pub run_called-requires-clause-there : goal.run_called-requires-clause-there
run_called-requires-clause-there g c = c.in-Some.ensures.there

pub returns-in_err-words-clause-acts : goal.returns-in_err-words-clause-acts
returns-in_err-words-clause-acts g c =
    let p = err_from_is_err_and c.from_residual.result c.from_residual.ensures.1 in
    rw (p.1, p.2) (no_memory _ _ _ _ _ (comes_none _ _))

pub returns-in_err-started-in-Some-clause-acts : goal.returns-in_err-started-in-Some-clause-acts
returns-in_err-started-in-Some-clause-acts g c =
    let p = err_from_is_err_and c.from_residual-in_err-started-in-Some.result c.from_residual-in_err-started-in-Some.ensures.1 in
    let s = c.args.state.now in
    let value = c.as_slice.ensures in
    let finds = rw value at c.find_called.ensures.procedure in
    rw (p.1, p.2) (call_off _ c.args.reader.now _ _ (take_up_tree s _ c.args.reader.now c.args.running c.args.line.now)
    (λ units. call_command c.args.running (machine_of s units) c.args.line.now c.in_ok-words.words c.in-Some.found.file)
    (procedure_taken _ (standing _ (seen g.W.World c.args.world.now) s) c.args.reader.now c.args.running c.args.line.now c.in_ok-words.words (files c.find_called.result) c.in_ok-words.ensures finds c.in-Some.found.file (ap files c.in-Some.is))
    _ c.in_err-started-in-Some.ensures)

pub returns-in-Some-clause-acts : goal.returns-in-Some-clause-acts
returns-in-Some-clause-acts g c =
    let s = c.args.state.now in
    let value = c.as_slice.ensures in
    let finds = rw value at c.find_called.ensures.procedure in
    call_so _ c.args.reader.now _ _ (take_up_tree s _ c.args.reader.now c.args.running c.args.line.now)
    (λ units. call_command c.args.running (machine_of s units) c.args.line.now c.in_ok-words.words c.in-Some.found.file)
    (procedure_taken _ (standing _ (seen g.W.World c.args.world.now) s) c.args.reader.now c.args.running c.args.line.now c.in_ok-words.words (files c.find_called.result) c.in_ok-words.ensures finds c.in-Some.found.file (ap files c.in-Some.is))
    _ _ c.in_ok-started-in-Some.ensures c.called.ensures

pub returns-clause-acts : goal.returns-clause-acts
returns-clause-acts g c =
    let s = c.args.state.now in
    let value = c.as_slice.ensures in
    let finds = rw value at c.find_called.ensures.procedure in
    command_taken _ (standing _ (seen g.W.World c.args.world.now) s) c.args.reader.now c.args.running c.args.line.now c.in_ok-words.words (files c.find_called.result) c.in_ok-words.ensures finds _ _ _ _ (ap files c.in-None.is)
    c.obey.ensures.acts
