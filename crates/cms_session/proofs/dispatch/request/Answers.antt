use Rattle.std.proofs.Common.{sym}
use Rattle.std.proofs.lemmas.Result.{err_from_is_err_and}
use Rattle.cms_search.specs.Calls.{machine_of}
use Rattle.cms_exec.specs.Exec.{exec_command}
use Rattle.cms_world.specs.Seen.{seen}
use Rattle.cms_session.specs.RoundCalls.{request_tree}
use Rattle.cms_session.proofs.Alone.{standing}
use Rattle.cms_session.proofs.Requests.{call_off, call_so, cards_off, cards_so, command_off, command_so, drop_off, drop_so, exec_asked, map_off, map_so, wordless}
use Rattle.cms_session.proofs.dispatch.request.Goals as goal

pub returns-in_default-clause-acts : goal.returns-in_default-clause-acts
returns-in_default-clause-acts g c =
    wordless _ (standing _ (seen g.W.World c.args.world.now) c.args.state.now) c.args.reader.now c.args.running c.args.line.now c.args.words.now (sym c.in_default.ensures)

pub returns-in_err-started-in-Exec-clause-acts : goal.returns-in_err-started-in-Exec-clause-acts
returns-in_err-started-in-Exec-clause-acts g c =
    let p = err_from_is_err_and c.from_residual.result c.from_residual.ensures.1 in
    let s = c.args.state.now in
    let value = c.bytes.ensures.bytes in
    let asked = rw value at c.request_of.ensures in
    rw (p.1, p.2) (call_off _ c.args.reader.now _ _ (request_tree s _ c.args.reader.now c.args.running c.args.line.now c.args.words.now)
    (λ units. exec_command c.args.running (machine_of s units) c.args.line.now c.args.words.now)
    (exec_asked _ (standing _ (seen g.W.World c.args.world.now) s) c.args.reader.now c.args.running c.args.line.now c.args.words.now c.in-Some.first.now (sym c.in-Some.ensures)
    c.request_of.result asked c.in-Exec.is)
    _ c.in_err-started-in-Exec.ensures)

pub returns-in_ok-started-in-Exec-clause-acts : goal.returns-in_ok-started-in-Exec-clause-acts
returns-in_ok-started-in-Exec-clause-acts g c =
    let s = c.args.state.now in
    let value = c.bytes.ensures.bytes in
    let asked = rw value at c.request_of.ensures in
    call_so _ c.args.reader.now _ _ (request_tree s _ c.args.reader.now c.args.running c.args.line.now c.args.words.now)
    (λ units. exec_command c.args.running (machine_of s units) c.args.line.now c.args.words.now)
    (exec_asked _ (standing _ (seen g.W.World c.args.world.now) s) c.args.reader.now c.args.running c.args.line.now c.args.words.now c.in-Some.first.now (sym c.in-Some.ensures)
    c.request_of.result asked c.in-Exec.is)
    _ _ c.in_ok-started-in-Exec.ensures c.called.ensures

pub returns-in_err-course-in-Nucxdrop-clause-acts : goal.returns-in_err-course-in-Nucxdrop-clause-acts
returns-in_err-course-in-Nucxdrop-clause-acts g c =
    let p = err_from_is_err_and c.from_residual-in_err-course-in-Nucxdrop.result c.from_residual-in_err-course-in-Nucxdrop.ensures.1 in
    let value = c.bytes.ensures.bytes in
    let asked = rw value at c.request_of.ensures in
    rw (p.1, p.2) (drop_off _ (standing _ (seen g.W.World c.args.world.now) c.args.state.now) c.args.reader.now c.args.running c.args.line.now c.args.words.now c.in-Some.first.now
    (sym c.in-Some.ensures) _ _ c.request_of.result _ asked c.in-Nucxdrop.is c.in_err-course-in-Nucxdrop.ensures)

pub returns-in_ok-course-in-Nucxdrop-clause-acts : goal.returns-in_ok-course-in-Nucxdrop-clause-acts
returns-in_ok-course-in-Nucxdrop-clause-acts g c =
    let value = c.bytes.ensures.bytes in
    let asked = rw value at c.request_of.ensures in
    drop_so _ (standing _ (seen g.W.World c.args.world.now) c.args.state.now) c.args.reader.now c.args.running c.args.line.now c.args.words.now c.in-Some.first.now
    (sym c.in-Some.ensures) _ _ c.request_of.result _ asked c.in-Nucxdrop.is c.in_ok-course-in-Nucxdrop.ensures

pub returns-in_err-course-in-Nucxmap-clause-acts : goal.returns-in_err-course-in-Nucxmap-clause-acts
returns-in_err-course-in-Nucxmap-clause-acts g c =
    let p = err_from_is_err_and c.from_residual-in_err-course-in-Nucxmap.result c.from_residual-in_err-course-in-Nucxmap.ensures.1 in
    let value = c.bytes.ensures.bytes in
    let asked = rw value at c.request_of.ensures in
    rw (p.1, p.2) (map_off _ (standing _ (seen g.W.World c.args.world.now) c.args.state.now) c.args.reader.now c.args.running c.args.line.now c.args.words.now c.in-Some.first.now
    (sym c.in-Some.ensures) _ c.request_of.result _ asked c.in-Nucxmap.is c.in_err-course-in-Nucxmap.ensures)

pub returns-in_ok-course-in-Nucxmap-clause-acts : goal.returns-in_ok-course-in-Nucxmap-clause-acts
returns-in_ok-course-in-Nucxmap-clause-acts g c =
    let value = c.bytes.ensures.bytes in
    let asked = rw value at c.request_of.ensures in
    map_so _ (standing _ (seen g.W.World c.args.world.now) c.args.state.now) c.args.reader.now c.args.running c.args.line.now c.args.words.now c.in-Some.first.now
    (sym c.in-Some.ensures) _ c.request_of.result _ asked c.in-Nucxmap.is c.in_ok-course-in-Nucxmap.ensures

pub returns-in_err-course-in-Command-clause-acts : goal.returns-in_err-course-in-Command-clause-acts
returns-in_err-course-in-Command-clause-acts g c =
    let p = err_from_is_err_and c.from_residual-in_err-course-in-Command.result c.from_residual-in_err-course-in-Command.ensures.1 in
    let value = c.bytes.ensures.bytes in
    let asked = rw value at c.request_of.ensures in
    rw (p.1, p.2) (command_off _ (standing _ (seen g.W.World c.args.world.now) c.args.state.now) c.args.reader.now c.args.running c.args.line.now c.args.words.now c.in-Some.first.now
    (sym c.in-Some.ensures) _ c.request_of.result c.in-Command.command _ asked c.in-Command.is c.in_err-course-in-Command.ensures.acts)

pub returns-in_ok-course-in-Command-clause-acts : goal.returns-in_ok-course-in-Command-clause-acts
returns-in_ok-course-in-Command-clause-acts g c =
    let value = c.bytes.ensures.bytes in
    let asked = rw value at c.request_of.ensures in
    command_so _ (standing _ (seen g.W.World c.args.world.now) c.args.state.now) c.args.reader.now c.args.running c.args.line.now c.args.words.now c.in-Some.first.now
    (sym c.in-Some.ensures) _ c.request_of.result c.in-Command.command _ asked c.in-Command.is c.in_ok-course-in-Command.ensures.acts

pub returns-in_err-course-in-Cards-clause-acts : goal.returns-in_err-course-in-Cards-clause-acts
returns-in_err-course-in-Cards-clause-acts g c =
    let p = err_from_is_err_and c.from_residual-in_err-course-in-Cards.result c.from_residual-in_err-course-in-Cards.ensures.1 in
    let value = c.bytes.ensures.bytes in
    let asked = rw value at c.request_of.ensures in
    rw (p.1, p.2) (cards_off _ (standing _ (seen g.W.World c.args.world.now) c.args.state.now) c.args.reader.now c.args.running c.args.line.now c.args.words.now c.in-Some.first.now
    (sym c.in-Some.ensures) _ _ c.request_of.result c.in-Cards.command _ asked c.in-Cards.is c.in_err-course-in-Cards.ensures.acts)

pub returns-in_ok-course-in-Cards-clause-acts : goal.returns-in_ok-course-in-Cards-clause-acts
returns-in_ok-course-in-Cards-clause-acts g c =
    let value = c.bytes.ensures.bytes in
    let asked = rw value at c.request_of.ensures in
    cards_so _ (standing _ (seen g.W.World c.args.world.now) c.args.state.now) c.args.reader.now c.args.running c.args.line.now c.args.words.now c.in-Some.first.now
    (sym c.in-Some.ensures) _ _ c.request_of.result c.in-Cards.command _ asked c.in-Cards.is c.in_ok-course-in-Cards.ensures.acts
