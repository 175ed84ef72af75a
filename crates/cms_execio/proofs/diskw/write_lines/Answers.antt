use Rattle.std.proofs.Common.{arith}
use Rattle.std.proofs.lemmas.Result.{err_from_is_err_and}
use Rattle.cms_search.specs.Calls.{spot}
use Rattle.cms_execio.proofs.Written.{stays_written, writes_lines, writes_none, writes_spent, writes_stop}
use Rattle.cms_execio.proofs.diskw.write_lines.Goals as goal

-- none is wanted
pub returns-then-target-eq0-clause-acts : goal.returns-then-target-eq0-clause-acts
returns-then-target-eq0-clause-acts g c = λ shelf. writes_none (spot g.W.World c.args.world.now c.args.state.now) c.args.target.now c.args.text shelf c.if-target-eq0.true

-- asking was cut off
pub returns-in_err-lines-clause-acts : goal.returns-in_err-lines-clause-acts
returns-in_err-lines-clause-acts g c = λ shelf.
    let p = err_from_is_err_and c.from_residual.result c.from_residual.ensures.1 in
    rw (p.1, p.2)
    (writes_stop (spot g.W.World c.args.world.now c.args.state.now) c.args.target.now c.args.text shelf c.if-target-eq0.false
    (spot g.W.World c.lines_for.new.world c.lines_for.new.state) c.in_err-lines.field-0.0 c.in_err-lines.ensures.acts)

-- they are written
pub returns-in-All-clause-acts : goal.returns-in-All-clause-acts
returns-in-All-clause-acts g c = λ shelf.
    writes_lines (spot g.W.World c.args.world.now c.args.state.now) c.args.target.now c.args.text shelf c.if-target-eq0.false
    (spot g.W.World c.lines_for.new.world c.lines_for.new.state) (spot g.W.World c.write_all.new.world c.write_all.new.state) c.in_ok-lines.field-0 c.in-All.lines c.write_all.result
    c.in_ok-lines.ensures.acts c.in-All.is c.write_all.ensures.acts

pub returns-in-All-clause-kept : goal.returns-in-All-clause-kept
returns-in-All-clause-kept g c = stays_written c.args.state.now c.lines_for.new.state c.write_all.new.state c.lines_for.ensures.kept c.write_all.ensures.kept

-- no turn is left for one of them
pub returns-in-Spent-clause-acts : goal.returns-in-Spent-clause-acts
returns-in-Spent-clause-acts g c = λ shelf.
    writes_spent (spot g.W.World c.args.world.now c.args.state.now) c.args.target.now c.args.text shelf c.if-target-eq0.false
    (spot g.W.World c.lines_for.new.world c.lines_for.new.state) c.in_ok-lines.field-0 c.in_ok-lines.ensures.acts c.in-Spent.is

pub write_all-requires-clause-some : goal.write_all-requires-clause-some
write_all-requires-clause-some g c =
    let all = c.in_ok-lines.ensures.all c.in-All.lines c.in-All.is in
    let some = c.if-target-eq0.false in
    omega (arith, all, some)
