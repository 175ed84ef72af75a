use Rattle.std.proofs.Common.{sym}
use Rattle.exec2_run.specs.Given.{bound}
use Rattle.exec2_run.proofs.Tails.{does_as, range_is}
use Rattle.exec2_run.proofs.exec.ExecState.repeat_range.Goals as goal

pub returns : goal.returns
returns c = does_as _ _ _ _ _
    (range_is c.args.self.now (bound c.seen.result) c.args.range.now c.args.words.now c.in_ok-past.past c.in_ok-passes.passes c.seen.ensures (sym c.in_ok-past.ensures)
    c.in_ok-passes.ensures) c.open_loop.ensures
