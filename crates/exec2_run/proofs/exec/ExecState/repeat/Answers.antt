use Rattle.exec2_run.specs.Given.{bound}
use Rattle.exec2_run.proofs.Tails.{does_as, loop_is}
use Rattle.exec2_run.proofs.exec.ExecState.repeat.Goals as goal

pub returns : goal.returns
returns c = does_as _ _ _ _ _
    (loop_is c.args.self.now (bound c.seen.result) c.args.words.now c.in_ok-first.first.value c.bytes.result.now c.in_ok-first.first.behind.now c.seen.ensures
    c.in_ok-first.ensures c.bytes.ensures.bytes) c.repeat_range.ensures
