use Rattle.exec2_run.specs.Given.{bound}
use Rattle.exec2_run.proofs.Tails.{does_as, call_is}
use Rattle.exec2_run.proofs.exec.ExecState.call.Goals as goal

pub returns : goal.returns
returns c = does_as _ _ _ _ _
    (call_is c.args.self.now (bound c.seen.result) c.args.words.now c.as_slice.result.now c.label-item.result c.in_ok-operands.operands c.seen.ensures
    c.in_ok-operands.ensures c.as_slice.ensures c.in-len1-up.len_at_least c.label-item.is) c.call_at.ensures
