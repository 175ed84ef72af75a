use Rattle.exec2_run.proofs.Places.{one_more}
use Rattle.exec2_run.proofs.loop_passes.drop_first.Goals as goal

pub loop-preserved : goal.loop-preserved
loop-preserved c = one_more c.loop.counter c.args.loops.now _ _ c.pop.result c.loop.invariant c.pop.ensures
