use Rattle.std.proofs.Common.{rules}
use Rattle.cms_execio.proofs.Gathers.{repeated_next}
use Rattle.cms_execio.proofs.diskw.repeated.Goals as goal

pub loop-again-preserved : goal.loop-again-preserved
loop-again-preserved c = repeated_next c.loop-again._again c.args.text.now _ _ _ c.loop-again.invariant (search rules) c.in_ok-push.ensures.ok
