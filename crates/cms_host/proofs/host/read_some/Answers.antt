use Rattle.cms_host.proofs.Exits.{counts_down}
use Rattle.cms_host.proofs.host.read_some.Goals as goal

pub loop-init : goal.loop-init
loop-init g c = tt

pub returns-in-Err-2 : goal.returns-in-Err-2
returns-in-Err-2 g c = tt

pub loop-preserved : goal.loop-preserved
loop-preserved g c = tt

pub returns : goal.returns
returns g c = tt

pub loop-smaller : goal.loop-smaller
loop-smaller g c = counts_down _ c.loop.counter c.loop-test.true
