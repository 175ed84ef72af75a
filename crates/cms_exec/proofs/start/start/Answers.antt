use Rattle.std.proofs.Common.{refl, arith}
use Rattle.cms_search.specs.Calls.{spot}
use Rattle.cms_exec.proofs.Starts.{limit_kept, limit_reached}
use Rattle.cms_exec.proofs.start.start.Goals as goal

pub returns-then-running-ge-MOST_RUNNING : goal.returns-then-running-ge-MOST_RUNNING
returns-then-running-ge-MOST_RUNNING g c =
    let s = c.args.state.now in
    limit_reached (spot g.W.World c.args.world.now s) (spot g.W.World c.refuse_limit.new.world s) c.args.running c.args.called.now c.args.found.now.file c.refuse_limit.result c.refused.result
    (omega arith) c.refuse_limit.ensures.does c.refuse_limit.ensures.went refl c.refused.ensures

pub returns : goal.returns
returns g c =
    let s = c.args.state.now in
    limit_kept (spot g.W.World c.args.world.now s) (spot g.W.World c.read_found.new.world s) c.args.running c.args.called.now c.args.found.now.file c.read_found.result (omega arith)
    c.read_found.ensures
