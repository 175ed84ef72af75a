use Rattle.std.proofs.Common.{◌≤◌, arith}
use Rattle.cms_held.proofs.BlockWritten.{finishes_none, finishes_last, own_kept}
use Rattle.cms_held.proofs.block_writer.BlockWriter.finish.Goals as goal

pub returns-then-self-eq0-clause-writes : goal.returns-then-self-eq0-clause-writes
returns-then-self-eq0-clause-writes g c = λ es bytes marks s are.
    let unfilled = c.requires.unfilled in
    finishes_none (g.W.World.told c.args.world.now) c.args.self.now es bytes marks (tt {0}) c.requires.is c.requires.all (omega arith) (omega arith)

pub returns-then-self-eq0-clause-own : goal.returns-then-self-eq0-clause-own
returns-then-self-eq0-clause-own g c = own_kept (g.W.World.told c.args.world.now) c.args.self.now

pub returns-clause-writes : goal.returns-clause-writes
returns-clause-writes g c = λ es bytes marks s are.
    let some : 1 ≤ c.args.self.now.filled = omega arith in
    finishes_last (g.W.World.told c.args.world.now)
    (g.W.World.told c.flush.new.world) c.args.self.now c.flush.new.self es bytes marks c.flush.result c.requires.is c.requires.all c.requires.unfilled some s are
    (c.flush.ensures.writes es bytes marks s)
