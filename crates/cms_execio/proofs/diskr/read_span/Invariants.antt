use Rattle.std.proofs.Common.{[]}
use Rattle.cms_disk.specs.Cursors.{Cursor}
use Rattle.cms_world.specs.Seen.{seen}
use Rattle.cms_execio.proofs.Takings.{ReadTo, TakenSoFar}
use Rattle.cms_execio.proofs.diskr.read_span.Given as goal

abbrev pub invariant-loop-nth : goal.invariant-loop-nth
invariant-loop-nth g l = (first : Cursor) → ReadTo (seen g.W.World l.initial.world) (seen g.W.World l.initial.world) first l.initial.cursor l.behind
    → ReadTo (seen g.W.World l.initial.world) (seen g.W.World l.world) first l.cursor l.nth
    × (TakenSoFar l.line l.span.front (seen g.W.World l.initial.world) (seen g.W.World l.initial.world) first l.initial.cursor l.behind []
    → TakenSoFar l.line l.span.front (seen g.W.World l.initial.world) (seen g.W.World l.world) first l.cursor l.nth l.lines)
