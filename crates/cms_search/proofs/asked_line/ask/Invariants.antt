use Rattle.std.proofs.Common.{◌≡◌, ◌≤◌, []}
use Rattle.cms_world.specs.Seen.{seen}
use Rattle.cms_search.specs.Talks.{KeepsRead}
use Rattle.cms_search.proofs.Talks.{IsDue}
use Rattle.cms_search.proofs.asked_line.ask.Given as goal

abbrev pub invariant-loop-line : goal.invariant-loop-line
invariant-loop-line g l = record {
  due : IsDue (seen g.W.World l.initial.world) (seen g.W.World l.world) l.initial.console l.console l.initial.left l.left;
  kept : KeepsRead (g.W.World.told l.initial.world) (g.W.World.told l.world) l.initial.console l.console l.initial.left l.left;
  none : l.stack ≡ [];
  first : l.initial.stack ≡ [];
  less : l.left ≤ l.initial.left;
}

abbrev pub decreases-loop-line : goal.decreases-loop-line
decreases-loop-line g l = l.left
