use Rattle.std.proofs.Common.{◌≡◌, ◌≤◌, ◌-◌, drop, length}
use Rattle.cms_search.specs.Calls.{Comes, spot}
use Rattle.cms_execio.specs.AskedLines.{asking_tree}
use Rattle.cms_execio.proofs.Asks.{tree_of}
use Rattle.cms_execio.proofs.asked_lines.ask_lines.Given as goal

abbrev pub invariant-loop-asked : goal.invariant-loop-asked
invariant-loop-asked g l = record {
  comes : Comes (spot g.W.World l.initial.world l.initial.state) (spot g.W.World l.world l.state) (asking_tree l.initial.state l.count) (tree_of l.state (l.count - l._asked) l.lines);
  kept : l.state ≡ record l.initial.state { stack = l.state.stack; console = l.state.console; left = l.state.left };
  stack : l.state.stack ≡ drop l._asked l.initial.state.stack;
  left : l.state.left ≤ l.initial.state.left;
  few : length l.lines ≡ l._asked;
}
