use Rattle.std.proofs.Common.{◌≡◌}
use Rattle.cms_search.specs.Calls.{spot, spot_with, IsUsable}
use Rattle.cms_ext.specs.Objects.{objects_of}
use Rattle.cms_session.specs.Calls.{rounds_tree}
use Rattle.cms_session.proofs.Plays.{Going}
use Rattle.cms_session.proofs.session.run_lines.Given as goal

abbrev pub invariant-loop-finish : goal.invariant-loop-finish
invariant-loop-finish g l = record {
  going : Going (objects_of (λ k. (g.dyn-1.0.entry k).1) l.initial.extensions) (objects_of (λ k. (g.dyn-1.0.entry k).1) l.extensions)
      (spot_with g.W.World l.initial.world l.initial.session.state (objects_of (λ k. (g.dyn-1.0.entry k).1) l.initial.extensions))
      (spot_with g.W.World l.world l.session.state (objects_of (λ k. (g.dyn-1.0.entry k).1) l.extensions))
      l.session.reader l.session.procedures (rounds_tree l.initial.session (objects_of (λ k. (g.dyn-1.0.entry k).1) l.initial.extensions));
  usable : IsUsable (spot g.W.World l.world l.session.state);
  offset : l.session.state.offset ≡ l.initial.session.state.offset;
}

abbrev pub decreases-loop-finish : goal.decreases-loop-finish
decreases-loop-finish g l = l.session.state.left
