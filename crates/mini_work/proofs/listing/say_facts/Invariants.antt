use Rattle.mini_work.specs.Causes.{AreLater, on_world}
use Rattle.std.proofs.Common.{drop, map, ℕ}
use Rattle.cms_line.specs.Typed.{TypedTo}
use Rattle.mini_work.specs.Listing.{typed_lines}
use Rattle.mini_work.proofs.listing.say_facts.Given as goal

abbrev pub invariant-loop-line : goal.invariant-loop-line
invariant-loop-line g l = record {
  typed : TypedTo (g.W.World.told l.initial.world) (g.W.World.told l.world) (typed_lines (map (λ line. line.items) l.line-items))
      (typed_lines (drop l.line-index (map (λ line. line.items) l.line-items)));
  later : (n : ℕ) → AreLater (on_world g.W.World l.initial.world n) (on_world g.W.World l.world n);
}
