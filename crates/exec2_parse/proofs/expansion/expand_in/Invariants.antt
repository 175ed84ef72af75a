use Rattle.std.proofs.Common.{◌≡◌, ◌≤◌, ◌+◌, length}
use Rattle.exec2_parse.specs.Expansion.{ampersands, expanded, expanded_before}
use Rattle.exec2_parse.proofs.expansion.expand_in.Given as goal

abbrev pub invariant-loop-front : goal.invariant-loop-front
invariant-loop-front g l = record {
  short : length l.left + length l.value ≤ 255;
  same : expanded_before (ampersands l.left) (g.S.Scope.binding l.scope) l.left l.value ≡ expanded (g.S.Scope.binding l.scope) l.word;
}

abbrev pub decreases-loop-front : goal.decreases-loop-front
decreases-loop-front g l = length l.left
