use Rattle.std.proofs.Common.{◌≡◌, ◌++◌, length, take, drop}
use Rattle.std.specs.Prelude.{◌==◌}
use Rattle.cms_search.specs.Tables.{without}
use Rattle.cms_search.proofs.seated.vacate.Given as goal

abbrev pub invariant-loop-letter : goal.invariant-loop-letter
invariant-loop-letter l = record {
  long : length l.seats.items ≡ length l.initial.seats.items;
  done : l.seats.items ≡ without (λ s. s.letter.unit == l.unit) (take l.letter l.initial.seats.items) ++ drop l.letter l.initial.seats.items;
}
