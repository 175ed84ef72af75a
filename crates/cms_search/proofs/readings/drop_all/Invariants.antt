use Rattle.std.proofs.Common.{◌≡◌, ◌++◌, length, map, take, drop}
use Rattle.std.specs.Prelude.{option_map}
use Rattle.cms_search.specs.Tables.{unread_seat}
use Rattle.cms_search.proofs.readings.drop_all.Given as goal

abbrev pub invariant-loop-letter : goal.invariant-loop-letter
invariant-loop-letter l = record {
  long : length l.seats.items ≡ length l.initial.seats.items;
  done : l.seats.items ≡ map (λ x. option_map unread_seat x) (take l.letter l.initial.seats.items) ++ drop l.letter l.initial.seats.items;
}
