use Rattle.std.proofs.Common.{◌≡◌, ◌+◌, length}
use Rattle.std.specs.Prelude.{nat_eq, position}
use Rattle.std.specs.List.{starts_with}
use Rattle.std.specs.Option.{option_map_or}
use Rattle.exec2_funcs.specs.Values.{location_of, rests}
use Rattle.exec2_funcs.proofs.bytes.location.Given as goal

abbrev pub invariant-loop-rest : goal.invariant-loop-rest
invariant-loop-rest l = record {
  sum : l.place + length l.rest ≡ length l.text + 1;
  found : option_map_or (λ place. place + l.place) (position (λ rest. starts_with nat_eq rest l.part) (rests l.rest)) 0 ≡ location_of l.part l.text;
}

abbrev pub decreases-loop-rest : goal.decreases-loop-rest
decreases-loop-rest l = length l.rest
