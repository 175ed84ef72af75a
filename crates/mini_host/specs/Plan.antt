-- The calls of a host in memory, and those that are to fail.
use Rattle.std.specs.Prelude.{ℕ, ◌+◌, ◌-◌, ◌^◌, ◌==◌, min, Bool, List}
use Rattle.std.specs.List.{list_any}

-- a number that is counted on, as far as 64 bits count
abbrev pub next : ℕ → ℕ
next n = min (n + 1) (2 ^ 64 - 1)

-- the call with this number is to fail
abbrev pub is_planned : List ℕ → ℕ → Bool
is_planned failing number = list_any (λ call. call == number) failing
