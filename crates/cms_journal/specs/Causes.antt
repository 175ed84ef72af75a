-- The counts that failed calls raise.
use Rattle.std.specs.Prelude.{ℕ, ◌+◌, ◌-◌, ◌^◌, ◌≤◌, ◌⊎◌, min, Result, OnErr}

-- a count rose in a call: it is greater than before, or stands at the last value of a counter
abbrev pub Rose : ℕ → ℕ → Type 0
Rose before now = min (before + 1) (2 ^ 64 - 1) ≤ now

-- the count hasn't fallen, and a failure raised it
pub record HasCause {T E : Type 0} (before now : ℕ) (result : Result T E) : Type 0 where
  pub later : before ≤ now
  pub failed : OnErr result (Rose before now)

-- the count hasn't fallen, and rose by n at least or stands at the last value of a counter
pub record Counted (before n now : ℕ) : Type 0 where
  pub later : before ≤ now
  pub rose : (before + n ≤ now) ⊎ (2 ^ 64 - 1 ≤ now)
