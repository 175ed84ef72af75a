-- The calls of a world in memory, and those that are to fail.
use Rattle.std.specs.Prelude.{◌≡◌, ◌⊎◌, ℕ, ◌+◌, Bool, List, [], ◌∷◌, ◌++◌, length, reverse, find, ◌==◌, Option, None, Some, option_map}
use Rattle.cms_world.specs.declared.plan.Plan.{Plan}
use Rattle.cms_world.specs.declared.plan.Planned.{Planned}
use Rattle.cms_world.specs.declared.plan.Next.{Next}
use Rattle.cms_world.specs.declared.plan.Next.TheVariants.{Goes, Fails}

-- what is planned of the call with this number: it is to fail, and a write of it lands or doesn't. What was said last holds
abbrev pub planned_of : List Planned → ℕ → Option Bool
planned_of failing number = option_map (λ p. p.lands) (find (λ p. p.call == number) (reverse failing))

-- the number of the next call, from 1
abbrev pub next_number : Plan → ℕ
next_number plan = length plan.calls.items + 1

-- the call was written down by its letter, and this was planned of it
pub record IsPlanned (letter : ℕ) (old new : Plan) (plan : Option Bool) : Type 0 where
  pub called : new.calls.items ≡ old.calls.items ++ letter ∷ []
  pub planned : planned_of old.failing.items (next_number old) ≡ plan

-- what comes of a call by the plan; one that finds no memory for its letter fails
abbrev pub IsNext : ℕ → Plan → Plan → Next → Type 0
IsNext letter old new Goes = IsPlanned letter old new None
IsNext letter old new Fails =
    ((lands : Bool) × IsPlanned letter old new (Some lands)) ⊎ (new.calls.items ≡ old.calls.items)
