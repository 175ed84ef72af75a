-- What a machine knows of a unit.
use Rattle.std.specs.Prelude.{◌≡◌, ◌⊎◌, ℕ, List, [], ◌∷◌, Option, option_map, slice_get}
use Rattle.std.specs.Option.{option_map_or}
use Rattle.cms_model.specs.Minidisks.{State}

-- the state before an update, or the one after it
pub data Side : Type 0 where
  Before : Side
  After : Side

-- a unit is settled at a state, or in doubt between the state before an update and the one after it; the side says which of
-- the two its contents have, as the fault named it
pub data Slot : Type 0 where
  Settled : State → Slot
  Doubt : State → State → Side → Slot

-- the state of a side
abbrev pub named : State → State → Side → State
named before after Before = before
named before after After = after

-- the state that the unit's contents have
abbrev pub state_in : Slot → State
state_in (Settled state) = state
state_in (Doubt before after side) = named before after side

-- the same of the unit of this number, where it is there
abbrev pub unit_state : List Slot → ℕ → Option State
unit_state units u = option_map state_in (slice_get units u)

-- the states that a crash may leave
abbrev pub set_of : Slot → List State
set_of (Settled state) = state ∷ []
set_of (Doubt before after side) = before ∷ after ∷ []

-- the same of the unit of this number; a unit that isn't there has none
abbrev pub unit_set : List Slot → ℕ → List State
unit_set units u = option_map_or set_of (slice_get units u) []

-- the state is one of these
abbrev pub IsAmong : State → List State → Type 0
IsAmong x [] = ⊥
IsAmong x (y ∷ ys) = (x ≡ y) ⊎ IsAmong x ys
