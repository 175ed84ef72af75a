-- Traces of a machine, and what one says of a unit between two bytes.
use Rattle.std.specs.Prelude.{◌≡◌, ◌⊎◌, ℕ, suc, ◌-◌, ◌<◌, ◌≤◌, List, [], ◌∷◌, ◌++◌, if◌then◌else◌, ◌==◌, length, Option, Some, None, ⊤}
use Rattle.cms_model.specs.Minidisks.{State}
use Rattle.cms_model.specs.Slots.{Slot, set_of, IsAmong}
use Rattle.cms_model.specs.Steps.{Step, Outcome, unit_of, new_slot}

-- bytes were typed; a turn was spent; from here on the unit of this number has one of these states
pub data TraceItem : Type 0 where
  Shown : List ℕ → TraceItem
  Spent : TraceItem
  States : ℕ → List State → TraceItem

-- the bytes of a trace
abbrev pub bytes_of : List TraceItem → List ℕ
bytes_of [] = []
bytes_of (Shown b ∷ tr) = b ++ bytes_of tr
bytes_of (Spent ∷ tr) = bytes_of tr
bytes_of (States u set ∷ tr) = bytes_of tr

-- the number of its turns
abbrev pub turns_of : List TraceItem → ℕ
turns_of [] = 0
turns_of (Shown b ∷ tr) = turns_of tr
turns_of (Spent ∷ tr) = suc (turns_of tr)
turns_of (States u set ∷ tr) = turns_of tr

-- the set of a unit's new slot, where there is one, for the trace
abbrev pub states_in : ℕ → Option Slot → List TraceItem
states_in u None = []
states_in u (Some slot) = States u (set_of slot) ∷ []

-- what a step adds to the trace: the set of the new slot, where the unit isn't as before
abbrev pub added : Step → Outcome → List TraceItem
added s o = states_in (unit_of s) (new_slot s o)

-- the unit's last set, with this one before the trace
abbrev pub last_set : ℕ → List State → List TraceItem → List State
last_set u set [] = set
last_set u set (Shown b ∷ tr) = last_set u set tr
last_set u set (Spent ∷ tr) = last_set u set tr
last_set u set (States v new ∷ tr) = last_set u (if v == u then new else set) tr

-- one state
abbrev pub IsOne : List State → Type 0
IsOne set = (x : State) × (set ≡ x ∷ [])

-- each of the unit's sets in the trace is of one state
abbrev pub AreOnes : ℕ → List TraceItem → Type 0
AreOnes u [] = ⊤
AreOnes u (Shown b ∷ tr) = AreOnes u tr
AreOnes u (Spent ∷ tr) = AreOnes u tr
AreOnes u (States v set ∷ tr) = (v ≡ u → IsOne set) × AreOnes u tr

-- x is in one of the unit's sets that stand after the t-th byte of the trace and before the next, or in the last before them
abbrev pub At : List TraceItem → ℕ → ℕ → List State → State → Type 0
At [] t u set x = IsAmong x set
At (Shown b ∷ tr) t u set x = ((t < length b) × IsAmong x set) ⊎ ((length b ≤ t) × At tr (t - length b) u set x)
At (Spent ∷ tr) t u set x = At tr t u set x
At (States v new ∷ tr) t u set x = ((t ≡ 0) × IsAmong x set) ⊎ At tr t u (if v == u then new else set) x

-- the same with a second mark: after both the t-th byte and the n-th turn, and before the next byte and the next turn
abbrev pub Within : List TraceItem → ℕ → ℕ → ℕ → List State → State → Type 0
Within [] t n u set x = IsAmong x set
Within (Shown b ∷ tr) t n u set x = ((t < length b) × (n ≡ 0) × IsAmong x set) ⊎ ((length b ≤ t) × Within tr (t - length b) n u set x)
Within (Spent ∷ tr) t n u set x = ((n ≡ 0) × (t ≡ 0) × IsAmong x set) ⊎ ((k : ℕ) × (n ≡ suc k) × Within tr t k u set x)
Within (States v new ∷ tr) t n u set x = ((t ≡ 0) × (n ≡ 0) × IsAmong x set) ⊎ Within tr t n u (if v == u then new else set) x
