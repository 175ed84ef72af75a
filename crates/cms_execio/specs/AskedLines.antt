-- Lines that are asked for, as a call does it.
use Rattle.std.specs.Prelude.{◌≡◌, ◌≤◌, ℕ, List, [], drop}
use Rattle.cms_model.specs.Acts.{Act}
use Rattle.cms_model.specs.Slots.{Slot}
use Rattle.cms_search.specs.Calls.{Meaning, machine_of}
use Rattle.cms_search.specs.Machine.{Machine}
use Rattle.cms_search.specs.declared.state.State.{State}
use Rattle.cms_execio.specs.Diskw as writing
use Rattle.cms_execio.specs.declared.asked_lines.AskedLines.{AskedLines}
use Rattle.cms_execio.specs.declared.asked_lines.AskedLines.TheVariants.{All, Spent}

-- so many lines are asked for, on the machine with these units
abbrev pub asking_tree : State → ℕ → List Slot → Act writing.AskedLines
asking_tree s count units = writing.asking_lines count [] (machine_of s units)

-- what asking came to, with the machine that is left
abbrev pub asked_in : Machine → AskedLines → writing.AskedLines
asked_in s (All lines) = writing.All s lines
asked_in s Spent = writing.Spent

-- the lines that were given, or that the turns are spent, with the state that is left
abbrev pub asked_lines_of : State → Meaning AskedLines writing.AskedLines
asked_lines_of s units x = asked_in (machine_of s units) x

-- of a stack only lines at its front are gone, so many at most
abbrev pub TakesFront : ℕ → List (List ℕ) → List (List ℕ) → Type 0
TakesFront most was now = (n : ℕ) × (n ≤ most) × (now ≡ drop n was)
