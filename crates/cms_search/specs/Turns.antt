-- What a turn does, as a part of the machine's run.
use Rattle.std.specs.Prelude.{ℕ, List}
use Rattle.cms_model.specs.Slots.{Slot}
use Rattle.cms_model.specs.Acts.{Act, Turn, Done}
use Rattle.cms_search.specs.Calls.{Meaning, machine_of}
use Rattle.cms_search.specs.Machine.{Machine, turned}
use Rattle.cms_search.specs.declared.state.State.{State}

-- a turn is spent, which leaves so many
abbrev pub turning_tree : State → ℕ → List Slot → Act Machine
turning_tree s left units = Turn (λ seconds. Done (turned (machine_of s units) left seconds))

-- the machine with this state
abbrev pub machine_now : {T : Type 0} → State → Meaning T Machine
machine_now s units x = machine_of s units
