-- What a call does that only talks: it takes lines of the console, types and asks the clock.
use Rattle.std.specs.Prelude.{◌≡◌, ℕ, ◌+◌, ◌≤◌, Bool, ◌||◌, List, ◌++◌, length, All, Result, IfErr, ⊤}
use Rattle.cms_journal.specs.declared.event.Event.{Event}
use Rattle.cms_journal.specs.Causes.{Rose}
use Rattle.cms_journal.specs.Told.{Told, Idle, is_over, plus, script}
use Rattle.cms_model.specs.Slots.{Slot}
use Rattle.cms_model.specs.Items.{Item, Text, Bad, Long, Rest, Goes, extended, items}
use Rattle.cms_model.specs.Acts.{Act}
use Rattle.cms_model.specs.Objects.{Object}
use Rattle.cms_model.specs.Points.{Point}
use Rattle.cms_line.specs.ConsoleState.{Console}
use Rattle.cms_search.specs.Asks as asking
use Rattle.cms_world.specs.Seen.{Seen}
use Rattle.cms_search.specs.Calls.{Meaning, Plays, machine_of}
use Rattle.cms_search.specs.Machine.{Machine}
use Rattle.cms_search.specs.declared.asked_line.Asked.{Asked}
use Rattle.cms_search.specs.declared.asked_line.Asked.TheVariants.{Given, Spent}
use Rattle.cms_search.specs.declared.asked_line.NoLine.{NoLine}
use Rattle.cms_search.specs.declared.asked_line.NoLine.TheVariants as no
use Rattle.cms_search.specs.declared.state.State.{State}
use Rattle.cms_search.specs.declared.state.End.{End}
use Rattle.cms_search.specs.declared.state.End.TheVariants.{Edge}

-- where a run stands with this journal, this console, so many device faults, these units and these objects
abbrev pub standing : Told → Console → ℕ → List Slot → List Object → Point
standing told console faults units objects = record {
  journal = told;
  faults = faults;
  units = units;
  unread = console.unread;
  ended = console.ended;
  objects = objects;
}

-- what is said of a call that takes lines of the console, types and asks the clock, and touches no
-- unit
pub record Talks {R T : Type 0} (before now : Seen) (was is : Console) (t : Act R) (r : Result T End) (done : T → R) : Type 0 where
  -- on whichever units and beside whichever objects, and whichever the count of faults, it did its tree, or was cut off in it
  pub each : (faults : ℕ) (units : List Slot) (objects : List Object)
      → Plays (standing before.told was faults units objects) (standing now.told is faults units objects) t r done
  -- nothing happened to any unit
  pub idle : Idle before.told now.told
  pub faults : now.faults ≡ before.faults
  -- the other count hasn't fallen, and rose where the call was cut off at an edge
  pub edges : before.edges ≤ now.edges
  pub cause : IfErr r (λ e. e ≡ Edge → Rose before.edges now.edges)

-- ---- an ask

-- the item of the console that isn't a line
abbrev pub item_in : NoLine → Item
item_in no.Bad = Bad
item_in no.Long = Long
item_in no.Rest = Rest

-- the machine with these stacked lines, and so many turns left
abbrev pub with_lines : Machine → List (List ℕ) → ℕ → Machine
with_lines s stack left = record s { stack = stack; left = left }

-- an item that isn't a line
abbrev pub IsNoLine : Item → Type 0
IsNoLine (Text line) = ⊥
IsNoLine item = ⊤

-- of what was read only these items are gone, none of them a line, each for a turn that was spent; all behind them is unread still
pub record KeepsRead (old new : Told) (was now : Console) (left left' : ℕ) : Type 0 where
  pub events : List Event
  pub told : new ≡ plus old events
  pub dropped : List Item
  pub no_lines : All IsNoLine dropped
  pub turns : left' + length dropped ≡ left
  pub unread : (more : List ℕ) (e : Bool) → Goes now.ended more e
      → items (extended (extended was.unread (script events)) more) e ≡ dropped ++ items (extended now.unread more) e
  pub over : now.ended ≡ (was.ended || is_over events)

-- what an ask came to, with the machine that is left
abbrev pub asked_in : Machine → Asked → asking.Asked
asked_in s (Given line) = asking.Given s line
asked_in s Spent = asking.Spent

-- ---- an ask of the session's state

-- an ask, on the machine with these units
abbrev pub ask_tree : State → List Slot → Act asking.Asked
ask_tree s units = asking.ask (machine_of s units)

-- what an ask comes to, with the state that it leaves
abbrev pub asked_of : State → Meaning Asked asking.Asked
asked_of s units x = asked_in (machine_of s units) x
