-- What a recorder keeps of a journal.
use Rattle.std.specs.Prelude.{◌≡◌, ℕ, ◌-◌, ◌<◌, ◌≤◌, List, [], length, slice_index_or, ⊤}
use Rattle.cms_journal.specs.Journal.{HasUnit, HasBlock, start_of, block_after, contents, IsUntouched, typed_of}
use Rattle.cms_journal.specs.declared.event.Event.{Event}
use Rattle.cms_journal.specs.declared.event.Event.TheVariants.{Typed, Wrote, Synced}
use Rattle.cms_journal.specs.declared.event.Attached.{Attached}

-- an event that is no write and isn't typed, of an attached unit or of none
abbrev pub MayHappen : List Attached → Event → Type 0
MayHappen units (Wrote v k bytes) = ⊥
MayHappen units (Synced v) = HasUnit units v
MayHappen units (Typed bytes) = ⊥
MayHappen units event = ⊤

-- each block of a unit has the unit's block size
abbrev pub AreSized : List Attached → List Event → Type 0
AreSized units events = (u k size : ℕ) → HasBlock units u k size → length
    (block_after events u k (slice_index_or (start_of units u) (k - 1) [])) ≡ size

-- the blocks that are kept of each unit are its contents
abbrev pub AreCurrent : List Attached → List (List (List ℕ)) → List Event → Type 0
AreCurrent units current events = (u : ℕ) → u < length units → slice_index_or current u [] ≡ contents events u (start_of units u)

-- nothing happened to units that are to come
abbrev pub AreToCome : List Attached → List Event → Type 0
AreToCome units events = (u : ℕ) → length units ≤ u → IsUntouched events u

-- the units with the blocks that are kept of each, the events, the newest first, and what was typed
pub record IsRecord (units : List Attached) (current : List (List (List ℕ))) (events : List Event) (typed : List ℕ) : Type 0 where
  pub same_length : length current ≡ length units
  pub current_is : AreCurrent units current events
  pub sized : AreSized units events
  pub to_come : AreToCome units events
  pub typed_is : typed ≡ typed_of events
