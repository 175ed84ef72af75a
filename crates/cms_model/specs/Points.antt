-- Where a run stands.
use Rattle.std.specs.Prelude.{◌≡◌, ℕ, Bool, List, Some, None, slice_get}
use Rattle.cms_journal.specs.declared.event.Attached.{Attached}
use Rattle.cms_journal.specs.declared.event.Event.{Event}
use Rattle.cms_journal.specs.Journal.{Journal, IsCrashImage, contents_of}
use Rattle.cms_journal.specs.Told.{Told, plus}
use Rattle.cms_model.specs.Minidisks.{State}
use Rattle.cms_model.specs.Trees.{image_of}
use Rattle.cms_model.specs.Volumes.{disk_of, state_of}
use Rattle.cms_model.specs.Slots.{Slot, unit_set, unit_state, IsAmong}
use Rattle.cms_model.specs.Items.{Unread}
use Rattle.cms_model.specs.Objects.{Object}

-- a crash at this journal may leave the unit in this state
pub record LeavesIn (j : Journal) (u : ℕ) (x : State) : Type 0 where
  pub unit : Attached
  pub attached : slice_get j.units u ≡ Some unit
  pub image : List (List ℕ)
  pub crash : IsCrashImage j.events u unit.start image
  pub state : state_of (disk_of unit) (image_of image) ≡ x

-- nothing is said of a journal that isn't told
abbrev pub Leaves : Told → ℕ → State → Type 0
Leaves None u x = ⊥
Leaves (Some j) u x = LeavesIn j u x

-- at this journal the unit's contents have this state
pub record HasNowIn (j : Journal) (u : ℕ) (x : State) : Type 0 where
  pub unit : Attached
  pub attached : slice_get j.units u ≡ Some unit
  pub state : state_of (disk_of unit) (image_of (contents_of j u)) ≡ x

-- at a journal that may not be told; nothing is said of one that isn't
abbrev pub HasNow : Told → ℕ → State → Type 0
HasNow None u x = ⊥
HasNow (Some j) u x = HasNowIn j u x

-- the journal, the count of device faults, the machine's units, of the script what was read and not taken, and whether its end was
-- found, and the objects
pub record Point : Type 0 where
  pub journal : Told
  pub faults : ℕ
  pub units : List Slot
  pub unread : Unread
  pub ended : Bool
  pub objects : List Object

-- the same with these events added to the journal, the oldest first
abbrev pub with_events : Point → List Event → Point
with_events p es = record p { journal = plus p.journal es }

-- the same beside these objects
abbrev pub beside : List Object → Point → Point
beside objects p = record p { objects = objects }

-- a crash leaves each unit in a state of its set, and its contents have the state of its slot: that at which it is settled, or that
-- of the side of its doubt
pub record Sound (p : Point) : Type 0 where
  pub each : (u : ℕ) (x : State) → Leaves p.journal u x → IsAmong x (unit_set p.units u)
  pub now : (u : ℕ) (x : State) → HasNow p.journal u x → unit_state p.units u ≡ Some x
