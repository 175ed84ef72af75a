-- What a crash leaves of a unit, as a disk of its own reads it.
use Rattle.std.specs.Prelude.{◌≡◌, ◌⊎◌, ℕ, List, ◌++◌, slice_get, None, Some}
use Rattle.cms_journal.specs.declared.event.Attached.{Attached}
use Rattle.cms_journal.specs.declared.event.Event.{Event}
use Rattle.cms_journal.specs.Journal.{Journal}
use Rattle.cms_journal.specs.Told.{Told, plus}
use Rattle.cms_model.specs.Minidisks.{State}
use Rattle.cms_model.specs.Settled.{MayLeave}
use Rattle.cms_model.specs.Trees.{image_of}
use Rattle.cms_model.specs.Volumes.{Disk, disk_of, state_of}
use Rattle.cms_model.specs.Slots.{IsAmong}

-- a crash at this journal may leave contents of the unit that have this state, where this disk reads them
pub record LeavesOnIn (disk : Disk) (j : Journal) (u : ℕ) (x : State) : Type 0 where
  pub image : List (List ℕ)
  pub left : MayLeave j u image
  pub state : state_of disk (image_of image) ≡ x

-- nothing is said of a journal that isn't told
abbrev pub LeavesOn : Disk → Told → ℕ → State → Type 0
LeavesOn disk None u x = ⊥
LeavesOn disk (Some j) u x = LeavesOnIn disk j u x

-- a piece is covered, after the journal before it, where this disk reads the unit: a crash within it leaves a state of the set before or
-- after, a crash behind it one of the set after
pub record CoversOn (disk : Disk) (j : Told) (es : List Event) (u : ℕ) (before after : List State) : Type 0 where
  pub inside : (front rest : List Event) → front ++ rest ≡ es → (x : State) → LeavesOn disk (plus j front) u x
      → IsAmong x before ⊎ IsAmong x after
  pub whole : (x : State) → LeavesOn disk (plus j es) u x → IsAmong x after

-- a machine looks at the unit as this disk: it has exactly the disk's blocks, or more than 1,048,576 where the disk has that many
abbrev pub LooksAs : Journal → ℕ → Disk → Type 0
LooksAs j u disk = (unit : Attached) → slice_get j.units u ≡ Some unit → disk_of unit ≡ disk
