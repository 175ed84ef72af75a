-- Images that are made.
use Rattle.std.specs.Prelude.{◌≡◌, ◌⊎◌, ℕ, ℤ, List, Result, Ok, Err, IfOk, ⊤}
use Rattle.cms_journal.specs.Journal.{adds}
use Rattle.cms_journal.specs.Told.{Told}
use Rattle.cms_journal.specs.declared.event.Access.TheVariants.{New}
use Rattle.cms_journal.specs.declared.event.Attached.{Attached}
use Rattle.cms_journal.specs.declared.event.Event.TheVariants.{Now}
use Rattle.cms_model.specs.Minidisks.{State}
use Rattle.cms_model.specs.Trees.{image_of}
use Rattle.cms_model.specs.Volumes.{disk_of, state_of}
use Rattle.cms_disk.specs.Disks.{Accessed}
use Rattle.cms_disk.specs.EmptyMinidisks.{Formats}
use Rattle.cms_disk.specs.declared.fault.DiskFault.{DiskFault}
use Rattle.cms_disk.specs.declared.unit.UnitInfo.{UnitInfo}
use Rattle.mini_work.specs.Changes.{stamp_at}
use Rattle.mini_work.specs.OpenedImages.{Attaches, IsUnwritten}
use Rattle.mini_work.specs.declared.fault.Fault.{Fault}
use Rattle.mini_work.specs.declared.status.Status.{Status}
use Rattle.mini_work.specs.declared.status.Status.TheVariants as status

-- the state of the blocks with which a unit was attached
abbrev pub first_state : Attached → State
first_state unit = state_of (disk_of unit) (image_of unit.start)

-- the clock is asked, and with the stamp of its moment a unit in this state is made an empty volume; where the clock failed nothing was
-- done, and where that was cut off it is so
abbrev pub Makes : UnitInfo → State → List ℕ → ℤ → Told → Told → Result ⊤ Fault → Type 0
Makes info first label offset start new (Ok x) =
    (moment : ℤ) × ((d : Accessed) × Formats (adds (Now moment) start) new info first label (stamp_at moment offset) (Ok d))
Makes info first label offset start new (Err why) =
    (new ≡ start)
    ⊎ ((moment : ℤ) × ((e : DiskFault) × Formats (adds (Now moment) start) new info first label (stamp_at moment offset) (Err e)))

-- it ended well where that did
abbrev pub IsEndOf : Result ⊤ Fault → Result Status Fault → Type 0
IsEndOf (Ok x) r = r ≡ Ok status.Done
IsEndOf (Err why) r = IfOk r (λ s. ⊥)

-- an image is made: nothing was written; or it was attached as a new one, and the empty volume was made on it, or that was cut off
pub data IsMaking (name : List ℕ) (size blocks : ℕ) (label : List ℕ) (offset : ℤ) (told : Told) (r : Result Status Fault) : Type 0 where
  shut : IsUnwritten told → IfOk r (λ s. s ≡ status.Refused) → IsMaking name size blocks label offset told r
  made : (start : Told) (info : UnitInfo) (a : Attaches name size (New blocks) start info) (x : Result ⊤ Fault)
      → Makes info (first_state a.alone.unit) label offset start told x → IsEndOf x r → IsMaking name size blocks label offset told r
