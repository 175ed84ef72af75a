-- What the writing of the copies came to, behind which the update of the output's disk ends.
use Rattle.std.specs.Prelude.{◌≡◌, ℕ, List, Some}
use Rattle.cms_fields.specs.Moments.{stamp_of}
use Rattle.cms_journal.specs.Journal.{Journal}
use Rattle.cms_model.specs.Slots.{Slot}
use Rattle.cms_model.specs.Changes.{Change}
use Rattle.cms_model.specs.Minidisks.{Minidisk}
use Rattle.cms_disk.specs.Changes.{ChangesDisk}
use Rattle.cms_disk.specs.Disks.{Accessed, IsMinidisk}
use Rattle.cms_search.specs.Calls.{Spot, holds, machine_of}
use Rattle.cms_search.specs.Searches.{item_at}
use Rattle.cms_search.specs.Seats.{HasDevice, HasDisk}
use Rattle.cms_search.specs.Tables.{Seated}
use Rattle.cms_files.specs.OpenFiles.{IsOpened}
use Rattle.cms_files.specs.declared.open_files.OpenFile.{OpenFile}
use Rattle.cms_copyfile.specs.Copyfile.{change_with}
use Rattle.cms_copyfile.specs.Drafts.{CameTo, answer_in, changing}
use Rattle.cms_copyfile.specs.FileCopies.{IsCopying, IsFileCopy, copied_to}
use Rattle.cms_copyfile.specs.Outputs.{extended}
use Rattle.cms_copyfile.specs.declared.copy.FileCopy.{FileCopy}
use Rattle.cms_copyfile.specs.declared.line.CopyLine.{CopyLine}
use Rattle.cms_copyfile.specs.declared.draft.CopyTarget.{CopyTarget}
use Rattle.cms_copyfile.specs.declared.draft.Written.{Written}

-- ---- these records were written, whatever is on the units

-- on the disk d, which is e then
pub record WritesAll (mid now : Spot) (d e : Accessed) (to : CopyTarget) (all : List Slot → List (List ℕ))
    (written : Written) : Type 0 where
  pub came : (units : List Slot) → holds mid units → (j : Journal) (m : Minidisk) → mid.world.told ≡ Some j → IsMinidisk j d m
      → CameTo mid.world.told now.world.told d e m (changing to (all units)) to.stamp written
  pub changes : ChangesDisk mid.world now.world d e (answer_in written)

-- on the disk s of a letter; mid is before that, and now behind it
pub record WroteAll (mid now : Spot) (to : CopyTarget) (all : List Slot → List (List ℕ)) (s : Seated) (written : Written) : Type 0 where
  pub there : item_at mid.state.table.seats to.letter ≡ Some s
  pub seat : HasDisk mid.state.table now.state.table to.letter (λ e. WritesAll mid now s.disk e to all written)
  pub state : now.state ≡ record mid.state { table = now.state.table }
  pub stamp : to.stamp ≡ stamp_of mid.state.moment

-- ---- for a file that is copied

-- the change of the output's disk
abbrev pub ChangesAs : Spot → CopyLine → FileCopy → (List Slot → Change) → Type 0
ChangesAs spot line c change =
    (units : List Slot) → holds spot units → (x : IsCopying (machine_of spot.state units) line c)
    → change_with (machine_of spot.state units) line (copied_to (machine_of spot.state units) line c x)
    (extended line.style.existing (copied_to (machine_of spot.state units) line c x).there) ≡ change units

-- records were written on the output's device, while the file was read again on that of the input
pub record IsWritten (mid now : Spot) (line : CopyLine) (c : FileCopy) (vdev input : ℕ) (written : Written) : Type 0 where
  pub to : CopyTarget
  pub all : List Slot → List (List ℕ)
  pub disk : Seated
  pub wrote : WroteAll mid now to all disk written
  pub file : OpenFile
  pub is : IsFileCopy mid.state.table line c
  pub opened : IsOpened mid.state.table c.found.letter c.found.name file
  pub read : file.vdev ≡ input
  pub device : HasDevice mid.state.table c.letter vdev
  pub letter : to.letter ≡ c.letter
  pub name : to.name ≡ c.name
  pub changes : ChangesAs mid line c (λ units. changing to (all units))
