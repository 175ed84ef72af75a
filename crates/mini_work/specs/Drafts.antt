-- A host file that was measured, and the draft of it.
use Rattle.std.specs.Prelude.{◌≡◌, ℕ, ◌≤◌, Bool, true, false, List, [], length, All, IsSome, Option, Some, Result, Ok, Err}
use Rattle.std.specs.Option.{ForSome}
use Rattle.cms_journal.specs.Told.{Told}
use Rattle.cms_fields.specs.declared.time.Stamp.{Stamp}
use Rattle.cms_model.specs.Changes.{Change}
use Rattle.cms_model.specs.Minidisks.{Minidisk}
use Rattle.cms_model.specs.Records.{Fits, length_of}
use Rattle.cms_held.specs.declared.shape.DraftShape.{DraftShape}
use Rattle.cms_edf.specs.FileDrafts.{Draft}
use Rattle.cms_disk.specs.Disks.{Accessed}
use Rattle.cms_disk.specs.Drafts.{GoesOn, HaveCounts, IsGivenUp}
use Rattle.cms_copyfile.specs.Measures.{measured}
use Rattle.cms_copyfile.specs.declared.measure.Measure.{Measure}
use Rattle.mini_forms.specs.RecordReads.{records_in}
use Rattle.mini_forms.specs.declared.form.Layout.{Layout}
use Rattle.mini_host.specs.Files.{Files, content_of}
use Rattle.mini_work.specs.Layouts.{format_of, size_of}
use Rattle.mini_work.specs.Stands.{Stands}
use Rattle.mini_work.specs.declared.fault.Fault.{Fault}

-- ---- the host file

-- it is open, before its first byte
abbrev pub IsOpenAt : Option Files → List ℕ → Type 0
IsOpenAt told file = ForSome told (λ h. h.left ≡ content_of file h.files)

-- it is there
abbrev pub IsThere : Option Files → List ℕ → Type 0
IsThere told file = ForSome told (λ h. IsSome (content_of file h.files))

-- its records were measured
pub record IsMeasuredFor (told : Option Files) (file : List ℕ) (layout : Layout) (m : Measure) : Type 0 where
  pub records : List (List ℕ)
  pub measure : m ≡ measured (format_of layout) records
  pub each : All (Fits (format_of layout) (size_of layout)) records
  pub some : 1 ≤ length records
  pub are : (h : Files) (bytes : List ℕ) → told ≡ Some h → content_of file h.files ≡ Some bytes → records_in layout bytes ≡ Ok records

-- ---- the draft

-- this is the shape of the file of such records
pub record IsShapeOf (layout : Layout) (records : List (List ℕ)) (stamp : Stamp) (shape : DraftShape) : Type 0 where
  pub stamped : shape.stamp ≡ stamp
  pub format : shape.format ≡ format_of layout
  pub long : shape.length ≡ length_of (format_of layout) (size_of layout) records
  pub counts : HaveCounts shape records

-- it is for a change with this stamp, and begins wherever the minidisk stands: none of these records is put yet
abbrev pub Begins : Told → Accessed → Draft → Change → Stamp → List (List ℕ) → Type 0
Begins told d draft change stamp records = (m : Minidisk) → Stands told d m → GoesOn told told d m draft change stamp [] records

-- what filling it comes to: all records are put, or it is given up since something failed
abbrev pub FillsSo : Told → Told → Accessed → Minidisk → Draft → Change → Stamp → List (List ℕ) → Result Bool Fault → Type 0
FillsSo start now d m draft change stamp records (Ok true) = GoesOn start now d m draft change stamp records []
FillsSo start now d m draft change stamp records (Ok false) = ⊥
FillsSo start now d m draft change stamp records (Err why) = IsGivenUp start now d m change
