-- What commands do with an image.
use Rattle.std.specs.Prelude.{◌≡◌, ℕ, ℤ, Bool, List, [], map, Option, Some, None, Result, IfOk}
use Rattle.cms_journal.specs.declared.event.Access.{Access}
use Rattle.cms_journal.specs.Told.{Told}
use Rattle.cms_names.specs.declared.name.Name.{Name}
use Rattle.cms_model.specs.Changes.{Drop, Rename, file_named}
use Rattle.cms_model.specs.Minidisks.{File, Minidisk}
use Rattle.cms_model.specs.Acts.{typed_line}
use Rattle.cms_listfile.specs.Lines.{info_of}
use Rattle.cms_disk.specs.Disks.{Accessed}
use Rattle.mini_words.specs.declared.names.NamePattern.{NamePattern}
use Rattle.mini_work.specs.Changes.{IsChange, IsTimed, IsTold}
use Rattle.mini_work.specs.ChosenFiles.{chosen, idle_status}
use Rattle.mini_work.specs.CommandActs.{Act, Goes, IsStill, Leads, both}
use Rattle.mini_work.specs.Listing.{file_line, is_listed}
use Rattle.mini_work.specs.OpenedImages.{IsUnwritten, Opens}
use Rattle.mini_work.specs.Output.{name_line}
use Rattle.mini_work.specs.declared.fault.Fault.{Fault}
use Rattle.mini_work.specs.declared.status.Status.{Status}
use Rattle.mini_work.specs.declared.status.Status.TheVariants as status

-- the names of the files, in the order of the directory
abbrev pub names_of : Minidisk → List Name
names_of m = map (λ f. f.name) m.files

-- files are listed: a line for each that is, in the order of the directory
abbrev pub IsListing : Bool → List NamePattern → Status → Minidisk → List Act → Minidisk → List Act → Type 0
IsListing long patterns s m acts after more =
    (t : Status) × (s ≡ both t (idle_status patterns (names_of m)))
    × Goes (λ info. IsTold (is_listed patterns info) (typed_line (file_line long info))) (map (info_of m.bsize) m.files) t m acts after more

-- files are erased, one after another
abbrev pub IsErasingAll : Bool → ℤ → List Name → Status → Minidisk → List Act → Minidisk → List Act → Type 0
IsErasingAll says offset names s m acts after more =
    IsTimed offset (λ stamp. Goes (λ name. IsChange (Drop name) stamp says (name_line name)) names) s m acts after more

-- the files are erased that the patterns fit
abbrev pub IsErasing : Bool → ℤ → List NamePattern → Status → Minidisk → List Act → Minidisk → List Act → Type 0
IsErasing says offset patterns s m acts after more =
    (t : Status) × (s ≡ both t (idle_status patterns (names_of m)))
    × IsErasingAll says offset (chosen [] patterns (names_of m)) t m acts after more

-- a file gets another name, and keeps its mode number
abbrev pub IsRenamed : Bool → ℤ → Name → Name → Option File → Status → Minidisk → List Act → Minidisk → List Act → Type 0
IsRenamed says offset from to None s m acts after more = (s ≡ status.Refused) × IsStill m acts after more
IsRenamed says offset from to (Some f) s m acts after more =
    IsTimed offset (λ stamp. IsChange (Rename from to f.number) stamp says (name_line to)) s m acts after more

-- so it is of the file of a name, which is refused where there is none
abbrev pub IsRenaming : Bool → ℤ → Name → Name → Status → Minidisk → List Act → Minidisk → List Act → Type 0
IsRenaming says offset from to s m acts after more = IsRenamed says offset from to (file_named from m.files) s m acts after more

-- what a command on an image came to: no minidisk was opened, and nothing written; or the image is the only unit and stands for a
-- minidisk, and the command went on from there
pub data IsWorked (name : List ℕ) (access : Access) (goes : Status → Minidisk → List Act → Minidisk → List Act → Type 0) (new : Told)
    (r : Result Status Fault) : Type 0 where
  shut : IsUnwritten new → IfOk r (λ s. s ≡ status.Refused) → IsWorked name access goes new r
  opened : (size : ℕ) (start : Told) (d e : Accessed) (o : Opens name size access start d) → Leads goes start o.first o.first [] new e r
      → IsWorked name access goes new r
