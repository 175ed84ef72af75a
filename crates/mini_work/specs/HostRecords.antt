-- Records that are read of host files.
use Rattle.std.specs.Prelude.{◌≡◌, ℕ, ◌*◌, ◌≤◌, List, [], ◌++◌, length, take, drop, All, IsSome, Option, Some, Result, Ok, Err, ⊤}
use Rattle.std.specs.Option.{ForSome}
use Rattle.cms_journal.specs.Told.{Told}
use Rattle.cms_fields.specs.Limits.{most_records}
use Rattle.cms_fields.specs.Steps.{◌>>=◌}
use Rattle.cms_fields.specs.declared.time.Stamp.{Stamp}
use Rattle.cms_model.specs.Changes.{Change}
use Rattle.cms_model.specs.Minidisks.{Minidisk}
use Rattle.cms_model.specs.Records.{Fits}
use Rattle.cms_disk.specs.Disks.{Accessed}
use Rattle.cms_disk.specs.Drafts.{GoesOn, IsGivenUp}
use Rattle.cms_edf.specs.FileDrafts.{Draft}
use Rattle.cms_copyfile.specs.Measures.{measured}
use Rattle.cms_copyfile.specs.declared.measure.Measure.{Measure}
use Rattle.mini_forms.specs.RecordReads.{Reader, read_from, records_in, size_in}
use Rattle.mini_forms.specs.declared.form.FormFault.{FormFault}
use Rattle.mini_forms.specs.declared.form.Layout.{Layout}
use Rattle.mini_host.specs.Files.{Files}
use Rattle.mini_work.specs.Layouts.{format_of, size_of, size_or, sized}
use Rattle.mini_work.specs.declared.host_records.FileFault.{FileFault}
use Rattle.mini_work.specs.declared.host_records.FileFault.TheVariants as fault

-- ---- bytes of a host file

-- reading these bytes from one place on is reading the others from another, behind these records
abbrev pub Reads : Reader → List ℕ → Reader → List ℕ → List (List ℕ) → Type 0
Reads s bytes t left came = read_from s bytes ≡ (read_from t left >>= λ more. Ok (came ++ more))

-- these bytes are left of the open file
abbrev pub with_left : List ℕ → Files → Files
with_left left h = record { files = h.files; folders = h.folders; left = Some left; draft = h.draft; notes = h.notes }

-- a file is open, where the host tells its files
abbrev pub IsOpen : Option Files → Type 0
IsOpen told = ForSome told (λ h. IsSome h.left)

-- so many bytes of those that are left were read into the front of others
pub record IsReadOn (n : ℕ) (left into : List ℕ) (h : Files) (now : Option Files) : Type 0 where
  pub bytes : take n into ≡ take n left
  pub few : n ≤ length left
  pub ended : n ≡ 0 → left ≡ []
  pub told : now ≡ Some (with_left (drop n left) h)

-- ---- records that are measured

-- so many records were measured as were read, and those are within the limits of a file
pub record IsCounted (s : Reader) (m : Measure) : Type 0 where
  pub count : m.count ≡ s.count
  pub few : s.count ≤ most_records
  pub bytes : m.bytes ≤ 65537 * m.count

-- records of a common size, or each with its own
abbrev pub AreSized : Option ℕ → List (List ℕ) → Type 0
AreSized size records = All (Fits (sized size) (size_or size)) records

-- some bytes were read, but for those that are left, and the records that came were measured
pub record MeasuresTo (s t : Reader) (m n : Measure) (bytes left : List ℕ) : Type 0 where
  pub came : List (List ℕ)
  pub measure : (done : List (List ℕ)) → m ≡ measured (sized (size_in s.place)) done → n ≡ measured (sized (size_in s.place)) (done ++ came)
  pub each : AreSized (size_in s.place) came
  pub reads : (rest : List ℕ) → Reads s (bytes ++ rest) t (left ++ rest) came
  pub counted : IsCounted t n
  pub size : size_in t.place ≡ size_in s.place

-- and there the file ends, with one record at least
pub record MeasuresLast (s : Reader) (m n : Measure) : Type 0 where
  pub last : List (List ℕ)
  pub measure : (done : List (List ℕ)) → m ≡ measured (sized (size_in s.place)) done → n ≡ measured (sized (size_in s.place)) (done ++ last)
  pub each : AreSized (size_in s.place) last
  pub reads : read_from s [] ≡ Ok last
  pub some : 1 ≤ n.count

-- the records of the open file were measured
pub record IsMeasured (told : Option Files) (layout : Layout) (m : Measure) : Type 0 where
  pub records : List (List ℕ)
  pub measure : m ≡ measured (format_of layout) records
  pub each : All (Fits (format_of layout) (size_of layout)) records
  pub some : 1 ≤ length records
  pub are : (h : Files) (bytes : List ℕ) → told ≡ Some h → h.left ≡ Some bytes → records_in layout bytes ≡ Ok records

-- it stands for no records, for this reason
abbrev pub IsNoFile : Option Files → Layout → FormFault → Type 0
IsNoFile told layout why = (h : Files) (bytes : List ℕ) → told ≡ Some h → h.left ≡ Some bytes → records_in layout bytes ≡ Err why

-- what measuring it comes to
abbrev pub Measures : Option Files → Layout → Result Measure FileFault → Type 0
Measures told layout (Ok m) = IsMeasured told layout m
Measures told layout (Err (fault.Form why)) = IsNoFile told layout why
Measures told layout (Err fault.Changed) = ⊥
Measures told layout (Err (fault.Fault why)) = ⊤

-- ---- records that are put

-- of the records that were to come so many were put in a draft, and the others are still to come
pub record PutsTo (start now : Told) (d : Accessed) (m : Minidisk) (draft : Draft) (change : Change) (stamp : Stamp)
    (done more : List (List ℕ)) (s : Reader) (rest : List ℕ) :
    Type 0 where
  pub came : List (List ℕ)
  pub left : List (List ℕ)
  pub split : more ≡ came ++ left
  pub goes : GoesOn start now d m draft change stamp (done ++ came) left
  pub reads : read_from s rest ≡ Ok left

-- what putting them comes to: the draft goes on, or it is given up since something failed
abbrev pub PutsSo : Told → Told → Accessed → Minidisk → Draft → Change → Stamp → List (List ℕ) → List (List ℕ) → Reader → List ℕ → Result ⊤ FileFault → Type 0
PutsSo start now d m draft change stamp done more s rest (Ok x) = PutsTo start now d m draft change stamp done more s rest
PutsSo start now d m draft change stamp done more s rest (Err (fault.Form why)) = ⊥
PutsSo start now d m draft change stamp done more s rest (Err fault.Changed) = ⊥
PutsSo start now d m draft change stamp done more s rest (Err (fault.Fault why)) = IsGivenUp start now d m change

-- what putting one comes to
abbrev pub PutsText : Told → Told → Accessed → Minidisk → Draft → Change → Stamp → List (List ℕ) → List (List ℕ) → Result ⊤ FileFault → Type 0
PutsText start now d m draft change stamp done more (Ok x) = GoesOn start now d m draft change stamp done more
PutsText start now d m draft change stamp done more (Err (fault.Form why)) = ⊥
PutsText start now d m draft change stamp done more (Err fault.Changed) = ⊥
PutsText start now d m draft change stamp done more (Err (fault.Fault why)) = IsGivenUp start now d m change

-- what putting all of them comes to
abbrev pub PutsAll : Told → Told → Accessed → Minidisk → Draft → Change → Stamp → List (List ℕ) → Result ⊤ FileFault → Type 0
PutsAll start now d m draft change stamp records (Ok x) = GoesOn start now d m draft change stamp records []
PutsAll start now d m draft change stamp records (Err (fault.Form why)) = ⊥
PutsAll start now d m draft change stamp records (Err fault.Changed) = ⊥
PutsAll start now d m draft change stamp records (Err (fault.Fault why)) = IsGivenUp start now d m change
