-- What is found by a name after a change: the files of a minidisk are a finite map from names, and a change is one of it.
use Rattle.std.specs.Prelude.{◌≡◌, ◌≢◌, ℕ, ◌+◌, ◌<◌, ◌≤◌, List, ◌++◌, Some, None, ⊤}
use Rattle.cms_names.specs.declared.name.Name.{Name}
use Rattle.cms_fields.specs.declared.time.Stamp.{Stamp}
use Rattle.cms_model.specs.Records.{length_of}
use Rattle.cms_model.specs.Minidisks.{File, Minidisk}
use Rattle.cms_model.specs.Changes.{Change, Put, Add, Drop, Rename, Relabel, Century, file_named, changed_files, changed}
use Rattle.cms_model.specs.LawsChanges.{AreDistinct, IsFree}

-- a file is another with more records and a new stamp
pub record IsAdded (old : File) (more : List (List ℕ)) (stamp : Stamp) (new : File) : Type 0 where
  pub name_same : new.name ≡ old.name
  pub number_same : new.number ≡ old.number
  pub format_same : new.format ≡ old.format
  pub length_is : new.length ≡ length_of old.format old.length (old.records ++ more)
  pub stamp_is : new.stamp ≡ stamp
  pub records_are : new.records ≡ old.records ++ more

-- a file is another with a new name and mode number
pub record IsRenamed (old : File) (to : Name) (number : ℕ) (new : File) : Type 0 where
  pub name_is : new.name ≡ to
  pub number_is : new.number ≡ number
  pub format_same : new.format ≡ old.format
  pub length_same : new.length ≡ old.length
  pub stamp_same : new.stamp ≡ old.stamp
  pub records_same : new.records ≡ old.records

-- a file is another with a stamp a century later where its year lies before the pivot's of the 1900s
pub record IsMoved (old : File) (pivot : ℕ) (new : File) : Type 0 where
  pub name_same : new.name ≡ old.name
  pub number_same : new.number ≡ old.number
  pub format_same : new.format ≡ old.format
  pub length_same : new.length ≡ old.length
  pub before : old.stamp.year < 1900 + pivot → new.stamp ≡ record old.stamp { year = old.stamp.year + 100 }
  pub from : 1900 + pivot ≤ old.stamp.year → new.stamp ≡ old.stamp
  pub records_same : new.records ≡ old.records

-- the file of a name that is changed
pub record Finds (files : List File) (name : Name) : Type 0 where
  pub put : (new : File) → new.name ≡ name → file_named name (changed_files files (Put new)) ≡ Some new
  pub added :
      (old : File) (more : List (List ℕ)) (stamp : Stamp) → file_named name files ≡ Some old
      → (new : File) × IsAdded old more stamp new × (file_named name (changed_files files (Add name more stamp)) ≡ Some new)
  pub renamed :
      (old : File) (to : Name) (number : ℕ) → file_named name files ≡ Some old → IsFree (Rename name to number) files
      → (new : File) × IsRenamed old to number new × (file_named to (changed_files files (Rename name to number)) ≡ Some new)
  pub dropped : AreDistinct files → file_named name (changed_files files (Drop name)) ≡ None
  pub moved :
      (old : File) (pivot : ℕ) → file_named name files ≡ Some old
      → (new : File) × IsMoved old pivot new × (file_named name (changed_files files (Century pivot)) ≡ Some new)
  pub absent : (pivot : ℕ) → file_named name files ≡ None → file_named name (changed_files files (Century pivot)) ≡ None

-- after a change each name has the file that the change says
abbrev pub ChangedIsFound : Type 0
ChangedIsFound = (files : List File) (name : Name) → Finds files name

-- a change doesn't speak of this name; one of stamps speaks of each
abbrev pub IsOther : Name → Change → Type 0
IsOther other (Put new) = new.name ≢ other
IsOther other (Add name more stamp) = name ≢ other
IsOther other (Drop name) = name ≢ other
IsOther other (Rename from to number) = (from ≢ other) × (to ≢ other)
IsOther other (Relabel volid) = ⊤
IsOther other (Century pivot) = ⊥

-- each other name has the file that it had
abbrev pub OthersStay : Type 0
OthersStay =
    (files : List File) (change : Change) (other : Name) → AreDistinct files → IsOther other change
    → file_named other (changed_files files change) ≡ file_named other files

-- a change of files leaves all else of the minidisk, and a relabelling all but the volume id
pub record LeavesRest (m : Minidisk) (change : Change) : Type 0 where
  pub bsize_same : (changed m change).bsize ≡ m.bsize
  pub total_same : (changed m change).total ≡ m.total
  pub lost_same : (changed m change).lost ≡ m.lost
  pub relabelled : (volid : List ℕ) → changed m (Relabel volid) ≡ record m { volid = volid }
  pub put : (new : File) → (changed m (Put new)).volid ≡ m.volid
  pub dropped : (name : Name) → (changed m (Drop name)).volid ≡ m.volid
  pub moved : (pivot : ℕ) → (changed m (Century pivot)).volid ≡ m.volid

-- all else of the minidisk stays
abbrev pub RestIsLeft : Type 0
RestIsLeft = (m : Minidisk) (change : Change) → LeavesRest m change
