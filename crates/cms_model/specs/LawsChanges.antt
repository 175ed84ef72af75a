-- What follows for changes of a list of files.
use Rattle.std.specs.Prelude.{◌≡◌, ◌≢◌, ◌⊎◌, ◌↔◌, ℕ, ◌<◌, true, List, [], ◌∷◌, ◌++◌, length, take, slice_index_or, slice_set, swap_remove, Some, None, Ok, ⊤}
use Rattle.cms_names.specs.declared.name.Name.{Name}
use Rattle.cms_model.specs.Trees.{Image}
use Rattle.cms_model.specs.Minidisks.{File, same_name}
use Rattle.cms_model.specs.Volumes.{Disk, Opened, open_of, minidisk_of}
use Rattle.cms_model.specs.Changes.{Change, Put, Add, Drop, Rename, Relabel, Century, file_named, put_file, change_file, drop_file, changed_files}

-- the test of names tells whether they are the same
abbrev pub NamesAreTold : Type 0
NamesAreTold = (a b : Name) → (same_name a b ≡ true) ↔ (a ≡ b)

-- none of the files has this name
abbrev pub NoneNamed : Name → List File → Type 0
NoneNamed name [] = ⊤
NoneNamed name (f ∷ fs) = (f.name ≢ name) × NoneNamed name fs

-- no two of the files have the same name
abbrev pub AreDistinct : List File → Type 0
AreDistinct [] = ⊤
AreDistinct (f ∷ fs) = NoneNamed f.name fs × AreDistinct fs

-- the first file of this name stands in this place, counted from 0
pub record IsPlace (name : Name) (files : List File) (k : ℕ) : Type 0 where
  pub within : k < length files
  pub named : (d : File) → (slice_index_or files k d).name ≡ name
  pub first : NoneNamed name (take k files)

-- a name has no file, or its file has a place
abbrev pub PlaceIsFound : Type 0
PlaceIsFound = (name : Name) (files : List File) → NoneNamed name files ⊎ ((k : ℕ) × IsPlace name files k)

-- what changes do where the name has a file: all is done in its place
pub record ChangesPlace (name : Name) (files : List File) (k : ℕ) : Type 0 where
  pub found : (d : File) → file_named name files ≡ Some (slice_index_or files k d)
  pub put : (new : File) → new.name ≡ name → put_file new files ≡ slice_set files k new
  pub changed : (edit : File → File) (d : File) → change_file name edit files ≡ slice_set files k (edit (slice_index_or files k d))
  pub dropped : (d : File) → drop_file name files ≡ swap_remove files k d

-- a change of a file that is there is one of its place
abbrev pub PlaceIsChanged : Type 0
PlaceIsChanged = (name : Name) (files : List File) (k : ℕ) → IsPlace name files k → ChangesPlace name files k

-- what changes do where it has none
pub record AddsLast (name : Name) (files : List File) : Type 0 where
  pub absent : file_named name files ≡ None
  pub put : (new : File) → new.name ≡ name → put_file new files ≡ files ++ new ∷ []
  pub changed : (edit : File → File) → change_file name edit files ≡ files
  pub dropped : drop_file name files ≡ files

-- a file of a new name stands last
abbrev pub NoneIsAdded : Type 0
NoneIsAdded = (name : Name) (files : List File) → NoneNamed name files → AddsLast name files

-- a change renames to a name that no file has, or to the file's own
abbrev pub IsFree : Change → List File → Type 0
IsFree (Rename from to number) files = NoneNamed to files ⊎ (to ≡ from)
IsFree (Put new) files = ⊤
IsFree (Add name more stamp) files = ⊤
IsFree (Drop name) files = ⊤
IsFree (Relabel volid) files = ⊤
IsFree (Century pivot) files = ⊤

-- names stay distinct
abbrev pub NamesStayDistinct : Type 0
NamesStayDistinct = (files : List File) (change : Change) → AreDistinct files → IsFree change files
    → AreDistinct (changed_files files change)

-- the files of an open volume have distinct names
abbrev pub OpenedAreDistinct : Type 0
OpenedAreDistinct = (disk : Disk) (image : Image) (v : Opened) → open_of disk image ≡ Ok v → AreDistinct (minidisk_of disk v).files
