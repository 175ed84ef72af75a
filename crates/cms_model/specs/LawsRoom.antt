-- What follows for the room that a change needs, and for the answer to it.
use Rattle.std.specs.Prelude.{◌≡◌, ◌↔◌, ℕ, ◌+◌, ◌<◌, ◌≤◌, List, ◌++◌, length, Option, None, Some}
use Rattle.cms_journal.specs.Journal.{IsBlockSize}
use Rattle.cms_names.specs.declared.name.Name.{Name}
use Rattle.cms_fields.specs.Limits.{most_records, most_bytes, most_files}
use Rattle.cms_model.specs.Minidisks.{File, Minidisk}
use Rattle.cms_model.specs.Sizes.{stored_size, directory_more, map_size, used_count, free_count}
use Rattle.cms_model.specs.Changes.{Change, Put, Add, Drop, Rename, Relabel, Century, file_named, changed, written_file, file_need, need, place_named, entries_made, count_after, directory_written, directory_fresh, Limited, Full, Changed, answer_of}
use Rattle.cms_model.specs.DirectoryParts.{directory_count, directory_released}
use Rattle.cms_model.specs.Growth.{growth_given}
use Rattle.cms_model.specs.LawsChanges.{IsPlace, NoneNamed}
use Rattle.cms_model.specs.SharedTrees.{MayBeWritten}

-- the place of a name is that of its file, or behind the last
pub record IsPlaceNamed (name : Name) (files : List File) : Type 0 where
  pub found : (k : ℕ) → IsPlace name files k → place_named name files ≡ k
  pub none : NoneNamed name files → place_named name files ≡ length files

-- so it is of each name
abbrev pub PlaceIsNamed : Type 0
PlaceIsNamed = (name : Name) (files : List File) → IsPlaceNamed name files

-- the data blocks of the directory that a change writes may be written, and no more is needed than for a whole directory
pub record IsNeeded (m : Minidisk) (change : Change) : Type 0 where
  pub may : MayBeWritten (directory_count m.bsize (length m.files))
      (directory_count m.bsize (count_after m change)) (directory_written m change)
  pub few : directory_fresh m change ≤ directory_more m.bsize (count_after m change)

-- so it is of each change
abbrev pub DirectoryIsNeeded : Type 0
DirectoryIsNeeded = (m : Minidisk) (change : Change) → IsBlockSize m.bsize → IsNeeded m change

-- the blocks of the directory that a change gives back, and those of the map, as many as it is charged for
abbrev pub system_given : Minidisk → Change → ℕ
system_given m change = directory_released m.bsize (length m.files) (count_after m change) (entries_made m.files change)
    + map_size m.bsize m.total

-- the blocks that a file gives back to which these records are added
abbrev pub added_given : ℕ → List (List ℕ) → Option File → ℕ
added_given bsize more None = 0
added_given bsize more (Some f) =
    growth_given bsize f.format (stored_size f.format f.records) (stored_size f.format (f.records ++ more))

-- the blocks that a change gives back: of the directory and the map, of which it writes a part anew, and of the file that it writes anew,
-- to which it adds records, or which it drops
abbrev pub given_back : Minidisk → Change → ℕ
given_back m (Put new) = file_need m.bsize (file_named new.name m.files) + system_given m (Put new)
given_back m (Add name more stamp) = added_given m.bsize more (file_named name m.files) + system_given m (Add name more stamp)
given_back m (Drop name) = file_need m.bsize (file_named name m.files) + system_given m (Drop name)
given_back m (Rename from to number) = system_given m (Rename from to number)
given_back m (Relabel volid) = 0
given_back m (Century pivot) = system_given m (Century pivot)

-- what a change needs is what it takes: the blocks in use after it are those before, and these, without those that it gives back
abbrev pub NeedIsTaken : Type 0
NeedIsTaken = (m : Minidisk) (change : Change) → IsBlockSize m.bsize
    → used_count (changed m change) + given_back m change ≡ used_count m + need m change

-- a file within the limits of a directory entry
pub record IsWithin (f : File) : Type 0 where
  pub records : length f.records ≤ most_records
  pub bytes : stored_size f.format f.records ≤ most_bytes

-- a change makes this minidisk: it passes no limit, and has room
pub record Makes (m : Minidisk) (change : Change) (new : Minidisk) : Type 0 where
  pub is : new ≡ changed m change
  pub few : length new.files ≤ most_files
  pub within : (f : File) → written_file m change ≡ Some f → IsWithin f
  pub room : need m change ≤ free_count m

-- the answer to a change is a minidisk exactly where it makes this
abbrev pub ChangedWhereMade : Type 0
ChangedWhereMade = (m new : Minidisk) (change : Change) → (answer_of m change ≡ Changed new) ↔ Makes m change new

-- it is full exactly where it passes no limit and needs more than is free, and tells both
pub record Lacks (m : Minidisk) (change : Change) (needed free : ℕ) : Type 0 where
  pub few : length (changed m change).files ≤ most_files
  pub within : (f : File) → written_file m change ≡ Some f → IsWithin f
  pub needed_is : needed ≡ need m change
  pub free_is : free ≡ free_count m
  pub short : free < needed

-- a change is full exactly where it passes no limit and needs more than are free
abbrev pub FullWhereLacking : Type 0
FullWhereLacking = (m : Minidisk) (change : Change) (needed free : ℕ) → (answer_of m change ≡ Full needed free) ↔ Lacks m change needed free

-- a change passes this limit, and none before it: 1, more than 16,384 files; 2, more than 1,048,576 records of the file that it writes
-- anew; 3, more than 67,108,864 stored bytes of it
pub data PassesFirst (m : Minidisk) (change : Change) (k : ℕ) : Type 0 where
  Files : k ≡ 1 → most_files < length (changed m change).files → PassesFirst m change k
  Records : (f : File) → k ≡ 2 → length (changed m change).files ≤ most_files → written_file m change ≡ Some f
      → most_records < length f.records → PassesFirst m change k
  Bytes : (f : File) → k ≡ 3 → length (changed m change).files ≤ most_files → written_file m change ≡ Some f
      → length f.records ≤ most_records → most_bytes < stored_size f.format f.records → PassesFirst m change k

-- a limit is told exactly where it is the first that the change passes
abbrev pub LimitedWherePassing : Type 0
LimitedWherePassing = (m : Minidisk) (change : Change) (k : ℕ) → (answer_of m change ≡ Limited k) ↔ PassesFirst m change k

-- a minidisk that has room for what it has in use and for its lost blocks has it after each change that isn't refused
abbrev pub RoomIsKept : Type 0
RoomIsKept = (m new : Minidisk) (change : Change) → IsBlockSize m.bsize → used_count m + m.lost ≤ m.total → answer_of m change ≡ Changed new
    → used_count new + new.lost ≤ new.total
