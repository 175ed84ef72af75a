-- Changes of a minidisk, and when there is no room for one.
use Rattle.std.specs.Prelude.{ℕ, suc, ◌+◌, ◌-◌, Bool, if◌then◌else◌, nat_lt, List, [], ◌∷◌, ◌++◌, length, map, Option, Some, None}
use Rattle.cms_names.specs.declared.name.Name.{Name}
use Rattle.cms_fields.specs.declared.time.Stamp.{Stamp}
use Rattle.cms_fields.specs.Limits.{most_records, most_bytes, most_files}
use Rattle.cms_model.specs.Records.{length_of}
use Rattle.cms_model.specs.Minidisks.{File, Minidisk, same_name}
use Rattle.cms_model.specs.DirectoryParts.{all_entries, blocks_made, directory_taken}
use Rattle.cms_model.specs.Growth.{growth_taken}
use Rattle.cms_model.specs.Sizes.{stored_size, file_size, map_size, free_count}

-- Put: a whole file. Add: more records of a file, and its stamp. Drop: a file goes. Rename: from, to and the new mode
-- number. Relabel: the new volume id. Century: the pivot, whose year and those behind it stay in the 1900s.
pub data Change : Type 0 where
  Put : File → Change
  Add : Name → List (List ℕ) → Stamp → Change
  Drop : Name → Change
  Rename : Name → Name → ℕ → Change
  Relabel : List ℕ → Change
  Century : ℕ → Change

-- the file of a name
unfoldable pub file_named : Name → List File → Option File
file_named name [] = None
file_named name (f ∷ fs) = if same_name name f.name then Some f else file_named name fs

-- a file takes the place of the one of its name, else it stands last
unfoldable pub put_file : File → List File → List File
put_file new [] = new ∷ []
put_file new (f ∷ fs) = if same_name new.name f.name then new ∷ fs else f ∷ put_file new fs

-- a file with more records
abbrev pub added_to : List (List ℕ) → Stamp → File → File
added_to more stamp f = record f { records = f.records ++ more; length = length_of f.format f.length (f.records ++ more); stamp = stamp }

-- a stamp of a year before that of the pivot in the 1900s is one of the same day a century later
abbrev pub stamp_moved : ℕ → Stamp → Stamp
stamp_moved pivot stamp = if nat_lt stamp.year (1900 + pivot) then record stamp { year = stamp.year + 100 } else stamp

-- a file with such a stamp
abbrev pub moved_to : ℕ → File → File
moved_to pivot f = record f { stamp = stamp_moved pivot f.stamp }

-- a file of a name is changed in its place
unfoldable pub change_file : Name → (File → File) → List File → List File
change_file name edit [] = []
change_file name edit (f ∷ fs) = if same_name name f.name then edit f ∷ fs else f ∷ change_file name edit fs

-- a file behind the first of these, if there is one
abbrev pub behind_first : File → List File → List File
behind_first f [] = f ∷ []
behind_first f (first ∷ fs) = first ∷ f ∷ fs

-- the last of them first, then the others
unfoldable pub last_first : List File → List File
last_first [] = []
last_first (f ∷ fs) = behind_first f (last_first fs)

-- a file goes, and the last one takes its place
unfoldable pub drop_file : Name → List File → List File
drop_file name [] = []
drop_file name (f ∷ fs) = if same_name name f.name then last_first fs else f ∷ drop_file name fs

-- the files after a change
unfoldable pub changed_files : List File → Change → List File
changed_files files (Put new) = put_file new files
changed_files files (Add name more stamp) = change_file name (added_to more stamp) files
changed_files files (Drop name) = drop_file name files
changed_files files (Rename from to number) = change_file from (λ f. record f { name = to; number = number }) files
changed_files files (Relabel volid) = files
changed_files files (Century pivot) = map (moved_to pivot) files

-- the volume id after a change
abbrev pub changed_volid : List ℕ → Change → List ℕ
changed_volid volid (Relabel new) = new
changed_volid volid (Put new) = volid
changed_volid volid (Add name more stamp) = volid
changed_volid volid (Drop name) = volid
changed_volid volid (Rename from to number) = volid
changed_volid volid (Century pivot) = volid

-- the minidisk after a change
unfoldable pub changed : Minidisk → Change → Minidisk
changed m change = record m { volid = changed_volid m.volid change; files = changed_files m.files change }

-- the file that is written anew
unfoldable pub written_file : Minidisk → Change → Option File
written_file m (Put new) = Some new
written_file m (Add name more stamp) = file_named name (changed_files m.files (Add name more stamp))
written_file m (Drop name) = None
written_file m (Rename from to number) = None
written_file m (Relabel volid) = None
written_file m (Century pivot) = None

-- the blocks that a new file needs
abbrev pub file_need : ℕ → Option File → ℕ
file_need bsize None = 0
file_need bsize (Some f) = file_size bsize f

-- and those that a file needs to which these records are added
abbrev pub added_need : ℕ → List (List ℕ) → Option File → ℕ
added_need bsize more None = 0
added_need bsize more (Some f) =
    growth_taken bsize f.format (stored_size f.format f.records) (stored_size f.format (f.records ++ more))

-- the place of the file of a name, from 0; where none has it, that behind the last
unfoldable pub place_named : Name → List File → ℕ
place_named name [] = 0
place_named name (f ∷ fs) = if same_name name f.name then 0 else suc (place_named name fs)

-- the numbers of the directory's entries that a change makes anew: its own, that of the changed file, and where a file goes that of the
-- last, which takes its place; where stamps are moved, all
unfoldable pub entries_made : List File → Change → List ℕ
entries_made files (Put new) = 0 ∷ (place_named new.name files + 2) ∷ []
entries_made files (Add name more stamp) = 0 ∷ (place_named name files + 2) ∷ []
entries_made files (Drop name) = 0 ∷ (place_named name files + 2) ∷ (length files - 1 + 2) ∷ []
entries_made files (Rename from to number) = 0 ∷ (place_named from files + 2) ∷ []
entries_made files (Relabel volid) = []
entries_made files (Century pivot) = all_entries (length files)

-- how many files there are after a change
abbrev pub count_after : Minidisk → Change → ℕ
count_after m change = length (changed_files m.files change)

-- the data blocks of the directory that a change writes: those in which these entries stand
abbrev pub directory_written : Minidisk → Change → List ℕ
directory_written m change = blocks_made m.bsize (count_after m change) (entries_made m.files change)

-- the free blocks that it needs for the directory, of which it writes these data blocks alone, but for the first
abbrev pub directory_fresh : Minidisk → Change → ℕ
directory_fresh m change = directory_taken m.bsize (length m.files) (count_after m change) (entries_made m.files change)

-- and with those of the map, which is charged whole
abbrev pub system_need : Minidisk → Change → ℕ
system_need m change = directory_fresh m change + map_size m.bsize m.total

-- the free blocks that a change needs
unfoldable pub need : Minidisk → Change → ℕ
need m (Relabel volid) = 0
need m (Put new) = file_need m.bsize (written_file m (Put new)) + system_need m (Put new)
need m (Add name more stamp) = added_need m.bsize more (file_named name m.files) + system_need m (Add name more stamp)
need m (Drop name) = system_need m (Drop name)
need m (Rename from to number) = system_need m (Rename from to number)
need m (Century pivot) = system_need m (Century pivot)

-- the change needs more blocks than are free
unfoldable pub is_full : Minidisk → Change → Bool
is_full m change = nat_lt (free_count m) (need m change)

-- the limit that a file passes by its records or its bytes
abbrev pub file_limit : Option File → Option ℕ
file_limit None = None
file_limit (Some f) =
    if nat_lt most_records (length f.records) then Some 2
    else if nat_lt most_bytes (stored_size f.format f.records) then Some 3
    else None

-- the lowest limit that a change passes: 1, more than 16,384 files; 2, more than 1,048,576 records of the file; 3, more
-- than 67,108,864 stored bytes of it
unfoldable pub limit : Minidisk → Change → Option ℕ
limit m change = if nat_lt most_files (length (changed_files m.files change)) then Some 1 else file_limit (written_file m change)

-- what a change comes to
pub data Answer : Type 0 where
  Limited : ℕ → Answer
  Full : ℕ → ℕ → Answer
  Changed : Minidisk → Answer

-- the new minidisk, or that the change is full
abbrev pub unless_full : Minidisk → Change → Answer
unless_full m change = if is_full m change then Full (need m change) (free_count m) else Changed (changed m change)

-- that answer, or the limit that is passed
abbrev pub unless_limited : Option ℕ → Answer → Answer
unless_limited (Some k) answer = Limited k
unless_limited None answer = answer

-- the first limit, else that it is full, else the new minidisk
unfoldable pub answer_of : Minidisk → Change → Answer
answer_of m change = unless_limited (limit m change) (unless_full m change)

-- the empty minidisk on a unit
abbrev pub empty_minidisk : List ℕ → ℕ → ℕ → Minidisk
empty_minidisk volid bsize total = record { volid = volid; bsize = bsize; total = total; lost = 0; files = [] }
