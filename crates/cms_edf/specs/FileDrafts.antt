-- A file that is drafted for a volume as it is held: what is planned for it.
use Rattle.std.specs.Prelude.{◌≡◌, ℕ, ◌+◌, ◌<◌, ◌≤◌, true, List, [], ◌∷◌, ◌++◌, length, position, slice_get, slice_set, All, Option, None, Some, Result, Ok, Err, ⊤}
use Rattle.std.specs.Option.{ForSome}
use Rattle.cms_journal.specs.Journal.{Journal}
use Rattle.cms_journal.specs.Told.{Told, plus}
use Rattle.cms_journal.specs.declared.event.Event.{Event}
use Rattle.cms_journal.specs.declared.event.Failed.{Failed}
use Rattle.cms_names.specs.declared.name.Name.{Name}
use Rattle.cms_fields.specs.Entries.{fan_of, passes}
use Rattle.cms_fields.specs.Limits.{longest_record, most_files}
use Rattle.cms_fields.specs.Numbers.{up}
use Rattle.cms_fields.specs.Stamps.{is_stamp}
use Rattle.cms_fields.specs.declared.entry.Entry.{Entry}
use Rattle.cms_fields.specs.declared.time.Stamp.{Stamp}
use Rattle.cms_model.specs.Changes.{Change, Changed, answer_of, changed, need}
use Rattle.cms_model.specs.Lists.{times}
use Rattle.cms_model.specs.LawsUpdates.{HasEither, IsFront, after, now, to_label}
use Rattle.cms_model.specs.Minidisks.{File, Minidisk, Volume, same_name}
use Rattle.cms_model.specs.Settled.{Write, update}
use Rattle.cms_model.specs.Sizes.{levels, pointer_count}
use Rattle.cms_map.specs.Bits.{free_blocks}
use Rattle.cms_tree.specs.Builds.{root_of}
use Rattle.cms_held.specs.Kept.{IsSized}
use Rattle.cms_held.specs.HeldVolumes.{HeldFile, HeldTree, HeldVolume, names_in}
use Rattle.cms_held.specs.Systems.{Systems}
use Rattle.cms_held.specs.Renewals.{Edit, blocks_in, renewed}
use Rattle.cms_held.specs.MinidiskUpdates.{IsHeldMinidisk, IsReadyFor, written_count}
use Rattle.cms_held.specs.Drafts.{Front, HasDraft, stored_on}
use Rattle.cms_held.specs.LawsRenewals.{writes_of}
use Rattle.cms_held.specs.Puts.{AreFree, IsPutOf, count_put, limit_put, need_put}
use Rattle.cms_held.specs.BlockWriters.{its_blocks, written_with}
use Rattle.cms_held.specs.FileWriters.{FileWriter, marks_in, start_in}
use Rattle.cms_held.specs.declared.shape.DraftShape.{DraftShape}
use Rattle.cms_edf.specs.Doubts.{Updates}
use Rattle.cms_edf.specs.declared.allotment.PlanFault.{PlanFault}
use Rattle.cms_edf.specs.declared.doubt.Doubt.{Doubt}
use Rattle.cms_edf.specs.declared.doubt.Doubt.TheVariants.{Old, Either}
use Rattle.cms_edf.specs.declared.allotment.PlanFault.TheVariants as failed

-- a file that is drafted: its entry, its records as far as they were put, and what is written then but its own blocks
pub record Draft : Type 0 where
  pub entry : Entry
  pub writer : FileWriter
  pub systems : Systems

-- the numbers of its blocks
abbrev pub tree_of : Draft → HeldTree
tree_of d = d.writer.writer.tree

-- an entry for a file of this shape over a tree
abbrev pub entry_for : ℕ → Name → DraftShape → HeldTree → Entry
entry_for bsize name shape tree = record {
  name = name;
  number = shape.number;
  format = shape.format;
  length = shape.length;
  root = root_of tree.leaves tree.pointers;
  blocks = length tree.leaves;
  count = shape.count;
  levels = levels (fan_of bsize shape.format) (length tree.leaves);
  stamp = shape.stamp;
}

-- the file as it is to be held, where the first record of its last data block begins there
abbrev pub file_for : ℕ → Name → DraftShape → HeldTree → ℕ → HeldFile
file_for bsize name shape tree start = record {
  entry = entry_for bsize name shape tree;
  tree = tree;
  length = shape.length;
  size = shape.bytes;
  start = start;
}

-- ---- what is asked for

-- a shape that a file may have
pub record CanDraft (shape : DraftShape) : Type 0 where
  pub number : shape.number ≤ 6
  pub stamp : is_stamp shape.stamp ≡ true
  pub some : 1 ≤ shape.count
  pub low : 1 ≤ shape.length
  pub high : shape.length ≤ longest_record
  pub sized : IsSized shape.format shape.length shape.count shape.bytes

-- ---- the blocks that it takes

-- these blocks are given back: those of the file at a place, or none
abbrev pub GivenAt : List HeldFile → Option ℕ → List ℕ → Type 0
GivenAt files None given = given ≡ []
GivenAt files (Some place) given = (f : HeldFile) → slice_get files place ≡ Some f → given ≡ blocks_in f.tree

-- a list with another element in a place, or behind its own
abbrev pub list_with : {A : Type 0} → List A → Option ℕ → A → List A
list_with xs None x = xs ++ x ∷ []
list_with xs (Some place) x = slice_set xs place x

-- a place is that of a file
abbrev pub IsPlaceIn : List HeldFile → Option ℕ → Type 0
IsPlaceIn files None = ⊤
IsPlaceIn files (Some place) = place < length files

-- ---- what is planned

-- a file of a name and shape is planned for the volume, in the blocks of this tree and with this start: it fits in, and this is written for
-- it then
pub record IsFilePlanned (v : HeldVolume) (name : Name) (shape : DraftShape) (stamp : Stamp) (tree : HeldTree) (s : Systems) (start : ℕ) :
    Type 0 where
  pub asked : CanDraft shape
  pub edit : Edit
  pub put : IsPutOf v (file_for v.disk.bsize name shape tree start) edit
  pub files_are : edit.files ≡ list_with v.files (position (same_name name) (names_in v.files))
      (file_for v.disk.bsize name shape tree start)
  pub few : length edit.files ≤ most_files
  pub ready : IsReadyFor v edit stamp s
  pub label_long : length s.label_bytes ≡ v.disk.bsize
  pub passes_all : passes v.disk.bsize (entry_for v.disk.bsize name shape tree) ≡ true
  pub leaves_are : length tree.leaves ≡ up shape.bytes v.disk.bsize
  pub pointers_are : length tree.pointers ≡ pointer_count (fan_of v.disk.bsize shape.format) (length tree.leaves)
  pub free : AreFree v (blocks_in tree)
  pub within : All (λ n. (6 ≤ n) × (n ≤ v.label.blocks)) (blocks_in tree)
  pub unlimited : limit_put (count_put v name) shape.count shape.bytes ≡ None
  pub room : need_put v name shape.format shape.bytes ≤ length (free_blocks v.bits)

-- a draft is of such a file, wherever its records begin
pub record IsDraftFor (v : HeldVolume) (name : Name) (shape : DraftShape) (stamp : Stamp) (d : Draft) : Type 0 where
  pub entry_is : d.entry ≡ entry_for v.disk.bsize name shape (tree_of d)
  pub shape_is : d.writer.shape ≡ shape
  pub unit_is : d.writer.writer.unit ≡ v.unit
  pub bsize_is : d.writer.writer.bsize ≡ v.disk.bsize
  pub new : d.writer.writer.kept ≡ 0
  pub own : AreFree v (its_blocks d.writer.writer)
  pub file : (start : ℕ) → IsFilePlanned v name shape stamp (tree_of d) d.systems start

-- why it isn't planned: it passes a limit; it passes none, and needs more blocks than are free; or there is no memory
abbrev pub IsRefused : HeldVolume → Name → DraftShape → PlanFault → Type 0
IsRefused v name shape (failed.Limit which) = limit_put (count_put v name) shape.count shape.bytes ≡ Some which
IsRefused v name shape (failed.Full needs free) = (limit_put (count_put v name) shape.count shape.bytes ≡ None)
    × (needs ≡ need_put v name shape.format shape.bytes) × (free ≡ length (free_blocks v.bits)) × (free < needs)
IsRefused v name shape failed.Memory = ⊤

-- a draft is planned for some file, a new one or one that grows: it fits in, its own blocks are free and none of the file's stands twice,
-- and this is written for it then
pub record IsSomeDraft (v : HeldVolume) (d : Draft) : Type 0 where
  pub name : Name
  pub shape : DraftShape
  pub stamp : Stamp
  pub asked : CanDraft shape
  pub count : ℕ
  pub unlimited : limit_put count shape.count shape.bytes ≡ None
  pub entry_is : d.entry ≡ entry_for v.disk.bsize name shape (tree_of d)
  pub shape_is : d.writer.shape ≡ shape
  pub unit_is : d.writer.writer.unit ≡ v.unit
  pub bsize_is : d.writer.writer.bsize ≡ v.disk.bsize
  pub passes_all : passes v.disk.bsize (entry_for v.disk.bsize name shape (tree_of d)) ≡ true
  pub leaves_are : length (tree_of d).leaves ≡ up shape.bytes v.disk.bsize
  pub pointers_are : length (tree_of d).pointers ≡ pointer_count (fan_of v.disk.bsize shape.format) (length (tree_of d).leaves)
  pub own : AreFree v (its_blocks d.writer.writer)
  pub once : (j : Journal) (m : Minidisk) → IsHeldMinidisk j v m → (n : ℕ) → times n (blocks_in (tree_of d)) ≤ 1
  pub within : All (λ n. (6 ≤ n) × (n ≤ v.label.blocks)) (blocks_in (tree_of d))
  pub edit : ℕ → Edit
  pub files_are : (start : ℕ) → (edit start).files
      ≡ list_with v.files (position (same_name name) (names_in v.files)) (file_for v.disk.bsize name shape (tree_of d) start)
  pub few : (start : ℕ) → length (edit start).files ≤ most_files
  pub ready : (start : ℕ) → IsReadyFor v (edit start) stamp d.systems
  pub label_long : length d.systems.label_bytes ≡ v.disk.bsize

-- ---- as long as its records are put

-- what was added leaves the minidisk held at every moment
pub record StaysHeld (j : Journal) (new : Told) (v : HeldVolume) (m : Minidisk) : Type 0 where
  pub events : List Event
  pub told : new ≡ plus (Some j) events
  pub each : (p : List Event) → IsFront p events → IsHeldMinidisk (after j p) v m

-- what was written of a file with these records behind what comes in front stands in the contents
abbrev pub DraftStands : Journal → FileWriter → Front → List (List ℕ) → Type 0
DraftStands j d front records = HasDraft (now j d.writer.unit) d.writer.bsize d.writer.psize d.writer.tree.leaves
    (marks_in d front records) d.writer.tree.pointers d.writer.kept front.nodes
    (stored_on d.shape.format front records) d.writer.whole

-- it does so when a record was put, also where the device failed
abbrev pub StandsThen : Told → FileWriter → FileWriter → Front → List (List ℕ) → Result ⊤ Failed → Type 0
StandsThen new d d' front records (Ok x) = ForSome new (λ k. DraftStands k d' front records)
StandsThen new d d' front records (Err e) = ForSome new (λ k. DraftStands k d front records)

-- ---- once all are put

-- the file that it is with these records
abbrev pub put_in : Draft → List (List ℕ) → File
put_in d records = record {
  name = d.entry.name;
  number = d.entry.number;
  format = d.entry.format;
  length = d.entry.length;
  stamp = d.entry.stamp;
  records = records;
}

-- what was written of it while its records were put
abbrev pub put_writes : Draft → Front → List (List ℕ) → List Write
put_writes d front records = written_with d.writer.writer front.nodes (stored_on d.writer.shape.format front records)
    (marks_in d.writer front records) d.writer.writer.whole

-- the blocks of the file that aren't written yet
pub record IsLeft (d : Draft) (front : Front) (records : List (List ℕ)) (rest : List Write) : Type 0 where
  pub is : put_writes d front records ++ rest
      ≡ written_with d.writer.writer front.nodes (stored_on d.writer.shape.format front records) (marks_in d.writer front records)
      (length d.writer.writer.tree.leaves)

-- all writes before the label's
abbrev pub commit_writes : HeldVolume → Draft → List Write → List Write
commit_writes v d rest = rest ++ writes_of v d.systems

-- the events of its commit, or where it was cut off
abbrev pub CommitEvents : Told → Told → HeldVolume → Draft → List Write → Result ⊤ Doubt → Type 0
CommitEvents old new v d rest result = Updates old new v.unit (commit_writes v d rest) d.systems.label_bytes result

-- the change is made with these writes of the file before and the ones that are left; up to the write of the label the old minidisk is
-- held as before, at every moment each crash image is the old minidisk or the new, and all that is written, as one update, is at most two
-- blocks more than the change needs
pub record MakesChange (j : Journal) (v : HeldVolume) (d : Draft) (done rest : List Write) (m : Minidisk) (change : Change) :
    Type 0 where
  pub answer : answer_of m change ≡ Changed (changed m change)
  pub before : (p : List Event) → IsFront p (to_label v.unit (commit_writes v d rest)) → IsHeldMinidisk (after j p) v m
  pub either : (p : List Event) → IsFront p (update v.unit (commit_writes v d rest) d.systems.label_bytes)
      → HasEither v.disk (after j p) v.unit (Volume m) (Volume (changed m change))
  pub small : written_count (update v.unit (done ++ commit_writes v d rest) d.systems.label_bytes) ≤ need m change + 2

-- what it comes to: the new minidisk is held, as w, or the old one still is, or each crash image is one of both
abbrev pub Commits : Journal → Told → HeldVolume → HeldVolume → Minidisk → Draft → List Write → List Write → Change → Result ⊤ Doubt
    → Type 0
Commits j new v w m d done rest change (Ok x) = MakesChange j v d done rest m change
    × ForSome new (λ k. IsHeldMinidisk k w (changed m change))
Commits j new v w m d done rest change (Err Old) = MakesChange j v d done rest m change × ForSome new (λ k. IsHeldMinidisk k v m)
Commits j new v w m d done rest change (Err Either) = MakesChange j v d done rest m change
    × ForSome new (λ k. HasEither v.disk k v.unit (Volume m) (Volume (changed m change)))

-- the volume after it
abbrev pub LeadsToFile : HeldVolume → Draft → HeldVolume → Type 0
LeadsToFile v d w = (some : IsSomeDraft v d) → w ≡ renewed v (some.edit (start_in d.writer)) d.systems

-- it was committed, or cut off, with these records behind what comes in front: so many blocks of the file were left, and these are the
-- events
pub record IsCommitted (old new : Told) (v : HeldVolume) (d : Draft) (front : Front) (records : List (List ℕ)) (r : Result ⊤ Doubt) :
    Type 0 where
  pub rest : List Write
  pub left : IsLeft d front records rest
  pub events : CommitEvents old new v d rest r

-- and what that comes to, which is this change
pub record IsCommittedAt (j : Journal) (new : Told) (v w : HeldVolume) (m : Minidisk) (d : Draft) (front : Front)
    (records : List (List ℕ)) (change : Change) (r : Result ⊤ Doubt) :
    Type 0 where
  pub rest : List Write
  pub left : IsLeft d front records rest
  pub commits : Commits j new v w m d (put_writes d front records) rest change r
