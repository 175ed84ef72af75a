-- A file that is put into a volume as it is held: it was drafted on free blocks, and one update makes it the volume's.
use Rattle.std.specs.Prelude.{◌≡◌, ℕ, ◌+◌, ◌/◌, ◌≤◌, true, nat_lt, if◌then◌else◌, List, [], ◌∷◌, ◌++◌, length, position, slice_get, slice_set, All, Option, None, Some}
use Rattle.cms_journal.specs.declared.event.Event.{Event}
use Rattle.cms_journal.specs.Journal.{Journal}
use Rattle.cms_names.specs.declared.name.Name.{Name}
use Rattle.cms_names.specs.declared.name.Format.{Format}
use Rattle.cms_fields.specs.Entries.{fan_of, passes, pointer_size}
use Rattle.cms_fields.specs.Limits.{most_bytes, most_files, most_records}
use Rattle.cms_fields.specs.Numbers.{up}
use Rattle.cms_fields.specs.declared.time.Stamp.{Stamp}
use Rattle.cms_model.specs.Lists.{times}
use Rattle.cms_model.specs.Minidisks.{File, Minidisk, same_name}
use Rattle.cms_model.specs.Changes.{Answer, Changed, Full, Limited, Put, answer_of, changed, need}
use Rattle.cms_model.specs.Records.{Fits, length_of, stored}
use Rattle.cms_model.specs.Settled.{Write, update, writes}
use Rattle.cms_model.specs.Sizes.{levels, tree_size}
use Rattle.cms_model.specs.LawsUpdates.{IsFront, after, now}
use Rattle.cms_map.specs.Bits.{free_blocks}
use Rattle.cms_tree.specs.declared.types.Mark.{Mark}
use Rattle.cms_tree.specs.Builds.{IsBuildable, root_of}
use Rattle.cms_tree.specs.Climbs.{AreOwn}
use Rattle.cms_held.specs.Marks.{start_of}
use Rattle.cms_held.specs.HeldVolumes.{HeldFile, HeldVolume, names_in}
use Rattle.cms_held.specs.Kept.{Keeps}
use Rattle.cms_tree.specs.Kept.{Kept}
use Rattle.cms_held.specs.Drafts.{HasAll, HasDraft, draft_writes, own_blocks}
use Rattle.cms_held.specs.Systems.{Systems}
use Rattle.cms_held.specs.Renewals.{Edit, blocks_in, made_at, needed}
use Rattle.cms_held.specs.MinidiskUpdates.{Carries, IsHeldMinidisk, IsReadyFor, written_count}
use Rattle.cms_held.specs.LawsRenewals.{writes_of}

-- ---- what it does to the files

-- a file takes the place of one, whose blocks are given back
abbrev pub replacing : List HeldFile → ℕ → HeldFile → HeldFile → Edit
replacing files place f g = record {
  files = slice_set files place g;
  made = made_at place;
  given = blocks_in f.tree;
  taken = blocks_in g.tree;
}

-- a file stands last
abbrev pub adding : List HeldFile → HeldFile → Edit
adding files g = record {
  files = files ++ g ∷ [];
  made = made_at (length files);
  given = [];
  taken = blocks_in g.tree;
}

-- the edit of a file that is put: it takes the place of the one of its name, else it stands last
pub data IsPutOf (v : HeldVolume) (g : HeldFile) : Edit → Type 0 where
  replaces : (place : ℕ) (f : HeldFile) → slice_get v.files place ≡ Some f → f.entry.name ≡ g.entry.name
      → IsPutOf v g (replacing v.files place f g)
  adds : position (same_name g.entry.name) (names_in v.files) ≡ None → IsPutOf v g (adding v.files g)

-- ---- what it takes

-- how many files there are then, by the place of its name
abbrev pub count_with : Option ℕ → ℕ → ℕ
count_with None files = files + 1
count_with (Some place) files = files

-- how many files there are once a file of this name is put
abbrev pub count_put : HeldVolume → Name → ℕ
count_put v name = count_with (position (same_name name) (names_in v.files)) (length v.files)

-- the entries that are made anew then
abbrev pub made_with : Option ℕ → ℕ → List ℕ
made_with None files = made_at files
made_with (Some place) files = made_at place

-- those that are made anew once a file of this name is put
abbrev pub made_put : HeldVolume → Name → List ℕ
made_put v name = made_with (position (same_name name) (names_in v.files)) (length v.files)

-- the free blocks that a file with so many stored bytes needs: its own, and those of the new directory and map
abbrev pub need_put : HeldVolume → Name → Format → ℕ → ℕ
need_put v name format bytes = tree_size (fan_of v.disk.bsize format) (up bytes v.disk.bsize)
    + needed v (count_put v name) (made_put v name)

-- the lowest limit that it passes, by the files that there are then, its records and its stored bytes
abbrev pub limit_put : ℕ → ℕ → ℕ → Option ℕ
limit_put files records bytes = if nat_lt most_files files then Some 1
    else if nat_lt most_records records then Some 2
    else if nat_lt most_bytes bytes then Some 3
    else None

-- what is answered to it: a limit, that there are too few free blocks, or that it is made
abbrev pub answer_put : Option ℕ → ℕ → ℕ → Minidisk → Answer
answer_put (Some k) needs free m = Limited k
answer_put None needs free m = if nat_lt free needs then Full needs free else Changed m

-- so it is answered
abbrev pub PutIsAnswered : Type 0
PutIsAnswered =
    (j : Journal) (v : HeldVolume) (m : Minidisk) (new : File) → IsHeldMinidisk j v m → Keeps v
    → answer_of m (Put new) ≡ answer_put (limit_put (count_put v new.name) (length new.records) (length (stored new.format new.records)))
    (need_put v new.name new.format (length (stored new.format new.records))) (length (free_blocks v.bits)) (changed m (Put new))

-- ---- as long as it is drafted

-- these blocks are free, and none stands twice
abbrev pub AreFree : HeldVolume → List ℕ → Type 0
AreFree v ns = (n : ℕ) → times n ns ≤ times n (free_blocks v.bits)

-- writes to free blocks leave the volume held as it is
abbrev pub FreeIsAside : Type 0
FreeIsAside =
    (j : Journal) (v : HeldVolume) (m : Minidisk) (blocks : List ℕ) (ws : List Write) (p : List Event) → IsHeldMinidisk j v m
    → AreFree v blocks → AreOwn v.disk.bsize blocks ws → IsFront p (writes v.unit ws) → IsHeldMinidisk (after j p) v m

-- what a draft wrote of a file stands in the contents as soon as it was written, and stays as long as more of it is written
pub record GoesOn (j : Journal) (u bsize psize : ℕ) (leaves : List ℕ) (marks : List Mark) (fresh : List ℕ) (kept : ℕ) (es : List Kept)
    (bytes : List ℕ) (from to : ℕ) (part : List Write) :
    Type 0 where
  pub stays : (p : List Event) → IsFront p (writes u part)
      → HasDraft (now (after j p) u) bsize psize leaves marks fresh kept es bytes from
  pub stands : HasDraft (now (after j (writes u part)) u) bsize psize leaves marks fresh kept es bytes to

-- what a draft adds, from one of its blocks to another, leaves the volume held: the blocks that it writes are free, and of the new
-- tree no block stands twice
abbrev pub DraftGoesOn : Type 0
DraftGoesOn =
    (j : Journal) (v : HeldVolume) (m : Minidisk) (psize : ℕ) (leaves : List ℕ) (marks : List Mark) (fresh : List ℕ) (kept : ℕ)
    (es : List Kept) (bytes : List ℕ) (from to : ℕ) (part : List Write) → IsHeldMinidisk j v m
    → ((n : ℕ) → times n (leaves ++ fresh) ≤ 1) → AreFree v (own_blocks (v.disk.bsize / psize) leaves fresh kept)
    → IsBuildable v.disk.bsize psize leaves marks fresh → to ≤ length leaves
    → draft_writes v.disk.bsize psize leaves marks fresh kept es bytes from ++ part
    ≡ draft_writes v.disk.bsize psize leaves marks fresh kept es bytes to
    → HasDraft (now j v.unit) v.disk.bsize psize leaves marks fresh kept es bytes from
    → GoesOn j v.unit v.disk.bsize psize leaves marks fresh kept es bytes from to part

-- ---- the update

-- a file as it is held is to be this one: it has its fields, and data blocks for its bytes with pointer blocks over them
pub record IsPutAs (bsize : ℕ) (g : HeldFile) (new : File) : Type 0 where
  pub name_is : g.entry.name ≡ new.name
  pub number_is : g.entry.number ≡ new.number
  pub format_is : g.entry.format ≡ new.format
  pub entry_length : g.entry.length ≡ new.length
  pub stamp_is : g.entry.stamp ≡ new.stamp
  pub count_is : g.entry.count ≡ length new.records
  pub root_is : g.entry.root ≡ root_of g.tree.leaves g.tree.pointers
  pub blocks_are : g.entry.blocks ≡ length g.tree.leaves
  pub levels_are : g.entry.levels ≡ levels (fan_of bsize g.entry.format) (length g.tree.leaves)
  pub length_is : g.length ≡ new.length
  pub size_is : g.size ≡ length (stored new.format new.records)
  pub start_is : g.start ≡ start_of bsize new.format new.records
  pub few : length new.records ≤ most_records
  pub small : length (stored new.format new.records) ≤ most_bytes
  pub each : All (Fits new.format new.length) new.records
  pub longest_is : length_of new.format new.length new.records ≡ new.length
  pub leaves_are : length g.tree.leaves ≡ up (length (stored new.format new.records)) bsize
  pub passes_all : passes bsize g.entry ≡ true

-- an update that was planned for it, where all of its blocks stand in the contents
pub record IsPutReady (j : Journal) (v : HeldVolume) (edit : Edit) (stamp : Stamp) (s : Systems) (g : HeldFile) (marks : List Mark)
    (new : File) :
    Type 0 where
  pub put : IsPutOf v g edit
  pub few : length edit.files ≤ most_files
  pub ready : IsReadyFor v edit stamp s
  pub file : IsPutAs v.disk.bsize g new
  pub plan : IsBuildable v.disk.bsize (pointer_size g.entry.format) g.tree.leaves marks g.tree.pointers
  pub has : HasAll (now j v.unit) v.disk.bsize (pointer_size g.entry.format) g.tree.leaves marks g.tree.pointers
      (stored g.entry.format new.records)

-- carried out, it puts the file
abbrev pub PutIsCarried : Type 0
PutIsCarried =
    (j : Journal) (v : HeldVolume) (edit : Edit) (stamp : Stamp) (s : Systems) (g : HeldFile) (marks : List Mark) (new : File)
    (m : Minidisk)
    → IsHeldMinidisk j v m → IsPutReady j v edit stamp s g marks new → Carries j v edit s m (Put new)

-- a file with its data blocks and pointer blocks and the update that puts it, taken as one update, write at most two blocks more than it
-- needs: the directory's first and the label
abbrev pub PutIsSmall : Type 0
PutIsSmall =
    (j : Journal) (v : HeldVolume) (edit : Edit) (stamp : Stamp) (s : Systems) (g : HeldFile) (marks : List Mark) (new : File)
    (m : Minidisk)
    → IsHeldMinidisk j v m → IsPutReady j v edit stamp s g marks new
    → written_count (update v.unit (draft_writes v.disk.bsize (pointer_size g.entry.format) g.tree.leaves marks g.tree.pointers 0 []
    (stored new.format new.records) (length g.tree.leaves) ++ writes_of v s) s.label_bytes) ≤ need m (Put new) + 2
