-- A file that is drafted: data blocks with the bytes of its records, and the pointer blocks over them.
use Rattle.std.specs.Prelude.{◌≡◌, ◌==◌, if◌then◌else◌, ℕ, zero, suc, ◌+◌, ◌-◌, ◌*◌, ◌/◌, ◌≤◌, ◌^◌, ◌<◌, nat_lt, List, [], ◌∷◌, ◌++◌, length, take, drop, replicate, slice_index, All, None}
use Rattle.cms_fields.specs.Numbers.{up}
use Rattle.cms_names.specs.declared.name.Format.{Format}
use Rattle.cms_fields.specs.Entries.{fan_of, pointer_size}
use Rattle.cms_fields.specs.declared.entry.Entry.{Entry}
use Rattle.cms_model.specs.Lists.{times}
use Rattle.cms_model.specs.Trees.{Image, Met, form_of}
use Rattle.cms_model.specs.Sizes.{levels}
use Rattle.cms_model.specs.Settled.{Write}
use Rattle.cms_model.specs.LawsUpdates.{put_blocks}
use Rattle.cms_model.specs.Records.{Fits, stored}
use Rattle.cms_model.specs.Built.{AllAllowed}
use Rattle.cms_model.specs.Volumes.{Disk}
use Rattle.cms_model.specs.Stands.{HoldsFile}
use Rattle.cms_tree.specs.declared.types.Mark.{Mark}
use Rattle.cms_tree.specs.Builds.{IsBuildable, HasNodes, root_of}
use Rattle.cms_tree.specs.Climbs.{climb_writes_on, numbers_behind}
use Rattle.cms_tree.specs.Kept.{Kept}
pub use Rattle.cms_held.specs.Marks.{mark_of, nowhere, starts_from}
use Rattle.cms_held.specs.SharedTrees.{IsStanding}
use Rattle.cms_held.specs.Systems.{HasWritten}

-- ---- data blocks

-- bytes with zeros behind them up to the end of a block
abbrev pub filled : ℕ → List ℕ → List ℕ
filled bsize bytes = bytes ++ replicate (bsize - length bytes) 0

-- the bytes of data block k, from 0, of a file with these stored bytes
abbrev pub data_block : ℕ → List ℕ → ℕ → List ℕ
data_block bsize bytes k = filled bsize (take bsize (drop (k * bsize) bytes))

-- an image has the data blocks of stored bytes at these numbers
abbrev pub HasData : Image → ℕ → List ℕ → List ℕ → Type 0
HasData image bsize leaves bytes = (k : ℕ) → k < length leaves → image (slice_index leaves k) ≡ data_block bsize bytes k

-- ---- what comes in front

-- what a file has in front of the records that are put: the bytes that are stored of it, how many records these are, the place in
-- the data block that isn't full at which the first of them begins, and what is kept of the pointer blocks of each level
pub record Front : Type 0 where
  pub bytes : List ℕ
  pub count : ℕ
  pub place : ℕ
  pub nodes : List Kept

-- a new file has nothing in front
abbrev pub no_front : Front
no_front = record { bytes = []; count = 0; place = nowhere; nodes = [] }

-- the stored bytes with these records behind what comes in front
abbrev pub stored_on : Format → Front → List (List ℕ) → List ℕ
stored_on format front records = front.bytes ++ stored format records

-- ---- the marks of data blocks, in files whose records have lengths of their own

-- the place, among all stored bytes, at which a record begins in front in the data block that isn't full, if one does
abbrev pub starts_in_front : ℕ → Front → List ℕ
starts_in_front bsize front =
    if front.place == nowhere then [] else (length front.bytes / bsize * bsize + front.place) ∷ []

-- that place, and those at which these records begin
abbrev pub starts_on : ℕ → Front → List (List ℕ) → List ℕ
starts_on bsize front records = starts_in_front bsize front ++ starts_from (length front.bytes) records

-- the mark of data block k: how many records begin up to its end, and where in it the first does
abbrev pub mark_with : ℕ → Front → List (List ℕ) → ℕ → Mark
mark_with bsize front records k = record {
  last = front.count + (mark_of bsize (starts_from (length front.bytes) records) k).last;
  place = (mark_of bsize (starts_on bsize front records) k).place;
}

-- ---- a finished draft

-- a file with these records, whose entry points to these blocks, stands in the image
pub record IsDrafted (disk : Disk) (total : ℕ) (image : Image) (e : Entry) (leaves : List ℕ) (marks : List Mark) (fresh : List ℕ)
    (records : List (List ℕ)) : Type 0 where
  pub plan : IsBuildable disk.bsize (pointer_size e.format) leaves marks fresh
  pub small : total < 2 ^ 32
  pub words : All (λ n. n < 2 ^ 32) leaves
  pub data_allowed : AllAllowed total None leaves
  pub nodes_allowed : AllAllowed total None fresh
  pub root : e.root ≡ root_of leaves fresh
  pub blocks : e.blocks ≡ length leaves
  pub levels_are : e.levels ≡ levels (fan_of disk.bsize e.format) (length leaves)
  pub count : e.count ≡ length records
  pub each : All (Fits e.format e.length) records
  pub size : length leaves ≡ up (length (stored e.format records)) disk.bsize
  pub has_data : HasData image disk.bsize leaves (stored e.format records)
  pub nodes : HasNodes image disk.bsize (pointer_size e.format) leaves marks fresh

-- the volume holds it, with these blocks, as which its tree stands, and with these records
pub record Drafted (disk : Disk) (total : ℕ) (image : Image) (e : Entry) (leaves fresh : List ℕ) (records : List (List ℕ)) : Type 0 where
  pub met : Met
  pub holds : HoldsFile disk total image (record { entry = e; met = met; records = records })
  pub leaves_are : met.leaves ≡ leaves
  pub blocks_are : (n : ℕ) → times n met.blocks ≡ times n fresh + times n leaves
  pub stands : IsStanding (form_of disk.bsize total e.format) image (record { leaves = leaves; pointers = fresh })

-- a finished draft holds its file
abbrev pub DraftHolds : Type 0
DraftHolds =
    (disk : Disk) (total : ℕ) (image : Image) (e : Entry) (leaves : List ℕ) (marks : List Mark) (fresh : List ℕ) (records : List (List ℕ))
    → IsDrafted disk total image e leaves marks fresh records → Drafted disk total image e leaves fresh records

-- ---- how it is written

-- a data block as it is written
abbrev pub data_write : ℕ → List ℕ → List ℕ → ℕ → Write
data_write bsize leaves bytes k = record { block = slice_index leaves k; bytes = data_block bsize bytes k }

-- what is written with the first data blocks, where so many are kept of the tree before and so much of its pointer blocks: each of
-- them that isn't kept, and behind it the pointer blocks that are complete with it
unfoldable pub draft_writes : ℕ → ℕ → List ℕ → List Mark → List ℕ → ℕ → List Kept → List ℕ → ℕ → List Write
draft_writes bsize psize leaves marks fresh kept es bytes zero = []
draft_writes bsize psize leaves marks fresh kept es bytes (suc k) = draft_writes bsize psize leaves marks fresh kept es bytes k
    ++ (if nat_lt k kept then []
    else data_write bsize leaves bytes k ∷ climb_writes_on bsize psize leaves marks fresh kept es k)

-- the blocks that are written: the data blocks behind the kept ones, and the pointer blocks that don't end within those
abbrev pub own_blocks : ℕ → List ℕ → List ℕ → ℕ → List ℕ
own_blocks fan leaves fresh kept =
    drop kept leaves ++ numbers_behind fan (levels fan (length leaves)) (length leaves) kept fresh

-- an image has what is written with the first data blocks
abbrev pub HasDraft : Image → ℕ → ℕ → List ℕ → List Mark → List ℕ → ℕ → List Kept → List ℕ → ℕ → Type 0
HasDraft image bsize psize leaves marks fresh kept es bytes k =
    HasWritten image (draft_writes bsize psize leaves marks fresh kept es bytes k)

-- with all of them it has the data blocks and the pointer blocks
pub record HasAll (image : Image) (bsize psize : ℕ) (leaves : List ℕ) (marks : List Mark) (fresh bytes : List ℕ) : Type 0 where
  pub has_data : HasData image bsize leaves bytes
  pub nodes : HasNodes image bsize psize leaves marks fresh

-- where a new file's blocks stand in an image, the file's tree is there with these data blocks and
-- bytes
abbrev pub DraftHasAll : Type 0
DraftHasAll =
    (image : Image) (bsize psize : ℕ) (leaves : List ℕ) (marks : List Mark) (fresh bytes : List ℕ)
    → IsBuildable bsize psize leaves marks fresh
    → HasDraft image bsize psize leaves marks fresh 0 [] bytes (length leaves)
    → HasAll image bsize psize leaves marks fresh bytes

-- an image that has what is written with some data blocks, where what is written with the next ones is put into it, has that too: no
-- block stands twice
abbrev pub DraftIsPut : Type 0
DraftIsPut =
    (image : Image) (bsize psize : ℕ) (leaves : List ℕ) (marks : List Mark) (fresh : List ℕ) (kept : ℕ) (es : List Kept)
    (bytes : List ℕ) (from to : ℕ) (part : List Write)
    → IsBuildable bsize psize leaves marks fresh → ((n : ℕ) → times n (leaves ++ fresh) ≤ 1) → to ≤ length leaves
    → draft_writes bsize psize leaves marks fresh kept es bytes from ++ part
    ≡ draft_writes bsize psize leaves marks fresh kept es bytes to
    → HasDraft image bsize psize leaves marks fresh kept es bytes from
    → HasDraft (put_blocks image part) bsize psize leaves marks fresh kept es bytes to

-- what stands of a draft stays where a part of what is written next is put
abbrev pub DraftStays : Type 0
DraftStays =
    (image : Image) (bsize psize : ℕ) (leaves : List ℕ) (marks : List Mark) (fresh : List ℕ) (kept : ℕ) (es : List Kept)
    (bytes : List ℕ) (from to : ℕ) (part rest : List Write)
    → IsBuildable bsize psize leaves marks fresh → ((n : ℕ) → times n (leaves ++ fresh) ≤ 1) → to ≤ length leaves
    → draft_writes bsize psize leaves marks fresh kept es bytes from ++ (part ++ rest)
    ≡ draft_writes bsize psize leaves marks fresh kept es bytes to
    → HasDraft image bsize psize leaves marks fresh kept es bytes from
    → HasDraft (put_blocks image part) bsize psize leaves marks fresh kept es bytes from
