-- A file that is drafted while its records come.
use Rattle.std.specs.Prelude.{◌≡◌, ℕ, ◌+◌, ◌<◌, ◌≤◌, List, [], ◌∷◌, ◌++◌, length, map, All, Result, Ok, Err, ⊤}
use Rattle.std.specs.List.{range_with_len}
use Rattle.cms_journal.specs.Told.{Told}
use Rattle.cms_journal.specs.declared.event.Failed.{Failed}
use Rattle.cms_names.specs.declared.name.Format.{Format}
use Rattle.cms_names.specs.declared.name.Format.TheVariants.{F, V}
use Rattle.cms_fields.specs.Entries.{pointer_size}
use Rattle.cms_fields.specs.Limits.{most_records}
use Rattle.cms_model.specs.Records.{Fits, stored}
use Rattle.cms_tree.specs.declared.types.Mark.{Mark}
use Rattle.cms_held.specs.Drafts.{Front, mark_with, no_front, nowhere, starts_in_front, stored_on}
use Rattle.cms_held.specs.HeldVolumes.{HeldTree}
use Rattle.cms_held.specs.BlockWriters.{IsWriter, Stops, Streams, Wrote, came, its_blocks}
use Rattle.cms_held.specs.declared.block_writer.BlockWriter.{BlockWriter}
use Rattle.cms_held.specs.declared.shape.DraftShape.{DraftShape}

-- a file that is drafted: what it is to be, how many of its records were put, and its blocks
pub record FileWriter : Type 0 where
  pub shape : DraftShape
  pub put : ℕ
  pub writer : BlockWriter

-- the marks of so many data blocks
abbrev pub marks_of : Format → ℕ → Front → List (List ℕ) → ℕ → List Mark
marks_of F bsize front records n = []
marks_of V bsize front records n = map (mark_with bsize front records) (range_with_len 0 n)

-- the mark of the data block that comes next, as far as records were put
abbrev pub IsMarkedSo : Format → BlockWriter → Front → List (List ℕ) → Type 0
IsMarkedSo F w front records = ⊤
IsMarkedSo V w front records = w.mark ≡ record {
  last = front.count + length records;
  place = (mark_with w.bsize front records w.whole).place;
}

-- what always holds
pub record IsDrafting (d : FileWriter) : Type 0 where
  pub writer : IsWriter d.writer
  pub unfilled : d.writer.filled < d.writer.bsize
  pub within : came d.writer ≤ d.writer.size
  pub size : d.writer.size ≡ d.shape.bytes
  pub pointer : d.writer.psize ≡ pointer_size d.shape.format
  pub put_few : d.put ≤ d.shape.count
  pub few : d.shape.count ≤ most_records
  pub begun : d.writer.mark.last ≤ d.put

-- the marks of its data blocks
abbrev pub marks_in : FileWriter → Front → List (List ℕ) → List Mark
marks_in d front records = marks_of d.shape.format d.writer.bsize front records (length d.writer.tree.leaves)

-- where the first record begins in the data block that the records that were put fill in part, or none; at F none
abbrev pub start_on : Format → BlockWriter → ℕ
start_on F w = nowhere
start_on V w = w.mark.place

-- the same of a file that is drafted, in its own format
abbrev pub start_in : FileWriter → ℕ
start_in d = start_on d.shape.format d.writer

-- behind what comes in front the first of these records were put, and the others are to come
pub record Drafts (d : FileWriter) (front : Front) (records more : List (List ℕ)) : Type 0 where
  pub put : d.put ≡ front.count + length records
  pub count : d.shape.count ≡ front.count + length (records ++ more)
  pub streams : Streams d.writer front.nodes (stored_on d.shape.format front (records ++ more)) (marks_in d front (records ++ more))
  pub came_is : came d.writer ≡ length (stored_on d.shape.format front records)
  pub begins : All (λ place. place < length front.bytes) (starts_in_front d.writer.bsize front)
  pub mark : IsMarkedSo d.shape.format d.writer front records
  pub each : All (Fits d.shape.format d.shape.length) (records ++ more)

-- records were put at once: what is written with the data blocks that are whole with them was written, or some of that and it failed
abbrev pub PutsRun : Told → Told → FileWriter → FileWriter → Front → List (List ℕ) → List (List ℕ)
    → List (List ℕ) → Result ⊤ Failed → Type 0
PutsRun old new d d' front records run more (Ok x) =
    Wrote old new d.writer d'.writer front.nodes
    (stored_on d.shape.format front (records ++ (run ++ more)))
    (marks_in d front (records ++ (run ++ more)))
    × Drafts d' front (records ++ run) more
PutsRun old new d d' front records run more (Err e) =
    Stops old new d.writer front.nodes (stored_on d.shape.format front (records ++ (run ++ more)))
    (marks_in d front (records ++ (run ++ more)))
    (length (stored_on d.shape.format front (records ++ run)))

-- a record was put
abbrev pub Puts : Told → Told → FileWriter → FileWriter → Front → List (List ℕ) → List ℕ → List (List ℕ) → Result ⊤ Failed → Type 0
Puts old new d d' front records text more r =
    PutsRun old new d d' front records (text ∷ []) more r

-- these records are those of such a file
pub record HaveShape (shape : DraftShape) (records : List (List ℕ)) : Type 0 where
  pub count : length records ≡ shape.count
  pub bytes : length (stored shape.format records) ≡ shape.bytes
  pub each : All (Fits shape.format shape.length) records

-- a new file, of which no record is put yet, whatever they are
pub record IsFresh (unit bsize : ℕ) (shape : DraftShape) (tree : HeldTree) (d : FileWriter) : Type 0 where
  pub shape_is : d.shape ≡ shape
  pub unit_is : d.writer.unit ≡ unit
  pub bsize_is : d.writer.bsize ≡ bsize
  pub tree_is : d.writer.tree ≡ tree
  pub kept : d.writer.kept ≡ 0
  pub own : its_blocks d.writer ≡ tree.leaves ++ tree.pointers
  pub put : d.put ≡ 0
  pub came_is : came d.writer ≡ 0
  pub drafts : (records : List (List ℕ)) → HaveShape shape records → Drafts d no_front [] records
