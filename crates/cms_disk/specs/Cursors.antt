-- A file that is read record by record.
use Rattle.std.specs.Prelude.{◌≡◌, ◌⊎◌, ℕ, ◌+◌, ◌-◌, ◌*◌, ◌/◌, ◌≤◌, ◌<◌, min, Bool, true, false, List, [], ◌∷◌, ◌++◌, length, take, drop, slice_index, All, Option, None, Some, IfSome, Result, Ok, Err}
use Rattle.std.specs.List.{concat}
use Rattle.cms_fields.specs.Limits.{most_bytes, longest_record}
use Rattle.cms_names.specs.declared.name.Format.{Format}
use Rattle.cms_names.specs.declared.name.Format.TheVariants.{F, V}
use Rattle.cms_model.specs.Lists.{cut}
use Rattle.cms_model.specs.Records.{varying, longest}
use Rattle.cms_model.specs.Trees.{Image, bytes_at}
use Rattle.cms_records.specs.Pieces.{RecordState, bytes_so_far, next_place, record_size, is_whole, text_in}
use Rattle.cms_disk.specs.declared.fault.DiskFault.{DiskFault}
use Rattle.cms_disk.specs.declared.fault.DiskFault.TheVariants as failed

-- how far a file was read: its unit, with so many blocks of a size; the file's data blocks, how many of them were read or passed over,
-- the bytes of the one that was read last, how many of these were taken, and how many bytes of the next one are passed over; how many
-- records are left to hand out, the record that is begun or was handed out last, and whether the bytes turned out to be no records
pub record Cursor : Type 0 where
  pub unit : ℕ
  pub total : ℕ
  pub bsize : ℕ
  pub leaves : List ℕ
  pub done : ℕ
  pub block : List ℕ
  pub from : ℕ
  pub over : ℕ
  pub left : ℕ
  pub begun : RecordState
  pub altered : Bool

-- ---- what is held in memory

-- besides the list of blocks one block is held, and of one record, no longer than the longest, its bytes and the two of its length
pub record HoldsLittle (c : Cursor) : Type 0 where
  pub block : length c.block ≡ c.bsize
  pub begun : length c.begun.bytes ≤ c.begun.longest + 2

-- records of one length have at least one byte, and none is above the longest
pub record HasLengths (s : RecordState) : Type 0 where
  pub fixed : IfSome s.fixed (λ n. (1 ≤ n) × (n ≤ s.longest))
  pub short : s.longest ≤ longest_record

-- each of these is a block of so many
abbrev pub AreOn : ℕ → List ℕ → Type 0
AreOn total leaves = (k : ℕ) → k < length leaves → (1 ≤ slice_index leaves k) × (slice_index leaves k ≤ total)

-- what was taken lies in the blocks that were read
abbrev pub IsWithin : Cursor → Type 0
IsWithin c = c.altered ≡ false → c.begun.place + length c.begun.bytes + c.bsize ≤ c.done * c.bsize + c.from

-- what always holds
pub record IsReading (c : Cursor) : Type 0 where
  pub held : HoldsLittle c
  pub lengths : HasLengths c.begun
  pub leaves : AreOn c.total c.leaves
  pub taken : c.from ≤ c.bsize
  pub over : c.over < c.bsize
  pub done : c.done ≤ length c.leaves
  pub few : length c.leaves * c.bsize ≤ most_bytes
  pub within : IsWithin c
  pub some : 1 ≤ c.bsize

-- ---- what is left

-- these bytes hold so many records, the first at a place: all of one length, or each behind its own and none above the longest
abbrev pub HoldLeft : ℕ → Option ℕ → ℕ → ℕ → ℕ → List ℕ → List (List ℕ) → Type 0
HoldLeft bsize (Some size) most left place bytes records = (records ≡ cut left size bytes) × (left * size ≤ length bytes)
HoldLeft bsize None most left place bytes records = (varying bsize left place bytes ≡ Ok records) × (longest records ≤ most)

-- the bytes of the file that aren't handed out or passed over, in an image of its unit
abbrev pub unread : Image → Cursor → List ℕ
unread image c = bytes_so_far c.begun ++ (drop c.from c.block ++ drop c.over (bytes_at image (drop c.done c.leaves)))

-- each of these blocks has this size in an image
abbrev pub AreSized : Image → ℕ → List ℕ → Type 0
AreSized image bsize leaves = (k : ℕ) → k < length leaves → length (image (slice_index leaves k)) ≡ bsize

-- these records are left to hand out, where the unit has this image
pub record HasLeft (image : Image) (c : Cursor) (records : List (List ℕ)) : Type 0 where
  pub sound : c.altered ≡ false
  pub sizes : AreSized image c.bsize c.leaves
  pub held : HoldLeft c.bsize c.begun.fixed c.begun.longest c.left (next_place c.begun) (unread image c) records

-- the record that was handed out last
abbrev pub text_of : Cursor → List ℕ
text_of c = text_in c.begun.fixed c.begun.bytes

-- what the next read makes of the records that are left: it hands out the first of them, says that there is none, or leaves
-- them as they are; they are never found altered
abbrev pub HandsOut : Image → Cursor → List (List ℕ) → Result Bool DiskFault → Type 0
HandsOut image c records (Ok true) = (more : List (List ℕ)) × (records ≡ text_of c ∷ more) × HasLeft image c more
HandsOut image c records (Ok false) = (records ≡ []) × HasLeft image c records
HandsOut image c records (Err failed.Device) = HasLeft image c records
HandsOut image c records (Err failed.NotFound) = ⊥
HandsOut image c records (Err failed.Exists) = ⊥
HandsOut image c records (Err failed.ReadOnly) = ⊥
HandsOut image c records (Err failed.InDoubt) = ⊥
HandsOut image c records (Err failed.Altered) = ⊥
HandsOut image c records (Err (failed.Limit which)) = ⊥
HandsOut image c records (Err (failed.Full need free)) = ⊥
HandsOut image c records (Err failed.Memory) = ⊥

-- ---- steps of a read

-- it is the same file
pub record SameFile (old new : Cursor) : Type 0 where
  pub unit : new.unit ≡ old.unit
  pub total : new.total ≡ old.total
  pub bsize : new.bsize ≡ old.bsize
  pub leaves : new.leaves ≡ old.leaves
  pub fixed : new.begun.fixed ≡ old.begun.fixed
  pub longest : new.begun.longest ≡ old.begun.longest

-- no block was read, or bytes of the one that was read last were taken for the record, behind those that were passed over
abbrev pub IsNeeded : Cursor → Cursor → Type 0
IsNeeded old new = (new.done ≡ old.done) ⊎ ((1 ≤ new.from) × (new.done ≡ old.done + 1 → old.over < new.from))

-- more bytes belong to the record that is begun
pub record IsShort (s : RecordState) : Type 0 where
  pub size : Option ℕ
  pub size_is : record_size s.fixed s.longest s.place s.bytes ≡ Ok size
  pub short : is_whole size s.bytes ≡ false
  pub begun : s.whole ≡ false

-- and all bytes that were read are taken
abbrev pub Waits : Cursor → Type 0
Waits c = IsShort c.begun × (c.from ≡ c.bsize)

-- what taking bytes makes of the records that are left: the first of them is whole, or they stay
abbrev pub Gives : Image → Cursor → List (List ℕ) → Bool → Type 0
Gives image c records true = (more : List (List ℕ)) × (records ≡ text_of c ∷ more) × HasLeft image (record c { left = c.left - 1 }) more
Gives image c records false = HasLeft image c records

-- a record has at least one byte and no more than the longest, and where all have one length, that
pub record TextFits (c : Cursor) : Type 0 where
  pub some : 1 ≤ length (text_of c)
  pub short : length (text_of c) ≤ c.begun.longest
  pub fixed : IfSome c.begun.fixed (λ n. length (text_of c) ≡ n)

-- a read failed of a record that is begun: as many are left, and all bytes that were read are taken, so that the next read begins with
-- the block that failed
pub record WaitsFor (old new : Cursor) : Type 0 where
  pub left : new.left ≡ old.left
  pub sound : new.altered ≡ old.altered
  pub waits : Waits new
  pub later : old.done ≤ new.done

-- ---- the start

-- the length that all records have, where they have one
abbrev pub fixed_of : Format → ℕ → Option ℕ
fixed_of F size = Some size
fixed_of V size = None

-- before the first byte of records
abbrev pub first_begun : Format → ℕ → RecordState
first_begun format size = record { fixed = fixed_of format size; longest = size; place = 0; bytes = []; whole = false }

-- no block was read yet of these, on a unit with so many of a size, and no record of so many
pub record IsFirst (number most size : ℕ) (blocks : List ℕ) (format : Format) (high count : ℕ) (c : Cursor) : Type 0 where
  pub unit : c.unit ≡ number
  pub total : c.total ≡ most
  pub bsize : c.bsize ≡ size
  pub leaves : c.leaves ≡ blocks
  pub done : c.done ≡ 0
  pub all : c.from ≡ size
  pub over : c.over ≡ 0
  pub left : c.left ≡ count
  pub begun : c.begun ≡ first_begun format high
  pub altered : c.altered ≡ false
  pub held : HoldsLittle c

-- nothing was read or passed over yet, and all records have one length
pub record IsUnread (c : Cursor) : Type 0 where
  pub done : c.done ≡ 0
  pub all : c.from ≡ c.bsize
  pub over : c.over ≡ 0
  pub begun : c.begun ≡ first_begun F c.begun.longest

-- the data block in which the record behind so many of a length begins, of so many blocks of a size
abbrev pub block_behind : ℕ → ℕ → ℕ → ℕ → ℕ
block_behind count size bsize blocks = min blocks (count * size / bsize)

-- ---- records that are taken at once

-- so many of the records that come next lie whole in the block that was read last: all have this length, and none is begun
pub record AreAhead (c : Cursor) (size count : ℕ) : Type 0 where
  pub fixed : c.begun.fixed ≡ Some size
  pub between : bytes_so_far c.begun ≡ []
  pub few : count ≤ c.left
  pub room : c.from + count * size ≤ c.bsize

-- these bytes are the first so many of the records, in a row, each of this length
pub record AreRun (size count : ℕ) (records : List (List ℕ)) (bytes : List ℕ) : Type 0 where
  pub few : count ≤ length records
  pub bytes_are : bytes ≡ concat (take count records)
  pub each : All (λ text. length text ≡ size) (take count records)
