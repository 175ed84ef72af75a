-- What follows for records and the bytes that hold them.
use Rattle.std.specs.Prelude.{◌≡◌, ◌↔◌, ℕ, ◌+◌, ◌*◌, ◌<◌, ◌≤◌, List, length, slice_index, Ok}
use Rattle.cms_names.specs.declared.name.Format.{Format}
use Rattle.cms_names.specs.declared.name.Format.TheVariants.{F, V}
use Rattle.cms_model.specs.Records.{HoldRecords, StandsFor, IsValid, records_of, stored}
use Rattle.cms_model.specs.Sizes.{stored_size}
use Rattle.cms_model.specs.declared.file.FileData.{FileData}

-- each number is a byte
abbrev pub AreBytes : List ℕ → Type 0
AreBytes bytes = (k : ℕ) → slice_index bytes k < 256

-- at F: bytes hold records exactly where they are cut into these, with less than a block left
abbrev pub FixedAreCut : Type 0
FixedAreCut =
    (bsize size count : ℕ) (bytes : List ℕ) (records : List (List ℕ)) → length records ≡ count
    → HoldRecords bsize F size bytes records
    ↔ ((records_of bsize F size count bytes ≡ Ok records) × (count * size ≤ length bytes) × (length bytes < count * size + bsize))

-- at V: bytes hold records exactly where these are read from them
abbrev pub VaryingAreRead : Type 0
VaryingAreRead =
    (bsize size count : ℕ) (bytes : List ℕ) (records : List (List ℕ)) → AreBytes bytes
    → (HoldRecords bsize V size bytes records × (length records ≡ count)) ↔ (records_of bsize V size count bytes ≡ Ok records)

-- records are stored in so many bytes
abbrev pub StoredHasSize : Type 0
StoredHasSize = (format : Format) (records : List (List ℕ)) → length (stored format records) ≡ stored_size format records

-- stored bytes stand for one list of records
abbrev pub StandsForOne : Type 0
StandsForOne = (f : FileData) (some others : List (List ℕ)) → StandsFor f some → StandsFor f others → some ≡ others

-- a valid file has a record, and a byte that is stored
abbrev pub ValidHasRecords : Type 0
ValidHasRecords = (f : FileData) → IsValid f → (1 ≤ f.count) × (1 ≤ length f.bytes)
