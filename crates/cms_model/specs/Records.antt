-- The records in the bytes of a file.
use Rattle.std.specs.Prelude.{◌≡◌, ℕ, zero, suc, ◌+◌, ◌<◌, ◌≤◌, max, true, nat_le, nat_lt, List, [], ◌∷◌, ◌++◌, length, take, drop, map, All, Result, Ok}
use Rattle.std.specs.List.{concat}
use Rattle.byteorder.specs.Endian.{big_bytes}
use Rattle.cms_names.specs.declared.name.Format.{Format}
use Rattle.cms_names.specs.declared.name.Format.TheVariants.{F, V}
use Rattle.cms_fields.specs.Steps.{◌>>=◌, ◌>>◌, want}
use Rattle.cms_text.specs.Bytes.{half}
use Rattle.cms_fields.specs.Stamps.{is_stamp}
use Rattle.cms_fields.specs.Limits.{longest_record}
use Rattle.cms_model.specs.Lists.{cut}
use Rattle.cms_model.specs.declared.fault.VarFault.{VarFault}
use Rattle.cms_model.specs.declared.fault.VarFault.TheVariants.{Zero, PastEnd, Left}
use Rattle.cms_model.specs.declared.file.FileData.{FileData}

-- a record at V: its length in two bytes, and its bytes
abbrev pub with_length : List ℕ → List ℕ
with_length text = big_bytes 2 (length text) ++ text

-- records as they are stored, one after another
abbrev pub stored : Format → List (List ℕ) → List ℕ
stored F records = concat records
stored V records = concat (map with_length records)

-- a record that the format has room for; at F all have the length given
abbrev pub Fits : Format → ℕ → List ℕ → Type 0
Fits F size text = length text ≡ size
Fits V size text = (1 ≤ length text) × (length text ≤ longest_record)

-- these bytes of whole blocks hold these records: they are stored at the front, with less than a block behind
pub record HoldRecords (bsize : ℕ) (format : Format) (size : ℕ) (bytes : List ℕ) (records : List (List ℕ)) : Type 0 where
  pub rest : List ℕ
  pub bytes_are : bytes ≡ stored format records ++ rest
  pub each : All (Fits format size) records
  pub short : length rest < bsize

-- the same as bytes tell it: `count` records at V, the first at this place, or the first place that fails
unfoldable pub varying : ℕ → ℕ → ℕ → List ℕ → Result (List (List ℕ)) VarFault
varying bsize zero place bytes = do
  want (nat_lt (length bytes) bsize) (Left place)
  Ok []
varying bsize (suc n) place bytes = do
  want (nat_le 2 (length bytes)) (PastEnd place)
  want (nat_le 1 (half bytes 0)) (Zero place)
  want (nat_le (2 + half bytes 0) (length bytes)) (PastEnd place)
  more ← varying bsize n (place + (2 + half bytes 0)) (drop (2 + half bytes 0) bytes)
  Ok (take (half bytes 0) (drop 2 bytes) ∷ more)

-- the records of a file of a format in the bytes of its blocks: size at F, and their count
unfoldable pub records_of : ℕ → Format → ℕ → ℕ → List ℕ → Result (List (List ℕ)) VarFault
records_of bsize F size count bytes = Ok (cut count size bytes)
records_of bsize V size count bytes = varying bsize count 0 bytes

-- the length of the longest
unfoldable pub longest : List (List ℕ) → ℕ
longest [] = 0
longest (text ∷ more) = max (length text) (longest more)

-- the length of a file's records: the one given at F, the longest's at V
abbrev pub length_of : Format → ℕ → List (List ℕ) → ℕ
length_of F size records = size
length_of V size records = longest records

-- stored bytes of a file and what is said of them stand for these records
pub record StandsFor (f : FileData) (records : List (List ℕ)) : Type 0 where
  pub bytes_are : f.bytes ≡ stored f.format records
  pub each : All (Fits f.format f.length) records
  pub length_is : f.length ≡ length_of f.format f.length records
  pub length_fits : (1 ≤ f.length) × (f.length ≤ longest_record)
  pub count_is : f.count ≡ length records
  pub some : 1 ≤ length records
  pub number_fits : f.number ≤ 6
  pub stamp_is : is_stamp f.stamp ≡ true

-- a file that is valid: it stands for some records
pub record IsValid (f : FileData) : Type 0 where
  pub records : List (List ℕ)
  pub stands : StandsFor f records
