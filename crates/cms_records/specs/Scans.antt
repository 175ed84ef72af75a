-- Records of varying lengths, whose bytes come in pieces.
use Rattle.std.specs.Prelude.{◌≡◌, ◌⊎◌, ℕ, ◌+◌, ◌≤◌, ◌<◌, max, List, ◌++◌, length, drop, map, slice_index, Option, None, Some, Result, Ok, ⊤}
use Rattle.cms_fields.specs.Steps.{◌>>=◌}
use Rattle.cms_text.specs.Bytes.{half}
use Rattle.std.specs.List.{concat}
use Rattle.cms_model.specs.Records.{varying, longest, with_length}
use Rattle.cms_model.specs.declared.fault.VarFault.{VarFault}
use Rattle.cms_model.specs.Lists.{In}
use Rattle.cms_records.specs.declared.sizes.VarSizes.{VarSizes}
use Rattle.cms_records.specs.Starts.{begins, IsFirst}

-- how many bytes records fill, with their lengths
abbrev pub filled_by : List (List ℕ) → ℕ
filled_by records = length (concat (map with_length records))

-- what is told of records: the length of the longest, and how many bytes they fill with their lengths
abbrev pub sizes_of : List (List ℕ) → VarSizes
sizes_of records = record { longest = longest records; stored = filled_by records }

-- what is told of so many records in the bytes of whole blocks, or the first place that fails
abbrev pub sizes_in : ℕ → ℕ → List ℕ → Result VarSizes VarFault
sizes_in bsize count bytes = varying bsize count 0 bytes >>= λ records. Ok (sizes_of records)

-- how far the bytes were read: so many records are left, the next one begins at a place, its length where that is known, and the
-- first byte of its length where that alone came; how many bytes came, the length of the longest before, and where the first record begins
-- in the data block in which the last of those before does
pub record VarScan : Type 0 where
  pub bsize : ℕ
  pub left : ℕ
  pub place : ℕ
  pub size : Option ℕ
  pub high : ℕ
  pub fed : ℕ
  pub longest : ℕ
  pub first : Option ℕ

-- what is told of the records before, and of those that are left
abbrev pub with_before : ℕ → ℕ → Result (List (List ℕ)) VarFault → Result VarSizes VarFault
with_before size place read = read >>= λ records. Ok (record { longest = max size (longest records); stored = place + filled_by records })

-- the length of the record at a place is known, or it isn't
abbrev pub IsSizeAt : List ℕ → ℕ → Option ℕ → Type 0
IsSizeAt bytes place None = ⊤
IsSizeAt bytes place (Some n) = (1 ≤ n) × (place + 2 ≤ length bytes) × (half (drop place bytes) 0 ≡ n)

-- records begin at these places, and then where those do that are left, of which the first begins here, in these bytes
pub record BeganWith (bsize left place : ℕ) (bytes places : List ℕ) (records : List (List ℕ))
    : Type 0 where
  pub more : List (List ℕ)
  pub read : varying bsize left place bytes ≡ Ok more
  pub are : begins 0 records ≡ places ++ begins place more

-- whatever bytes come behind these, all records begin where those before did, and then where those that are left do
pub record Began (count bsize left place : ℕ) (first : Option ℕ) (bytes : List ℕ) : Type 0 where
  pub places : List ℕ
  pub all : (rest : List ℕ) (records : List (List ℕ))
      → varying bsize count 0 (bytes ++ rest) ≡ Ok records → BeganWith bsize left place (drop place (bytes ++ rest)) places records
  pub below : (other : ℕ) → In other places → other < place
  pub first_is : IsFirst bsize places first

-- whatever bytes come behind these, what is told of all is told of the records before and of those that are left
pub record Holds (count : ℕ) (bytes : List ℕ) (s : VarScan) : Type 0 where
  pub fed : s.fed ≡ length bytes
  pub within : s.place ≤ length bytes
  pub comes : (rest : List ℕ) → sizes_in s.bsize count (bytes ++ rest)
      ≡ with_before s.longest s.place (varying s.bsize s.left s.place (drop s.place (bytes ++ rest)))
  pub size : IsSizeAt bytes s.place s.size
  pub began : Began count s.bsize s.left s.place s.first bytes

-- the bytes end within the length of the record at a place, of which the first byte is kept then, or within the record
abbrev pub EndWithin : List ℕ → ℕ → ℕ → Option ℕ → Type 0
EndWithin bytes place high None = (length bytes ≡ place) ⊎ ((length bytes ≡ place + 1) × (slice_index bytes place ≡ high))
EndWithin bytes place high (Some n) = length bytes < place + 2 + n

-- these bytes came, of so many records, and all records that end in them were passed
pub record IsFed (count : ℕ) (bytes : List ℕ) (s : VarScan) : Type 0 where
  pub holds : Holds count bytes s
  pub waits : (s.left ≡ 0) ⊎ EndWithin bytes s.place s.high s.size

-- while a piece is read behind these bytes: none of them is looked at again, but for the one that is kept
abbrev pub IsPast : List ℕ → ℕ → ℕ → Option ℕ → Type 0
IsPast bytes place high None = (length bytes ≤ place) ⊎ ((length bytes ≡ place + 1) × (slice_index bytes place ≡ high))
IsPast bytes place high (Some n) = length bytes ≤ place + 2 + n

-- so far the bytes hold records, as the scan tells them
abbrev pub Passes : List ℕ → VarScan → Type 0
Passes bytes s = IsPast bytes s.place s.high s.size

-- so many bytes came, and the next record isn't whole in them
abbrev pub IsCut : ℕ → ℕ → Option ℕ → Type 0
IsCut fed place None = fed < place + 2
IsCut fed place (Some n) = fed < place + 2 + n
