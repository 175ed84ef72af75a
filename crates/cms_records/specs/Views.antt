-- What the calls give of the records in bytes.
use Rattle.std.specs.Prelude.{ℕ, zero, suc, ◌+◌, ◌-◌, ◌≤◌, nat_le, List, [], ◌∷◌, ◌++◌, length, take, drop, replicate, Result, Ok}
use Rattle.cms_fields.specs.Steps.{◌>>=◌, ◌>>◌, want}
use Rattle.cms_text.specs.Bytes.{half}
use Rattle.cms_model.specs.Records.{varying, longest}
use Rattle.cms_model.specs.declared.fault.VarFault.{VarFault}
use Rattle.cms_model.specs.declared.fault.VarFault.TheVariants.{Zero, PastEnd}

-- the length of the longest of so many records of varying lengths, or the first place that fails
abbrev pub longest_in : ℕ → ℕ → List ℕ → Result ℕ VarFault
longest_in bsize count bytes = varying bsize count 0 bytes >>= λ records. Ok (longest records)

-- the length of the record with which bytes begin, at this place in the whole
unfoldable pub first_size : ℕ → List ℕ → Result ℕ VarFault
first_size place bytes = do
  want (nat_le 2 (length bytes)) (PastEnd place)
  want (nat_le 1 (half bytes 0)) (Zero place)
  want (nat_le (2 + half bytes 0) (length bytes)) (PastEnd place)
  Ok (half bytes 0)

-- so many records of varying lengths, with which bytes begin
unfoldable pub front : ℕ → List ℕ → List (List ℕ)
front zero bytes = []
front (suc n) bytes = take (half bytes 0) (drop 2 bytes) ∷ front n (drop (2 + half bytes 0) bytes)

-- bytes begin with so many whole records of varying lengths, none of them empty
unfoldable pub BeginWith : ℕ → List ℕ → Type 0
BeginWith zero bytes = Unit {0}
BeginWith (suc n) bytes = (2 ≤ length bytes) × (1 ≤ half bytes 0) × (2 + half bytes 0 ≤ length bytes)
    × BeginWith n (drop (2 + half bytes 0) bytes)

-- a text cut to a length, or filled to it with a byte
abbrev pub fitted : List ℕ → ℕ → ℕ → List ℕ
fitted text size fill = take size text ++ replicate (size - length text) fill
