-- One record after another, of bytes that come in pieces.
use Rattle.std.specs.Prelude.{◌≡◌, ℕ, ◌+◌, ◌≤◌, Bool, true, false, if◌then◌else◌, nat_le, nat_lt, List, [], ◌++◌, length, take, drop, Option, None, Some, Result, Ok, Err}
use Rattle.cms_fields.specs.Steps.{◌>>◌, want}
use Rattle.cms_text.specs.Bytes.{half}
use Rattle.cms_model.specs.declared.fault.VarFault.{VarFault}
use Rattle.cms_model.specs.declared.fault.VarFault.TheVariants.{Zero, PastEnd}

-- a record that is begun: the length of all records where they have one, the greatest length, the place at which it begins among all
-- bytes that came, those of its bytes that came, with its length where it has one of its own, and whether it is whole
pub record RecordState : Type 0 where
  pub fixed : Option ℕ
  pub longest : ℕ
  pub place : ℕ
  pub bytes : List ℕ
  pub whole : Bool

-- the bytes of the record that is read next, and its place: behind a whole one a new one begins
abbrev pub bytes_so_far : RecordState → List ℕ
bytes_so_far s = if s.whole then [] else s.bytes

-- where the next record begins
abbrev pub next_place : RecordState → ℕ
next_place s = if s.whole then s.place + length s.bytes else s.place

-- how many bytes a record has that begins these, with those of its length, where they tell it; or what is wrong with its length
abbrev pub record_size : Option ℕ → ℕ → ℕ → List ℕ → Result (Option ℕ) VarFault
record_size (Some n) longest place bytes = Ok (Some n)
record_size None longest place bytes =
    if nat_lt (length bytes) 2 then Ok None
    else (want (nat_le 1 (half bytes 0)) (Zero place)
    >> (want (nat_le (half bytes 0) longest) (PastEnd place) >> Ok (Some (2 + half bytes 0))))

-- of these bytes, those of the record; and whether it is whole in them
abbrev pub record_bytes : Option ℕ → List ℕ → List ℕ
record_bytes None bytes = bytes
record_bytes (Some n) bytes = take n bytes

-- a record of a length that is known has all its bytes
abbrev pub is_whole : Option ℕ → List ℕ → Bool
is_whole None bytes = false
is_whole (Some n) bytes = nat_le n (length bytes)

-- its bytes are no more than it has, and all of it where it is whole
abbrev pub IsPart : Result (Option ℕ) VarFault → Bool → List ℕ → Type 0
IsPart (Ok None) whole bytes = whole ≡ false
IsPart (Ok (Some n)) false bytes = length bytes ≤ n
IsPart (Ok (Some n)) true bytes = length bytes ≡ n
IsPart (Err why) whole bytes = whole ≡ false

-- more bytes came: so many of them were taken, and the record is whole or not
pub record Takes (old new : RecordState) (more : List ℕ) (taken : ℕ) (whole : Bool) : Type 0 where
  pub size : Option ℕ
  pub size_is : record_size old.fixed old.longest (next_place old) (bytes_so_far old ++ more) ≡ Ok size
  pub bytes : new.bytes ≡ record_bytes size (bytes_so_far old ++ more)
  pub taken_is : length (bytes_so_far old) + taken ≡ length new.bytes
  pub whole_is : whole ≡ is_whole size (bytes_so_far old ++ more)
  pub told : (new.whole ≡ whole) × (new.place ≡ next_place old) × (new.fixed ≡ old.fixed) × (new.longest ≡ old.longest)

-- the text of a record, without its length
abbrev pub text_in : Option ℕ → List ℕ → List ℕ
text_in None bytes = drop 2 bytes
text_in (Some n) bytes = bytes
