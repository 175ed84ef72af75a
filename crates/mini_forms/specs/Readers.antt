-- What the fields of a reader always are.
use Rattle.std.specs.Prelude.{◌≡◌, ℕ, ◌+◌, ◌≤◌, ◌<◌, Bool, true, false, IfSome, Option, None, Some, vec_len, vec_capacity}
use Rattle.cms_fields.specs.Limits.{longest_record, most_bytes, most_records}
use Rattle.mini_forms.specs.RecordReads.{most_of, size_in}
use Rattle.mini_forms.specs.declared.place.Head.{Head}
use Rattle.mini_forms.specs.declared.place.Head.TheVariants.{Start, High, Left}
use Rattle.mini_forms.specs.declared.place.Place.{Place}
use Rattle.mini_forms.specs.declared.place.Place.TheVariants.{Line, Block, Stored}
use Rattle.mini_forms.specs.declared.reader.Reader.TheInside.{Inside}

-- a size of records
abbrev pub IsSize : Option ℕ → Type 0
IsSize size = IfSome size (λ n. (1 ≤ n) × (n ≤ longest_record))

-- a whole record has this length: the common size, or one byte at least
abbrev pub IsLength : Option ℕ → ℕ → Type 0
IsLength None n = 1 ≤ n
IsLength (Some size) n = n ≡ size

-- so many bytes of a record with a length came
abbrev pub HeadFits : Option ℕ → Head → Bool → ℕ → Type 0
HeadFits size Start whole came = (whole ≡ false → came ≡ 0) × (whole ≡ true → IsLength size came)
HeadFits size (High high) whole came = (whole ≡ false) × (came ≡ 0)
HeadFits size (Left n) whole came = (whole ≡ false) × (1 ≤ n) × (came + n ≤ most_of size) × IsLength size (came + n)

-- so many bytes of a record came, at a place
abbrev pub PlaceFits : Place → Bool → ℕ → Type 0
PlaceFits (Line size begun) whole came = whole ≡ true → IsLength size came
PlaceFits (Block n) whole came = (whole ≡ false → came < n) × (whole ≡ true → came ≡ n)
PlaceFits (Stored size head) whole came = HeadFits size head whole came

-- there is room for the longest record, and what came of one is no more; a whole one has a length that is allowed; the limits of a file
-- are kept
pub record AreSound (r : Inside) : Type 0 where
  pub size : IsSize (size_in r.place)
  pub room : most_of (size_in r.place) ≤ vec_capacity r.bytes
  pub few : vec_len r.bytes ≤ most_of (size_in r.place)
  pub fits : PlaceFits r.place r.whole (vec_len r.bytes)
  pub count : r.count ≤ most_records
  pub stored : r.stored ≤ most_bytes
