-- One byte of a host file, and what comes behind it.
use Rattle.std.proofs.Common.{◌≡◌, ◌∙◌, ℕ, ◌+◌, ◌<◌, ◌≤◌, true, false, List, [], ◌∷◌, ◌++◌, length, Result, Ok, Err, refl, ap, nat_le, nat_lt}
use Rattle.std.proofs.lemmas.Bool.{le-leb, lt-ltb}
use Rattle.cms_fields.specs.Limits.{most_bytes, most_records}
use Rattle.cms_fields.specs.Steps.{◌>>=◌}
use Rattle.mini_forms.specs.RecordReads.{Reader, counted, fed, read_from, size_in, stored_size, whole_in}
use Rattle.mini_forms.specs.declared.form.FormFault.{FormFault}
use Rattle.mini_forms.specs.declared.place.Place.{Place}

-- within a record, and behind a whole one
abbrev pub midway : Place → List ℕ → ℕ → ℕ → Reader
midway place bytes count stored = record { place = place; bytes = bytes; whole = false; count = count; stored = stored }

abbrev pub behind : Place → List ℕ → ℕ → ℕ → Reader
behind place bytes count stored = record { place = place; bytes = bytes; whole = true; count = count; stored = stored }

-- a record before others
abbrev pub in_front : List ℕ → Result (List (List ℕ)) FormFault → Result (List (List ℕ)) FormFault
in_front codes more = more >>= λ records. Ok (codes ∷ records)

pub same_bound : (r : Result (List (List ℕ)) FormFault) → (r >>= λ more. Ok more) ≡ r
same_bound (Ok x) = refl
same_bound (Err e) = refl

abbrev pub go : List ℕ → Reader → Result (List (List ℕ)) FormFault
go rest next = read_from next rest >>= λ more. Ok (whole_in next ++ more)

pub next_byte : (s : Reader) (b : ℕ) (rest : List ℕ) → read_from s (b ∷ rest) ≡ (fed s b >>= go rest)
unfolding read_from
next_byte s b rest = refl

-- a byte within a record
pub goes_on : (s : Reader) (b : ℕ) (rest : List ℕ) (place : Place) (bytes : List ℕ) (count stored : ℕ) → fed s b ≡ Ok (midway place bytes count stored)
    → read_from s (b ∷ rest) ≡ read_from (midway place bytes count stored) rest
goes_on s b rest place bytes count stored is =
    next_byte s b rest ∙ ap (λ (r : Result Reader FormFault). r >>= go rest) is ∙ same_bound (read_from (midway place bytes count stored) rest)

-- behind a whole record the next one begins
pub begins_next : (place : Place) (bytes : List ℕ) (count stored : ℕ) (rest : List ℕ)
    → read_from (behind place bytes count stored) rest ≡ read_from (midway place [] count stored) rest
unfolding read_from
begins_next place bytes count stored [] = refl
begins_next place bytes count stored (b ∷ rest) = refl

-- a byte that ends a record
pub ends_one : (s : Reader) (b : ℕ) (rest : List ℕ) (place : Place) (bytes : List ℕ) (count stored : ℕ) → fed s b ≡ Ok (behind place bytes count stored)
    → read_from s (b ∷ rest) ≡ in_front bytes (read_from (midway place [] count stored) rest)
ends_one s b rest place bytes count stored is =
    next_byte s b rest ∙ ap (λ (r : Result Reader FormFault). r >>= go rest) is
    ∙ ap (in_front bytes) (begins_next place bytes count stored rest)

-- a record within the limits is counted
pub counts : (place : Place) (bytes : List ℕ) (count stored : ℕ) → count < most_records → stored + stored_size (size_in place) (length bytes) ≤ most_bytes
    → counted (behind place bytes count stored) ≡ Ok (behind place bytes (count + 1) (stored + stored_size (size_in place) (length bytes)))
counts place bytes count stored few short =
    let a : nat_lt count most_records ≡ true = lt-ltb count most_records few in
    let b : nat_le (stored + stored_size (size_in place) (length bytes)) most_bytes ≡ true = le-leb (stored + stored_size (size_in place) (length bytes)) most_bytes short in
    rw (a, b) refl
