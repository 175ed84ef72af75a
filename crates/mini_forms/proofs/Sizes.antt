-- What a byte leaves of the size of all records, and how whole records are counted.
use Rattle.std.proofs.Common.{◌≡◌, ◌∙◌, ℕ, ◌+◌, ◌-◌, ◌*◌, ◌≤◌, Bool, true, false, ◌==◌, ◌&&◌, nat_le, nat_lt, if◌then◌else◌, List, [], ◌∷◌, ◌++◌, length, Option, Some, Ok, Err, refl, ap, sym, subst, arith}
use Rattle.std.proofs.lemmas.Bool.{leb-true, ltb-true}
use Rattle.std.proofs.lemmas.Bool.Decides.{nat_tests}
use Rattle.cms_fields.specs.Limits.{most_bytes, most_records}
use Rattle.cms_records.specs.Views.{fitted}
use Rattle.mini_forms.specs.Page.{code_of}
use Rattle.mini_forms.specs.Lines.{step_of}
use Rattle.mini_forms.specs.RecordReads.{Reader, begun, block_fed, ended, ended_at, ends, fed, fed_at, finished, goes, is_length, line_fed, most_of, number, record_of, size_in, stored_fed, stored_size}
use Rattle.mini_forms.specs.declared.form.FormFault.TheVariants.{BadLength, Empty, LongLine, TooLarge}
use Rattle.mini_forms.specs.declared.place.Head.{Head}
use Rattle.mini_forms.specs.declared.place.Head.TheVariants.{Start, High, Left}
use Rattle.mini_forms.specs.declared.place.Place.{Place}
use Rattle.mini_forms.specs.declared.place.Place.TheVariants.{Line, Block, Stored}
use Rattle.mini_forms.specs.declared.step.Begun.TheVariants.{Fresh, LowHalf, HighHalf, Return}
use Rattle.mini_forms.specs.declared.step.Step.{Step}
use Rattle.mini_forms.specs.declared.step.Step.TheVariants.{Adds, Goes, Ends, NoCharacter, LoneReturn}

-- the size stays, and a record that is whole now is one more, within the limits of a file
pub record IsNext (s t : Reader) : Type 0 where
  pub size : size_in t.place ≡ size_in s.place
  pub still : t.whole ≡ false → (t.count ≡ s.count) × (t.stored ≡ s.stored)
  pub more : t.whole ≡ true → (t.count ≡ s.count + 1) × (t.count ≤ most_records)
      × (t.stored ≡ s.stored + stored_size (size_in s.place) (length t.bytes)) × (t.stored ≤ most_bytes)

no_way : (b : Bool) → b ≡ true → b ≡ false → ⊥
no_way b whole fresh = let e : true ≡ false = sym whole ∙ fresh in cc e

-- more is begun
goes_next : (place : Place) (bytes : List ℕ) (s t : Reader) → s.whole ≡ false → size_in place ≡ size_in s.place → goes place bytes s ≡ Ok t
    → IsNext s t
goes_next place bytes s t fresh same is =
    let e : record { place = place; bytes = bytes; whole = s.whole; count = s.count; stored = s.stored } ≡ t = cc is in
    subst (λ (x : Reader). IsNext s x) e (record { size = same; still = λ w. (refl, refl); more = λ w. absurd (no_way s.whole w fresh) })

-- a record is whole
finished_next : (place : Place) (bytes : List ℕ) (s t : Reader) → size_in place ≡ size_in s.place → finished place bytes s ≡ Ok t → IsNext s t
finished_next place bytes s t same is =
    next (nat_lt s.count most_records) (nat_le (s.stored + stored_size (size_in place) (length bytes)) most_bytes) refl refl is
  where
    next : (a b : Bool) → nat_lt s.count most_records ≡ a → nat_le (s.stored + stored_size (size_in place) (length bytes)) most_bytes ≡ b
        → (if a && b
        then Ok (record { place = place; bytes = bytes; whole = true; count = s.count + 1; stored = s.stored + stored_size (size_in place) (length bytes) })
        else Err TooLarge) ≡ Ok t
        → IsNext s t
    next true true few short e =
        let now : record { place = place; bytes = bytes; whole = true; count = s.count + 1; stored = s.stored + stored_size (size_in place) (length bytes) } ≡ t = cc e in
        let less = ltb-true s.count most_records few in
        let most = leb-true (s.stored + stored_size (size_in place) (length bytes)) most_bytes short in
        subst (λ (x : Reader). IsNext s x) now (record {
          size = same;
          still = λ w. absurd (no_way true refl w);
          more = λ w. (refl, omega arith, ap (λ (z : Option ℕ). s.stored + stored_size z (length bytes)) same, most);
        })
    next true false few short e = absurd (cc e)
    next false b few short e = absurd (cc e)

-- ---- a byte

line_next : (size : Option ℕ) (step : Step) (s t : Reader) → s.whole ≡ false → size ≡ size_in s.place → line_fed size step s ≡ Ok t → IsNext s t
unfolding line_fed
line_next size (Adds c) s t fresh same is =
    next (nat_lt (length s.bytes) (most_of size)) is
  where
    next : (a : Bool) → (if a then goes (Line size Fresh) (s.bytes ++ code_of c ∷ []) s else Err (LongLine (number s))) ≡ Ok t → IsNext s t
    next true e = goes_next (Line size Fresh) (s.bytes ++ code_of c ∷ []) s t fresh same e
    next false e = absurd (cc e)
line_next size (Goes to) s t fresh same is = goes_next (Line size to) s.bytes s t fresh same is
line_next size Ends s t fresh same is = finished_next (Line size Fresh) (record_of size s.bytes) s t same is
line_next size NoCharacter s t fresh same is = absurd (cc is)
line_next size LoneReturn s t fresh same is = absurd (cc is)

block_next : (n byte : ℕ) (s t : Reader) → s.whole ≡ false → Some n ≡ size_in s.place → block_fed n byte s ≡ Ok t → IsNext s t
unfolding block_fed
block_next n byte s t fresh same is =
    next (length s.bytes + 1 == n) is
  where
    next : (a : Bool) → (if a then finished (Block n) (s.bytes ++ byte ∷ []) s else goes (Block n) (s.bytes ++ byte ∷ []) s) ≡ Ok t → IsNext s t
    next true e = finished_next (Block n) (s.bytes ++ byte ∷ []) s t same e
    next false e = goes_next (Block n) (s.bytes ++ byte ∷ []) s t fresh same e

stored_next : (size : Option ℕ) (head : Head) (byte : ℕ) (s t : Reader) → s.whole ≡ false → size ≡ size_in s.place
    → stored_fed size head byte s ≡ Ok t → IsNext s t
unfolding stored_fed
stored_next size Start byte s t fresh same is = goes_next (Stored size (High byte)) s.bytes s t fresh same is
stored_next size (High high) byte s t fresh same is =
    next (is_length size (high * 256 + byte)) is
  where
    next : (a : Bool) → (if a then goes (Stored size (Left (high * 256 + byte))) s.bytes s else Err (BadLength (number s))) ≡ Ok t → IsNext s t
    next true e = goes_next (Stored size (Left (high * 256 + byte))) s.bytes s t fresh same e
    next false e = absurd (cc e)
stored_next size (Left n) byte s t fresh same is =
    next (n == 1) is
  where
    next : (a : Bool)
        → (if a then finished (Stored size Start) (s.bytes ++ byte ∷ []) s else goes (Stored size (Left (n - 1))) (s.bytes ++ byte ∷ []) s) ≡ Ok t
        → IsNext s t
    next true e = finished_next (Stored size Start) (s.bytes ++ byte ∷ []) s t same e
    next false e = goes_next (Stored size (Left (n - 1))) (s.bytes ++ byte ∷ []) s t fresh same e

fed_at_next : (place : Place) (byte : ℕ) (s t : Reader) → s.whole ≡ false → size_in place ≡ size_in s.place → fed_at place byte s ≡ Ok t
    → IsNext s t
fed_at_next (Line size before) byte s t fresh same is = line_next size (step_of before byte) s t fresh same is
fed_at_next (Block n) byte s t fresh same is = block_next n byte s t fresh same is
fed_at_next (Stored size head) byte s t fresh same is = stored_next size head byte s t fresh same is

-- behind a whole record the next one begins
from_begun : (s t : Reader) → IsNext (begun s) t → IsNext s t
from_begun s t next = record { size = next.size; still = next.still; more = next.more }

pub fed_next : (s t : Reader) (byte : ℕ) → fed s byte ≡ Ok t → IsNext s t
fed_next s t byte is = from_begun s t (fed_at_next s.place byte (begun s) t refl refl is)

-- ---- the end

-- there was a record at least
abbrev EndsSome : Reader → Reader → Type 0
EndsSome s t = IsNext s t × (1 ≤ t.count)

ends_some : (s t : Reader) → s.whole ≡ false → ends s ≡ Ok t → EndsSome s t
ends_some s t fresh is =
    next (s.count == 0) refl is
  where
    next : (a : Bool) → (s.count == 0) ≡ a → (if a then Err Empty else Ok s) ≡ Ok t → EndsSome s t
    next true zero_is e = absurd (cc e)
    next false some e =
        let same : s ≡ t = cc e in
        subst (λ (x : Reader). EndsSome s x) same
        (record { size = refl; still = λ w. (refl, refl); more = λ w. absurd (no_way s.whole w fresh) }, grind (arith, nat_tests))

finished_some : (place : Place) (bytes : List ℕ) (s t : Reader) → size_in place ≡ size_in s.place → finished place bytes s ≡ Ok t → EndsSome s t
finished_some place bytes s t same is =
    (finished_next place bytes s t same is, some (nat_lt s.count most_records && nat_le (s.stored + stored_size (size_in place) (length bytes)) most_bytes) is)
  where
    some : (a : Bool)
        → (if a
        then Ok (record { place = place; bytes = bytes; whole = true; count = s.count + 1; stored = s.stored + stored_size (size_in place) (length bytes) })
        else Err TooLarge) ≡ Ok t
        → 1 ≤ t.count
    some true e =
        let now : record { place = place; bytes = bytes; whole = true; count = s.count + 1; stored = s.stored + stored_size (size_in place) (length bytes) } ≡ t = cc e in
        subst (λ (x : Reader). 1 ≤ x.count) now (omega arith)
    some false e = absurd (cc e)

ended_at_some : (place : Place) (s t : Reader) → s.whole ≡ false → size_in place ≡ size_in s.place → ended_at place s ≡ Ok t → EndsSome s t
unfolding ended_at
ended_at_some (Line size Fresh) s t fresh same is =
    next (length s.bytes == 0) is
  where
    next : (a : Bool) → (if a then ends s else finished (Line size Fresh) (record_of size s.bytes) s) ≡ Ok t → EndsSome s t
    next true e = ends_some s t fresh e
    next false e = finished_some (Line size Fresh) (record_of size s.bytes) s t same e
ended_at_some (Line size LowHalf) s t fresh same is = absurd (cc is)
ended_at_some (Line size HighHalf) s t fresh same is = absurd (cc is)
ended_at_some (Line size Return) s t fresh same is = absurd (cc is)
ended_at_some (Block n) s t fresh same is =
    next (length s.bytes == 0) is
  where
    next : (a : Bool) → (if a then ends s else finished (Block n) (fitted s.bytes n 0) s) ≡ Ok t → EndsSome s t
    next true e = ends_some s t fresh e
    next false e = finished_some (Block n) (fitted s.bytes n 0) s t same e
ended_at_some (Stored size Start) s t fresh same is = ends_some s t fresh is
ended_at_some (Stored size (High high)) s t fresh same is = absurd (cc is)
ended_at_some (Stored size (Left n)) s t fresh same is = absurd (cc is)

pub ended_next : (s t : Reader) → ended s ≡ Ok t → IsNext s t × (1 ≤ t.count)
ended_next s t is =
    let some = ended_at_some s.place (begun s) t refl refl is in
    (from_begun s t some.0, some.1)
