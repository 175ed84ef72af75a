-- What is written of the records of a host file is that file: bytes joined, and records behind their lengths.
use Rattle.std.proofs.Common.{◌≡◌, ◌∙◌, ℕ, suc, ◌+◌, ◌-◌, ◌*◌, ◌/◌, ◌%◌, ◌^◌, ◌<◌, ◌≤◌, Bool, true, false, ◌==◌, if◌then◌else◌, List, [], ◌∷◌, ◌++◌, length, map, replicate, All, Option, None, Some, Ok, Err, refl, ap, sym, arith, append-nil, append_assoc}
use Rattle.std.specs.Int.{bytes_high_first}
use Rattle.std.specs.List.{AllByRecursion, concat}
use Rattle.std.proofs.lemmas.Bool.{eq-eqb, eqb-true, leb-true}
use Rattle.std.proofs.lemmas.List.{length_push, take_all}
use Rattle.std.proofs.lemmas.List.Elements.{All-head, All-tail}
use Rattle.cms_fields.specs.Steps.{◌>>=◌}
use Rattle.cms_model.specs.Records.{with_length}
use Rattle.cms_records.specs.Views.{fitted}
use Rattle.mini_forms.specs.RecordReads.{block_fed, counted, ended_at, ends, is_length, read_from, stored_fed, stored_size, whole_in}
use Rattle.mini_forms.specs.Laws.{BinaryStays, RecordsStay}
use Rattle.cms_names.specs.declared.name.Format.TheVariants.{F, V}
use Rattle.cms_text.proofs.Numerals.{same_false as unequal}
use Rattle.mini_forms.specs.declared.form.FormFault.TheVariants.{BadLength}
use Rattle.mini_forms.specs.declared.place.Head.{Head}
use Rattle.mini_forms.specs.declared.place.Head.TheVariants.{Start, High, Left}
use Rattle.mini_forms.specs.declared.place.Place.TheVariants.{Block, Stored}
use Rattle.mini_forms.proofs.Steps.{behind, go, midway, next_byte, same_bound}
use Rattle.mini_forms.proofs.Stay.{none_last, one_last, one_then}

differs : (a b : ℕ) → (a == b) ≡ false → a ≡ b → ⊥
differs a b apart same = let e : (a == b) ≡ true = eq-eqb a b same in cc

-- ---- bytes joined

abbrev Filled : ℕ → List ℕ → List (List ℕ) → Type 0
Filled n bytes records = (zeros : ℕ) × (zeros < n) × (concat records ≡ bytes ++ replicate zeros 0)

abbrev BlockStays : ℕ → List ℕ → Type 0
BlockStays n bytes =
    (came : List ℕ) (count stored : ℕ) (records : List (List ℕ)) → length came < n
    → read_from (midway (Block n) came count stored) bytes ≡ Ok records → Filled n (came ++ bytes) records

block_none : (n : ℕ) → BlockStays n []
unfolding read_from ended_at
block_none n [] count stored records room is =
    let none = none_last (Block n) count stored records is in
    (0, omega arith, ap concat none)
block_none n (x ∷ xs) count stored records room is =
    let came = x ∷ xs in
    let some : (suc (length xs) == 0) ≡ false = unequal (suc (length xs)) 0 (λ (e : suc (length xs) ≡ 0). omega arith) in
    let now = midway (Block n) came count stored in
    let one = one_last (Block n) (fitted came n 0) count stored records
    (sym (ap (λ (t : Bool). (if t then ends now else counted (behind (Block n) (fitted came n 0) count stored)) >>= λ s. Ok (whole_in s)) some) ∙ is) in (
      n - length came,
      omega arith,
      ap concat one ∙ append-nil (fitted came n 0) ∙ ap (λ (l : List ℕ). l ++ replicate (n - length came) 0) (take_all n came (omega arith) ∙ sym (append-nil came)),
    )

block_more : (n x : ℕ) (bytes : List ℕ) → BlockStays n bytes → BlockStays n (x ∷ bytes)
unfolding block_fed
block_more n x bytes rest came count stored records room is =
    next (length came + 1 == n) refl (sym (next_byte (midway (Block n) came count stored) x bytes) ∙ is)
  where
    next : (t : Bool) → (length came + 1 == n) ≡ t
        → ((if t then counted (behind (Block n) (came ++ x ∷ []) count stored) else Ok (midway (Block n) (came ++ x ∷ []) count stored)) >>= go bytes) ≡ Ok records
        → Filled n (came ++ x ∷ bytes) records
    next true e is =
        let then_ = one_then (Block n) (came ++ x ∷ []) count stored bytes records is in
        let found = rest [] (count + 1) (stored + length (came ++ x ∷ [])) then_.more (omega arith) then_.reads in (
          found.0,
          found.1,
          ap concat (sym then_.are) ∙ ap (λ (l : List ℕ). (came ++ x ∷ []) ++ l) found.2
              ∙ sym (append_assoc (came ++ x ∷ []) bytes (replicate found.0 0)) ∙ ap (λ (l : List ℕ). l ++ replicate found.0 0) (append_assoc came (x ∷ []) bytes),
        )
    next false e is =
        let long = length_push came x in
        let apart = differs (length came + 1) n e in
        let found = rest (came ++ x ∷ []) count stored records (below (length came) n room apart long)
        (sym (same_bound (read_from (midway (Block n) (came ++ x ∷ []) count stored) bytes)) ∙ is) in
        (found.0, found.1, found.2 ∙ ap (λ (l : List ℕ). l ++ replicate found.0 0) (append_assoc came (x ∷ []) bytes))
      where
        below : (k n : ℕ) → k < n → (k + 1 ≡ n → ⊥) → length (came ++ x ∷ []) ≡ k + 1 → length (came ++ x ∷ []) < n
        below k n less apart long = omega arith

block_stays : (n : ℕ) (bytes : List ℕ) → BlockStays n bytes
block_stays n [] = block_none n
block_stays n (x ∷ bytes) = block_more n x bytes (block_stays n bytes)

joined_same : (records : List (List ℕ)) → concat (map (λ codes. codes) records) ≡ concat records
joined_same [] = refl
joined_same (codes ∷ more) = ap (λ (l : List ℕ). codes ++ l) (joined_same more)

pub binary_stays : BinaryStays
binary_stays size bytes records some is =
    let found = block_stays size bytes [] 0 0 records (omega arith) is in
    (found.0, found.1, joined_same records ∙ found.2)

-- ---- records behind their lengths

-- the bytes of the record that is begun
abbrev begun_bytes : Head → List ℕ → List ℕ
begun_bytes Start came = []
begun_bytes (High high) came = high ∷ []
begun_bytes (Left n) came = bytes_high_first 2 (length came + n) ++ came

abbrev HeadIs : Head → List ℕ → Type 0
HeadIs Start came = came ≡ []
HeadIs (High high) came = (came ≡ []) × (high < 256)
HeadIs (Left n) came = 1 ≤ n

abbrev StoredStays : Option ℕ → List ℕ → Type 0
StoredStays size bytes =
    (head : Head) (came : List ℕ) (count stored : ℕ) (records : List (List ℕ)) → HeadIs head came → AllByRecursion (λ x. x < 256) bytes
    → read_from (midway (Stored size head) came count stored) bytes ≡ Ok records → concat (map with_length records) ≡ begun_bytes head came ++ bytes

stored_none : (size : Option ℕ) → StoredStays size []
unfolding read_from ended_at
stored_none size Start came count stored records head fits is =
    ap (λ (l : List (List ℕ)). concat (map with_length l)) (last came records head is)
  where
    last : (came : List ℕ) (records : List (List ℕ)) → came ≡ [] → (ends (midway (Stored size Start) came count stored) >>= λ s. Ok (whole_in s)) ≡ Ok records → records ≡ []
    last [] records e is = none_last (Stored size Start) count stored records is
    last (y ∷ ys) records e is = absurd (cc e)
stored_none size (High high) came count stored records head fits is = absurd (cc is)
stored_none size (Left n) came count stored records head fits is = absurd (cc is)

-- the two bytes of a length
two_bytes : (high low : ℕ) → high < 256 → low < 256 → bytes_high_first 2 (high * 256 + low) ≡ high ∷ low ∷ []
two_bytes high low h l =
    let a : (high * 256 + low) / 256 ^ 1 % 256 ≡ high = omega arith in
    let b : (high * 256 + low) % 256 ≡ low = omega arith in
    ap (λ (x : ℕ). x ∷ (high * 256 + low) % 256 ∷ []) a ∙ ap (λ (x : ℕ). high ∷ x ∷ []) b

-- no size is 0
abbrev IsSome1 : Option ℕ → Type 0
IsSome1 None = Unit {0}
IsSome1 (Some n) = 1 ≤ n

length_some : (size : Option ℕ) (n : ℕ) → IsSome1 size → is_length size n ≡ true → 1 ≤ n
length_some None n some is = leb-true 1 n is
length_some (Some m) n some is = let same = eqb-true n m is in omega arith

stored_more : (size : Option ℕ) (x : ℕ) (bytes : List ℕ) → IsSome1 size → StoredStays size bytes → StoredStays size (x ∷ bytes)
unfolding stored_fed
stored_more size x bytes some rest Start came count stored records head fits is =
    rest (High x) came count stored records (head, fits.0) fits.1
    (sym (same_bound (read_from (midway (Stored size (High x)) came count stored) bytes)) ∙ (sym (next_byte (midway (Stored size Start) came count stored) x bytes) ∙ is))
stored_more size x bytes some rest (High high) came count stored records head fits is =
    next (is_length size (high * 256 + x)) refl (sym (next_byte (midway (Stored size (High high)) came count stored) x bytes) ∙ is)
  where
    empty : (came : List ℕ) → came ≡ [] → bytes_high_first 2 (length came + (high * 256 + x)) ++ came ≡ high ∷ x ∷ []
    empty [] e = append-nil (bytes_high_first 2 (0 + (high * 256 + x))) ∙ ap (bytes_high_first 2) (let z : 0 + (high * 256 + x) ≡ high * 256 + x = omega arith in z) ∙ two_bytes high x head.1 fits.0
    empty (y ∷ ys) e = absurd (cc e)

    next : (t : Bool) → is_length size (high * 256 + x) ≡ t
        → ((if t then Ok (midway (Stored size (Left (high * 256 + x))) came count stored) else Err (BadLength (count + 1))) >>= go bytes) ≡ Ok records
        → concat (map with_length records) ≡ high ∷ x ∷ bytes
    next true e is =
        rest (Left (high * 256 + x)) came count stored records (length_some size (high * 256 + x) some e) fits.1
        (sym (same_bound (read_from (midway (Stored size (Left (high * 256 + x))) came count stored) bytes)) ∙ is)
        ∙ ap (λ (l : List ℕ). l ++ bytes) (empty came head.0)
    next false e is = absurd (cc is)
stored_more size x bytes some rest (Left n) came count stored records head fits is =
    next (n == 1) refl (sym (next_byte (midway (Stored size (Left n)) came count stored) x bytes) ∙ is)
  where
    long : length (came ++ x ∷ []) ≡ length came + 1
    long = length_push came x

    joined : (l : List ℕ) → (l ++ (came ++ x ∷ [])) ++ bytes ≡ (l ++ came) ++ x ∷ bytes
    joined l = ap (λ (k : List ℕ). k ++ bytes) (sym (append_assoc l came (x ∷ []))) ∙ append_assoc (l ++ came) (x ∷ []) bytes

    next : (t : Bool) → (n == 1) ≡ t
        → ((if t then counted (behind (Stored size Start) (came ++ x ∷ []) count stored) else Ok (midway (Stored size (Left (n - 1))) (came ++ x ∷ []) count stored)) >>= go bytes) ≡ Ok records
        → concat (map with_length records) ≡ (bytes_high_first 2 (length came + n) ++ came) ++ x ∷ bytes
    next true e is =
        let one = eqb-true n 1 e in
        let then_ = one_then (Stored size Start) (came ++ x ∷ []) count stored bytes records is in
        let found = rest Start [] (count + 1) (stored + stored_size size (length (came ++ x ∷ []))) then_.more refl fits.1 then_.reads in
        let whole : length (came ++ x ∷ []) ≡ length came + n = omega (arith, long) in
        ap (λ (l : List (List ℕ)). concat (map with_length l)) (sym then_.are)
        ∙ ap (λ (l : List ℕ). with_length (came ++ x ∷ []) ++ l) found
        ∙ ap (λ (k : ℕ). (bytes_high_first 2 k ++ (came ++ x ∷ [])) ++ bytes) whole
        ∙ joined (bytes_high_first 2 (length came + n))
    next false e is =
        let apart = differs n 1 e in
        let more : 1 ≤ n - 1 = least n head apart in
        let whole : length (came ++ x ∷ []) + (n - 1) ≡ length came + n = omega (arith, long, head) in
        rest (Left (n - 1)) (came ++ x ∷ []) count stored records more fits.1
        (sym (same_bound (read_from (midway (Stored size (Left (n - 1))) (came ++ x ∷ []) count stored) bytes)) ∙ is)
        ∙ ap (λ (k : ℕ). (bytes_high_first 2 k ++ (came ++ x ∷ [])) ++ bytes) whole
        ∙ joined (bytes_high_first 2 (length came + n))
      where
        least : (n : ℕ) → 1 ≤ n → (n ≡ 1 → ⊥) → 1 ≤ n - 1
        least n some apart = omega arith

stored_stays : (size : Option ℕ) (bytes : List ℕ) → IsSome1 size → StoredStays size bytes
stored_stays size [] some = stored_none size
stored_stays size (x ∷ bytes) some = stored_more size x bytes some (stored_stays size bytes some)

bytes_fit : (bytes : List ℕ) → All (λ x. x < 256) bytes → AllByRecursion (λ x. x < 256) bytes
bytes_fit [] all = tt
bytes_fit (x ∷ xs) all = (All-head (λ y. y < 256) x xs all, bytes_fit xs (All-tail (λ y. y < 256) x xs all))

pub records_stay : RecordsStay
records_stay F size bytes records some fits is = stored_stays (Some size) bytes some Start [] 0 0 records refl (bytes_fit bytes fits) is
records_stay V size bytes records some fits is = stored_stays None bytes tt Start [] 0 0 records refl (bytes_fit bytes fits) is
