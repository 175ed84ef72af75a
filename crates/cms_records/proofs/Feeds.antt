-- Records of bytes that come in pieces.
use Rattle.std.proofs.Common.{◌≡◌, ◌⊎◌, inl, inr, get_or, append-nil, ⊎_elim, ℕ, zero, suc, ◌+◌, ◌≤◌, ◌<◌, Bool, true, false, if◌then◌else◌, List, [], ◌∷◌, ◌++◌, length, take, drop, Option, None, Some, Result, Ok, refl, sym, ◌∙◌, ap, subst, arith, length-append}
use Rattle.std.specs.Prelude.{max, nat_le, nat_lt, ◌==◌, IfSome}
use Rattle.std.proofs.lemmas.List.{length-take-le, take_all, take-append-drop}
use Rattle.std.proofs.lemmas.Bool.{le-leb, lt-leb, leb-true, le-ltb, lt-ltb, ltb-true, cases_Bool, eqb-true, eq-eqb}
use Rattle.cms_fields.specs.Steps.{◌>>◌, want}
use Rattle.cms_text.specs.Bytes.{half}
use Rattle.cms_model.specs.declared.fault.VarFault.{VarFault}
use Rattle.cms_model.specs.declared.fault.VarFault.TheVariants.{Zero, PastEnd}
use Rattle.cms_records.specs.Pieces.{RecordState, next_place, bytes_so_far, record_size, IsPart}
use Rattle.cms_records.proofs.Scans.{half_front}

-- ---- the size of a record

sizes_same : (longest place : ℕ) (a b : List ℕ) → 2 ≤ length a → 2 ≤ length b → half a 0 ≡ half b 0 → record_size None longest place a ≡ record_size None longest place b
sizes_same longest place a b long long' same =
    let la : nat_lt (length a) 2 ≡ false = le-ltb (length a) 2 long in
    let lb : nat_lt (length b) 2 ≡ false = le-ltb (length b) 2 long' in
    rw (la, lb, same) refl

pub size_front : (fixed : Option ℕ) (longest place : ℕ) (all : List ℕ) (k : ℕ) → (fixed ≡ None → 2 ≤ k) → record_size fixed longest place (take k all) ≡ record_size fixed longest place all
size_front (Some n) longest place all k wide = refl
size_front None longest place all k wide = ⊎_elim
    (λ (short : length all ≤ k). ap (record_size None longest place) (take_all k all short))
    (λ (long : k < length all).
    let two = wide refl in
    let count : length (take k all) ≡ k = length-take-le k all (omega arith) in
    let same : half (take k all) 0 ≡ half all 0 = sym (half_front (take k all) (drop k all) 0 (omega arith)) ∙ ap (λ (l : List ℕ). half l 0) (take-append-drop k all) in
    sizes_same longest place (take k all) all (omega arith) (omega arith) same)
    (less_or k (length all))
  where
    less_or : (a b : ℕ) → (b ≤ a) ⊎ (a < b)
    less_or a b = grind arith

-- where the length is known, it is three bytes at least
pub size_least : (longest place : ℕ) (bytes : List ℕ) (n : ℕ) → record_size None longest place bytes ≡ Ok (Some n) → 3 ≤ n
size_least longest place bytes n is = go (nat_lt (length bytes) 2) (nat_le 1 (half bytes 0)) refl is
  where
    go : (a b : Bool) → nat_le 1 (half bytes 0) ≡ b → (if a then Ok None else (want b (Zero place) >> (want (nat_le (half bytes 0) longest) (PastEnd place) >> Ok (Some (2 + half bytes 0)))))
        ≡ Ok (Some n) → 3 ≤ n
    go true b e is = absurd (cc is)
    go false false e is = absurd (cc is)
    go false true e is = let low = leb-true 1 (half bytes 0) e in last (nat_le (half bytes 0) longest) is
      where
        last : (d : Bool) → (want d (PastEnd place) >> Ok (Some (2 + half bytes 0))) ≡ Ok (Some n) → 3 ≤ n
        last true is = let same : 2 + half bytes 0 ≡ n = cc is in let low = leb-true 1 (half bytes 0) e in omega arith
        last false is = absurd (cc is)

-- ---- a piece is fed

-- what came before is no more than the record
pub part_fits : (fixed : Option ℕ) (longest place n : ℕ) (before more : List ℕ) → IsPart (record_size fixed longest place before) false before
    → record_size fixed longest place (before ++ more) ≡ Ok (Some n) → length before ≤ n
part_fits (Some m) longest place n before more part is = let same : m ≡ n = cc is in omega arith
part_fits None longest place n before more part is =
    let least = size_least longest place (before ++ more) n is in
    ⊎_elim
    (λ (short : length before ≤ 1). omega arith)
    (λ (long : 2 ≤ length before).
    let same : record_size None longest place before ≡ Ok (Some n) =
    sizes_same longest place before (before ++ more) long (omega (arith, length-append before more)) (sym (half_front before more 0 (omega arith))) ∙ is in
    let fits : IsPart (Ok (Some n)) false before = subst (λ (r : Result (Option ℕ) VarFault). IsPart r false before) same part in
    omega arith)
    (one_or (length before))
  where
    one_or : (a : ℕ) → (a ≤ 1) ⊎ (2 ≤ a)
    one_or a = grind arith

-- a front has no more bytes than it is to have
pub front_few : (n : ℕ) (all second : List ℕ) → second ≡ take n all → length second ≤ n
front_few n all second is = subst (λ (l : List ℕ). length l ≤ n) (sym is) (short n all)
  where
    short : (k : ℕ) (all : List ℕ) → length (take k all) ≤ k
    short zero all = omega arith
    short (suc k) [] = omega arith
    short (suc k) (x ∷ xs) = let s = short k xs in omega arith

-- all of the record was taken that came
pub is_taken : (fixed : Option ℕ) (longest place n : ℕ) (before more after : List ℕ) (whole : Bool) → whole ≡ false → IsPart (record_size fixed longest place before) whole before
    → record_size fixed longest place (before ++ more) ≡ Ok (Some n) → after ≡ take (max n (length before)) (before ++ more) → after ≡ take n (before ++ more)
is_taken fixed longest place n before more after whole begun part size is =
    let so_far = subst (λ (b : Bool). IsPart (record_size fixed longest place before) b before) begun part in
    let fits = part_fits fixed longest place n before more so_far size in
    let m : max n (length before) ≡ n = omega arith in
    is ∙ ap (λ (k : ℕ). take k (before ++ more)) m

-- where bytes don't tell the size, they are fewer than two
pub untold_few : (fixed : Option ℕ) (longest place : ℕ) (bytes : List ℕ) → record_size fixed longest place bytes ≡ Ok None → (fixed ≡ None) × (length bytes < 2)
untold_few (Some m) longest place bytes is = absurd (cc is)
untold_few None longest place bytes is = (refl, go (nat_lt (length bytes) 2) refl is)
  where
    ends : (b d : Bool) → (want b (Zero place) >> (want d (PastEnd place) >> Ok (Some (2 + half bytes 0)))) ≡ Ok None → length bytes < 2
    ends false d is = absurd (cc is)
    ends true false is = absurd (cc is)
    ends true true is = absurd (cc is)

    go : (a : Bool) → nat_lt (length bytes) 2 ≡ a → (if a then Ok None else (want (nat_le 1 (half bytes 0)) (Zero place) >> (want (nat_le (half bytes 0) longest) (PastEnd place) >> Ok (Some (2 + half bytes 0)))))
        ≡ Ok None → length bytes < 2
    go true e is = ltb-true (length bytes) 2 e
    go false e is = ends (nat_le 1 (half bytes 0)) (nat_le (half bytes 0) longest) is

-- fewer than two bytes don't tell it
pub few_untold : (longest place : ℕ) (bytes : List ℕ) → length bytes < 2 → record_size None longest place bytes ≡ Ok None
few_untold longest place bytes few = let a : nat_lt (length bytes) 2 ≡ true = lt-ltb (length bytes) 2 few in rw a refl

-- two bytes tell it, though they came in two pieces
pub joined_told : (fixed : Option ℕ) (longest place high low : ℕ) (came more : List ℕ) → length came ≡ 1 → 0 < length more → high ≡ get_or came 0 0 → low ≡ get_or more 0 0
    → record_size fixed longest place (high ∷ low ∷ []) ≡ record_size fixed longest place (came ++ more)
joined_told fixed longest place high low (h ∷ []) (l ∷ more) one some is_high is_low =
    let all : take 2 (h ∷ l ∷ more) ≡ high ∷ low ∷ [] = rw (is_high, is_low) refl in
    ap (record_size fixed longest place) (sym all) ∙ size_front fixed longest place (h ∷ l ∷ more) 2 (λ none. omega arith)
joined_told fixed longest place high low [] more one some is_high is_low = absurd (omega arith)
joined_told fixed longest place high low (h ∷ g ∷ came) more one some is_high is_low = absurd (omega arith)
joined_told fixed longest place high low (h ∷ []) [] one some is_high is_low = absurd (omega arith)

-- two bytes that came tell it, and so does one with nothing behind it
pub front_told : (fixed : Option ℕ) (longest place : ℕ) (came more : List ℕ) → (2 ≤ length came) ⊎ (length more ≡ 0)
    → record_size fixed longest place came ≡ record_size fixed longest place (came ++ more)
front_told fixed longest place came more (inl two) =
    let front : take (length came) (came ++ more) ≡ came = taken came in
    ap (record_size fixed longest place) (sym front) ∙ size_front fixed longest place (came ++ more) (length came) (λ none. two)
  where
    taken : (xs : List ℕ) → take (length xs) (xs ++ more) ≡ xs
    taken [] = refl
    taken (x ∷ xs) = ap (λ (l : List ℕ). x ∷ l) (taken xs)
front_told fixed longest place came [] (inr none) = ap (record_size fixed longest place) (sym (append-nil came))
front_told fixed longest place came (x ∷ more) (inr none) = absurd (omega arith)

-- it is whole where so many bytes are there
pub whole_told : (n : ℕ) (all second : List ℕ) → second ≡ take n all → (length second == n) ≡ nat_le n (length all)
whole_told n all second is = ⊎_elim
    (λ (many : n ≤ length all). let l = ap length is ∙ length-take-le n all many in eq-eqb (length second) n l ∙ sym (le-leb n (length all) many))
    (λ (few : length all < n). let l = ap length is ∙ ap length (take_all n all (omega arith)) in not_equal (length second) n (omega arith) ∙ sym (lt-leb n (length all) few))
    (less_or n (length all))
  where
    less_or : (a b : ℕ) → (a ≤ b) ⊎ (b < a)
    less_or a b = grind arith

    not_equal : (a b : ℕ) → a < b → (a == b) ≡ false
    not_equal a b less = ⊎_elim (λ (same : (a == b) ≡ true). let e = eqb-true a b same in absurd (omega arith)) (λ (is : (a == b) ≡ false). is) (cases_Bool (a == b))

-- a front of so many bytes is a part of the record
pub front_is_part : (fixed : Option ℕ) (longest place n : ℕ) (all second : List ℕ) → second ≡ take n all → record_size fixed longest place all ≡ Ok (Some n)
    → IsPart (record_size fixed longest place second) (length second == n) second
front_is_part fixed longest place n all second is size =
    let least : fixed ≡ None → 2 ≤ n = λ none. let l = size_least longest place all n (subst (λ (f : Option ℕ). record_size f longest place all ≡ Ok (Some n)) none size) in omega arith in
    let same : record_size fixed longest place second ≡ Ok (Some n) = ap (record_size fixed longest place) is ∙ (size_front fixed longest place all n least ∙ size) in
    subst (λ (r : Result (Option ℕ) VarFault). IsPart r (length second == n) second) (sym same) (part (length second == n) refl)
  where
    short : (k : ℕ) (all : List ℕ) → length (take k all) ≤ k
    short zero all = omega arith
    short (suc k) [] = omega arith
    short (suc k) (x ∷ xs) = let s = short k xs in omega arith

    part : (b : Bool) → (length second == n) ≡ b → IsPart (Ok (Some n)) b second
    part true e = eqb-true (length second) n e
    part false e = subst (λ (l : List ℕ). length l ≤ n) (sym is) (short n all)

pub size_most : (fixed : Option ℕ) (longest place : ℕ) (bytes : List ℕ) (n : ℕ) → IfSome fixed (λ m. (1 ≤ m) × (m ≤ longest)) → record_size fixed longest place bytes ≡ Ok (Some n) → n ≤ longest + 2
size_most (Some m) longest place bytes n fits is = let same : m ≡ n = cc is in let high = fits.1 in omega arith
size_most None longest place bytes n fits is = go (nat_lt (length bytes) 2) (nat_le 1 (half bytes 0)) (nat_le (half bytes 0) longest) refl is
  where
    go : (a b d : Bool) → nat_le (half bytes 0) longest ≡ d → (if a then Ok None else (want b (Zero place) >> (want d (PastEnd place) >> Ok (Some (2 + half bytes 0))))) ≡ Ok (Some n) → n ≤ longest + 2
    go true b d e is = absurd (cc is)
    go false false d e is = absurd (cc is)
    go false true false e is = absurd (cc is)
    go false true true e is = let same : 2 + half bytes 0 ≡ n = cc is in let high = leb-true (half bytes 0) longest e in omega arith

-- where the next record begins
pub begun_sum : (s : RecordState) → next_place s + length (bytes_so_far s) ≡ s.place + length s.bytes
begun_sum s = go s.whole
  where
    go : (b : Bool) → (if b then s.place + length s.bytes else s.place) + length (if b then [] else s.bytes) ≡ s.place + length s.bytes
    go true = omega arith
    go false = refl
