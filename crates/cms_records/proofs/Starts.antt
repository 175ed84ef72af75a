-- Where records begin in the data blocks that they fill, while they are passed.
use Rattle.std.proofs.Common.{◌≡◌, ◌⊎◌, inl, inr, ⊎_elim, ℕ, zero, suc, ◌+◌, ◌-◌, ◌*◌, ◌≤◌, ◌<◌, Bool, true, false, List, [], ◌∷◌, ◌++◌, length, take, drop, Option, None, Some, Result, Ok, refl, sym, ◌∙◌, ap, subst, arith, append_assoc, append-nil}
use Rattle.std.specs.Prelude.{◌≢◌, ◌==◌, ◌/◌, nat_le, nat_lt, find, if◌then◌else◌}
use Rattle.cms_fields.specs.Steps.{◌>>=◌, ◌>>◌, want}
use Rattle.std.proofs.lemmas.List.Folds.{find-append}
use Rattle.std.proofs.lemmas.List.{drop-drop, length-drop, length-take-le}
use Rattle.std.proofs.lemmas.Bool.{le-leb, lt-leb, eq-eqb, ne_eqb, cases_eq}
use Rattle.std.proofs.Math.Nat.{div-mul-le_self, lt-div-mul-add, mod-eq-sub-div-mul, mul-le-mul_right}
use Rattle.std.proofs.lemmas.Nat.{le-div}
use Rattle.cms_model.specs.Lists.{In}
use Rattle.cms_model.specs.Records.{varying}
use Rattle.cms_model.specs.declared.fault.VarFault.{VarFault}
use Rattle.cms_model.specs.declared.fault.VarFault.TheVariants.{Left}
use Rattle.cms_records.specs.Views.{first_size}
use Rattle.cms_records.specs.Starts.{begins, first_from, IsFirst, last_start, start_in, with_place}
use Rattle.cms_records.specs.Scans.{Began, BeganWith}
use Rattle.cms_records.proofs.Lengths.{behind, varying_next, first_begins, bind_ok}

in_push : (n x : ℕ) (xs : List ℕ) → In n (xs ++ x ∷ []) → In n xs ⊎ (n ≡ x)
in_push n x [] (inl is) = inr is
in_push n x [] (inr h) = absurd h
in_push n x (y ∷ ys) (inl is) = inl (inl is)
in_push n x (y ∷ ys) (inr h) = ⊎_elim (λ (a : In n ys). inl (inr a)) (λ (b : n ≡ x). inr b) (in_push n x ys h)

-- none of places that all lie before a block lies in it or behind it
none_from : (bsize block : ℕ) (places : List ℕ) → ((place : ℕ) → In place places → place < block * bsize) → first_from bsize block places ≡ None
none_from bsize block [] before = refl
none_from bsize block (p ∷ places) before =
    let less = before p (inl refl) in
    let no : nat_le (block * bsize) p ≡ false = lt-leb (block * bsize) p less in
    rw no (none_from bsize block places (λ q h. before q (inr h)))

block_starts : (bsize place : ℕ) → nat_le (place / bsize * bsize) place ≡ true
block_starts bsize place = le-leb (place / bsize * bsize) place (div-mul-le_self place bsize)

block_ends : (bsize place : ℕ) → 0 < bsize → place < (place / bsize + 1) * bsize
block_ends bsize place some = let less = lt-div-mul-add {a = place} some in let e : (place / bsize + 1) * bsize ≡ place / bsize * bsize + bsize = omega arith in rw e less

later_block : (bsize a b : ℕ) → 0 < bsize → a ≤ b → a / bsize ≢ b / bsize → a / bsize + 1 ≤ b / bsize
later_block bsize a b some le other =
    let low = div-mul-le_self a bsize in
    let mono = le-div (a / bsize) b bsize some (omega arith) in
    by_cases (a / bsize) (b / bsize) mono other
  where
    by_cases : (m n : ℕ) → m ≤ n → m ≢ n → m + 1 ≤ n
    by_cases m n le other = omega arith

-- a place behind the others is the first of its block
new_block : (bsize place : ℕ) (places : List ℕ) → 0 < bsize → ((q : ℕ) → In q places → q < place / bsize * bsize) → IsFirst bsize (places ++ place ∷ []) (Some place)
new_block bsize place places some before =
    let here = block_starts bsize place in
    let none = none_from bsize (place / bsize) places before in
    let last : first_from bsize (place / bsize) (place ∷ []) ≡ Some place = rw here refl in (
      find-append (λ q. nat_le (place / bsize * bsize) q) places (place ∷ []) ∙ rw (none, last) refl,
      λ q h. ⊎_elim
          (λ (a : In q places). let less = before q a in let end = block_ends bsize place some in let begin = div-mul-le_self place bsize in omega arith)
          (λ (b : q ≡ place). rw b (block_ends bsize place some))
          (in_push q place places h),
    )

-- what is found is one of them
found_in : (least q : ℕ) (xs : List ℕ) → find (λ p. nat_le least p) xs ≡ Some q → In q xs
found_in least q [] e = absurd (cc e)
found_in least q (x ∷ xs) e = by_test (nat_le least x) (λ found. found_in least q xs found) e
  where
    by_test : (b : Bool) → (find (λ p. nat_le least p) xs ≡ Some q → In q xs) → (if b then Some x else find (λ p. nat_le least p) xs) ≡ Some q → (q ≡ x) ⊎ In q xs
    by_test true deeper e = let same : x ≡ q = cc e in inl (sym same)
    by_test false deeper e = inr (deeper e)

pub first_next : (bsize place : ℕ) (places : List ℕ) (first : Option ℕ) → 0 < bsize → ((q : ℕ) → In q places → q < place) → IsFirst bsize places first
    → IsFirst bsize (places ++ place ∷ []) (Some (with_place bsize first place))
first_next bsize place places None some below none = new_block bsize place places some (λ q h. let gone : In q [] = subst (In q) none h in absurd gone)
first_next bsize place places (Some first) some below is = ⊎_elim
    (λ (same : first / bsize ≡ place / bsize).
    let test : (first / bsize == place / bsize) ≡ true = eq-eqb _ _ same in
    rw test (
      find-append (λ q. nat_le (first / bsize * bsize) q) places (place ∷ []) ∙ rw (is.0) refl,
      λ q h. ⊎_elim (λ (a : In q places). is.1 q a) (λ (b : q ≡ place). rw (b, same) (block_ends bsize place some)) (in_push q place places h),
    ))
    (λ (other : first / bsize ≢ place / bsize).
    let test : (first / bsize == place / bsize) ≡ false = ne_eqb _ _ other in
    let among : first < place = below first (found_in (first / bsize * bsize) first places is.0) in
    let later = later_block bsize first place some (omega arith) other in
    let most = mul-le-mul_right bsize later in
    rw test (new_block bsize place places some (λ q h. let less = is.1 q h in omega arith)))
    (cases_eq (first / bsize) (place / bsize))

-- ---- while records are passed

pub none_began : (bsize count : ℕ) → Began count bsize count 0 None []
none_began bsize count = record {
  places = [];
  all = λ rest records is. record { more = records; read = is; are = refl };
  below = λ other h. absurd h;
  first_is = refl;
}

pub more_began : (count bsize left place : ℕ) (first : Option ℕ) (bytes piece : List ℕ) → Began count bsize left place first bytes → Began count bsize left place first (bytes ++ piece)
more_began count bsize left place first bytes piece b = record {
  places = b.places;
  all = λ rest records is.
      let joined = append_assoc bytes piece rest in
      let told = b.all (piece ++ rest) records (rw joined at is) in
      record {
        more = told.more;
        read = subst (λ (l : List ℕ). varying bsize left place (drop place l) ≡ Ok told.more) (sym joined) told.read;
        are = told.are;
      };
  below = b.below;
  first_is = b.first_is;
}

-- the first of the records that are left, and those behind it
begins_next : (bsize left place size : ℕ) (bytes places : List ℕ) (records : List (List ℕ)) → 1 ≤ left → first_size place bytes ≡ Ok size → BeganWith bsize left place bytes places records
    → BeganWith bsize (left - 1) (place + (2 + size)) (drop (2 + size) bytes) (places ++ place ∷ []) records
unfolding begins
begins_next bsize zero place size bytes places records some is b = absurd (omega arith)
begins_next bsize (suc n) place size bytes places records some is b =
    let down : suc n - 1 ≡ n = omega arith in
    let first : behind bsize n place bytes size ≡ Ok b.more = sym (varying_next bsize n place bytes ∙ ap (λ (r : Result ℕ VarFault). r >>= behind bsize n place bytes) is) ∙ b.read in
    bind_ok (varying bsize n (place + (2 + size)) (drop (2 + size) bytes)) _ b.more first (λ more is_more e.
    let within = (first_begins place bytes size is).within in
    let text : length (take size (drop 2 bytes)) ≡ size = length-take-le size (drop 2 bytes) (omega (arith, length-drop 2 bytes)) in
    let all : take size (drop 2 bytes) ∷ more ≡ b.more = cc e in
    record {
      more = more;
      read = rw down is_more;
      are = b.are ∙ (ap (λ (l : List (List ℕ)). places ++ begins place l) (sym all)
          ∙ (ap (λ (k : ℕ). places ++ place ∷ begins (place + (2 + k)) more) text ∙ sym (append_assoc places (place ∷ []) (begins (place + (2 + size)) more))));
    })

pub next_began : (count bsize left place size : ℕ) (first : Option ℕ) (bytes : List ℕ) → 0 < bsize → 1 ≤ left → ((rest : List ℕ) → first_size place (drop place (bytes ++ rest)) ≡ Ok size)
    → Began count bsize left place first bytes → Began count bsize (left - 1) (place + (2 + size)) (Some (with_place bsize first place)) bytes
next_began count bsize left place size first bytes some one sized b = record {
  places = b.places ++ place ∷ [];
  all = λ rest records is.
      let further : drop (2 + size) (drop place (bytes ++ rest)) ≡ drop (place + (2 + size)) (bytes ++ rest) = drop-drop (2 + size) place (bytes ++ rest) in
      subst (λ (l : List ℕ). BeganWith bsize (left - 1) (place + (2 + size)) l (b.places ++ place ∷ []) records) further
      (begins_next bsize left place size (drop place (bytes ++ rest)) b.places records one (sized rest) (b.all rest records is));
  below = λ other h. ⊎_elim (λ (a : In other b.places). let less = b.below other a in omega arith) (λ (e : other ≡ place). omega arith) (in_push other place b.places h);
  first_is = first_next bsize place b.places first some b.below b.first_is;
}

-- ---- the end

start_at_end : (bsize place : ℕ) (places : List ℕ) (first : Option ℕ) → 0 < bsize → ((other : ℕ) → In other places → other < place) → IsFirst bsize places first
    → start_in bsize place first ≡ last_start bsize place places
start_at_end bsize place places None some below none = rw none refl
start_at_end bsize place places (Some first) some below is = ⊎_elim
    (λ (same : first / bsize ≡ (place - 1) / bsize).
    let test : (first / bsize == (place - 1) / bsize) ≡ true = eq-eqb _ _ same in
    let found : first_from bsize ((place - 1) / bsize) places ≡ Some first = rw same at (is.0) in
    rw (test, found, mod-eq-sub-div-mul first bsize, same) refl)
    (λ (other : first / bsize ≢ (place - 1) / bsize).
    let test : (first / bsize == (place - 1) / bsize) ≡ false = ne_eqb _ _ other in
    let among : first < place = below first (found_in (first / bsize * bsize) first places is.0) in
    let later = later_block bsize first (place - 1) some (omega arith) other in
    let most = mul-le-mul_right bsize later in
    let none : first_from bsize ((place - 1) / bsize) places ≡ None = none_from bsize ((place - 1) / bsize) places (λ q h. let less = is.1 q h in omega arith) in
    rw (test, none) refl)
    (cases_eq (first / bsize) ((place - 1) / bsize))

pub none_left : (bsize place : ℕ) (bytes : List ℕ) (more : List (List ℕ)) → varying bsize 0 place bytes ≡ Ok more → more ≡ []
unfolding varying
none_left bsize place bytes more is = by_test (nat_lt (length bytes) bsize) is
  where
    by_test : (b : Bool) → (want b (Left place) >> Ok []) ≡ Ok more → more ≡ []
    by_test true e = sym (cc e)
    by_test false e = absurd (cc e)

pub start_is : (count bsize left place : ℕ) (first : Option ℕ) (bytes : List ℕ) (records : List (List ℕ)) → 0 < bsize → left ≡ 0 → Began count bsize left place first bytes
    → varying bsize count 0 bytes ≡ Ok records → start_in bsize place first ≡ last_start bsize place (begins 0 records)
unfolding begins
start_is count bsize left place first bytes records some none b is =
    let told = b.all [] records (rw (append-nil bytes) is) in
    let no_more : told.more ≡ [] = none_left bsize place _ told.more (rw none at told.read) in
    let are : begins 0 records ≡ b.places = told.are ∙ (ap (λ (l : List (List ℕ)). b.places ++ begins place l) no_more ∙ append-nil b.places) in
    rw are (start_at_end bsize place b.places first some b.below b.first_is)
