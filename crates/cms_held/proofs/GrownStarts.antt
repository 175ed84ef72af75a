-- Where records begin in the data block that the bytes of a grown file fill in part.
use Rattle.std.proofs.Common.{◌≡◌, inl, inr, ⊎_elim, ℕ, ◌+◌, ◌-◌, ◌*◌, ◌/◌, ◌%◌, ◌<◌, ◌≤◌, Bool, true, false, List, [], ◌∷◌, ◌++◌, length, Option, None, Some, refl, sym, ◌∙◌, ap, subst, arith, div-add-mod', length-append, mod-lt, mul-le-mul_right}
use Rattle.std.specs.Prelude.{◌==◌, ◌&&◌, if◌then◌else◌, nat_le, nat_lt, find}
use Rattle.std.specs.Option.{option_or, option_map_or}
use Rattle.std.proofs.lemmas.Bool.{cases_Bool, cases_lt, cond-false, cond-true, eqb-true, false_from_ne_true, le-leb, lt-ltb}
use Rattle.std.proofs.lemmas.Bool.Decides.{nat_tests}
use Rattle.std.proofs.lemmas.List.Folds.{find-append}
use Rattle.cms_journal.proofs.Sizes.{block_bounds}
use Rattle.cms_names.specs.declared.name.Format.TheVariants.{V}
use Rattle.cms_model.specs.Lists.{In}
use Rattle.cms_model.specs.Records.{stored, with_length}
use Rattle.cms_model.proofs.Records.{length-with_length, stored_append}
use Rattle.cms_tree.proofs.ClimbBlocks.{div_mono}
use Rattle.cms_held.specs.Drafts.{starts_on, stored_on}
use Rattle.cms_held.specs.Growths.{GrownStarts}
use Rattle.cms_held.specs.Marks.{mark_of, nowhere, starts_from}

-- ---- places

abbrev within : ℕ → ℕ → ℕ → Bool
within low end place = nat_le low place && nat_lt place end

abbrev place_in : ℕ → Option ℕ → ℕ
place_in low o = option_map_or (λ place. place - low) o nowhere

-- none before the first that is looked for
none_low : (low end p : ℕ) (xs : List ℕ) → ((x : ℕ) → In x xs → x < p) → p ≤ low → find (within low end) xs ≡ None
none_low low end p [] before past = refl
none_low low end p (x ∷ xs) before past =
    let less : x < p = before x (inl refl) in
    let none : nat_le low x ≡ false = grind (arith, nat_tests) in
    let out : within low end x ≡ false = ap (λ (b : Bool). b && nat_lt x end) none in
    cond-false (within low end x) (Some x) (find (within low end) xs) out ∙ none_low low end p xs (λ y there. before y (inr there)) past

-- what is found lies there
found_within : (low end : ℕ) (xs : List ℕ) (x : ℕ) → find (within low end) xs ≡ Some x → (low ≤ x) × (x < end)
found_within low end [] x is = absurd (nothing is)
  where
    nothing : None ≡ Some x → ⊥
    nothing e = cc
found_within low end (y ∷ ys) x is = ⊎_elim
    (λ (here : within low end y ≡ true).
    let same : Some y ≡ Some x = sym (cond-true (within low end y) (Some y) (find (within low end) ys) here) ∙ is in
    let e : y ≡ x = cc in
    subst (λ (n : ℕ). (low ≤ n) × (n < end)) e (inside y here))
    (λ (other : within low end y ≡ false). found_within low end ys x (sym (cond-false (within low end y) (Some y) (find (within low end) ys) other) ∙ is))
    (cases_Bool (within low end y))
  where
    inside : (n : ℕ) → within low end n ≡ true → (low ≤ n) × (n < end)
    inside n here = ⊎_elim
        (λ (low' : n < low). absurd (false_true (sym (ap (λ (b : Bool). b && nat_lt n end) (before n low')) ∙ here)))
        (λ (from : low ≤ n). ⊎_elim
        (λ (less : n < end). (from, less))
        (λ (past : end ≤ n). absurd (false_true (sym (behind n past) ∙ here)))
        (cases_lt n end))
        (cases_lt n low)
      where
        false_true : false ≡ true → ⊥
        false_true e = cc

        before : (n : ℕ) → n < low → nat_le low n ≡ false
        before n low' = grind (arith, nat_tests)

        last : (a b : Bool) → b ≡ false → (a && b) ≡ false
        last true b is = is
        last false b is = refl

        behind : (n : ℕ) → end ≤ n → within low end n ≡ false
        behind n past = let none : nat_lt n end ≡ false = grind (arith, nat_tests) in last (nat_le low n) (nat_lt n end) none

-- one that lies there is found
found_one : (low end x : ℕ) → low ≤ x → x < end → find (within low end) (x ∷ []) ≡ Some x
found_one low end x from less =
    let one : nat_le low x ≡ true = le-leb low x from in
    let two : nat_lt x end ≡ true = lt-ltb x end less in
    cond-true (within low end x) (Some x) None (rw one two)

-- ---- the first place in a data block

-- where the data block is a later one none of those in front begins there
none_past : (bsize a b s : ℕ) (olds : List ℕ) → a < b → s < (a + 1) * bsize → ((x : ℕ) → In x olds → x < s) → find (within (b * bsize) ((b + 1) * bsize)) olds ≡ None
none_past bsize a b s olds less room before =
    let l : a + 1 ≤ b = omega arith in
    let e : (a + 1) * bsize ≤ b * bsize = mul-le-mul_right bsize l in
    none_low (b * bsize) ((b + 1) * bsize) s olds before (omega arith)

-- a place that was found in the data block that isn't full
front_one : (bsize a b s place x : ℕ) (olds : List ℕ) → bsize ≤ nowhere → a ≤ b → s < (a + 1) * bsize → ((y : ℕ) → In y olds → y < s)
    → find (within (a * bsize) ((a + 1) * bsize)) olds ≡ Some x → place ≡ x - a * bsize
    → find (within (b * bsize) ((b + 1) * bsize)) olds ≡ find (within (b * bsize) ((b + 1) * bsize)) (if place == nowhere then [] else (a * bsize + place) ∷ [])
front_one bsize a b s place x olds small up_to room before found is =
    let w = found_within (a * bsize) ((a + 1) * bsize) olds x found in
    let from : a * bsize ≤ x = w.0 in
    let less' : x < (a + 1) * bsize = w.1 in
    let wide : (a + 1) * bsize ≡ a * bsize + bsize = next a bsize in
    let off : (place == nowhere) ≡ false = false_from_ne_true (place == nowhere) (λ same. let e : place ≡ nowhere = eqb-true place nowhere same in absurd (omega arith)) in
    let at : a * bsize + place ≡ x = omega arith in
    let single : (if place == nowhere then [] else (a * bsize + place) ∷ []) ≡ x ∷ [] = rw (off, at) refl in
    let right = ap (find (within (b * bsize) ((b + 1) * bsize))) single in
    ⊎_elim
    (λ (less : a < b).
    let l : a + 1 ≤ b = omega arith in
    let e : (a + 1) * bsize ≤ b * bsize = mul-le-mul_right bsize l in
    none_past bsize a b s olds less room before ∙ sym (right ∙ none_low (b * bsize) ((b + 1) * bsize) ((a + 1) * bsize) (x ∷ []) (λ y there. only y there less') e))
    (λ (last : b ≤ a).
    let same : a ≡ b = omega arith in
    subst (λ (n : ℕ). find (within (n * bsize) ((n + 1) * bsize)) olds ≡ find (within (n * bsize) ((n + 1) * bsize)) (x ∷ [])) same
    (found ∙ sym (found_one (a * bsize) ((a + 1) * bsize) x from less'))
    ∙ sym right)
    (cases_lt a b)
  where
    next : (m n : ℕ) → (m + 1) * n ≡ m * n + n
    next m n = grind arith

    only : (y : ℕ) → In y (x ∷ []) → x < (a + 1) * bsize → y < (a + 1) * bsize
    only y (inl e) less = subst (λ (n : ℕ). n < (a + 1) * bsize) (sym e) less
    only y (inr none) less = absurd none

-- the places in front are as good as the place of the first of them in the data block that isn't full
front_found : (bsize a b s place : ℕ) (olds : List ℕ) (o : Option ℕ) → bsize ≤ nowhere → a ≤ b → s < (a + 1) * bsize → ((x : ℕ) → In x olds → x < s)
    → find (within (a * bsize) ((a + 1) * bsize)) olds ≡ o → place ≡ place_in (a * bsize) o
    → find (within (b * bsize) ((b + 1) * bsize)) olds ≡ find (within (b * bsize) ((b + 1) * bsize)) (if place == nowhere then [] else (a * bsize + place) ∷ [])
front_found bsize a b s place olds (Some x) small up_to room before found is = front_one bsize a b s place x olds small up_to room before found is
front_found bsize a b s place olds None small up_to room before none is =
    let empty : (if place == nowhere then [] else (a * bsize + place) ∷ []) ≡ [] = ap (λ (p : ℕ). if p == nowhere then [] else (a * bsize + p) ∷ []) is in
    let right = ap (find (within (b * bsize) ((b + 1) * bsize))) empty in
    let left : find (within (b * bsize) ((b + 1) * bsize)) olds ≡ None = ⊎_elim
    (λ (less : a < b). none_past bsize a b s olds less room before)
    (λ (last : b ≤ a). let same : a ≡ b = omega arith in subst (λ (n : ℕ). find (within (n * bsize) ((n + 1) * bsize)) olds ≡ None) same none)
    (cases_lt a b) in
    left ∙ sym right

-- ---- records

-- each of them begins before their end
starts_less : (place : ℕ) (records : List (List ℕ)) (x : ℕ) → In x (starts_from place records) → x < place + length (stored V records)
starts_less place [] x there = absurd there
starts_less place (t ∷ ts) x there =
    let long = length-append (with_length t) (stored V ts) in
    let one = length-with_length t in
    ⊎_elim
    (λ (is : x ≡ place). omega arith)
    (λ (more : In x (starts_from (place + (2 + length t)) ts)). let less = starts_less (place + (2 + length t)) ts x more in omega arith)
    there

starts_behind : (place : ℕ) (records more : List (List ℕ)) → starts_from place (records ++ more) ≡ starts_from place records ++ starts_from (place + length (stored V records)) more
starts_behind place [] more = let e : place ≡ place + length (stored V []) = omega arith in ap (λ (n : ℕ). starts_from n more) e
starts_behind place (t ∷ ts) more =
    let long = length-append (with_length t) (stored V ts) in
    let one = length-with_length t in
    let at : place + (2 + length t) + length (stored V ts) ≡ place + length (stored V (t ∷ ts)) = omega arith in
    ap (λ (l : List ℕ). place ∷ l) (starts_behind (place + (2 + length t)) ts more
    ∙ ap (λ (n : ℕ). starts_from (place + (2 + length t)) ts ++ starts_from n more) at)

pub grown_starts : GrownStarts
grown_starts bsize front old more size same is =
    let s = length (stored V old) in
    let total = length (stored V (old ++ more)) in
    let b = total / bsize in
    let bounds = block_bounds bsize size in
    let low = bounds.0 in
    let high = bounds.1 in
    let both : total ≡ s + length (stored V more) = ap (λ (l : List ℕ). length l) (stored_append V old more) ∙ length-append (stored V old) (stored V more) in
    let total_is : length (stored_on V front more) ≡ total = length-append front.bytes (stored V more) ∙ ap (λ (n : ℕ). n + length (stored V more)) same ∙ sym both in
    let w = within (b * bsize) ((b + 1) * bsize) in
    let olds = starts_from 0 old in
    let news = starts_from s more in
    let fronts : List ℕ = if front.place == nowhere then [] else (s / bsize * bsize + front.place) ∷ [] in
    let found : find w olds ≡ find w fronts =
    front_found bsize (s / bsize) b s front.place olds (find (within (s / bsize * bsize) ((s / bsize + 1) * bsize)) olds) (omega arith)
    (div_mono bsize s total (omega arith) (omega arith)) (room s bsize (omega arith)) (λ x there. zero_less x (starts_less 0 old x there)) refl is in
    let from : 0 + s ≡ s = omega arith in
    let left : starts_from 0 (old ++ more) ≡ olds ++ news = starts_behind 0 old more ∙ ap (λ (n : ℕ). olds ++ starts_from n more) from in
    let fronts_is : starts_on bsize front more ≡ fronts ++ news =
    ap (λ (n : ℕ). (if front.place == nowhere then [] else (n / bsize * bsize + front.place) ∷ []) ++ starts_from n more) same in
    let all : find w (starts_from 0 (old ++ more)) ≡ find w (starts_on bsize front more) =
    ap (find w) left ∙ find-append w olds news ∙ ap (λ o. option_or o (find w news)) found ∙ sym (find-append w fronts news) ∙ ap (find w) (sym fronts_is) in
    ap (place_in (b * bsize)) all ∙ ap (λ (n : ℕ). (mark_of bsize (starts_on bsize front more) (n / bsize)).place) (sym total_is)
  where
    room : (a n : ℕ) → 0 < n → a < (a / n + 1) * n
    room a n some =
        let whole : a / n * n + a % n ≡ a = div-add-mod' a n in
        let rest : a % n < n = mod-lt a some in
        let wide : (a / n + 1) * n ≡ a / n * n + n = next (a / n) n in
        omega arith
      where
        next : (m k : ℕ) → (m + 1) * k ≡ m * k + k
        next m k = grind arith

    zero_less : (x : ℕ) → x < 0 + length (stored V old) → x < length (stored V old)
    zero_less x less = omega arith
