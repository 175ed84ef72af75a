-- The marks of data blocks in which records of lengths of their own begin.
use Rattle.std.proofs.Common.{Bool, true, false, ◌≡◌, ◌⊎◌, ⊎_elim, ℕ, ◌+◌, ◌-◌, ◌*◌, ◌/◌, ◌<◌, ◌≤◌, cond, eqb, List, [], ◌∷◌, ◌++◌, length, map, All, Option, None, Some, refl, sym, ◌∙◌, ap, subst, arith, append_assoc, length-append}
use Rattle.std.specs.Prelude.{◌==◌, ◌&&◌, nat_le, nat_lt, count_by, find, if◌then◌else◌}
use Rattle.std.specs.List.{concat, range_with_len}
use Rattle.std.specs.Option.{option_or, option_map_or}
use Rattle.std.proofs.lemmas.Bool.{cases_Bool, cases_eq, cond-true, cond-false, eq-eqb, ne_eqb}
use Rattle.std.proofs.lemmas.Bool.Decides.{nat_tests}
use Rattle.std.proofs.lemmas.List.Elements.{All-cons, All-head, All-nil, All-tail}
use Rattle.std.proofs.lemmas.List.Folds.{find-append}
use Rattle.std.proofs.lemmas.List.FromFn.{get_or-map-range_with_len}
use Rattle.std.proofs.lemmas.List.Sums.{sum_by-append, sum_by-cons}
use Rattle.std.proofs.lemmas.Nat.{div-mul-add}
use Rattle.cms_names.specs.declared.name.Format.TheVariants.{V}
use Rattle.cms_model.specs.Records.{stored, with_length}
use Rattle.cms_model.proofs.Records.{length-with_length}
use Rattle.cms_tree.specs.declared.types.Mark.{Mark}
use Rattle.cms_tree.specs.Builds.{no_mark}
use Rattle.cms_tree.specs.Levels.{mark_at}
use Rattle.cms_held.specs.Drafts.{Front, mark_with, starts_from, starts_in_front, starts_on, nowhere}

-- where records begin behind others
starts_append : (p : ℕ) (xs ys : List (List ℕ)) → starts_from p (xs ++ ys) ≡ starts_from p xs ++ starts_from (p + length (stored V xs)) ys
starts_append p [] ys = let e : p + 0 ≡ p = omega arith in ap (λ (n : ℕ). starts_from n ys) (sym e)
starts_append p (x ∷ xs) ys =
    let long = length-append (with_length x) (concat (map with_length xs)) in
    let head = length-with_length x in
    let e : p + (2 + length x) + length (stored V xs) ≡ p + length (stored V (x ∷ xs)) = omega arith in
    ap (λ (l : List ℕ). p ∷ l) (starts_append (p + (2 + length x)) xs ys ∙ ap (λ (n : ℕ). starts_from (p + (2 + length x)) xs ++ starts_from n ys) e)

-- all of them begin before a place behind them
count_all : (p end : ℕ) (xs : List (List ℕ)) → p + length (stored V xs) ≤ end → count_by (λ place. nat_lt place end) (starts_from p xs) ≡ length xs
count_all p end [] low = refl
count_all p end (x ∷ xs) low =
    let long = length-append (with_length x) (concat (map with_length xs)) in
    let head = length-with_length x in
    let more = count_all (p + (2 + length x)) end xs (omega arith) in
    let here : p < end = omega arith in
    let one : nat_lt p end ≡ true = grind (arith, nat_tests) in
    let first : cond (nat_lt p end) 1 0 ≡ 1 = cond-true (nat_lt p end) 1 0 one in
    sum_by-cons (λ place. cond (nat_lt place end) 1 0) p (starts_from (p + (2 + length x)) xs) ∙ ap (λ (n : ℕ). cond (nat_lt p end) 1 0 + n) more
    ∙ ap (λ (n : ℕ). n + length xs) first ∙ (omega arith)

-- and none of those behind it
count_none : (p end : ℕ) (xs : List (List ℕ)) → end ≤ p → count_by (λ place. nat_lt place end) (starts_from p xs) ≡ 0
count_none p end [] past = refl
count_none p end (x ∷ xs) past =
    let more = count_none (p + (2 + length x)) end xs (omega arith) in
    let none : nat_lt p end ≡ false = grind (arith, nat_tests) in
    let first : cond (nat_lt p end) 1 0 ≡ 0 = cond-false (nat_lt p end) 1 0 none in
    sum_by-cons (λ place. cond (nat_lt place end) 1 0) p (starts_from (p + (2 + length x)) xs) ∙ ap (λ (n : ℕ). cond (nat_lt p end) 1 0 + n) more
    ∙ ap (λ (n : ℕ). n + 0) first

abbrev within : ℕ → ℕ → ℕ → Bool
within low end place = nat_le low place && nat_lt place end

find_none_behind : (p low end : ℕ) (xs : List (List ℕ)) → end ≤ p → find (within low end) (starts_from p xs) ≡ None
find_none_behind p low end [] past = refl
find_none_behind p low end (x ∷ xs) past =
    let none : nat_lt p end ≡ false = grind (arith, nat_tests) in
    let out : within low end p ≡ false = out_of (nat_le low p) (nat_lt p end) none in
    cond-false (within low end p) (Some p) (find (within low end) (starts_from (p + (2 + length x)) xs)) out ∙ find_none_behind (p + (2 + length x)) low end xs (omega arith)
  where
    out_of : (a b : Bool) → b ≡ false → (a && b) ≡ false
    out_of true b is = is
    out_of false b is = refl

find_none_before : (p low end : ℕ) (xs : List (List ℕ)) → p + length (stored V xs) ≤ low → find (within low end) (starts_from p xs) ≡ None
find_none_before p low end [] past = refl
find_none_before p low end (x ∷ xs) past =
    let long = length-append (with_length x) (concat (map with_length xs)) in
    let head = length-with_length x in
    let none : nat_le low p ≡ false = grind (arith, nat_tests) in
    let out : within low end p ≡ false = ap (λ (b : Bool). b && nat_lt p end) none in
    cond-false (within low end p) (Some p) (find (within low end) (starts_from (p + (2 + length x)) xs)) out ∙ find_none_before (p + (2 + length x)) low end xs (omega arith)

-- the place of the first that was found
abbrev place_in : ℕ → Option ℕ → ℕ
place_in low o = option_map_or (λ place. place - low) o nowhere

-- ---- the mark of a data block that is whole with a record

-- none of places that lie before a data block
find_none_low : (p low end : ℕ) (ys : List ℕ) → All (λ place. place < p) ys → p ≤ low → find (within low end) ys ≡ None
find_none_low p low end [] all past = refl
find_none_low p low end (y ∷ ys) all past =
    let before = All-head (λ place. place < p) y ys all in
    let none : nat_le low y ≡ false = grind (arith, nat_tests) in
    let out : within low end y ≡ false = ap (λ (b : Bool). b && nat_lt y end) none in
    cond-false (within low end y) (Some y) (find (within low end) ys) out ∙ find_none_low p low end ys (All-tail (λ place. place < p) y ys all) past

-- where records begin in front, all before its end
abbrev pub Begins : ℕ → Front → Type 0
Begins bsize front = All (λ place. place < length front.bytes) (starts_in_front bsize front)

-- where the last of these records begins
abbrev begin_of : Front → List (List ℕ) → ℕ
begin_of front records = length front.bytes + length (stored V records)

-- the places up to the last record, and those behind it
split_from : (p : ℕ) (records more : List (List ℕ)) (text : List ℕ) → starts_from p (records ++ (text ∷ more))
    ≡ starts_from p (records ++ text ∷ []) ++ starts_from (p + length (stored V records) + (2 + length text)) more
split_from p records more text =
    let s = p + length (stored V records) in
    starts_append p records (text ∷ more)
    ∙ sym (append_assoc (starts_from p records) (s ∷ []) (starts_from (s + (2 + length text)) more))
    ∙ ap (λ (l : List ℕ). l ++ starts_from (s + (2 + length text)) more) (sym (starts_append p records (text ∷ [])))

split_is : (bsize : ℕ) (front : Front) (records more : List (List ℕ)) (text : List ℕ) → starts_on bsize front (records ++ (text ∷ more))
    ≡ starts_on bsize front (records ++ text ∷ []) ++ starts_from (begin_of front records + (2 + length text)) more
split_is bsize front records more text =
    ap (λ (l : List ℕ). starts_in_front bsize front ++ l) (split_from (length front.bytes) records more text)
    ∙ sym (append_assoc (starts_in_front bsize front) (starts_from (length front.bytes) (records ++ text ∷ [])) (starts_from (begin_of front records + (2 + length text)) more))

-- with one record more
one_more : (bsize : ℕ) (front : Front) (records : List (List ℕ)) (text : List ℕ) → starts_on bsize front (records ++ text ∷ []) ≡ starts_on bsize front records ++ begin_of front records ∷ []
one_more bsize front records text =
    ap (λ (l : List ℕ). starts_in_front bsize front ++ l) (starts_append (length front.bytes) records (text ∷ []))
    ∙ sym (append_assoc (starts_in_front bsize front) (starts_from (length front.bytes) records) (begin_of front records ∷ []))

-- its number
last_is : (bsize k : ℕ) (front : Front) (records more : List (List ℕ)) (text : List ℕ) → begin_of front records < (k + 1) * bsize → (k + 1) * bsize ≤ begin_of front records + (2 + length text)
    → (mark_with bsize front (records ++ (text ∷ more)) k).last ≡ front.count + (length records + 1)
last_is bsize k front records more text here end =
    let e = (k + 1) * bsize in
    let p = length front.bytes in
    let s = begin_of front records in
    let test : ℕ → Bool = λ place. nat_lt place e in
    let all = count_all p e records (omega arith) in
    let none = count_none (s + (2 + length text)) e more end in
    let one : nat_lt s e ≡ true = grind (arith, nat_tests) in
    let first : cond (nat_lt s e) 1 0 ≡ 1 = cond-true (nat_lt s e) 1 0 one in
    let cons = sum_by-cons (λ place. cond (nat_lt place e) 1 0) s (starts_from (s + (2 + length text)) more) in
    let both = sum_by-append (λ place. cond (nat_lt place e) 1 0) (starts_from p records) (s ∷ starts_from (s + (2 + length text)) more) in
    ap (λ (n : ℕ). front.count + n)
    (ap (count_by test) (starts_append p records (text ∷ more)) ∙ both
    ∙ ap (λ (n : ℕ). n + count_by test (s ∷ starts_from (s + (2 + length text)) more)) all
    ∙ ap (λ (n : ℕ). length records + n) (cons ∙ ap (λ (n : ℕ). cond (nat_lt s e) 1 0 + n) none ∙ ap (λ (n : ℕ). n + 0) first))

-- a record behind the data block isn't the first that begins in it
place_is : (bsize k : ℕ) (front : Front) (records more : List (List ℕ)) (text : List ℕ) → (k + 1) * bsize ≤ begin_of front records + (2 + length text)
    → (mark_with bsize front (records ++ (text ∷ more)) k).place ≡ (mark_with bsize front (records ++ text ∷ []) k).place
place_is bsize k front records more text end =
    let low = k * bsize in
    let e = (k + 1) * bsize in
    let behind = find_none_behind (begin_of front records + (2 + length text)) low e more end in
    ap (place_in low) (ap (find (within low e)) (split_is bsize front records more text)
    ∙ find-append (within low e) (starts_on bsize front (records ++ text ∷ [])) (starts_from (begin_of front records + (2 + length text)) more)
    ∙ ap (option_or (find (within low e) (starts_on bsize front (records ++ text ∷ [])))) behind ∙ or_none (find (within low e) (starts_on bsize front (records ++ text ∷ []))))
  where
    or_none : (o : Option ℕ) → option_or o None ≡ o
    or_none None = refl
    or_none (Some x) = refl

-- none of the records and of those in front begins in a data block behind them
on_none : (bsize low end : ℕ) (front : Front) (records : List (List ℕ)) → Begins bsize front → begin_of front records ≤ low → find (within low end) (starts_on bsize front records) ≡ None
on_none bsize low end front records begins past =
    let p = length front.bytes in
    let first = find_none_low p low end (starts_in_front bsize front) begins (omega arith) in
    let second = find_none_before p low end records past in
    find-append (within low end) (starts_in_front bsize front) (starts_from p records)
    ∙ ap (λ (o : Option ℕ). option_or o (find (within low end) (starts_from p records))) first ∙ second

-- no record begins in a data block behind the one in which the last does
pub place_none : (bsize k : ℕ) (front : Front) (records : List (List ℕ)) (text : List ℕ) → Begins bsize front → begin_of front records < k * bsize
    → (mark_with bsize front (records ++ text ∷ []) k).place ≡ nowhere
place_none bsize k front records text begins past =
    let low = k * bsize in
    let e = (k + 1) * bsize in
    let s = begin_of front records in
    let before = on_none bsize low e front records begins (omega arith) in
    let none : nat_le low s ≡ false = grind (arith, nat_tests) in
    let out : within low e s ≡ false = ap (λ (b : Bool). b && nat_lt s e) none in
    let last : find (within low e) (s ∷ []) ≡ None = cond-false (within low e s) (Some s) None out in
    ap (place_in low) (ap (find (within low e)) (one_more bsize front records text) ∙ find-append (within low e) (starts_on bsize front records) (s ∷ [])
    ∙ ap (λ (o : Option ℕ). option_or o (find (within low e) (s ∷ []))) before ∙ last)

-- what is found passes the test
found : (test : ℕ → Bool) (xs : List ℕ) (y : ℕ) → find test xs ≡ Some y → test y ≡ true
found test [] y is = absurd (cc)
found test (x ∷ xs) y is = ⊎_elim
    (λ (yes' : test x ≡ true). subst (λ (z : ℕ). test z ≡ true) (some_same (sym (cond-true (test x) (Some x) (find test xs) yes') ∙ is)) yes')
    (λ (no' : test x ≡ false). found test xs y (sym (cond-false (test x) (Some x) (find test xs) no') ∙ is))
    (cases_Bool (test x))
  where
    some_same : Some x ≡ Some y → x ≡ y
    some_same e = cc

place_case : (low f s : ℕ) (o : Option ℕ) → ((q : ℕ) → o ≡ Some q → q - low ≡ nowhere → ⊥) → s - low ≡ f
    → (if place_in low o == nowhere then f else place_in low o) ≡ place_in low (option_or o (Some s))
place_case low f s None never at = sym at
place_case low f s (Some q) never at = cond-false (eqb (q - low) nowhere) f (q - low) (ne_eqb (q - low) nowhere (never q refl))

both_true : (a b : Bool) → a ≡ true → b ≡ true → (a && b) ≡ true
both_true true b is is' = is'
both_true false b is is' = is

right_true : (a b : Bool) → (a && b) ≡ true → b ≡ true
right_true true b is = is
right_true false b is = absurd (cc)

-- where a record begins with the next byte, the first that begins in the data block
pub started_place : (bsize whole f : ℕ) (front : Front) (records : List (List ℕ)) (text : List ℕ) → f < bsize → bsize ≤ 4096 → begin_of front records ≡ whole * bsize + f
    → (if (mark_with bsize front records whole).place == nowhere then f else (mark_with bsize front records whole).place)
    ≡ (mark_with bsize front (records ++ text ∷ []) whole).place
started_place bsize whole f front records text low short at =
    let starts = starts_on bsize front records in
    let from = whole * bsize in
    let end = (whole + 1) * bsize in
    let s = begin_of front records in
    let one : nat_le from s ≡ true = grind (arith, nat_tests) in
    let two : nat_lt s end ≡ true = grind (arith, nat_tests) in
    let here : within from end s ≡ true = both_true (nat_le from s) (nat_lt s end) one two in
    let whole_is : find (within from end) (starts_on bsize front (records ++ text ∷ [])) ≡ option_or (find (within from end) starts) (Some s) =
    ap (find (within from end)) (one_more bsize front records text) ∙ find-append (within from end) starts (s ∷ [])
    ∙ ap (option_or (find (within from end) starts)) (cond-true (within from end s) (Some s) None here) in
    let never : (q : ℕ) → find (within from end) starts ≡ Some q → q - from ≡ nowhere → ⊥ = (λ q is e.
    let passes : nat_lt q end ≡ true = right_true (nat_le from q) (nat_lt q end) (found (within from end) starts q is) in
    let less : q < end = grind (arith, nat_tests) in absurd (omega arith)) in
    place_case from f s (find (within from end) starts) never (omega arith) ∙ ap (place_in from) (sym whole_is)

-- the mark that a data block is to have is that of the records up to the one that begins last in it
pub mark_whole : (bsize k : ℕ) (front : Front) (records more : List (List ℕ)) (text : List ℕ) → begin_of front records < (k + 1) * bsize → (k + 1) * bsize ≤ begin_of front records + (2 + length text)
    → mark_with bsize front (records ++ (text ∷ more)) k
    ≡ record { last = front.count + (length records + 1); place = (mark_with bsize front (records ++ text ∷ []) k).place }
mark_whole bsize k front records more text here end =
    same_mark (mark_with bsize front (records ++ (text ∷ more)) k) (front.count + (length records + 1)) ((mark_with bsize front (records ++ text ∷ []) k).place)
    (last_is bsize k front records more text here end) (place_is bsize k front records more text end)
  where
    same_mark : (m : Mark) (last place : ℕ) → m.last ≡ last → m.place ≡ place → m ≡ record { last = last; place = place }
    same_mark m last place a b = ap (λ (n : ℕ). record { last = n; place = m.place }) a ∙ ap (λ (n : ℕ). record { last = last; place = n }) b

-- the mark at a place of all
pub mark_is : (bsize n k : ℕ) (front : Front) (records : List (List ℕ)) → k < n → mark_at (map (mark_with bsize front records) (range_with_len 0 n)) k ≡ mark_with bsize front records k
mark_is bsize n k front records less = get_or-map-range_with_len (mark_with bsize front records) 0 n k k no_mark less (omega arith)

-- ---- all records

-- the mark of a data block that ends behind all of them
pub mark_end : (bsize k : ℕ) (front : Front) (records : List (List ℕ)) → begin_of front records ≤ (k + 1) * bsize
    → mark_with bsize front records k ≡ record { last = front.count + length records; place = (mark_with bsize front records k).place }
mark_end bsize k front records low =
    ap (λ (n : ℕ). record { last = front.count + n; place = (mark_with bsize front records k).place }) (count_all (length front.bytes) ((k + 1) * bsize) records low)

pub place_past : (bsize k : ℕ) (front : Front) (records : List (List ℕ)) → Begins bsize front → begin_of front records ≤ k * bsize → (mark_with bsize front records k).place ≡ nowhere
place_past bsize k front records begins low = ap (place_in (k * bsize)) (on_none bsize (k * bsize) ((k + 1) * bsize) front records begins low)

-- ---- the data block that isn't full before any record is put

-- no record begins in it, or one does
none_begins : (bsize : ℕ) (front : Front) → front.place ≡ nowhere → starts_in_front bsize front ≡ []
none_begins bsize front is = cond-true (eqb front.place nowhere) [] ((length front.bytes / bsize * bsize + front.place) ∷ []) (eq-eqb front.place nowhere is)

one_begins : (bsize kept f : ℕ) (front : Front) → length front.bytes ≡ kept * bsize + f → f < bsize → (front.place ≡ nowhere → ⊥) → starts_in_front bsize front ≡ (kept * bsize + front.place) ∷ []
one_begins bsize kept f front long low other =
    cond-false (eqb front.place nowhere) [] ((length front.bytes / bsize * bsize + front.place) ∷ []) (ne_eqb front.place nowhere other)
    ∙ ap (λ (n : ℕ). (n / bsize * bsize + front.place) ∷ []) long ∙ ap (λ (n : ℕ). (n * bsize + front.place) ∷ []) (div-mul-add kept bsize f low)

-- where one does it is in front of the bytes that come
pub front_begins : (bsize kept f : ℕ) (front : Front) → length front.bytes ≡ kept * bsize + f → f < bsize → (front.place ≡ nowhere) ⊎ (front.place < f) → Begins bsize front
front_begins bsize kept f front long low place = ⊎_elim
    (λ (is : front.place ≡ nowhere). none is)
    (λ (less : front.place < f). ⊎_elim
    (λ (is : front.place ≡ nowhere). none is)
    (λ (other : front.place ≡ nowhere → ⊥).
    let before : kept * bsize + front.place < length front.bytes = omega arith in
    subst (λ (l : List ℕ). All (λ p. p < length front.bytes) l) (sym (one_begins bsize kept f front long low other))
    (All-cons (λ p. p < length front.bytes) (kept * bsize + front.place) [] before (All-nil (λ p. p < length front.bytes))))
    (cases_eq front.place nowhere))
    place
  where
    none : front.place ≡ nowhere → Begins bsize front
    none is = subst (λ (l : List ℕ). All (λ p. p < length front.bytes) l) (sym (none_begins bsize front is)) (All-nil (λ p. p < length front.bytes))

-- its mark has that place
pub front_place : (bsize kept f : ℕ) (front : Front) → length front.bytes ≡ kept * bsize + f → f < bsize → (front.place ≡ nowhere) ⊎ (front.place < f)
    → front.place ≡ (mark_with bsize front [] kept).place
front_place bsize kept f front long low place = ⊎_elim none (λ (less : front.place < f). ⊎_elim none (one less) (cases_eq front.place nowhere)) place
  where
    from : ℕ
    from = kept * bsize

    end : ℕ
    end = (kept + 1) * bsize

    is_on : (ys : List ℕ) → starts_in_front bsize front ≡ ys → place_in from (find (within from end) (ys ++ [])) ≡ (mark_with bsize front [] kept).place
    is_on ys is = ap (λ (l : List ℕ). place_in from (find (within from end) (l ++ []))) (sym is)

    none : front.place ≡ nowhere → front.place ≡ (mark_with bsize front [] kept).place
    none is = is ∙ is_on [] (none_begins bsize front is)

    one : front.place < f → (front.place ≡ nowhere → ⊥) → front.place ≡ (mark_with bsize front [] kept).place
    one less other =
        let p = kept * bsize + front.place in
        let after : nat_le from p ≡ true = grind (arith, nat_tests) in
        let before : nat_lt p end ≡ true = grind (arith, nat_tests) in
        let here : within from end p ≡ true = both_true (nat_le from p) (nat_lt p end) after before in
        let at : front.place ≡ p - from = omega arith in
        at ∙ sym (ap (place_in from) (cond-true (within from end p) (Some p) None here)) ∙ is_on (p ∷ []) (one_begins bsize kept f front long low other)
