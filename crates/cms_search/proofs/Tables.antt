-- What calls make of a table is a table.
use Rattle.std.proofs.Common.{◌≡◌, ◌≢◌, ◌⊎◌, ⊎_elim, inl, inr, ℕ, zero, suc, ◌+◌, ◌<◌, List, [], ◌∷◌, ◌++◌, length, take, drop, replicate, get_or, refl, sym, ap, subst, ◌∙◌, arith, true≢false}
use Rattle.std.specs.Prelude.{Bool, true, false, cond, ◌==◌, if◌then◌else◌, Option, Some, None, slice_get, slice_set, is_some, not, ◌||◌, Result, Ok, Err, OnOk, IfErr}
use Rattle.std.specs.Option.{option_and_then}
use Rattle.std.proofs.lemmas.Option.{get_or_from_slice_get, same_Some, slice_get_read, slice_get_within}
use Rattle.std.proofs.lemmas.Bool.{eq-eqb}
use Rattle.std.proofs.lemmas.List.{length-set, length-replicate, length-map}
use Rattle.cms_journal.specs.Told.{Told}
use Rattle.cms_model.proofs.Units.{get_same, get_other}
use Rattle.cms_disk.specs.Disks.{Accessed, synced, told_with}
use Rattle.cms_disk.specs.declared.fault.AccessFault.{AccessFault}
use Rattle.cms_disk.specs.declared.unit.UnitInfo.{UnitInfo}
use Rattle.cms_search.specs.Format.{vacated}
use Rattle.cms_search.specs.Machine.{Letter}
use Rattle.cms_search.specs.Searches.{item_at, has}
use Rattle.cms_search.specs.Tables.{AccessTable, Seated, HaveDistinctDevices, IsTable, IsSure, KeepsItsOwn, without, put_on, cleared, new_table, released, marked, seated, shelves_of, table_after, told_after, letter_for, parent_of, wanted_unit}

-- ---- lists with empty places

-- one place more is looked at
pub without_more : {A : Type 0} (p : A → Bool) (k : ℕ) (xs : List (Option A)) → k < length xs
    → cond (has p (item_at (without p (take k xs) ++ drop k xs) k)) (slice_set (without p (take k xs) ++ drop k xs) k None) (without p (take k xs) ++ drop k xs)
    ≡ without p (take (suc k) xs) ++ drop (suc k) xs
without_more p k [] less = absurd (omega (arith, less))
without_more p zero (None ∷ xs) less = refl
without_more {A = A} p zero (Some x ∷ xs) less = cases (p x)
  where
    cases : (b : Bool) → cond b (None ∷ xs) (Some x ∷ xs) ≡ cond b None (Some x) ∷ xs
    cases true = refl
    cases false = refl
without_more {A = A} p (suc k) (x ∷ xs) less = cases (has p (item_at (without p (take k xs) ++ drop k xs) k)) (without_more p k xs (omega (arith, less)))
  where
    cases : (b : Bool) → cond b (slice_set (without p (take k xs) ++ drop k xs) k None) (without p (take k xs) ++ drop k xs) ≡ without p (take (suc k) xs) ++ drop (suc k) xs
        → cond b (option_and_then (λ d. if p d then None else Some d) x ∷ slice_set (without p (take k xs) ++ drop k xs) k None)
        (option_and_then (λ d. if p d then None else Some d) x ∷ (without p (take k xs) ++ drop k xs))
        ≡ option_and_then (λ d. if p d then None else Some d) x ∷ (without p (take (suc k) xs) ++ drop (suc k) xs)
    cases true h = ap (λ (l : List (Option A)). option_and_then (λ d. if p d then None else Some d) x ∷ l) h
    cases false h = ap (λ (l : List (Option A)). option_and_then (λ d. if p d then None else Some d) x ∷ l) h

-- what stands in a place was there and doesn't pass
pub item_without : {A : Type 0} (p : A → Bool) (xs : List (Option A)) (a : ℕ) (e : A) → item_at (without p xs) a ≡ Some e → (item_at xs a ≡ Some e) × (p e ≡ false)
item_without p [] a e is = absurd (cc is)
item_without p (None ∷ xs) zero e is = absurd (cc is)
item_without {A = A} p (Some x ∷ xs) zero e is = cases (p x) refl is
  where
    cases : (b : Bool) → p x ≡ b → cond b None (Some x) ≡ Some e → (Some x ≡ Some e) × (p e ≡ false)
    cases true at is = absurd (cc is)
    cases false at is = let same = same_Some x e is in (is, subst (λ (y : A). p y ≡ false) same at)
item_without p (x ∷ xs) (suc a) e is = item_without p xs a e is

-- what stands in a place was put there, or was there before
pub item_put : {A : Type 0} (xs : List (Option A)) (n : ℕ) (v : Option A) (a : ℕ) (e : A) → item_at (slice_set xs n v) a ≡ Some e
    → ((a ≡ n) × (v ≡ Some e)) ⊎ ((a ≢ n) × (item_at xs a ≡ Some e))
item_put [] n v a e is = absurd (cc is)
item_put (x ∷ xs) zero v zero e is = inl (refl, is)
item_put (x ∷ xs) zero v (suc a) e is = inr ((λ same. omega (arith, same)), is)
item_put (x ∷ xs) (suc n) v zero e is = inr ((λ same. omega (arith, same)), is)
item_put (x ∷ xs) (suc n) v (suc a) e is = ⊎_elim (λ h. inl (ap suc h.0, h.1)) (λ h. inr ((λ same. h.0 (omega (arith, same))), h.1)) (item_put xs n v a e is)

-- nothing stands in places that are empty
pub none_replicated : {A : Type 0} (k a : ℕ) (e : A) → item_at (replicate k None) a ≡ Some e → ⊥
none_replicated zero a e is = absurd (cc is)
none_replicated (suc k) zero e is = absurd (cc is)
none_replicated (suc k) (suc a) e is = none_replicated k a e is

-- a place that has the value has it still
get_set_same : {A : Type 0} (xs : List A) (n : ℕ) (v : A) (k : ℕ) → slice_get xs k ≡ Some v → slice_get (slice_set xs n v) k ≡ Some v
get_set_same [] n v k is = is
get_set_same (x ∷ xs) zero v zero is = refl
get_set_same (x ∷ xs) zero v (suc k) is = is
get_set_same (x ∷ xs) (suc n) v zero is = is
get_set_same (x ∷ xs) (suc n) v (suc k) is = get_set_same xs n v k is

-- ---- tables

pub table_new : (units : List UnitInfo) → HaveDistinctDevices units → IsTable (new_table units)
table_new units distinct = record {
  distinct = distinct;
  doubts = length-replicate (length units) false;
  letters = length-replicate {A = Option Seated} 26 None;
  once = λ a b s t is_s is_t same. absurd (none_replicated 26 a s is_s);
  sure = λ n s is. absurd (none_replicated 26 n s is);
  readings = λ n s is. absurd (none_replicated 26 n s is);
}

pub table_marked : (t : AccessTable) (u : ℕ) → IsTable t → IsTable (marked u false t)
table_marked t u is = record {
  distinct = is.distinct;
  doubts = length-set t.doubts u false ∙ is.doubts;
  letters = is.letters;
  once = is.once;
  sure = λ n s at. get_set_same t.doubts u false s.letter.unit (is.sure n s at);
  readings = is.readings;
}

-- what keeps no reading keeps none of another's file
pub keeps_none : (s : Seated) → s.reading ≡ None → KeepsItsOwn s
keeps_none s none = rw none tt

pub table_seated : (t : AccessTable) (n : ℕ) (s : Seated) → IsTable t → IsSure t.doubts s → s.reading ≡ None → IsTable (seated n s t)
table_seated t n s is sure none = record {
  distinct = is.distinct;
  doubts = is.doubts;
  letters = length-set (without p t.seats) n (Some s) ∙ length-map t.seats _ ∙ is.letters;
  once = λ a b x y is_x is_y same. once a b x y same (item_put (without p t.seats) n (Some s) a x is_x) (item_put (without p t.seats) n (Some s) b y is_y);
  sure = λ a x is_x. ⊎_elim
      (λ h. subst (λ (e : Seated). IsSure t.doubts e) (same_Some s x h.1) sure)
      (λ h. is.sure a x (item_without p t.seats a x h.1).0)
      (item_put (without p t.seats) n (Some s) a x is_x);
  readings = λ a x is_x. ⊎_elim
      (λ h. subst (λ (e : Seated). KeepsItsOwn e) (same_Some s x h.1) (keeps_none s none))
      (λ h. is.readings a x (item_without p t.seats a x h.1).0)
      (item_put (without p t.seats) n (Some s) a x is_x);
}
  where
    p : Seated → Bool
    p e = e.letter.unit == s.letter.unit

    -- no other seat is of the unit
    other : (b : ℕ) (x y : Seated) → s ≡ x → x.letter.unit ≡ y.letter.unit → item_at (without (λ e. e.letter.unit == s.letter.unit) t.seats) b ≡ Some y → ⊥
    other b x y is_s same at =
        let h = (item_without (λ e. e.letter.unit == s.letter.unit) t.seats b y at).1 in
        let e : s.letter.unit ≡ y.letter.unit = ap (λ (z : Seated). z.letter.unit) is_s ∙ same in
        true≢false (sym (eq-eqb y.letter.unit s.letter.unit (sym e)) ∙ h)

    once : (a b : ℕ) (x y : Seated) → x.letter.unit ≡ y.letter.unit
        → ((a ≡ n) × (Some s ≡ Some x)) ⊎ ((a ≢ n) × (item_at (without (λ e. e.letter.unit == s.letter.unit) t.seats) a ≡ Some x))
        → ((b ≡ n) × (Some s ≡ Some y)) ⊎ ((b ≢ n) × (item_at (without (λ e. e.letter.unit == s.letter.unit) t.seats) b ≡ Some y))
        → a ≡ b
    once a b x y same (inl h) (inl k) = h.0 ∙ sym k.0
    once a b x y same (inl h) (inr k) = absurd (other b x y (same_Some s x h.1) same k.1)
    once a b x y same (inr h) (inl k) = absurd (other a y x (same_Some s y k.1) (sym same) h.1)
    once a b x y same (inr h) (inr k) = is.once a b x y (item_without _ t.seats a x h.1).0 (item_without _ t.seats b y k.1).0 same

-- another letter has its disk still
pub stays : (t : AccessTable) (n a : ℕ) (x : Seated) → item_at (cleared n t.seats) a ≡ Some x → (a ≢ n) × (item_at t.seats a ≡ Some x)
stays t n a x is = ⊎_elim (λ h. absurd (cc (h.1))) (λ h. h) (item_put t.seats n None a x is)

pub table_released : (t : AccessTable) (n : ℕ) → IsTable t → IsTable (released n t)
table_released t n is = record {
  distinct = is.distinct;
  doubts = is.doubts;
  letters = length-set t.seats n None ∙ is.letters;
  once = λ a b x y is_x is_y same. is.once a b x y (stays t n a x is_x).1 (stays t n b y is_y).1 same;
  sure = λ a x is_x. is.sure a x (stays t n a x is_x).1;
  readings = λ a x is_x. is.readings a x (stays t n a x is_x).1;
}

pub table_doubted : (t : AccessTable) (n : ℕ) (s : Seated) → IsTable t → item_at t.seats n ≡ Some s → IsTable (released n (marked s.letter.unit true t))
table_doubted t n s is at = record {
  distinct = is.distinct;
  doubts = length-set t.doubts s.letter.unit true ∙ is.doubts;
  letters = length-set t.seats n None ∙ is.letters;
  once = λ a b x y is_x is_y same. is.once a b x y (stays t n a x is_x).1 (stays t n b y is_y).1 same;
  sure = λ a x is_x.
      let h = stays t n a x is_x in
      get_other t.doubts s.letter.unit x.letter.unit true (λ same. h.0 (is.once a n x s h.1 at same)) ∙ is.sure a x h.1;
  readings = λ a x is_x. is.readings a x (stays t n a x is_x).1;
}

-- the unit of a seat is one of the table's
pub unit_within : (t : AccessTable) (n : ℕ) (s : Seated) → IsTable t → item_at t.seats n ≡ Some s → s.letter.unit < length t.doubts
unit_within t n s is at = slice_get_within t.doubts s.letter.unit false (is.sure n s at)

get_within : {A : Type 0} (xs : List A) (k : ℕ) → k < length xs → slice_get xs k ≡ None → ⊥
get_within [] k less none = absurd (omega (arith, less))
get_within (x ∷ xs) zero less none = absurd (cc none)
get_within (x ∷ xs) (suc k) less none = get_within xs k (omega (arith, less)) none

pub has_unit : (t : AccessTable) (n : ℕ) (s : Seated) → IsTable t → item_at t.seats n ≡ Some s → slice_get t.units s.letter.unit ≡ None → ⊥
has_unit t n s is at none =
    let less = unit_within t n s is at in let same = is.doubts in get_within t.units s.letter.unit (omega (arith, less, same)) none

pub table_made : (units : List UnitInfo) (doubts : List Bool) (seats : List (Option Seated)) → HaveDistinctDevices units → doubts ≡ replicate (length units) false
    → seats ≡ replicate 26 None → IsTable (record { units = units; doubts = doubts; seats = seats })
table_made units doubts seats distinct none empty = rw (none, empty) (table_new units distinct)

-- ---- letters that a unit leaves

pub vacates : (p : Seated → Bool) (xs now : List (Option Seated)) (k : ℕ) → now ≡ without p (take k xs) ++ drop k xs → k < length xs → has p (item_at now k) ≡ true
    → slice_set now k None ≡ without p (take (k + 1) xs) ++ drop (k + 1) xs
vacates p xs now k is less has_it =
    let h = without_more p k xs less in
    let e : has p (item_at (without p (take k xs) ++ drop k xs) k) ≡ true = subst (λ (l : List (Option Seated)). has p (item_at l k) ≡ true) is has_it in
    let at : k + 1 ≡ suc k = omega arith in
    rw (is, at) (rw e at h)

pub keeps : (p : Seated → Bool) (xs now : List (Option Seated)) (k : ℕ) → now ≡ without p (take k xs) ++ drop k xs → k < length xs → has p (item_at now k) ≡ false
    → now ≡ without p (take (k + 1) xs) ++ drop (k + 1) xs
keeps p xs now k is less has_none =
    let h = without_more p k xs less in
    let e : has p (item_at (without p (take k xs) ++ drop k xs) k) ≡ false = subst (λ (l : List (Option Seated)). has p (item_at l k) ≡ false) is has_none in
    let at : k + 1 ≡ suc k = omega arith in
    rw (is, at) (rw e at h)

-- ---- an access

pub wanted_place : (vdev : ℕ) (p missing : Option ℕ) (u : ℕ) → Ok u ≡ wanted_unit vdev p missing → p ≡ Some u
wanted_place vdev None missing u is = absurd (cc is)
wanted_place vdev (Some v) (Some m) u is = absurd (cc is)
wanted_place vdev (Some v) None u is = ap Some (sym (cc is))

pub table_accessed : (t : AccessTable) (u n : ℕ) (s : Seated) → IsTable t → u < length t.units → s.letter.unit ≡ u → s.reading ≡ None → IsTable (seated n s (marked u false t))
table_accessed t u n s is less of_unit none =
    let same = is.doubts in
    table_seated (marked u false t) n s (table_marked t u is) (rw of_unit (get_same t.doubts u u false (omega (arith, less, same)) refl)) none

-- there are as many shelves as letters
pub shelves_long : (t : AccessTable) → IsTable t → length (shelves_of t) ≡ 26
shelves_long t is = length-map t.seats _ ∙ is.letters

-- ---- what was read of a unit

pub get_some : {A : Type 0} (xs : List A) (k : ℕ) → k < length xs → (x : A) × (slice_get xs k ≡ Some x)
get_some [] k less = absurd (omega (arith, less))
get_some (x ∷ xs) zero less = (x, refl)
get_some (x ∷ xs) (suc k) less = get_some xs k (omega (arith, less))

pub unit_read : (units xs : List UnitInfo) (k : ℕ) (x : UnitInfo) → xs ≡ units → x ≡ get_or xs k x → k < length units → slice_get units k ≡ Some x
unit_read units xs k x same is less = slice_get_read units (length units) k x refl less (is ∙ ap (λ (l : List UnitInfo). get_or l k x) same)

pub unit_same : (units xs : List UnitInfo) (k : ℕ) (x unit : UnitInfo) → xs ≡ units → x ≡ get_or xs k x → slice_get units k ≡ Some unit → x ≡ unit
unit_same units xs k x unit same is at = is ∙ ap (λ (l : List UnitInfo). get_or l k x) same ∙ get_or_from_slice_get units k unit x at

-- ---- what is told after a unit was looked at

pub told_is : (told new : Told) (doubt : Bool) (number : ℕ) (r : Result Accessed AccessFault) → OnOk r (new ≡ synced doubt number told)
    → IfErr r (λ e. new ≡ told_with e doubt number told) → new ≡ told_after doubt number told r
told_is told new doubt number (Ok d) ok err = ok
told_is told new doubt number (Err e) ok err = err

-- ---- a disk that is seated

pub letter_so : (u n : ℕ) (ext : Option ℕ) (writable w : Bool) (parent : Option ℕ) (read_only : Bool) (d : Accessed) (s : Seated)
    → s ≡ record { letter = record { unit = u; parent = parent; read_only = read_only }; disk = d; reading = None } → parent ≡ parent_of n ext → read_only ≡ (is_some ext || not w) → w ≡ writable
    → s ≡ record { letter = letter_for u writable n ext; disk = d; reading = None }
letter_so u n ext writable w parent read_only d s is p r same = is ∙ (rw (p, r, same) refl)

pub seated_so : (t : AccessTable) (u n : ℕ) (s : Seated) (letter : Letter) (d : Accessed) (seats : List (Option Seated)) → s ≡ record { letter = letter; disk = d; reading = None }
    → seats ≡ put_on (λ e. e.letter.unit) s n t.seats
    → ◌≡◌ {A = AccessTable} (record { units = t.units; doubts = slice_set t.doubts u false; seats = seats }) (table_after t u letter n (Ok d))
seated_so t u n s letter d seats is put = rw (put, is) refl

-- ---- a unit and a letter that are released

pub table_vacated : (t : AccessTable) (u n : ℕ) (doubt : Bool) → IsTable t → IsTable (vacated u n (marked u doubt t))
table_vacated t u n doubt is = record {
  distinct = is.distinct;
  doubts = length-set t.doubts u doubt ∙ is.doubts;
  letters = length-map (cleared n t.seats) _ ∙ length-set t.seats n None ∙ is.letters;
  once = λ a b x y is_x is_y same.
      is.once a b x y (stays t n a x (item_without _ (cleared n t.seats) a x is_x).0).1 (stays t n b y (item_without _ (cleared n t.seats) b y is_y).0).1 same;
  sure = λ a x is_x.
      let h = item_without (λ (e : Seated). e.letter.unit == u) (cleared n t.seats) a x is_x in
      get_other t.doubts u x.letter.unit doubt (λ same. true≢false (sym (eq-eqb x.letter.unit u same) ∙ h.1)) ∙ is.sure a x (stays t n a x h.0).1;
  readings = λ a x is_x. is.readings a x (stays t n a x (item_without (λ (e : Seated). e.letter.unit == u) (cleared n t.seats) a x is_x).0).1;
}
