-- Places in lists, and what searches find.
use Rattle.std.proofs.Common.{◌≡◌, ℕ, zero, suc, ◌+◌, ◌<◌, ◌≤◌, List, [], ◌∷◌, ◌++◌, length, map, take, drop, get_or, append_assoc, refl, sym, ap, subst, ◌∙◌, arith, append-nil}
use Rattle.std.specs.Prelude.{Bool, true, false, not, is_some, cond, Option, Some, None, Ok, Err, slice_get}
use Rattle.std.specs.List.{flat_map}
use Rattle.std.specs.Borrow.{Bor}
use Rattle.std.specs.Option.{IsSome, option_copied, option_map}
use Rattle.std.specs.Slice.{IsItemAt}
use Rattle.std.proofs.lemmas.List.{map-append}
use Rattle.std.proofs.lemmas.Option.{same_Some, slice_get_past, slice_get_read}
use Rattle.cms_operands.specs.ReadModes.{base_of}
use Rattle.cms_search.specs.Searches.{Listed, Shelf, Shelves, item_at, has, places_from, places_where, found_at, searched, with_extensions, letters_of_mode, first_placed}
use Rattle.cms_search.specs.declared.fault.SearchFault.TheVariants.{NotAccessed, NotFound}
use Rattle.cms_search.specs.declared.search.Found.{Found}
use Rattle.cms_operands.specs.declared.mode.ReadMode.{ReadMode}
use Rattle.cms_operands.specs.declared.mode.ReadMode.TheVariants as way

-- ---- lists with empty places

pub item_at_map : {A B : Type 0} (f : A → B) (xs : List (Option A)) (n : ℕ) → item_at (map (λ x. option_map f x) xs) n ≡ option_map f (item_at xs n)
item_at_map f [] n = refl
item_at_map f (None ∷ xs) zero = refl
item_at_map f (Some x ∷ xs) zero = refl
item_at_map f (x ∷ xs) (suc n) = item_at_map f xs n

-- what a list lends of a place is what stands there
pub lent_at : {A : Type 0} (xs : List A) (i : ℕ) (r : Option (Bor A)) → IsItemAt xs i r → option_copied r ≡ slice_get xs i
lent_at xs i None h = sym (slice_get_past xs i h.3)
lent_at xs i (Some x) h = sym (slice_get_read xs (length xs) i x.now refl h.3.0 h.1)

pub lent_none : {A : Type 0} (r : Option (Bor A)) (b : Bool) → is_some r ≡ not b → b ≡ true → option_copied r ≡ None
lent_none None b is none = refl
lent_none (Some x) true is none = absurd (cc is)
lent_none (Some x) false is none = absurd (cc none)

pub lent_some : {A : Type 0} (r : Option (Bor A)) (b : Bool) → is_some r ≡ not b → b ≡ false → IsSome (option_copied r)
lent_some None true is some = absurd (cc some)
lent_some None false is some = absurd (cc is)
lent_some (Some x) b is some = refl

-- ---- places

pub places_short : {A : Type 0} (p : A → Bool) (n : ℕ) (xs : List A) → length (places_from p n xs) ≤ length xs
unfolding places_from
places_short p n [] = omega arith
places_short p n (x ∷ xs) = cases (p x) (places_short p (suc n) xs)
  where
    cases : (b : Bool) → length (places_from p (suc n) xs) ≤ length xs → length (cond b (n ∷ places_from p (suc n) xs) (places_from p (suc n) xs)) ≤ suc (length xs)
    cases true le = omega (arith, le)
    cases false le = omega (arith, le)

-- one item more
pub places_more : {A : Type 0} (p : A → Bool) (n k : ℕ) (xs : List A) (x : A) → slice_get xs k ≡ Some x
    → places_from p n (take (suc k) xs) ≡ places_from p n (take k xs) ++ cond (p x) ((n + k) ∷ []) []
unfolding places_from
places_more p n k [] x is = absurd (cc is)
places_more p n zero (y ∷ xs) x is = let e = same_Some y x is in rw (e, at) refl
  where
    at : n + 0 ≡ n
    at = omega arith
places_more p n (suc k) (y ∷ xs) x is = cases (p y) (places_more p (suc n) k xs x is)
  where
    at : suc n + k ≡ n + suc k
    at = omega arith

    cases : (b : Bool) → places_from p (suc n) (take (suc k) xs) ≡ places_from p (suc n) (take k xs) ++ cond (p x) ((suc n + k) ∷ []) []
        → cond b (n ∷ places_from p (suc n) (take (suc k) xs)) (places_from p (suc n) (take (suc k) xs))
        ≡ cond b (n ∷ places_from p (suc n) (take k xs)) (places_from p (suc n) (take k xs)) ++ cond (p x) ((n + suc k) ∷ []) []
    cases true h = rw (h, at) refl
    cases false h = rw (h, at) refl

-- ---- from the front

take_all : {A : Type 0} (k : ℕ) (xs : List A) → length xs ≤ k → take k xs ≡ xs
take_all zero [] le = refl
take_all zero (x ∷ xs) le = absurd (omega (arith, le))
take_all (suc k) [] le = refl
take_all (suc k) (x ∷ xs) le = ap (λ l. x ∷ l) (take_all k xs (omega (arith, le)))

at_place : {A : Type 0} (xs : List (Option A)) (k : ℕ) → k < length xs → slice_get xs k ≡ Some (item_at xs k)
at_place [] k less = absurd (omega (arith, less))
at_place (x ∷ xs) zero less = refl
at_place (x ∷ xs) (suc k) less = at_place xs k (omega (arith, less))

pub none_added : {A : Type 0} (p : A → Bool) (start : List ℕ) → start ≡ start ++ places_where p []
unfolding places_from
none_added p start = sym (append-nil start)

module _ {A : Type 0} (p : A → Bool) (xs : List (Option A)) (k : ℕ) (start now : List ℕ) (is : now ≡ start ++ places_where (has p) (take k xs)) where
  more : k < length xs → places_from (has p) 0 (take (suc k) xs) ≡ places_from (has p) 0 (take k xs) ++ cond (has p (item_at xs k)) (k ∷ []) []
  more less =
      let z : 0 + k ≡ k = omega arith in
      subst (λ (j : ℕ). places_from (has p) 0 (take (suc k) xs) ≡ places_from (has p) 0 (take k xs) ++ cond (has p (item_at xs k)) (j ∷ []) []) z
      (places_more (has p) 0 k xs (item_at xs k) (at_place xs k less))

  pub one_added : k < length xs → has p (item_at xs k) ≡ true → now ++ k ∷ [] ≡ start ++ places_where (has p) (take (k + 1) xs)
  one_added less taken =
      let at : k + 1 ≡ suc k = omega arith in
      rw (at, more less, taken, is) (append_assoc start (places_from (has p) 0 (take k xs)) (k ∷ []))

  pub as_before : k < length xs → has p (item_at xs k) ≡ false → now ≡ start ++ places_where (has p) (take (k + 1) xs)
  as_before less left =
      let at : k + 1 ≡ suc k = omega arith in
      rw (at, more less, left, append-nil) is

  pub all_added : length xs ≤ k → now ≡ start ++ places_where (has p) xs
  all_added le = let e = take_all k xs le in is ∙ ap (λ l. start ++ places_where (has p) l) e

-- ---- files of a disk

module _ (passes : Listed → Bool) (n : ℕ) (fs : List Listed) (k : ℕ) (start now : List Found) (is : now ≡ start ++ map (λ j. found_at n j) (places_where passes (take k fs))) where
  more_found : (f : Listed) → slice_get fs k ≡ Some f → places_from passes 0 (take (suc k) fs) ≡ places_from passes 0 (take k fs) ++ cond (passes f) (k ∷ []) []
  more_found f at_k =
      let z : 0 + k ≡ k = omega arith in
      subst (λ (j : ℕ). places_from passes 0 (take (suc k) fs) ≡ places_from passes 0 (take k fs) ++ cond (passes f) (j ∷ []) []) z (places_more passes 0 k fs f at_k)

  pub one_found : (f : Listed) → slice_get fs k ≡ Some f → passes f ≡ true → now ++ found_at n k ∷ [] ≡ start ++ map (λ j. found_at n j) (places_where passes (take (k + 1) fs))
  one_found f at_k taken =
      let at : k + 1 ≡ suc k = omega arith in
      rw (at, more_found f at_k, taken, map-append (λ j. found_at n j) (places_from passes 0 (take k fs)) (k ∷ []), is)
      (append_assoc start (map (λ j. found_at n j) (places_from passes 0 (take k fs))) (found_at n k ∷ []))

  pub none_found : (f : Listed) → slice_get fs k ≡ Some f → passes f ≡ false → now ≡ start ++ map (λ j. found_at n j) (places_where passes (take (k + 1) fs))
  none_found f at_k left =
      let at : k + 1 ≡ suc k = omega arith in
      rw (at, more_found f at_k, left, append-nil) is

  pub all_found : length fs ≤ k → now ≡ start ++ map (λ j. found_at n j) (places_where passes fs)
  all_found le = let e = take_all k fs le in is ∙ ap (λ l. start ++ map (λ j. found_at n j) (places_where passes l)) e

pub none_listed : (passes : Listed → Bool) (n : ℕ) (start : List Found) → start ≡ start ++ map (λ j. found_at n j) (places_where passes [])
unfolding places_from
none_listed passes n start = sym (append-nil start)

-- ---- letters of a search

pub order_all : (shelves : Shelves) (mode : ReadMode) → None ≡ base_of mode → Ok (searched None shelves) ≡ letters_of_mode shelves mode
order_all shelves way.Any is = refl
order_all shelves (way.Letter n) is = absurd (cc is)
order_all shelves (way.Numbered n k) is = absurd (cc is)

extensions_of : (shelves : Shelves) (mode : ReadMode) (n : ℕ) → Some n ≡ base_of mode → with_extensions shelves n ≡ letters_of_mode shelves mode
extensions_of shelves way.Any n is = absurd (cc is)
extensions_of shelves (way.Letter m) n is = ap (λ (j : ℕ). with_extensions shelves j) (cc is)
extensions_of shelves (way.Numbered m k) n is = ap (λ (j : ℕ). with_extensions shelves j) (cc is)

pub order_absent : (shelves : Shelves) (mode : ReadMode) (n : ℕ) → Some n ≡ base_of mode → item_at shelves n ≡ None → Err (NotAccessed n) ≡ letters_of_mode shelves mode
order_absent shelves mode n is none = rw (← extensions_of shelves mode n is, none) refl

pub order_first : (shelves : Shelves) (mode : ReadMode) (n : ℕ) (shelf : Shelf) → Some n ≡ base_of mode → item_at shelves n ≡ Some shelf
    → Ok ((n ∷ []) ++ searched (Some n) shelves) ≡ letters_of_mode shelves mode
order_first shelves mode n shelf is some = rw (← extensions_of shelves mode n is, some) refl

-- ---- over a list of letters

pub first_more : (f : ℕ → Option ℕ) (xs : List ℕ) (i : ℕ) (x : ℕ) → slice_get xs i ≡ Some x → f x ≡ None → first_placed f (drop i xs) ≡ first_placed f (drop (i + 1) xs)
first_more f xs i x at none = let e : i + 1 ≡ suc i = omega arith in rw e (go xs i at)
  where
    same : (a b : ℕ) → Some a ≡ Some b → a ≡ b
    same a b e = cc e

    go : (ys : List ℕ) (j : ℕ) → slice_get ys j ≡ Some x → first_placed f (drop j ys) ≡ first_placed f (drop (suc j) ys)
    go [] j at = absurd (cc at)
    go (y ∷ ys) zero at = let e = same y x at in rw (e, none) refl
    go (y ∷ ys) (suc j) at = go ys j at

pub first_here : (f : ℕ → Option ℕ) (xs : List ℕ) (i : ℕ) (x k : ℕ) → slice_get xs i ≡ Some x → f x ≡ Some k → first_placed f (drop i xs) ≡ Ok (found_at x k)
first_here f [] i x k at some = absurd (cc at)
first_here f (y ∷ ys) zero x k at some = let e = same y x at in rw (e, some) refl
  where
    same : (a b : ℕ) → Some a ≡ Some b → a ≡ b
    same a b e = cc e
first_here f (y ∷ ys) (suc i) x k at some = first_here f ys i x k at some

pub first_none : (f : ℕ → Option ℕ) (xs : List ℕ) (i : ℕ) → length xs ≤ i → first_placed f (drop i xs) ≡ Err NotFound
first_none f [] zero le = refl
first_none f [] (suc i) le = refl
first_none f (y ∷ ys) zero le = absurd (omega (arith, le))
first_none f (y ∷ ys) (suc i) le = first_none f ys i (omega (arith, le))

pub flat_more : (f : ℕ → List Found) (xs : List ℕ) (i x : ℕ) → slice_get xs i ≡ Some x → flat_map f (take (i + 1) xs) ≡ flat_map f (take i xs) ++ f x
flat_more f xs i x at = let e : i + 1 ≡ suc i = omega arith in rw e (go xs i at)
  where
    same : (a b : ℕ) → Some a ≡ Some b → a ≡ b
    same a b e = cc e

    go : (ys : List ℕ) (j : ℕ) → slice_get ys j ≡ Some x → flat_map f (take (suc j) ys) ≡ flat_map f (take j ys) ++ f x
    go [] j at = absurd (cc at)
    go (y ∷ ys) zero at = let e = same y x at in rw e (append-nil (f x))
    go (y ∷ ys) (suc j) at = let h = go ys j at in rw h (sym (append_assoc (f y) (flat_map f (take j ys)) (f x)))

pub flat_all : (f : ℕ → List Found) (xs : List ℕ) (i : ℕ) → length xs ≤ i → flat_map f (take i xs) ≡ flat_map f xs
flat_all f xs i le = ap (flat_map f) (take_all i xs le)

-- what stands at an index
pub at_index : (xs : List ℕ) (i : ℕ) → i < length xs → slice_get xs i ≡ Some (get_or xs i 0)
at_index [] i less = absurd (omega (arith, less))
at_index (x ∷ xs) zero less = refl
at_index (x ∷ xs) (suc i) less = at_index xs i (omega (arith, less))
