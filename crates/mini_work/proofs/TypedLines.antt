-- Lines that are typed one after another.
use Rattle.std.proofs.Common.{◌≡◌, ℕ, zero, suc, ◌+◌, ◌≤◌, List, [], ◌∷◌, Some, add-one, ap, drop, length, map, slice_get, subst, sym}
use Rattle.std.proofs.lemmas.List.{drop_all}
use Rattle.std.proofs.lemmas.Option.{same_Some}
use Rattle.cms_journal.specs.Told.{Told}
use Rattle.cms_model.specs.Acts.{typed_line}
use Rattle.cms_line.specs.Typed.{TypedTo}
use Rattle.cms_line.proofs.TypedLines.{typed_then}
use Rattle.mini_work.specs.Listing.{typed_lines}

drop_next : {A : Type 0} (xs : List A) (n : ℕ) (x : A) → slice_get xs n ≡ Some x → drop n xs ≡ x ∷ drop (suc n) xs
drop_next [] zero x e = absurd (cc e)
drop_next [] (suc n) x e = absurd (cc e)
drop_next (y ∷ ys) zero x e = ap (λ z. z ∷ ys) (same_Some y x e)
drop_next (y ∷ ys) (suc n) x e = drop_next ys n x e

-- what vectors hold, at a place
pub items_there : {A : Type 0} (f : A → List ℕ) (xs : List A) (n : ℕ) (x : A) → slice_get xs n ≡ Some x → slice_get (map f xs) n ≡ Some (f x)
items_there f [] zero x e = absurd (cc e)
items_there f [] (suc n) x e = absurd (cc e)
items_there f (y ∷ ys) zero x e = ap (λ z. Some (f z)) (same_Some y x e)
items_there f (y ∷ ys) (suc n) x e = items_there f ys n x e

-- one line more of several
pub lines_next : (old mid new : Told) (xs : List (List ℕ)) (n : ℕ) (x : List ℕ) → slice_get xs n ≡ Some x
    → TypedTo old mid (typed_lines xs) (typed_lines (drop n xs)) → TypedTo mid new (typed_line x) []
    → TypedTo old new (typed_lines xs) (typed_lines (drop (n + 1) xs))
unfolding typed_lines
lines_next old mid new xs n x at before next =
    subst (λ (k : ℕ). TypedTo old new (typed_lines xs) (typed_lines (drop k xs))) (sym (add-one n))
    (typed_then old mid new (typed_lines xs) (typed_line x) (typed_lines (drop (suc n) xs)) []
    (subst (λ (ys : List (List ℕ)). TypedTo old mid (typed_lines xs) (typed_lines ys)) (drop_next xs n x at) before) next)

-- all of them
pub lines_done : (old new : Told) (xs : List (List ℕ)) (n : ℕ) → length xs ≤ n → TypedTo old new (typed_lines xs) (typed_lines (drop n xs))
    → TypedTo old new (typed_lines xs) []
unfolding typed_lines
lines_done old new xs n few typed = subst (λ (ys : List (List ℕ)). TypedTo old new (typed_lines xs) (typed_lines ys)) (drop_all n xs few) typed
