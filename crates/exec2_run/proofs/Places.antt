-- The lines from a place on.
use Rattle.std.proofs.Common.{◌≡◌, ◌∙◌, ◌∷◌, [], ◌+◌, ℕ, zero, suc, List, drop, refl, sym, ap}
use Rattle.std.specs.Prelude.{Option, Some, None, slice_get, MatchOption}
use Rattle.std.proofs.lemmas.List.{drop-drop, drop_more}
use Rattle.std.proofs.lemmas.Option.{get_or_from_slice_get, slice_get_within}

pub from_place : {A : Type 0} (xs : List A) (k : ℕ) (x : A) → Some x ≡ slice_get xs k → drop k xs ≡ x ∷ drop (k + 1) xs
from_place {A} xs k x e = drop_more xs k x (slice_get_within xs k x (sym e)) ∙ ap (λ (y : A). y ∷ drop (k + 1) xs) (get_or_from_slice_get xs k x x (sym e))

pub past_end : {A : Type 0} (xs : List A) (k : ℕ) → None ≡ slice_get xs k → drop k xs ≡ []
past_end [] zero e = refl
past_end [] (suc k) e = refl
past_end (y ∷ xs) zero e = absurd (cc)
past_end (y ∷ xs) (suc k) e = past_end xs k e

-- one more is taken from the front
pub one_more : {A : Type 0} (n : ℕ) (xs old new : List A) (o : Option A) → drop n xs ≡ old
    → MatchOption o ((old ≡ []) × (new ≡ [])) (λ top. old ≡ top ∷ new) → drop (n + 1) xs ≡ new
one_more n xs old new None before popped = sym (drop-drop 1 n xs) ∙ ap (drop 1) (before ∙ popped.0) ∙ sym popped.1
one_more n xs old new (Some top) before popped = sym (drop-drop 1 n xs) ∙ ap (drop 1) (before ∙ popped)
