-- Files and their entries under an edit.
use Rattle.std.proofs.Common.{◌≡◌, ⊎_elim, ℕ, ◌+◌, true, false, List, [], ◌∷◌, ◌++◌, take, position, slice_get, Some, None, refl, sym, ◌∙◌, ap}
use Rattle.std.proofs.lemmas.Bool.{cases_Bool}
use Rattle.std.proofs.lemmas.List.{take_more}
use Rattle.std.proofs.lemmas.Option.{get_or_from_slice_get, slice_get_within}
use Rattle.std.specs.List.{position_from}
use Rattle.std.proofs.lemmas.Iterator.Adapters.{position_from-zero}
use Rattle.cms_names.specs.declared.name.Name.{Name}
use Rattle.cms_model.specs.Minidisks.{is_named, same_name}

-- one more
pub one_more : {X : Type 0} (xs : List X) (k : ℕ) (x : X) → slice_get xs k ≡ Some x → take (k + 1) xs ≡ take k xs ++ x ∷ []
one_more {X = X} xs k x is = take_more xs k x (slice_get_within xs k x is) ∙ ap (λ (y : X). take k xs ++ y ∷ []) (get_or_from_slice_get xs k x x is)

-- a name that has no place is none of the names
none_from : (name : Name) (k : ℕ) (names : List Name) → position_from (same_name name) k names ≡ None → is_named name names ≡ false
unfolding is_named
none_from name k [] none = refl
none_from name k (n ∷ ns) none = ⊎_elim
    (λ (same : same_name name n ≡ true). absurd (let e = rw same at none in cc e))
    (λ (other : same_name name n ≡ false). let e = rw other at none in rw other (none_from name (k + 1) ns e))
    (cases_Bool (same_name name n))

pub not_named : (name : Name) (names : List Name) → position (same_name name) names ≡ None → is_named name names ≡ false
not_named name names none = none_from name 0 names (sym (position_from-zero (same_name name) names) ∙ none)
