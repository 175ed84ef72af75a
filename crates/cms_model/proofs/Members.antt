-- Membership in lists of numbers, and images that agree on blocks.
use Rattle.std.proofs.Common.{◌⊎◌, inl, inr, ⊎_elim, ℕ, List, [], ◌∷◌, ◌++◌, sym}
use Rattle.cms_model.specs.Lists.{In}
use Rattle.cms_model.specs.Trees.{Image}
use Rattle.cms_model.specs.Settled.{Agree}

pub In-left : (n : ℕ) (xs ys : List ℕ) → In n xs → In n (xs ++ ys)
In-left n [] ys h = absurd h
In-left n (x ∷ xs) ys (inl h) = inl h
In-left n (x ∷ xs) ys (inr h) = inr (In-left n xs ys h)

pub In-right : (n : ℕ) (xs ys : List ℕ) → In n ys → In n (xs ++ ys)
In-right n [] ys h = h
In-right n (x ∷ xs) ys h = inr (In-right n xs ys h)

pub In-either : (n : ℕ) (xs ys : List ℕ) → In n (xs ++ ys) → In n xs ⊎ In n ys
In-either n [] ys h = inr h
In-either n (x ∷ xs) ys (inl h) = inl (inl h)
In-either n (x ∷ xs) ys (inr h) = ⊎_elim (λ l. inl (inr l)) (λ r. inr r) (In-either n xs ys h)

pub agree_back : (ns : List ℕ) (before later : Image) → Agree ns before later → Agree ns later before
agree_back ns before later agree n in' = sym (agree n in')
