-- Lists that are cut in two.
use Rattle.std.proofs.Common.{◌≡◌, ◌⊎◌, inl, inr, ℕ, zero, suc, ◌<◌, ◌≤◌, List, [], ◌∷◌, ◌++◌, refl, ap, arith, ⊎_elim}
pub use Rattle.cms_journal.proofs.Pieces.{typed-append, script-append, moments-append, syncs-append, is_over-append as over-append}

pub lt_or_le : (a b : ℕ) → (a < b) ⊎ (b ≤ a)
lt_or_le a zero = inr (omega arith)
lt_or_le zero (suc b) = inl (omega arith)
lt_or_le (suc a) (suc b) = ⊎_elim (λ h. inl (omega (arith, h))) (λ h. inr (omega (arith, h))) (lt_or_le a b)

-- ---- cuts

-- a front of two joined lists ends in the first or goes past it
pub split : {A : Type 0} (p q a b : List A) → p ++ q ≡ a ++ b → ((c : List A) × (p ++ c ≡ a)) ⊎ ((c : List A) × (p ≡ a ++ c) × (c ++ q ≡ b))
split [] q a b e = inl (a, refl)
split (x ∷ p) q [] b e = inr (x ∷ p, refl, e)
split (x ∷ p) q (y ∷ a) b e =
    let head : x ≡ y = cc in
    let tail : p ++ q ≡ a ++ b = cc in
    ⊎_elim
    (λ i. inl (i.0, (let h = i.1 in cc)))
    (λ i. inr (i.0, (let h = i.1 in cc), i.2))
    (split p q a b tail)

-- an element of two joined lists stands in the first or in the second
pub split_at : {A : Type 0} (p : List A) (y : A) (q a b : List A) → p ++ y ∷ q ≡ a ++ b → ((c : List A) × (p ++ y ∷ c ≡ a)) ⊎ ((c : List A) × (p ≡ a ++ c) × (c ++ y ∷ q ≡ b))
split_at p y q [] b e = inr (p, refl, e)
split_at [] y q (z ∷ a) b e = let h : y ≡ z = cc in inl (a, ap (λ w. w ∷ a) h)
split_at (x ∷ p) y q (z ∷ a) b e =
    let head : x ≡ z = cc in
    let tail : p ++ y ∷ q ≡ a ++ b = cc in
    ⊎_elim
    (λ i. inl (i.0, (let h = i.1 in cc)))
    (λ i. inr (i.0, (let h = i.1 in cc), i.2))
    (split_at p y q a b tail)

pub empty_front : {A : Type 0} (p q : List A) → p ++ q ≡ [] → p ≡ []
empty_front [] q e = refl
empty_front (x ∷ p) q e = cc

pub no_element : {A : Type 0} (p q : List A) (x : A) → p ++ x ∷ q ≡ [] → ⊥
no_element [] q x e = cc
no_element (y ∷ p) q x e = cc
