-- Lists that are cut into pieces of one length.
use Rattle.std.proofs.Common.{◌≡◌, ℕ, zero, suc, ◌+◌, ◌-◌, ◌*◌, ◌<◌, List, [], ◌∷◌, length, take, drop, get_or, refl, ◌∙◌, ap, arith}
use Rattle.std.proofs.lemmas.List.{drop-drop}
use Rattle.cms_model.specs.Lists.{cut}

pub length_cut : {A : Type 0} (n size : ℕ) (items : List A) → length (cut n size items) ≡ n
unfolding cut
length_cut zero size items = refl
length_cut (suc n) size items = ap suc (length_cut n size (drop size items))

pub get_or_cut : {A : Type 0} (n size k : ℕ) (items : List A) → k < n → get_or (cut n size items) k [] ≡ take size (drop (k * size) items)
unfolding cut
get_or_cut zero size k items less = absurd (omega arith)
get_or_cut (suc n) size zero items less = let none : 0 * size ≡ 0 = omega arith in rw none refl
get_or_cut {A} (suc n) size (suc k) items less =
    let e : size + k * size ≡ suc k * size = omega arith in
    get_or_cut n size k (drop size items) (omega arith) ∙ ap (take size) (drop-drop (k * size) size items ∙ ap (λ (j : ℕ). drop {A = A} j items) e)

pub cut_none : {A : Type 0} (n size : ℕ) (items : List A) → n ≡ 0 → cut n size items ≡ []
unfolding cut
cut_none n size items none = rw none refl

pub cut_next : {A : Type 0} (n size : ℕ) (items : List A) → 0 < n → cut n size items ≡ take size items ∷ cut (n - 1) size (drop size items)
unfolding cut
cut_next zero size items some = absurd (omega arith)
cut_next (suc n) size items some = let down : suc n - 1 ≡ n = omega arith in rw down refl
