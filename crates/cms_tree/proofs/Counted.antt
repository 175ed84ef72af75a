-- How many pointer blocks are complete with the leaves behind the kept ones.
use Rattle.std.proofs.Common.{◌≡◌, inl, inr, ⊎_elim, ℕ, zero, suc, ◌+◌, ◌/◌, ◌<◌, ◌≤◌, true, false, List, [], ◌∷◌, length, take, drop, refl, ◌∙◌, ap, subst, arith, length-append}
use Rattle.std.proofs.Math.Nat.{zero-div}
use Rattle.std.proofs.lemmas.Bool.{cases_Bool, cond-true, cond-false}
use Rattle.std.proofs.lemmas.List.{length-drop, length-take-le}
use Rattle.cms_fields.specs.Numbers.{up}
use Rattle.cms_tree.specs.Climbs.{numbers_behind}
use Rattle.cms_tree.specs.Levels.{over_count}
use Rattle.cms_tree.specs.Tiers.{complete_from, ends_group}
use Rattle.cms_tree.proofs.ClimbBlocks.{ends_is, goes_is, group_within}
use Rattle.cms_tree.proofs.Totals.{Ended, ended_more, ended_same, places}

-- with one block of the level more
pub next_places : (fan j first count k : ℕ) → length (places fan j first count (suc k)) ≡ length (places fan j first count k) + length (complete_from fan j first count k)
unfolding places
next_places fan j first count k = length-append (places fan j first count k) (complete_from fan j first count k)

none_count : (fan first count m : ℕ) → length (places fan 0 first count m) ≡ 0
unfolding places complete_from
none_count fan first count zero = refl
none_count fan first count (suc m) = length-append (places fan 0 first count m) [] ∙ (let e = none_count fan first count m in omega arith)

-- each group, and then those of the level above
level_count : (fan j first count m e : ℕ) → 1 ≤ fan → m ≤ count → 1 ≤ count → Ended fan count m e
    → length (places fan (suc j) first count m) ≡ e + length (places fan j (first + up count fan) (up count fan) e)
unfolding places complete_from
level_count fan j first count zero e some within any ended =
    let none : e ≡ 0 = ⊎_elim (λ (h : (0 < count) × (e ≡ 0 / fan)). h.1 ∙ zero-div fan) (λ (h : (0 ≡ count) × (e ≡ up count fan)). let z = h.0 in absurd (omega arith)) ended in
    rw none refl
level_count fan j first count (suc k) e some within any ended =
    let k' = k / fan in
    let ended' : Ended fan count (k + 1) e = (let s : suc k ≡ k + 1 = omega arith in subst (λ (n : ℕ). Ended fan count n e) s ended) in
    let before = level_count fan j first count k k' some (omega arith) any (inl ((omega arith), refl)) in
    let more = length-append (places fan (suc j) first count k) (complete_from fan (suc j) first count k) in
    ⊎_elim
    (λ (is : ends_group fan count k ≡ true).
    let e_is : e ≡ suc k' = ended_more fan count k e some (omega arith) ended' (ends_is fan count k some is) ∙ (omega arith) in
    let step : complete_from fan (suc j) first count k ≡ (first + k') ∷ complete_from fan j (first + up count fan) (up count fan) k' = cond-true (ends_group fan count k) _ _ is in
    let above = length-append (places fan j (first + up count fan) (up count fan) k') (complete_from fan j (first + up count fan) (up count fan) k') in
    let here : length (complete_from fan (suc j) first count k) ≡ suc (length (complete_from fan j (first + up count fan) (up count fan) k')) = ap (λ (l : List ℕ). length l) step in
    rw e_is (omega arith))
    (λ (is : ends_group fan count k ≡ false).
    let e_is : e ≡ k' = ended_same fan count k e ended' (goes_is fan count k some is) in
    let step : complete_from fan (suc j) first count k ≡ [] = cond-false (ends_group fan count k) _ _ is in
    let here : length (complete_from fan (suc j) first count k) ≡ 0 = ap (λ (l : List ℕ). length l) step in
    rw e_is (omega arith))
    (cases_Bool (ends_group fan count k))

-- those that are complete with the blocks behind the kept ones are those that don't end within these
pub behind_count : (fan j first count kept : ℕ) (fresh : List ℕ) → 1 ≤ fan → kept < count → length fresh ≡ over_count fan j count
    → length (places fan j first count count) ≡ length (places fan j first count kept) + length (numbers_behind fan j count kept fresh)
unfolding numbers_behind
behind_count fan zero first count kept fresh some less long = let a = none_count fan first count count in let b = none_count fan first count kept in omega arith
behind_count fan (suc j) first count kept fresh some less long =
    let m = up count fan in
    let k = kept / fan in
    let low : k < m = group_within fan count kept some less in
    let all = level_count fan j first count count m some (omega arith) (omega arith) (inr (refl, refl)) in
    let front = level_count fan j first count kept k some (omega arith) (omega arith) (inl (less, refl)) in
    let rest = behind_count fan j (first + m) m k (drop m fresh) some low (length-drop m fresh ∙ (omega arith)) in
    let taken = length-take-le m fresh (omega arith) in
    let own = length-drop k (take m fresh) in
    let both = length-append (drop k (take m fresh)) (numbers_behind fan j m k (drop m fresh)) in
    omega arith
