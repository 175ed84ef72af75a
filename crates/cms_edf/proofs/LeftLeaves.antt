-- The data blocks of a directory that one that goes on from it doesn't keep.
use Rattle.std.proofs.Common.{◌≡◌, inl, inr, ⊎_elim, ℕ, zero, suc, ◌+◌, ◌-◌, ◌*◌, ◌<◌, ◌≤◌, min, true, false, List, [], ◌∷◌, ◌++◌, length, take, drop, get_or, refl, sym, ◌∙◌, ap, subst, arith, append_assoc, append-nil, drop_of_length-le}
use Rattle.std.specs.Prelude.{◌==◌, if◌then◌else◌, nat_lt}
use Rattle.std.specs.List.Sorted.{IsStrictlyIncreasing}
use Rattle.std.proofs.lemmas.Bool.{cases_lt, cases_eq, lt-ltb, le-ltb, ne_eqb}
use Rattle.std.proofs.lemmas.List.{drop_more, take_all, take_more}
use Rattle.cms_model.specs.Lists.{In}
use Rattle.cms_model.specs.SharedTrees.{MayBeWritten, is_kept}
use Rattle.cms_model.specs.SharedTimes.{without}
use Rattle.cms_model.proofs.WrittenBlocks.{behind_higher, leaf_kept, leaf_written, rest_ascends}

-- those of a list that stand at these places
unfoldable pub at_places : List ℕ → List ℕ → List ℕ
at_places old [] = []
at_places old (w ∷ ws) = if nat_lt w (length old) then get_or old w 0 ∷ at_places old ws else at_places old ws

at_high : (old ws : List ℕ) → ((j : ℕ) → In j ws → length old ≤ j) → at_places old ws ≡ []
unfolding at_places
at_high old [] high = refl
at_high old (w ∷ ws) high = rw (le-ltb w (length old) (high w (inl refl))) (at_high old ws (λ j there. high j (inr there)))

at_both : (old xs ys : List ℕ) → at_places old (xs ++ ys) ≡ at_places old xs ++ at_places old ys
unfolding at_places
at_both old [] ys = refl
at_both old (x ∷ xs) ys = ⊎_elim
    (λ (less : x < length old). rw (lt-ltb x (length old) less) (ap (λ (l : List ℕ). get_or old x 0 ∷ l) (at_both old xs ys)))
    (λ (past : length old ≤ x). rw (le-ltb x (length old) past) (at_both old xs ys))
    (cases_lt x (length old))

at_none : (old : List ℕ) → at_places old [] ≡ []
unfolding at_places
at_none old = refl

at_first : (old : List ℕ) (k w : ℕ) (ws : List ℕ) → k < length old → w ≡ k → at_places old (w ∷ ws) ≡ get_or old k 0 ∷ at_places old ws
unfolding at_places
at_first old k w ws had same = ap (λ (n : ℕ). at_places old (n ∷ ws)) same ∙ rw (lt-ltb k (length old) had) refl

-- ---- the places one by one

pub at_taken : (old written front now new : List ℕ) (k : ℕ) → k < length written → get_or written k 0 < length old → now ≡ front ++ at_places old (take k written)
    → new ≡ now ++ get_or old (get_or written k 0) 0 ∷ [] → new ≡ front ++ at_places old (take (k + 1) written)
unfolding at_places
at_taken old written front now new k less had is one =
    let n = get_or written k 0 in
    let here : at_places old (n ∷ []) ≡ get_or old n 0 ∷ [] = rw (lt-ltb n (length old) had) refl in
    one ∙ (ap (λ (l : List ℕ). l ++ get_or old n 0 ∷ []) is
    ∙ (append_assoc front (at_places old (take k written)) (get_or old n 0 ∷ [])
    ∙ ap (λ (l : List ℕ). front ++ l)
    (ap (λ (l : List ℕ). at_places old (take k written) ++ l) (sym here) ∙ (sym (at_both old (take k written) (n ∷ [])) ∙ ap (at_places old) (sym (take_more written k 0 less))))))

pub at_passed : (old written front now : List ℕ) (k : ℕ) → k < length written → length old ≤ get_or written k 0 → now ≡ front ++ at_places old (take k written)
    → now ≡ front ++ at_places old (take (k + 1) written)
unfolding at_places
at_passed old written front now k less past is =
    let n = get_or written k 0 in
    let here : at_places old (n ∷ []) ≡ [] = rw (le-ltb n (length old) past) refl in
    is ∙ ap (λ (l : List ℕ). front ++ l)
    (sym (append-nil (at_places old (take k written))) ∙ (ap (λ (l : List ℕ). at_places old (take k written) ++ l) (sym here)
    ∙ (sym (at_both old (take k written) (n ∷ [])) ∙ ap (at_places old) (sym (take_more written k 0 less)))))

-- ---- all that aren't kept

-- a data block behind the end isn't kept
past_end : (before count j : ℕ) (written : List ℕ) → count ≤ j → j < before → is_kept true 1 before count written j ≡ false
unfolding is_kept
past_end before count j written past less =
    let off : (min ((j + 1) * 1) before == min ((j + 1) * 1) count) ≡ false = ne_eqb (min ((j + 1) * 1) before) (min ((j + 1) * 1) count) (λ same. omega arith) in
    rw off refl

none_of : (ws : List ℕ) → ((j : ℕ) → In j ws → ⊥) → ws ≡ []
none_of [] none = refl
none_of (w ∷ ws) none = absurd (none w (inl refl))

-- the places from one on, and the data blocks from there
abbrev LeavesFrom : List ℕ → ℕ → List ℕ → ℕ → List ℕ → Type 0
LeavesFrom old count written k xs = (ws : List ℕ) → IsStrictlyIncreasing ws → ((j : ℕ) → In j ws → (k ≤ j) × In j written) → ((j : ℕ) → k ≤ j → In j written → In j ws)
    → without (is_kept true 1 (length old) count written) k xs ≡ at_places old ws ++ drop (count - k) xs

higher : (a j : ℕ) → a ≤ j → (a ≡ j → ⊥) → suc a ≤ j
higher a j low other = ⊎_elim (λ (less : a < j). omega arith) (λ (ge : j ≤ a). absurd (other (omega arith))) (cases_lt a j)

behind : (w j : ℕ) (ws : List ℕ) → w < j → In j (w ∷ ws) → In j ws
behind w j ws above (inl same) = absurd (omega arith)
behind w j ws above (inr more) = more

not_in : (k w : ℕ) (ws : List ℕ) → IsStrictlyIncreasing (w ∷ ws) → k ≤ w → (w ≡ k → ⊥) → In k (w ∷ ws) → ⊥
not_in k w ws ascends low other (inl same) = other (sym same)
not_in k w ws ascends low other (inr more) = let h = behind_higher w ws ascends k more in omega arith

-- one that is kept
left_kept : (old : List ℕ) (count : ℕ) (written : List ℕ) (k x : ℕ) (xs ws : List ℕ) → k < length old → k < count → LeavesFrom old count written (suc k) xs → IsStrictlyIncreasing ws
    → ((j : ℕ) → In j ws → (k ≤ j) × In j written) → ((j : ℕ) → k ≤ j → In j written → In j ws) → (In k ws → ⊥)
    → without (is_kept true 1 (length old) count written) k (x ∷ xs) ≡ at_places old ws ++ drop (count - k) (x ∷ xs)
unfolding without
left_kept old count written k x xs ws had less tail ascends are all isnt =
    let on : is_kept true 1 (length old) count written k ≡ true = leaf_kept (length old) count k written had less (λ there. isnt (all k (omega arith) there)) in
    let next : count - k ≡ suc (count - suc k) = omega arith in
    rw (on, next) (tail ws ascends (λ j there. (higher k j (are j there).0 (λ same. isnt (subst (λ (n : ℕ). In n ws) (sym same) there)), (are j there).1)) (λ j above there. all j (omega arith) there))

-- one that is written
left_written : (old : List ℕ) (count : ℕ) (written : List ℕ) (k x w : ℕ) (xs ws : List ℕ) → k < length old → k < count → x ≡ get_or old k 0 → w ≡ k → LeavesFrom old count written (suc k) xs
    → IsStrictlyIncreasing (w ∷ ws) → ((j : ℕ) → In j (w ∷ ws) → (k ≤ j) × In j written) → ((j : ℕ) → k ≤ j → In j written → In j (w ∷ ws))
    → without (is_kept true 1 (length old) count written) k (x ∷ xs) ≡ at_places old (w ∷ ws) ++ drop (count - k) (x ∷ xs)
unfolding without
left_written old count written k x w xs ws had less head same tail ascends are all =
    let there : In k written = subst (λ (n : ℕ). In n written) same (are w (inl refl)).1 in
    let off : is_kept true 1 (length old) count written k ≡ false = leaf_written (length old) count k written less there in
    let next : count - k ≡ suc (count - suc k) = omega arith in
    let here : at_places old (w ∷ ws) ≡ get_or old k 0 ∷ at_places old ws = at_first old k w ws had same in
    let rest = tail ws (rest_ascends w ws ascends) (λ j more. (let h = behind_higher w ws ascends j more in omega (arith, h, same), (are j (inr more)).1))
    (λ j above more. behind w j ws (omega (arith, above, same)) (all j (omega (arith, above)) more)) in
    rw (off, next, here) (ap (λ (n : ℕ). n ∷ without (is_kept true 1 (length old) count written) (suc k) xs) head ∙ ap (λ (l : List ℕ). get_or old k 0 ∷ l) rest)

-- one behind the end
left_past : (old : List ℕ) (count : ℕ) (written : List ℕ) (k x : ℕ) (xs ws : List ℕ) → MayBeWritten (length old) count written → k < length old → count ≤ k → LeavesFrom old count written (suc k) xs
    → ((j : ℕ) → In j ws → (k ≤ j) × In j written) → without (is_kept true 1 (length old) count written) k (x ∷ xs) ≡ at_places old ws ++ drop (count - k) (x ∷ xs)
unfolding without
left_past old count written k x xs ws may had past tail are =
    let off : is_kept true 1 (length old) count written k ≡ false = past_end (length old) count k written past had in
    let none : ws ≡ [] = none_of ws (λ j there. let a = are j there in let within = may.within j a.1 in let low = a.0 in omega (arith, within, low, past)) in
    let end : count - k ≡ 0 = omega arith in
    let end' : count - suc k ≡ 0 = omega arith in
    let rest = tail [] (λ i less. absurd (omega arith)) (λ j there. absurd there) (λ j above there. let within = may.within j there in absurd (omega (arith, within, above, past))) in
    rw (off, none, end) (ap (λ (l : List ℕ). x ∷ l) (rest ∙ (λ i. at_none old i ++ drop (end' i) xs)) ∙ ap (λ (l : List ℕ). l ++ (x ∷ xs)) (sym (at_none old)))

left_one : (old : List ℕ) (count : ℕ) (written : List ℕ) (k x : ℕ) (xs ws : List ℕ) → MayBeWritten (length old) count written → k < length old → x ≡ get_or old k 0 → LeavesFrom old count written (suc k) xs
    → IsStrictlyIncreasing ws → ((j : ℕ) → In j ws → (k ≤ j) × In j written) → ((j : ℕ) → k ≤ j → In j written → In j ws)
    → without (is_kept true 1 (length old) count written) k (x ∷ xs) ≡ at_places old ws ++ drop (count - k) (x ∷ xs)
left_one old count written k x xs [] may had head tail ascends are all = ⊎_elim
    (λ (less : k < count). left_kept old count written k x xs [] had less tail ascends are all (λ there. there))
    (λ (past : count ≤ k). left_past old count written k x xs [] may had past tail are)
    (cases_lt k count)
left_one old count written k x xs (w ∷ ws) may had head tail ascends are all = ⊎_elim
    (λ (less : k < count). ⊎_elim
    (λ (same : w ≡ k). left_written old count written k x w xs ws had less head same tail ascends are all)
    (λ (other : w ≡ k → ⊥). left_kept old count written k x xs (w ∷ ws) had less tail ascends are all (not_in k w ws ascends (are w (inl refl)).0 other))
    (cases_eq w k))
    (λ (past : count ≤ k). left_past old count written k x xs (w ∷ ws) may had past tail are)
    (cases_lt k count)

left_from : (old : List ℕ) (count : ℕ) (written : List ℕ) → MayBeWritten (length old) count written → (k : ℕ) (xs : List ℕ) → xs ≡ drop k old → k + length xs ≡ length old → LeavesFrom old count written k xs
unfolding without
left_from old count written may k [] is long = λ ws ascends are all.
    let none : at_places old ws ≡ [] = at_high old ws (λ j there. let low = (are j there).0 in omega (arith, low, long)) in
    sym (ap (λ (l : List ℕ). l ++ drop (count - k) []) none ∙ nothing (count - k))
  where
    nothing : (n : ℕ) → drop {A = ℕ} n [] ≡ []
    nothing zero = refl
    nothing (suc n) = refl
left_from old count written may k (x ∷ xs) is long = λ ws ascends are all.
    let had : k < length old = omega (arith, long) in
    let next : k + 1 ≡ suc k = omega arith in
    let whole : x ∷ xs ≡ get_or old k 0 ∷ drop (suc k) old = is ∙ (drop_more old k 0 had ∙ ap (λ (n : ℕ). get_or old k 0 ∷ drop n old) next) in
    left_one old count written k x xs ws may had (ap (λ (l : List ℕ). get_or l 0 0) whole) (left_from old count written may (suc k) xs (ap (λ (l : List ℕ). drop 1 l) whole) (omega (arith, long))) ascends are all

-- first those at the written places, then those behind the end
pub left_is : (old : List ℕ) (count : ℕ) (written : List ℕ) → MayBeWritten (length old) count written
    → without (is_kept true 1 (length old) count written) 0 old ≡ at_places old written ++ drop count old
left_is old count written may =
    let whole : count - 0 ≡ count = omega arith in
    left_from old count written may 0 old refl (omega arith) written may.ascend (λ j there. (omega arith, there)) (λ j low there. there) ∙ ap (λ (n : ℕ). at_places old written ++ drop n old) whole

-- all of them were appended
pub left_all : (old : List ℕ) (count k : ℕ) (written front now new : List ℕ) → MayBeWritten (length old) count written → length written ≤ k → now ≡ front ++ at_places old (take k written)
    → new ≡ now ++ drop count old → new ≡ front ++ without (is_kept true 1 (length old) count written) 0 old
left_all old count k written front now new may past is last =
    last ∙ (ap (λ (l : List ℕ). l ++ drop count old) (is ∙ ap (λ (l : List ℕ). front ++ at_places old l) (take_all k written past))
    ∙ (append_assoc front (at_places old written) (drop count old) ∙ ap (λ (l : List ℕ). front ++ l) (sym (left_is old count written may))))

-- where there are none behind the end
pub left_none : (old : List ℕ) (count k : ℕ) (written front now : List ℕ) → MayBeWritten (length old) count written → length written ≤ k → now ≡ front ++ at_places old (take k written)
    → length old ≤ count → now ≡ front ++ without (is_kept true 1 (length old) count written) 0 old
left_none old count k written front now may past is none =
    let end : drop count old ≡ [] = drop_of_length-le old none in
    left_all old count k written front now now may past is (sym (ap (λ (l : List ℕ). now ++ l) end ∙ append-nil now))
