-- A word cut at its last ampersand, and the steps of an expansion.
use Rattle.std.proofs.Common.{◌≡◌, ◌∙◌, ◌++◌, ◌+◌, ◌-◌, ◌<◌, ◌≤◌, [], ◌∷◌, ℕ, suc, length, take, drop, get_or, refl, sym, ap, subst, arith, Bool, true, false, cond}
use Rattle.std.specs.Prelude.{not, nat_lt, Ok, Err}
use Rattle.std.specs.List.{suffix_len}
use Rattle.std.proofs.lemmas.List.{append_assoc, drop_at, get_or-append-add, get_or-take, get_or_at, length-append, length-drop, length-take-le, take_all, take_at, take-take}
use Rattle.std.proofs.lemmas.List.Sums.{count_by_more_yes, suffix_len_is, sum_by-append, sum_by-take-le}
use Rattle.cms_text.specs.Texts.{Text}
use Rattle.exec2_parse.specs.Expansion.{Binding, ReplacesFromTheRight, SplitsAtLast, ampersands, expanded, expanded_before, expanded_with, is_ampersand, name_of}
use Rattle.exec2_parse.specs.declared.expansion.ExpandFault.TheVariants.{TooLong}

no_ampersand : ℕ → Bool
no_ampersand byte = not (is_ampersand byte)

-- an ampersand at a place, and none behind it
pub splits_at : (word : Text) (n : ℕ) → suc n ≤ length word → is_ampersand (get_or word n 0) ≡ true → ((k : ℕ) → suc n ≤ k → k < length word → is_ampersand (get_or word k 0) ≡ false)
    → ampersands (take (suc n) word) ≡ ampersands word → SplitsAtLast word (take n word) (drop (suc n) word)
splits_at word n within here behind same =
    let last : not (is_ampersand (get_or word (suc n - 1) 0)) ≡ false =
    (let e : suc n - 1 ≡ n = omega arith in rw (e, here) refl) in
    let after : suffix_len (λ byte. not (is_ampersand byte)) word ≡ length word - suc n =
    suffix_len_is (λ byte. not (is_ampersand byte)) word (suc n) 0 within (λ k low high. ap not (behind k low high)) (λ _. last) in
    record {
      front_is = rw after (let e : n ≡ length word - (length word - suc n) - 1 = omega arith in ap (λ k. take k word) e);
      name_is = rw after (let e : suc n ≡ length word - (length word - suc n) = omega arith in ap (λ k. drop k word) e);
      one_more = sym same ∙ (let e : suc n ≡ n + 1 = omega arith in ap (λ k. ampersands (take k word)) e) ∙ count_by_more_yes is_ampersand word n 0 (omega arith) here ∙ omega arith;
      lengths = omega (arith, length-take-le n word (omega arith), length-drop (suc n) word);
    }

pub split_found : (word left : Text) → length left ≤ length word → left ≡ take (length left) word → ampersands left ≡ ampersands word
    → ((k : ℕ) → length left ≤ k → k < length word → is_ampersand (get_or word k 0) ≡ false) → 1 ≤ length left → is_ampersand (get_or left (length left - 1) 0) ≡ true
    → SplitsAtLast word (take (length left - 1) left) (take (length word - length left) (drop (length left) word))
split_found word left within front same behind some here =
    let m : ℕ = length left - 1 in
    let n : suc m ≡ length left = omega arith in
    let taken : left ≡ take (suc m) word = front ∙ ap (λ k. take k word) (sym n) in
    let fronts : take m left ≡ take m word = ap (take m) taken ∙ take-take m (suc m) word (omega arith) in
    let names : take (length word - length left) (drop (length left) word) ≡ drop (suc m) word =
    take_all (length word - length left) (drop (length left) word) (omega (arith, length-drop (length left) word)) ∙ ap (λ k. drop k word) (sym n) in
    let at : is_ampersand (get_or word m 0) ≡ true = ap is_ampersand (sym (ap (λ (l : Text). get_or l m 0) taken ∙ get_or-take (suc m) word m 0 (omega arith))) ∙ here in
    rw (fronts, names) (splits_at word m (omega arith) at (λ k low high. behind k (omega arith) high) (ap ampersands (sym taken) ∙ same))

-- ---- the steps of an expansion

pub expanded_start : (binding : Binding) (word : Text) → expanded_before (ampersands word) binding word [] ≡ expanded binding word
unfolding expanded
expanded_start binding word = refl

pub expanded_end : (binding : Binding) (word text : Text) → ampersands word ≡ 0 → expanded_before (ampersands word) binding word text ≡ Ok (word ++ text)
unfolding expanded_before
expanded_end binding word text none = rw none refl

tested : {A : Type 0} (a b : ℕ) (x y : A) → a ≤ b → cond (nat_lt b a) x y ≡ y
tested a b x y low = grind arith

passed : {A : Type 0} (a b : ℕ) (x y : A) → b < a → cond (nat_lt b a) x y ≡ x
passed a b x y high = grind arith

pub expanded_step : (binding : Binding) (word text front name value : Text) → SplitsAtLast word front name → value ≡ binding (name_of name text) → length front + length value ≤ 255
    → expanded_before (ampersands word) binding word text ≡ expanded_before (ampersands front) binding front value
unfolding expanded_before
expanded_step binding word text front name value splits is short =
    rw (splits.one_more, ← splits.name_is, ← is, ← splits.front_is) (tested (length (front ++ value)) 255 _ _ (omega (arith, length-append front value)))

pub expanded_past : (binding : Binding) (word text front name value : Text) → SplitsAtLast word front name → value ≡ binding (name_of name text) → 255 < length front + length value
    → expanded_before (ampersands word) binding word text ≡ Err TooLong
unfolding expanded_before
expanded_past binding word text front name value splits is long =
    rw (splits.one_more, ← splits.name_is, ← is, ← splits.front_is) (passed (length (front ++ value)) 255 _ _ (omega (arith, length-append front value)))

-- ---- laws

none_there : (text : Text) (k : ℕ) → ampersands text ≡ 0 → k < length text → is_ampersand (get_or text k 0) ≡ false
none_there text k none within =
    elim (is_ampersand (get_or text k 0)) as (λ b. is_ampersand (get_or text k 0) ≡ b → b ≡ false) [
      | true ↦ λ here. absurd (omega (arith, none, count_by_more_yes is_ampersand text k 0 within here, sum_by-take-le (λ byte. cond (is_ampersand byte) 1 0) text (k + 1)))
      | false ↦ λ _. refl
    ] refl

behind_front : (front name : Text) (k : ℕ) → ampersands name ≡ 0 → suc (length front) ≤ k → k < length (front ++ 0x50 ∷ name) → is_ampersand (get_or (front ++ 0x50 ∷ name) k 0) ≡ false
behind_front front name k none low high =
    let j : ℕ = k - suc (length front) in
    let at : k ≡ length (front ++ 0x50 ∷ []) + j = omega (arith, length-append front (0x50 ∷ [])) in
    rw (at, ← append_assoc front (0x50 ∷ []) name, get_or-append-add (front ++ 0x50 ∷ []) name j 0)
    (none_there name j none (omega (arith, length-append front (0x50 ∷ name))))

at_last : (front name : Text) → ampersands name ≡ 0 → SplitsAtLast (front ++ 0x50 ∷ name) front name
at_last front name none =
    let word : Text = front ++ 0x50 ∷ name in
    let long = length-append front (0x50 ∷ name) in
    let before : take (length front) word ≡ front = take_at front (0x50 ∷ name) (length front) refl in
    let upto : take (suc (length front)) word ≡ front ++ 0x50 ∷ [] =
    ap (take (suc (length front))) (sym (append_assoc front (0x50 ∷ []) name)) ∙ take_at (front ++ 0x50 ∷ []) name (suc (length front)) (length-append front (0x50 ∷ []) ∙ omega arith) in
    let after : drop (suc (length front)) word ≡ name =
    ap (drop (suc (length front))) (sym (append_assoc front (0x50 ∷ []) name)) ∙ drop_at (front ++ 0x50 ∷ []) name (suc (length front)) (length-append front (0x50 ∷ []) ∙ omega arith) in
    let count : ℕ → ℕ = λ byte. cond (is_ampersand byte) 1 0 in
    let same : ampersands (take (suc (length front)) word) ≡ ampersands word =
    ap ampersands upto ∙ omega (arith, none, sum_by-append count front (0x50 ∷ name), sum_by-append count front (0x50 ∷ []), sum_by-append count (0x50 ∷ []) name) in
    let cut = splits_at word (length front) (omega (arith, long)) (ap is_ampersand (get_or_at front 0x50 name 0 (length front) refl)) (λ k low high. behind_front front name k none low high) same in
    subst (λ (f : Text). SplitsAtLast word f name) before (subst (λ (n : Text). SplitsAtLast word (take (length front) word) n) after cut)

pub keeps_plain : (binding : Binding) (word text : Text) → ampersands word ≡ 0 → expanded_with binding word text ≡ Ok (word ++ text)
keeps_plain binding word text none = expanded_end binding word text none

pub replaces_from_the_right : ReplacesFromTheRight
unfolding expanded_before
replaces_from_the_right binding front name text none =
    let splits = at_last front name none in
    rw (splits.one_more, ← splits.name_is, ← splits.front_is) refl
