-- Lines in EBCDIC, byte by byte.
use Rattle.std.proofs.Common.{◌≡◌, ℕ, zero, suc, ◌+◌, ◌-◌, ◌<◌, ◌≤◌, ◌==◌, true, false, List, [], ◌∷◌, ◌++◌, length, take, drop, get_or, slice_get, Option, Some, None, refl, ap, sym, ◌∙◌, append_assoc, append-nil, arith, drop-cons}
use Rattle.std.specs.Option.{option_map, option_and_then, option_map_or}
use Rattle.std.proofs.lemmas.Bool.Decides.{nat_tests, eqb_tells}
use Rattle.std.proofs.lemmas.Grind.{common_steps}
use Rattle.cms_model.specs.Items.{coded_line, console_code, without_return, short_line, Text, Bad}

-- ---- the carriage return at a line's end

pub return_ends : (line : List ℕ) (n : ℕ) → length line ≡ suc n → slice_get line n ≡ Some 13 → take n line ≡ without_return line
return_ends [] n len e = absurd (omega arith)
return_ends (b ∷ []) zero len e = let t : (b == 13) ≡ true = (let h : b ≡ 13 = cc in grind (arith, nat_tests, eqb_tells b 13)) in rw t refl
return_ends (b ∷ []) (suc n) len e = absurd (omega arith)
return_ends (b ∷ c ∷ line) zero len e = absurd (omega arith)
return_ends (b ∷ c ∷ line) (suc n) len e = ap (λ (z : List ℕ). b ∷ z) (return_ends (c ∷ line) n (omega arith) e)

pub other_ends : (line : List ℕ) (n : ℕ) → length line ≡ suc n → (slice_get line n ≡ Some 13 → ⊥) → line ≡ without_return line
other_ends [] n len e = absurd (omega arith)
other_ends (b ∷ []) zero len e = let t : (b == 13) ≡ false = (let h : b ≡ 13 → ⊥ = λ is. e (ap Some is) in grind (arith, nat_tests, eqb_tells b 13, h)) in rw t refl
other_ends (b ∷ []) (suc n) len e = absurd (omega arith)
other_ends (b ∷ c ∷ line) zero len e = absurd (omega arith)
other_ends (b ∷ c ∷ line) (suc n) len e = ap (λ (z : List ℕ). b ∷ z) (other_ends (c ∷ line) n (omega arith) e)

-- ---- the codes so far, and those of the rest

pub prepend : List ℕ → Option (List ℕ) → Option (List ℕ)
prepend codes rest = option_map (λ more. codes ++ more) rest

pub prepend_none : (o : Option (List ℕ)) → o ≡ prepend [] o
unfolding prepend
prepend_none None = refl
prepend_none (Some x) = refl

one_more : (codes : List ℕ) (code : ℕ) (o : Option (List ℕ)) → prepend codes (option_map (λ more. code ∷ more) o) ≡ prepend (codes ++ code ∷ []) o
unfolding prepend
one_more codes code None = refl
one_more codes code (Some x) = ap Some (sym (append_assoc codes (code ∷ []) x))

pub coded_more : (line codes : List ℕ) (k code : ℕ) → k < length line → console_code (get_or line k 0) ≡ Some code
    → coded_line line ≡ prepend codes (coded_line (drop k line)) → coded_line line ≡ prepend (codes ++ code ∷ []) (coded_line (drop (k + 1) line))
coded_more line codes k code lt is so_far =
    let next : suc k ≡ k + 1 = omega arith in
    let d : drop k line ≡ get_or line k 0 ∷ drop (suc k) line = drop-cons line k 0 lt in
    let c : coded_line (get_or line k 0 ∷ drop (suc k) line) ≡ option_map (λ more. code ∷ more) (coded_line (drop (suc k) line)) =
    ap (λ (o : Option ℕ). option_and_then (λ x. option_map (λ xs. x ∷ xs) (coded_line (drop (suc k) line))) o) is in
    so_far ∙ ap (λ (z : List ℕ). prepend codes (coded_line z)) d ∙ ap (prepend codes) c ∙ one_more codes code (coded_line (drop (suc k) line))
    ∙ ap (λ (n : ℕ). prepend (codes ++ code ∷ []) (coded_line (drop n line))) next

pub coded_none : (line codes : List ℕ) (k : ℕ) → k < length line → console_code (get_or line k 0) ≡ None → coded_line line ≡ prepend codes (coded_line (drop k line)) → coded_line line ≡ None
unfolding prepend
coded_none line codes k lt is so_far =
    let d : drop k line ≡ get_or line k 0 ∷ drop (suc k) line = drop-cons line k 0 lt in
    let c : coded_line (get_or line k 0 ∷ drop (suc k) line) ≡ None = ap (λ (o : Option ℕ). option_and_then (λ x. option_map (λ xs. x ∷ xs) (coded_line (drop (suc k) line))) o) is in
    so_far ∙ ap (λ (z : List ℕ). prepend codes (coded_line z)) d ∙ ap (prepend codes) c

pub coded_all : (line codes : List ℕ) (k : ℕ) → drop k line ≡ [] → coded_line line ≡ prepend codes (coded_line (drop k line)) → coded_line line ≡ Some codes
unfolding prepend
coded_all line codes k done so_far = so_far ∙ ap (λ (z : List ℕ). prepend codes (coded_line z)) done ∙ ap Some (append-nil codes)

pub return_at : (line : List ℕ) (x : ℕ) → Some x ≡ slice_get line (length line - 1) → x ≡ 13 → take (length line - 1) line ≡ without_return line
return_at [] x e is = cc
return_at (b ∷ line) x e is = let n : suc (length line) - 1 ≡ length line = omega arith in let e' = rw n at e in rw n (return_ends (b ∷ line) (length line) refl (sym e' ∙ ap Some is))

pub other_at : (line : List ℕ) (x : ℕ) → Some x ≡ slice_get line (length line - 1) → (x ≡ 13 → ⊥) → line ≡ without_return line
other_at [] x e is = cc
other_at (b ∷ line) x e is = let n : suc (length line) - 1 ≡ length line = omega arith in let e' = rw n at e in other_ends (b ∷ line) (length line) refl (λ h. is (cc))

pub bad_line : (line codes : List ℕ) (k : ℕ) → k < length line → console_code (get_or line k 0) ≡ None → coded_line line ≡ prepend codes (coded_line (drop k line)) → Bad ≡ short_line line
bad_line line codes k lt is so_far = sym (ap (λ (o : Option (List ℕ)). option_map_or Text o Bad) (coded_none line codes k lt is so_far))

pub text_line : (line codes : List ℕ) (k : ℕ) → length line ≤ k → coded_line line ≡ prepend codes (coded_line (drop k line)) → Text codes ≡ short_line line
text_line line codes k all so_far =
    let done : drop k line ≡ [] = grind (arith, common_steps) in
    sym (ap (λ (o : Option (List ℕ)). option_map_or Text o Bad) (coded_all line codes k done so_far))
