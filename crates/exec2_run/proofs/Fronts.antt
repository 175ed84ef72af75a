-- The front of a line that has a label.
use Rattle.std.proofs.Common.{◌≡◌, ◌≢◌, ◌∙◌, ◌∷◌, [], ◌+◌, ℕ, suc, take, drop, refl, ap, arith, true, false}
use Rattle.std.specs.Prelude.{slice_index, ◌==◌, not}
use Rattle.std.specs.List.{prefix_len}
use Rattle.std.specs.Str.{bytes_eq}
use Rattle.std.proofs.lemmas.Bool.Decides.{nat_tests}
use Rattle.cms_text.specs.Texts.{Text, before_blank, first_word, is_blank}
use Rattle.exec2_parse.specs.Words.{has_label, is_label}

-- the first word of a text that begins with no blank
starts : (b : ℕ) (bs : Text) → is_blank b ≡ false → first_word (b ∷ bs) ≡ b ∷ before_blank bs
starts b bs full =
    let none : prefix_len is_blank (b ∷ bs) ≡ 0 = rw full refl in
    let some : prefix_len (λ (x : ℕ). not (is_blank x)) (b ∷ bs) ≡ 1 + prefix_len (λ (x : ℕ). not (is_blank x)) bs = rw full refl in
    let more : 1 + prefix_len (λ (x : ℕ). not (is_blank x)) bs ≡ suc (prefix_len (λ (x : ℕ). not (is_blank x)) bs) = omega arith in
    ap (λ (n : ℕ). before_blank (drop n (b ∷ bs))) none ∙ ap (λ (n : ℕ). take n (b ∷ bs)) (some ∙ more)

-- it begins with a hyphen or a blank
pub no_label : (label line : Text) → is_label label ≡ true → slice_index line 0 ≢ 0x60 → slice_index line 0 ≢ 0x40 → has_label label line ≡ false
no_label [] line is hyphen blank = absurd (cc)
no_label (l ∷ ls) [] is hyphen blank = refl
no_label (l ∷ ls) (b ∷ bs) is hyphen blank =
    let full : is_blank b ≡ false = grind (arith, nat_tests) in
    let other : (b == l) ≡ false = grind (arith, nat_tests) in
    let apart : bytes_eq (b ∷ before_blank bs) (l ∷ ls) ≡ false = rw other refl in
    ap (λ (word : Text). bytes_eq word (l ∷ ls)) (starts b bs full) ∙ apart
