-- The last bytes of a text, filled with blanks in front.
use Rattle.std.proofs.Common.{◌≡◌, ◌∙◌, ◌++◌, ◌+◌, ◌-◌, ℕ, length, take, drop, min, replicate, ap, arith}
use Rattle.std.proofs.lemmas.List.{length-append, length-drop, length-replicate, take_all}
use Rattle.cms_text.specs.Texts.{Text}
use Rattle.exec2_funcs.specs.Values.{blanks, last_filled}

pub filled_so : (text made all : Text) (count kept : ℕ) → kept ≡ min count (length text) → made ≡ replicate (count - kept) 0x40
    → all ≡ made ++ take (length text - (length text - kept)) (drop (length text - kept) text) → all ≡ last_filled count text
filled_so text made all count kept is blank added =
    let few : count - kept ≡ count - length text = omega (arith, is) in
    let left : length text - kept ≡ length text - count = omega (arith, is) in
    let rest = drop (length text - kept) text in
    added
    ∙ (ap (λ (t : Text). t ++ take (length text - (length text - kept)) rest) (blank ∙ ap (λ (n : ℕ). replicate n 0x40) few)
    ∙ ap (λ (t : Text). blanks (count - length text) ++ t) (take_all (length text - (length text - kept)) rest (omega (arith, length-drop (length text - kept) text))
    ∙ ap (λ (n : ℕ). drop n text) left))

pub length_filled : (count : ℕ) (text : Text) → length (last_filled count text) ≡ count
length_filled count text =
    omega (arith, length-append (blanks (count - length text)) (drop (length text - count) text), length-drop (length text - count) text, length-replicate {A = ℕ} (count - length text) 0x40)
