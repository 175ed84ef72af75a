-- Texts on cards.
use Rattle.std.proofs.Common.{◌≡◌, ◌+◌, ◌-◌, ◌∙◌, ℕ, List, ◌++◌, length, take, drop, replicate, ap, arith}
use Rattle.std.proofs.lemmas.List.{drop-replicate, length-take}
use Rattle.cms_text.specs.Bytes.{overwritten}
use Rattle.cms_cards.specs.PunchedCards.{card_of}

-- a text written over blanks
pub card_filled : (text : List ℕ) → overwritten 0 (take 80 text) (replicate 80 0x40) ≡ card_of text
card_filled text =
    let front : List ℕ = take 80 text in
    let size : 0 + length front ≡ length front = omega arith in
    let left : 80 - length front ≡ 80 - length text = omega (arith, length-take 80 text) in
    ap (λ (j : ℕ). front ++ drop j (replicate 80 0x40)) size
    ∙ ap (λ (l : List ℕ). front ++ l) (drop-replicate {X = ℕ} (length front) 80 0x40)
    ∙ ap (λ (j : ℕ). front ++ replicate j 0x40) left
