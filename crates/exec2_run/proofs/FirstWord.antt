-- A list of words with a first one, as patterns tell of it.
use Rattle.std.proofs.Common.{◌≡◌, ◌∙◌, ◌∷◌, [], ◌-◌, ◌<◌, ◌≤◌, suc, List, length, take, drop, get_or, refl, sym, ap, arith}
use Rattle.std.proofs.lemmas.List.{take_all}
use Rattle.cms_text.specs.Texts.{Text}

pub first_and_rest : (words : List Text) (word : Text) → 1 ≤ length words → word ≡ get_or words 0 word → words ≡ word ∷ take (length words - 1) (drop 1 words)
first_and_rest [] word some is = absurd (omega (arith, some))
first_and_rest (w ∷ ws) word some is =
    ap (λ (x : Text). x ∷ ws) (sym is) ∙ ap (λ (rest : List Text). word ∷ rest) (sym (take_all (suc (length ws) - 1) ws (omega arith)))

pub none_left : (words : List Text) → length words < 1 → words ≡ []
none_left [] none = refl
none_left (w ∷ ws) none = absurd (omega (arith, none))
