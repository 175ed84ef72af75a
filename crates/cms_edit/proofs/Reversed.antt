-- Lists that are gone over from their end.
use Rattle.std.proofs.Common.{◌≡◌, ◌∙◌, ◌+◌, ◌-◌, ◌<◌, ◌≤◌, ◌++◌, ℕ, true, List, [], ◌∷◌, length, reverse, take, get_or, sym, ap, arith}
use Rattle.std.specs.Prelude.{nat_le}
use Rattle.std.specs.List.{list_all}
use Rattle.std.proofs.lemmas.Bool.{false≢true, leb-true, true_from_ne_false}
use Rattle.std.proofs.lemmas.List.{append_assoc, get_or-reverse, length-reverse, take_more}
use Rattle.std.proofs.lemmas.List.Folds.{list_all_at}
use Rattle.cms_text.specs.Limits.{longest_text}
use Rattle.cms_text.specs.Texts.{Text}

-- one more from the end
pub one_more : (from : List Text) (nth : ℕ) (line : Text) → nth < length from → line ≡ get_or from (length from - 1 - nth) line
    → take nth (reverse from) ++ line ∷ [] ≡ take (nth + 1) (reverse from)
one_more from nth line within is =
    let size = length-reverse from in
    sym (take_more (reverse from) nth line (omega (arith, within, size))
    ∙ ap (λ (x : Text). take nth (reverse from) ++ x ∷ []) (get_or-reverse from nth line within ∙ sym is))

-- the same behind others
pub one_more_behind : (front from : List Text) (nth : ℕ) (line : Text) → nth < length from → line ≡ get_or from (length from - 1 - nth) line
    → (front ++ take nth (reverse from)) ++ line ∷ [] ≡ front ++ take (nth + 1) (reverse from)
one_more_behind front from nth line within is =
    append_assoc front (take nth (reverse from)) (line ∷ []) ∙ ap (λ (xs : List Text). front ++ xs) (one_more from nth line within is)

-- each of the lines is short
pub short_at : (lines : List Text) (place : ℕ) (d : Text) → place < length lines → list_all (λ line. nat_le (length line) longest_text) lines ≡ true
    → length (get_or lines place d) ≤ longest_text
short_at lines place d within all =
    leb-true (length (get_or lines place d)) longest_text
    (true_from_ne_false (nat_le (length (get_or lines place d)) longest_text)
    (λ no. false≢true (sym (list_all_at (λ line. nat_le (length line) longest_text) lines place d within no) ∙ all)))
