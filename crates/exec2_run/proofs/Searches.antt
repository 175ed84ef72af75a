-- The search for a label.
use Rattle.std.proofs.Common.{◌≡◌, ◌∙◌, ◌∷◌, [], ℕ, List, refl, sym, ap, subst, true≢false, arith, zero, suc, drop}
use Rattle.std.specs.Prelude.{Option, Some, None, Bool, true, false, ◌+◌, ◌<◌, ◌≤◌, ◌-◌, cond}
use Rattle.std.specs.List.{position_from}
use Rattle.cms_text.specs.Texts.{Text}
use Rattle.exec2_run.specs.Cases.{FindsFirst, Labels, Search}
use Rattle.exec2_run.specs.Jumps.{label_from}
use Rattle.exec2_parse.specs.Words.{has_label}

-- what a search from the head of a list finds
abbrev Found : Text → List Text → ℕ → Option ℕ → Type 0
Found label part from None = (j : ℕ) → Labels label part j → ⊥
Found label part from (Some k) = (i : ℕ) × (k ≡ from + i) × Labels label part i × ((j : ℕ) → j < i → Labels label part j → ⊥)

finds : (label : Text) (part : List Text) (from : ℕ) → Found label part from (position_from (has_label label) from part)
finds label [] from = λ j h. h
finds label (l ∷ ls) from = cases (has_label label l) refl (position_from (has_label label) (from + 1) ls) (finds label ls (from + 1))
  where
    none : has_label label l ≡ false → ((j : ℕ) → Labels label ls j → ⊥) → (j : ℕ) → Labels label (l ∷ ls) j → ⊥
    none e rest zero h = true≢false (sym h ∙ e)
    none e rest (suc j) h = rest j h

    least : has_label label l ≡ false → (i : ℕ) → ((j : ℕ) → j < i → Labels label ls j → ⊥) → (j : ℕ) → j < suc i → Labels label (l ∷ ls) j → ⊥
    least e i rest zero below h = true≢false (sym h ∙ e)
    least e i rest (suc j) below h = rest j (omega arith) h

    later : has_label label l ≡ false → (o : Option ℕ) → Found label ls (from + 1) o → Found label (l ∷ ls) from o
    later e None h = none e h
    later e (Some k) h = (suc h.0, omega (arith, h.1), h.2, least e h.0 h.3)

    cases : (b : Bool) → has_label label l ≡ b → (o : Option ℕ) → Found label ls (from + 1) o → Found label (l ∷ ls) from (cond b (Some from) o)
    cases true e o h = (zero, omega arith, e, λ j below. absurd (omega (arith, below)))
    cases false e o h = later e o h

labels_from : (label : Text) (lines : List Text) (n j : ℕ) → Labels label (drop n lines) j ≡ Labels label lines (n + j)
labels_from label lines zero j = ap (Labels label lines) (omega arith)
labels_from label [] (suc n) j = refl
labels_from label (l ∷ ls) (suc n) j = labels_from label ls n j ∙ ap (Labels label (l ∷ ls)) same
  where
    same : suc (n + j) ≡ suc n + j
    same = omega arith

at_line : (label : Text) (lines : List Text) (from j : ℕ) → from ≤ j → Labels label lines j → Labels label (drop from lines) (j - from)
at_line label lines from j h l = subst (λ (t : Type 0). t) (sym (labels_from label lines from (j - from))) (subst (Labels label lines) (omega (arith, h)) l)

searched : (label : Text) (lines : List Text) (from : ℕ) (o : Option ℕ) → Found label (drop from lines) from o → Search label lines from o
searched label lines from None h = λ j after l. h (j - from) (at_line label lines from j after l)
searched label lines from (Some k) h = record {
  after = omega (arith, h.1);
  labels = subst (Labels label lines) (sym h.1) (subst (λ (t : Type 0). t) (labels_from label lines from h.0) h.2);
  least = λ j after below l. h.3 (j - from) (omega (arith, h.1, below, after)) (at_line label lines from j after l);
}

pub searches : FindsFirst
unfolding label_from
searches label lines from = searched label lines from (position_from (has_label label) from (drop from lines)) (finds label (drop from lines) from)
