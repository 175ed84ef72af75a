-- Where a text first stands in a line.
use Rattle.std.proofs.Common.{◌≡◌, ◌+◌, ◌-◌, ◌<◌, ◌≤◌, ℕ, ◌∷◌, true, false, length, take, drop, get_or, refl, sym, ap, arith}
use Rattle.std.specs.Prelude.{Option, Some, None, nat_eq}
use Rattle.std.specs.List.{starts_with}
use Rattle.std.specs.Option.{option_map}
use Rattle.std.proofs.lemmas.List.{at_drop_all, drop_more, take_rest}
use Rattle.cms_text.specs.Texts.{Text}
use Rattle.cms_edit.specs.Edits.{place_in}

-- the place, behind so many bytes
abbrev pub place_from : ℕ → Text → Text → Option ℕ
place_from place text rest = option_map (λ k. k + place) (place_in text rest)

here-cons : (place : ℕ) (text : Text) (byte : ℕ) (bytes : Text) → starts_with nat_eq (byte ∷ bytes) text ≡ true → place_from place text (byte ∷ bytes) ≡ Some place
unfolding place_in
here-cons place text byte bytes starts = rw starts (ap (λ (n : ℕ). Some n) (omega arith))

moved : (place : ℕ) (found : Option ℕ) → option_map (λ k. k + place) (option_map (λ k. k + 1) found) ≡ option_map (λ k. k + (place + 1)) found
moved place None = refl
moved place (Some k) = ap (λ (n : ℕ). Some n) (omega arith)

further-cons : (place : ℕ) (text : Text) (byte : ℕ) (bytes : Text) → starts_with nat_eq (byte ∷ bytes) text ≡ false → place_from place text (byte ∷ bytes) ≡ place_from (place + 1) text bytes
unfolding place_in
further-cons place text byte bytes other = rw other (moved place (place_in text bytes))

-- it stands here
pub here : (text line : Text) (place : ℕ) → place < length line
    → starts_with nat_eq (take (length line - place) (drop place line)) text ≡ true → place_from place text (drop place line) ≡ Some place
here text line place within starts =
    let e = drop_more line place 0 within in
    let from : starts_with nat_eq (drop place line) text ≡ true = rw (take_rest line place) at starts in
    rw e (here-cons place text (get_or line place 0) (drop (place + 1) line) (rw e at from))

-- it doesn't stand here
pub further : (text line : Text) (place : ℕ) → place < length line
    → starts_with nat_eq (take (length line - place) (drop place line)) text ≡ false
    → place_from (place + 1) text (drop (place + 1) line) ≡ place_from place text (drop place line)
further text line place within other =
    let e = drop_more line place 0 within in
    let from : starts_with nat_eq (drop place line) text ≡ false = rw (take_rest line place) at other in
    rw e (sym (further-cons place text (get_or line place 0) (drop (place + 1) line) (rw e at from)))

-- it stands nowhere
pub nowhere : (text line : Text) (place : ℕ) → length line ≤ place → place_from place text (drop place line) ≡ None
unfolding place_in
nowhere text line place past = at_drop_all (place_from place text) line place past

-- at first
pub from_start : (text line : Text) → place_from 0 text line ≡ place_in text line
from_start text line = elim (place_in text line) as (λ o. option_map (λ k. k + 0) o ≡ o) [
  | None ↦ refl
  | Some k ↦ ap (λ (n : ℕ). Some n) (omega arith)
]
