-- The letter that an operand says is one of the 26.
use Rattle.std.proofs.Common.{◌≡◌, ◌∙◌, ℕ, ◌<◌, ◌≤◌, List, [], ◌∷◌, Bool, true, false, Option, Some, None, Result, Ok, Err, refl, subst, arith}
use Rattle.std.specs.Prelude.{⊤, cond, ◌==◌, ◌&&◌, nat_le, option_map}
use Rattle.std.proofs.lemmas.Bool.{leb-true}
use Rattle.cms_fields.specs.Steps.{◌>>=◌, ◌>>◌}
use Rattle.cms_names.specs.Modes.{letter_of, short_mode_of}
use Rattle.cms_names.specs.Names.{is_between}
use Rattle.cms_names.specs.declared.mode.ModeWord.TheVariants.{Any, Same, Letter}
use Rattle.cms_line.specs.declared.token.Token.{Token}
use Rattle.cms_operands.specs.Choices.{chosen_of, no_forms}
use Rattle.cms_operands.specs.Optional.{access_mode_or_a, device_or, read_or}
use Rattle.cms_operands.specs.Operands.{access_mode, access_mode_in, ended, given, letter_in, letter_of_word, operands_of, or_refused, with_ext, without_ext}
use Rattle.cms_operands.specs.declared.options.ChosenOption.{ChosenOption}
use Rattle.cms_operands.specs.declared.operand.AccessMode.{AccessMode}
use Rattle.cms_operands.specs.declared.refusal.Refusal.{Refusal}
use Rattle.cms_operands.specs.declared.refusal.Refusal.TheVariants.{BadMode}
use Rattle.cms_search.proofs.Letters.{letter_within as letter_below, letter_in_within as word_below}
use Rattle.cms_access.specs.Access.{access_line, access_operands}
use Rattle.cms_access.specs.declared.access.AccessLine.{AccessLine}

-- a character of one range, or of a further one
one_of : (low high v c n : ℕ) (rest : Option ℕ) → (c ≤ high → v < 26) → (rest ≡ Some n → n < 26) → cond (is_between low high c) (Some v) rest ≡ Some n → n < 26
one_of low high v c n rest small other is = cases (nat_le low c) (nat_le c high) refl is
  where
    cases : (a b : Bool) → nat_le c high ≡ b → cond (a && b) (Some v) rest ≡ Some n → n < 26
    cases true true at is = let same : v ≡ n = cc is in subst (λ (k : ℕ). k < 26) same (small (leb-true c high at))
    cases true false at is = other is
    cases false b at is = other is

short_below : (c n : ℕ) → letter_of_word (short_mode_of c) ≡ Some n → n < 26
unfolding short_mode_of
short_below c n is = cases (c == 0x5C) (c == 0x7E) (letter_of c) refl is
  where
    cases : (a b : Bool) (x : Option ℕ) → letter_of c ≡ x → letter_of_word (cond a (Some Any) (cond b (Some Same) (option_map (λ l. Letter l) x))) ≡ Some n → n < 26
    cases true b x at is = absurd (cc is)
    cases false true x at is = absurd (cc is)
    cases false false None at is = absurd (cc is)
    cases false false (Some l) at is = letter_below c n (at ∙ is)

mode_below : (text : List ℕ) (mode : AccessMode) → access_mode_in text ≡ Some mode → mode.letter < 26
unfolding access_mode_in
mode_below [] mode is = absurd (cc is)
mode_below (a ∷ []) mode is = cases (letter_in (a ∷ [])) refl is
  where
    cases : (x : Option ℕ) → letter_in (a ∷ []) ≡ x → option_map without_ext x ≡ Some mode → mode.letter < 26
    cases None at is = absurd (cc is)
    cases (Some n) at is = let same : without_ext n ≡ mode = cc is in subst (λ (m : AccessMode). m.letter < 26) same (word_below (a ∷ []) n at)
mode_below (a ∷ b ∷ []) mode is = absurd (cc is)
mode_below (a ∷ stroke ∷ b ∷ []) mode is = cases (stroke == 0x61) (letter_in (a ∷ [])) refl (letter_in (b ∷ [])) is
  where
    cases : (t : Bool) (x : Option ℕ) → letter_in (a ∷ []) ≡ x → (y : Option ℕ) → cond t (with_ext x y) None ≡ Some mode → mode.letter < 26
    cases false x at y is = absurd (cc is)
    cases true None at y is = absurd (cc is)
    cases true (Some n) at None is = absurd (cc is)
    cases true (Some n) at (Some ext) is =
        let same : ◌≡◌ {A = AccessMode} (record { letter = n; ext = Some ext }) mode = cc is in subst (λ (m : AccessMode). m.letter < 26) same (word_below (a ∷ []) n at)
mode_below (a ∷ b ∷ c ∷ d ∷ more) mode is = absurd (cc is)

access_mode_below : (place : ℕ) (text : List ℕ) (mode : AccessMode) → access_mode place text ≡ Ok mode → mode.letter < 26
unfolding access_mode
access_mode_below place text mode is = cases (access_mode_in text) refl is
  where
    cases : (x : Option AccessMode) → access_mode_in text ≡ x → or_refused x (BadMode place) ≡ Ok mode → mode.letter < 26
    cases None at is = absurd (cc is)
    cases (Some m) at is = let same : m ≡ mode = cc is in subst (λ (x : AccessMode). x.letter < 26) same (mode_below text m at)

given_mode_below : (place : ℕ) (text : Option (List ℕ)) (mode : AccessMode) → read_or (without_ext 0) (access_mode place) text ≡ Ok mode → mode.letter < 26
given_mode_below place None mode is = let same : without_ext 0 ≡ mode = cc is in subst (λ (m : AccessMode). m.letter < 26) same (omega arith)
given_mode_below place (Some text) mode is = access_mode_below place text mode is

operands_below : (operands : List Token) (line : AccessLine) → access_operands operands ≡ Ok line → line.mode.letter < 26
unfolding access_operands
operands_below operands line is =
    cases (device_or operands 1 0x191) (access_mode_or_a operands 2) refl (ended operands 3) is
  where
    cases : (x : Result ℕ Refusal) (y : Result AccessMode Refusal) → access_mode_or_a operands 2 ≡ y → (z : Result ⊤ Refusal)
        → (x >>= λ vdev. y >>= λ mode. z >> Ok (record { vdev = vdev; mode = mode })) ≡ Ok line → line.mode.letter < 26
    cases (Err e) y at z is = absurd (cc is)
    cases (Ok vdev) (Err e) at z is = absurd (cc is)
    cases (Ok vdev) (Ok mode) at (Err e) is = absurd (cc is)
    cases (Ok vdev) (Ok mode) at (Ok t) is =
        let same : ◌≡◌ {A = AccessLine} (record { vdev = vdev; mode = mode }) line = cc is in
        subst (λ (l : AccessLine). l.mode.letter < 26) same (given_mode_below 2 (given operands 2) mode at)

-- that of ACCESS's line
pub line_below : (words : List Token) (line : AccessLine) → access_line words ≡ Ok line → line.mode.letter < 26
line_below words line is = cases (access_operands (operands_of words)) refl (chosen_of no_forms words) is
  where
    cases : (x : Result AccessLine Refusal) → access_operands (operands_of words) ≡ x → (y : Result (List (ChosenOption ⊤)) Refusal) → (x >>= λ l. y >> Ok l) ≡ Ok line → line.mode.letter < 26
    cases (Err e) at y is = absurd (cc is)
    cases (Ok l) at (Err e) is = absurd (cc is)
    cases (Ok l) at (Ok chosen) is = let same : l ≡ line = cc is in subst (λ (x : AccessLine). x.mode.letter < 26) same (operands_below (operands_of words) l at)
