-- Operands by their length.
use Rattle.std.proofs.Common.{◌≡◌, ℕ, ◌+◌, ◌-◌, List, [], ◌∷◌, length, take, drop, get_or, refl, arith}
use Rattle.std.specs.Prelude.{None}
use Rattle.std.proofs.lemmas.List.{take_all, take_rest}
use Rattle.cms_names.proofs.Words.{one, two}
use Rattle.cms_line.specs.declared.token.Token.{Token}
use Rattle.cms_operands.specs.Choices.{fill_in, format_in}
use Rattle.cms_operands.specs.Operands.{access_mode_in, device_of}

-- ---- words by their length

pub three : (word : List ℕ) → length word ≡ 3 → word ≡ get_or word 0 0 ∷ get_or word 1 0 ∷ get_or word 2 0 ∷ []
three [] is = absurd (omega arith)
three (c ∷ []) is = absurd (omega arith)
three (c ∷ d ∷ []) is = absurd (omega arith)
three (c ∷ d ∷ e ∷ []) is = refl
three (c ∷ d ∷ e ∷ f ∷ word) is = absurd (omega arith)

pub not_three : (word : List ℕ) → (length word ≡ 3 → ⊥) → None ≡ device_of word
unfolding device_of
not_three [] is = refl
not_three (a ∷ []) is = refl
not_three (a ∷ b ∷ []) is = refl
not_three (a ∷ b ∷ c ∷ []) is = absurd (is refl)
not_three (a ∷ b ∷ c ∷ d ∷ word) is = refl

pub no_access_mode : (word : List ℕ) → (length word ≡ 1 → ⊥) → (length word ≡ 3 → ⊥) → None ≡ access_mode_in word
unfolding access_mode_in
no_access_mode [] one three = refl
no_access_mode (a ∷ []) one three = absurd (one refl)
no_access_mode (a ∷ b ∷ []) one three = refl
no_access_mode (a ∷ b ∷ c ∷ []) one three = absurd (three refl)
no_access_mode (a ∷ b ∷ c ∷ d ∷ word) one three = refl

pub no_fill : (word : List ℕ) → (length word ≡ 1 → ⊥) → (length word ≡ 2 → ⊥) → None ≡ fill_in word
unfolding fill_in
no_fill [] one two = refl
no_fill (a ∷ []) one two = absurd (one refl)
no_fill (a ∷ b ∷ []) one two = absurd (two refl)
no_fill (a ∷ b ∷ c ∷ word) one two = refl

pub no_format : (word : List ℕ) → (length word ≡ 1 → ⊥) → None ≡ format_in word
unfolding format_in
no_format [] one = refl
no_format (a ∷ []) one = absurd (one refl)
no_format (a ∷ b ∷ word) one = refl

-- what each kind of word asks for
pub ruleset fills = (one, two, no_fill)

pub ruleset formats = (one, no_format)

pub ruleset access_modes = (one, three, no_access_mode)

pub ruleset devices = (three, not_three)

pub all_words : (words : List Token) → take (length words) words ≡ words
all_words words = take_all (length words) words (omega arith)

pub behind : (text : List ℕ) (place : ℕ) → take (length text - (place + 1)) (drop (place + 1) text) ≡ drop (place + 1) text
behind text place = take_rest text (place + 1)
