-- The options of a command.
use Rattle.std.specs.Prelude.{◌≡◌, ℕ, zero, suc, ◌+◌, nat_le, nat_lt, ◌&&◌, nat_eq, Bool, if◌then◌else◌, List, [], ◌∷◌, length, drop, Option, Some, None, Result, Ok, Err, position, ⊤}
use Rattle.std.specs.Bool.{then_some}
use Rattle.std.specs.List.{starts_with, slice_index_or}
use Rattle.std.specs.Option.{unwrap_or}
use Rattle.std.specs.Str.{bytes_eq}
use Rattle.cms_line.specs.declared.token.Token.{Token}
use Rattle.cms_line.specs.declared.choices.OptionRule.{OptionRule}
use Rattle.cms_line.specs.declared.choices.Choice.{Choice}
use Rattle.cms_line.specs.declared.choices.OptionFault.{OptionFault}
use Rattle.cms_line.specs.declared.choices.OptionFault.TheVariants.{Unknown, Missing, After, Memory}
use Rattle.cms_line.specs.Tokens.{left_parenthesis, right_parenthesis}

-- the word is a left parenthesis
abbrev pub is_left : List ℕ → Bool
is_left word = bytes_eq word (left_parenthesis ∷ [])

-- the place of the first left parenthesis
abbrev pub first_left : List Token → Option ℕ
first_left words = position (λ word. is_left word.text) words

-- the word is a right parenthesis
abbrev pub is_right : List ℕ → Bool
is_right word = bytes_eq word (right_parenthesis ∷ [])

-- the word is a beginning of the rule's name, and long enough
abbrev pub is_named : List ℕ → OptionRule → Bool
is_named word rule = nat_le rule.least (length word) && starts_with nat_eq rule.name word

-- what was chosen before the first word that is refused, and why that is
pub record Reading : Type 0 where
  pub chosen : List Choice
  pub refused : Option OptionFault

-- nothing is chosen, and this is why
abbrev pub refuses : OptionFault → Reading
refuses fault = record { chosen = []; refused = Some fault }

-- one more option is chosen in front
abbrev pub chooses : Choice → Reading → Reading
chooses choice more = record { chosen = choice ∷ more.chosen; refused = more.refused }

-- how many words stand before the first right parenthesis, or before the end where there is none
abbrev pub words_before_right : List Token → ℕ
words_before_right words = unwrap_or (position (λ word. is_right word.text) words) (length words)

-- the first of an option's parameters that isn't there: no word is left, or a right parenthesis stands in its place
abbrev pub missing : ℕ → List Token → Option ℕ
missing count words = then_some (nat_lt (words_before_right words) count) (words_before_right words)

-- no word stands behind the right parenthesis
abbrev pub closed : ℕ → List Token → Reading
closed place [] = record { chosen = []; refused = None }
closed place (word ∷ words) = refuses (After place)

-- how many parameters the option of a rule takes
abbrev pub takes_of : List OptionRule → ℕ → ℕ
takes_of rules nth = (slice_index_or rules nth (record { name = []; least = 0; takes = 0 })).takes

-- an option whose parameters are all there is chosen, and then those behind it
abbrev pub with_parameters : ℕ → ℕ → Option ℕ → Reading → Reading
with_parameters place nth None more = chooses (record { nth = nth; next = place + 1 }) more
with_parameters place nth (Some gone) more = refuses (Missing (place + 1 + gone))

-- the first rule of that name
abbrev pub option_named : List OptionRule → ℕ → List Token → (ℕ → Reading) → Option ℕ → Reading
option_named rules place words more None = refuses (Unknown place)
option_named rules place words more (Some nth) = with_parameters place nth (missing (takes_of rules nth) words) (more (takes_of rules nth))

-- the options in words that stand from a place on, behind so many parameters of the option before
unfoldable pub options_from : List OptionRule → ℕ → ℕ → List Token → Reading
options_from rules parameters place [] = record { chosen = []; refused = None }
options_from rules (suc parameters) place (word ∷ words) = options_from rules parameters (place + 1) words
options_from rules zero place (word ∷ words) =
    if is_right word.text then closed (place + 1) words
    else option_named rules place words (λ parameters. options_from rules parameters (place + 1) words)
    (position (is_named word.text) rules)

-- the options behind the left parenthesis; none without one
abbrev pub options_behind : List OptionRule → List Token → Option ℕ → Reading
options_behind rules words None = record { chosen = []; refused = None }
options_behind rules words (Some left) = options_from rules 0 (left + 1) (drop (left + 1) words)

-- the options among a line's words: those behind the first left parenthesis
unfoldable pub options_of : List OptionRule → List Token → Reading
options_of rules words = options_behind rules words (first_left words)

-- the answer is the options, or the fault of the first word that is refused; memory may be wanted in either's place
abbrev pub AnswersOptions : Reading → Result (List Choice) OptionFault → Type 0
AnswersOptions r (Ok chosen) = (r.refused ≡ None) × (chosen ≡ r.chosen)
AnswersOptions r (Err Memory) = ⊤
AnswersOptions r (Err fault) = r.refused ≡ Some fault
