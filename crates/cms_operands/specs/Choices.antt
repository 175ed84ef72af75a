-- The options of a line with their parameters, as a command takes them.
use Rattle.std.specs.Prelude.{◌≡◌, ⊤, ℕ, ◌+◌, ◌*◌, ◌==◌, nat_le, Bool, ◌&&◌, if◌then◌else◌, List, [], ◌∷◌, map, take, drop, fold, position, slice_get, Option, Some, None, Result, Ok, Err}
use Rattle.std.specs.List.{list_any}
use Rattle.std.specs.Option.{option_map, option_map_or, option_and_then}
use Rattle.cms_names.specs.declared.name.Format.{Format}
use Rattle.cms_names.specs.declared.name.Format.TheVariants as format
use Rattle.cms_fields.specs.Steps.{◌>>=◌, ◌>>◌}
use Rattle.cms_line.specs.Options.{Reading, options_of}
use Rattle.cms_line.specs.declared.choices.Choice.{Choice}
use Rattle.cms_line.specs.declared.choices.OptionFault.{OptionFault}
use Rattle.cms_line.specs.declared.choices.OptionFault.TheVariants as fault
use Rattle.cms_line.specs.declared.choices.OptionRule.{OptionRule}
use Rattle.cms_line.specs.declared.token.Token.{Token}
use Rattle.cms_operands.specs.Operands.{hexadecimal_of, number_in, number_within, or_refused}
use Rattle.cms_operands.specs.Refusals.{text_at}
use Rattle.cms_text.specs.Texts.{coded}
use Rattle.cms_operands.specs.declared.options.ChosenOption.{ChosenOption}
use Rattle.cms_operands.specs.declared.options.CommandFault.{CommandFault}
use Rattle.cms_operands.specs.declared.options.CommandFault.TheVariants as line
use Rattle.cms_operands.specs.declared.options.OptionForm.{OptionForm}
use Rattle.cms_operands.specs.declared.options.Parameter.{Parameter}
use Rattle.cms_operands.specs.declared.options.Parameter.TheVariants as takes
use Rattle.cms_operands.specs.declared.options.Setting.{Setting}
use Rattle.cms_operands.specs.declared.options.Setting.TheVariants as setting
use Rattle.cms_operands.specs.declared.refusal.Refusal.{Refusal}
use Rattle.cms_operands.specs.declared.refusal.Refusal.TheVariants.{BadOperand, Missing, UnknownOption, BadParameter}

-- ---- parameters

-- how many words an option takes
abbrev pub words_of : Parameter → ℕ
words_of takes.Nothing = 0
words_of (takes.Number from to) = 1
words_of takes.Fill = 1
words_of takes.Format = 1
words_of takes.Columns = 1

-- an option, by its name of eight places in ASCII, the length of its shortest spelling, and what it takes
abbrev pub form : {O : Type 0} → O → List ℕ → ℕ → Parameter → OptionForm O
form option word least parameter = record { option = option; name = coded word; least = least; parameter = parameter }

-- one without a parameter
abbrev pub flag : {O : Type 0} → O → List ℕ → ℕ → OptionForm O
flag option word least = form option word least takes.Nothing

-- an option with how many words it takes, as lines are read
abbrev pub rule_of : {O : Type 0} → OptionForm O → OptionRule
rule_of form = record { name = form.name; least = form.least; takes = words_of form.parameter }

-- one character, or two hexadecimal digits
unfoldable pub fill_in : List ℕ → Option ℕ
fill_in (c ∷ []) = Some c
fill_in (high ∷ low ∷ []) = option_and_then (λ h. option_map (λ l. h * 16 + l) (hexadecimal_of low)) (hexadecimal_of high)
fill_in _ = None

-- F or V
abbrev pub format_of : ℕ → Option Format
format_of c = if c == 0xC6 then Some format.F else (if c == 0xE5 then Some format.V else None)

-- the format that a word of one character is
unfoldable pub format_in : List ℕ → Option Format
format_in (c ∷ []) = format_of c
format_in _ = None

-- a first column, at least 1, and a last one, at least the first
abbrev pub is_in_order : ℕ → ℕ → Bool
is_in_order first last = nat_le 1 first && nat_le first last

-- two columns, the second not before the first
abbrev pub in_order : Option ℕ → Option ℕ → Option Setting
in_order first last = option_and_then (λ a. option_and_then (λ b. if is_in_order a b then Some (setting.Columns a b) else None) last) first

-- two numbers with a hyphen between
abbrev pub columns_at : List ℕ → Option ℕ → Option Setting
columns_at text None = None
columns_at text (Some k) = in_order (number_in (take k text)) (number_in (drop (k + 1) text))

-- two columns with a minus sign between
unfoldable pub columns_in : List ℕ → Option Setting
columns_in text = columns_at text (position (λ c. c == 0x60) text)

-- what a word says as such a parameter
unfoldable pub setting_in : Parameter → List ℕ → Option Setting
setting_in takes.Nothing text = Some setting.Nothing
setting_in (takes.Number from to) text = option_map (λ n. setting.Number n) (number_within from to text)
setting_in takes.Fill text = option_map (λ c. setting.Byte c) (fill_in text)
setting_in takes.Format text = option_map (λ f. setting.Format f) (format_in text)
setting_in takes.Columns text = columns_in text

-- ---- the options of a line

-- an option that was chosen, with what its parameter says
abbrev pub chosen_with : {O : Type 0} → O → Setting → ChosenOption O
chosen_with option says = record { option = option; setting = says }

-- an option by its form, with what the word in a place says as its parameter
abbrev pub valued_by : {O : Type 0} → List Token → ℕ → OptionForm O → Result (ChosenOption O) Refusal
valued_by words place f =
    or_refused (option_map (chosen_with f.option) (setting_in f.parameter (text_at words place))) (BadParameter place)

-- an option that was chosen, with what its parameter says
unfoldable pub valued : {O : Type 0} → List (OptionForm O) → List Token → Choice → Result (ChosenOption O) Refusal
valued forms words c = option_map_or (valued_by words c.next) (slice_get forms c.nth) (Err (UnknownOption c.next))

-- why no further option is read, if a word is refused
abbrev pub refusal_of : Option OptionFault → Option Refusal
refusal_of None = None
refusal_of (Some (fault.Unknown place)) = Some (UnknownOption place)
refusal_of (Some (fault.Missing place)) = Some Missing
refusal_of (Some (fault.After place)) = Some (BadOperand place)
refusal_of (Some fault.Memory) = None

-- no more options, or why a word is refused
abbrev pub unless_refused : {O : Type 0} → Option Refusal → Result (List (ChosenOption O)) Refusal
unless_refused None = Ok []
unless_refused (Some why) = Err why

-- the options in the order of the words, or the first refusal
unfoldable pub all_valued : {O : Type 0} → List (OptionForm O) → List Token → Option OptionFault → List Choice
    → Result (List (ChosenOption O)) Refusal
all_valued forms words refused [] = unless_refused (refusal_of refused)
all_valued forms words refused (c ∷ cs) = do
  first ← valued forms words c
  more ← all_valued forms words refused cs
  Ok (first ∷ more)

-- the options that were chosen with what their parameters say, or the first refusal
abbrev pub read_by : {O : Type 0} → List (OptionForm O) → List Token → Reading → Result (List (ChosenOption O)) Refusal
read_by forms words r = all_valued forms words r.refused r.chosen

-- the options of a line with their values, or why the first word among them is refused that is
unfoldable pub chosen_of : {O : Type 0} → List (OptionForm O) → List Token → Result (List (ChosenOption O)) Refusal
chosen_of forms words = read_by forms words (options_of (map rule_of forms) words)

-- the answer is what a line says, or its first refusal; memory may be wanted in either's place
abbrev pub AnswersLine : {A : Type 0} → Result A Refusal → Result A CommandFault → Type 0
AnswersLine wanted (Ok x) = wanted ≡ Ok x
AnswersLine wanted (Err (line.Refused why)) = wanted ≡ Err why
AnswersLine wanted (Err line.Memory) = ⊤

-- no options
abbrev pub no_forms : List (OptionForm ⊤)
no_forms = []

-- what the operands say, on a line that takes no options
abbrev pub without_options : {A : Type 0} → List Token → Result A Refusal → Result A Refusal
without_options words operands = do
  x ← operands
  chosen_of no_forms words
  Ok x
