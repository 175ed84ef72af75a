-- Worked examples of commands' words, operands and options.
use Rattle.std.proofs.Common.{◌≡◌, ℕ, List, [], ◌∷◌, Option, Some, None, Result, Ok, Err, codes, refl}
use Rattle.cms_ebcdic.specs.CodePage.{character_of, code_of, code_page, upper_of}
use Rattle.cms_fields.specs.Steps.{◌>>=◌, ◌>>◌}
use Rattle.cms_names.specs.Names.{is_name_character, is_text_of, text_of}
use Rattle.cms_names.specs.Modes.{letter_of, mode_number_of, mode_word_of, short_mode_of}
use Rattle.cms_names.specs.declared.name.Format.TheVariants as format
use Rattle.cms_text.specs.Numbers.{magnitude_of}
use Rattle.cms_text.specs.Texts.{ebcdic}
use Rattle.cms_line.specs.Options.{options_from, options_of}
use Rattle.cms_line.specs.declared.token.Token.{Token}
use Rattle.cms_line.specs.Tokens.{tokens_from, tokens_of}
use Rattle.cms_operands.specs.Choices.{all_valued, chosen_of, columns_in, fill_in, flag, form, format_in, valued, setting_in}
use Rattle.cms_operands.specs.Operands.{access_mode, access_mode_in, device, device_of, device_or_letter, ended, given, given_or, hexadecimal_of, name, needed, number, number_within, operands_of, reading_mode}
use Rattle.cms_operands.specs.declared.options.ChosenOption.{ChosenOption}
use Rattle.cms_operands.specs.declared.options.OptionForm.{OptionForm}
use Rattle.cms_operands.specs.declared.options.Parameter.TheVariants as takes
use Rattle.cms_operands.specs.declared.options.Setting.TheVariants as setting
use Rattle.cms_operands.specs.declared.operand.Target.TheVariants as target
use Rattle.cms_operands.specs.declared.refusal.Refusal.{Refusal}
use Rattle.cms_operands.specs.declared.refusal.Refusal.TheVariants.{BadMode, BadName, BadOperand, BadParameter, Missing, UnknownOption}
use Rattle.cms_operands.specs.declared.mode.ReadMode.TheVariants as reading

-- ---- operands

devices : (device 1 (ebcdic (codes "1AF")) ≡ Ok 0x1AF) × (device 1 (ebcdic (codes "1AG")) ≡ Err (BadOperand 1)) × (device 1 (ebcdic (codes "19")) ≡ Err (BadOperand 1))
unfolding device device_of hexadecimal_of ebcdic code_of code_page
devices = (refl, refl, refl)

targets : (device_or_letter 1 (ebcdic (codes "191")) ≡ Ok (target.Device 0x191)) × (device_or_letter 1 (ebcdic (codes "C")) ≡ Ok (target.Letter 2))
    × (device_or_letter 1 (ebcdic (codes "*")) ≡ Err (BadMode 1)) × (device_or_letter 1 (ebcdic (codes "A1")) ≡ Err (BadOperand 1))
unfolding device_or_letter device_of hexadecimal_of mode_word_of short_mode_of letter_of ebcdic code_of code_page
targets = (refl, refl, refl, refl)

modes : (access_mode 2 (ebcdic (codes "B/A")) ≡ Ok (record { letter = 1; ext = Some 0 })) × (access_mode 2 (ebcdic (codes "A1")) ≡ Err (BadMode 2))
    × (reading_mode 3 (ebcdic (codes "Z6")) ≡ Ok (reading.Numbered 25 6)) × (reading_mode 3 (ebcdic (codes "=")) ≡ Err (BadMode 3))
unfolding access_mode access_mode_in reading_mode mode_word_of short_mode_of letter_of mode_number_of ebcdic code_of code_page
modes = (refl, refl, refl, refl)

-- ---- options

-- options that are numbered here
abbrev forms : List (OptionForm ℕ)
forms = flag 0 (codes "TYPE    ") 2 ∷ form 1 (codes "LRECL   ") 1 (takes.Number 1 65535) ∷ form 2 (codes "RECFM   ") 3 takes.Format
    ∷ form 3 (codes "FILL    ") 2 takes.Fill ∷ form 4 (codes "COL     ") 3 takes.Columns ∷ []

abbrev read : List ℕ → Result (List (ChosenOption ℕ)) Refusal
read line = chosen_of forms (tokens_of (ebcdic line))

chosen : read (codes "X (TY LR 080 REC V FI 40 COL 2-14)") ≡ Ok (record { option = 0; setting = setting.Nothing } ∷ record { option = 1; setting = setting.Number 80 }
    ∷ record { option = 2; setting = setting.Format format.V } ∷ record { option = 3; setting = setting.Byte 0x40 } ∷ record { option = 4; setting = setting.Columns 2 14 } ∷ [])
unfolding chosen_of options_of options_from all_valued valued setting_in fill_in format_in number_within magnitude_of columns_in hexadecimal_of tokens_of tokens_from ebcdic code_of
    code_page character_of upper_of
chosen = refl

-- the first word that is refused decides, whichever way it is
refused : (read (codes "X (LRECL 0 BLUE") ≡ Err (BadParameter 3)) × (read (codes "X (BLUE LRECL 0") ≡ Err (UnknownOption 2))
    × (read (codes "X (COL 3-2") ≡ Err (BadParameter 3)) × (read (codes "X (TYPE LRECL") ≡ Err Missing)
    × (read (codes "X (LRECL )") ≡ Err Missing) × (read (codes "X (TYPE) A") ≡ Err (BadOperand 4))
unfolding chosen_of options_of options_from all_valued valued setting_in fill_in format_in number_within magnitude_of columns_in hexadecimal_of tokens_of tokens_from ebcdic code_of
    code_page character_of upper_of
refused = (refl, refl, refl, refl, refl, refl)

-- ---- a whole line

-- a name, a mode that is A where it isn't given, a number, and these options
abbrev line : List Token → Result (List (ChosenOption ℕ)) Refusal
line words = do
  file ← needed (operands_of words) 1
  name 1 file
  reading_mode 2 (given_or (operands_of words) 2 (ebcdic (codes "A")))
  count ← needed (operands_of words) 3
  number 1 100 3 count
  ended (operands_of words) 4
  chosen_of forms words

abbrev lined : List ℕ → Result (List (ChosenOption ℕ)) Refusal
lined text = line (tokens_of (ebcdic text))

-- operands come from left to right, then one that is missing, then options
in_order : (lined (codes "X A! B9 0") ≡ Err (BadName 1)) × (lined (codes "X A B9 0") ≡ Err (BadMode 2)) × (lined (codes "X A B 0 C") ≡ Err (BadOperand 3))
    × (lined (codes "X A B 1 C (BLUE") ≡ Err (BadOperand 4)) × (lined (codes "X A B9 (BLUE") ≡ Err (BadMode 2)) × (lined (codes "X A (BLUE") ≡ Err Missing)
    × (lined (codes "X A ) 1") ≡ Err (BadMode 2)) × (lined (codes "X A B 1 (BLUE") ≡ Err (UnknownOption 5)) × (lined (codes "X A B 1") ≡ Ok [])
unfolding operands_of needed name given given_or ended number text_of is_text_of is_name_character reading_mode mode_word_of short_mode_of letter_of mode_number_of chosen_of
    options_of options_from all_valued valued setting_in number_within magnitude_of tokens_of tokens_from ebcdic code_of code_page character_of upper_of
in_order = (refl, refl, refl, refl, refl, refl, refl, refl, refl)
