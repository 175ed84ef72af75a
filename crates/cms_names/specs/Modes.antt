-- The words of file modes and of output identifiers.
use Rattle.std.specs.Prelude.{ℕ, ◌+◌, ◌-◌, ◌==◌, List, [], ◌∷◌, Option, Some, None, unwrap_or, Result, Ok, Err, if◌then◌else◌}
use Rattle.std.specs.Option.{option_map}
use Rattle.std.specs.Str.{bytes_eq}
use Rattle.cms_names.specs.Names.{is_between, part_of}
use Rattle.cms_names.specs.declared.fault.NameFault.{NameFault}
use Rattle.cms_names.specs.declared.mode.ModeWord.{ModeWord}
use Rattle.cms_names.specs.declared.mode.ModeWord.TheVariants.{Any, Same, Letter, Numbered}
use Rattle.cms_names.specs.declared.name.Name.{Name}
use Rattle.cms_names.specs.declared.output.OutId.{OutId}

-- a letter's number, from 0 for A to 25 for Z
unfoldable pub letter_of : ℕ → Option ℕ
letter_of c =
    if is_between 0xC1 0xC9 c then Some (c - 0xC1)
    else (if is_between 0xD1 0xD9 c then Some (9 + (c - 0xD1))
    else (if is_between 0xE2 0xE9 c then Some (18 + (c - 0xE2))
    else None))

-- a mode number, 0 to 6
unfoldable pub mode_number_of : ℕ → Option ℕ
mode_number_of c = if is_between 0xF0 0xF6 c then Some (c - 0xF0) else None

-- *, = or a letter
unfoldable pub short_mode_of : ℕ → Option ModeWord
short_mode_of c =
    if c == 0x5C then Some Any
    else (if c == 0x7E then Some Same
    else option_map (λ letter. Letter letter) (letter_of c))

-- a letter and a number, where there are both
abbrev pub numbered_mode : Option ℕ → Option ℕ → Option ModeWord
numbered_mode None number = None
numbered_mode (Some letter) None = None
numbered_mode (Some letter) (Some number) = Some (Numbered letter number)

-- the mode that a word spells, if it does
unfoldable pub mode_word_of : List ℕ → Option ModeWord
mode_word_of [] = None
mode_word_of (c ∷ []) = short_mode_of c
mode_word_of (c ∷ d ∷ []) = numbered_mode (letter_of c) (mode_number_of d)
mode_word_of (c ∷ d ∷ e ∷ more) = None

-- a part that is given
abbrev pub given_part : Result (List ℕ) NameFault → Result (Option (List ℕ)) NameFault
given_part (Ok part) = Ok (Some part)
given_part (Err e) = Err e

-- what a word says of a part of the output's name: = leaves it to the input
unfoldable pub out_part_of : List ℕ → Result (Option (List ℕ)) NameFault
out_part_of word = if bytes_eq word (0x7E ∷ []) then Ok None else given_part (part_of word)

-- two parts, or what is wrong with the first that is none
abbrev pub out_id : Result (Option (List ℕ)) NameFault → Result (Option (List ℕ)) NameFault → Result OutId NameFault
out_id (Err e) kind = Err e
out_id (Ok file) (Err e) = Err e
out_id (Ok file) (Ok kind) = Ok (record { file = file; kind = kind })

-- the output identifier that two words spell, or what is wrong with the first that spells no part
abbrev pub out_id_of : List ℕ → List ℕ → Result OutId NameFault
out_id_of file kind = out_id (out_part_of file) (out_part_of kind)

-- the output's parts, and the input's where the output leaves them to it
unfoldable pub equal_signs : Name → OutId → Name
equal_signs from to = record { file = unwrap_or to.file from.file; kind = unwrap_or to.kind from.kind }
