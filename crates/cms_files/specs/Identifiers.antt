-- File identifiers in the words of a line: which files a command takes.
use Rattle.std.specs.Prelude.{ℕ, ◌+◌, ◌==◌, Bool, true, ◌&&◌, List, codes, Option, Some, None, Result, Ok}
use Rattle.std.specs.Str.{bytes_eq}
use Rattle.cms_fields.specs.Steps.{◌>>=◌}
use Rattle.cms_names.specs.declared.name.Name.{Name}
use Rattle.cms_names.specs.declared.output.OutId.{OutId}
use Rattle.cms_text.specs.Texts.{coded}
use Rattle.cms_line.specs.declared.token.Token.{Token}
use Rattle.cms_operands.specs.Operands.{given_or, name, name_or_all, name_or_same, needed}
use Rattle.cms_operands.specs.Optional.{reading_mode_or_a}
use Rattle.cms_operands.specs.declared.refusal.Refusal.{Refusal}
use Rattle.cms_files.specs.declared.identifier.FileInput.{FileInput}
use Rattle.cms_files.specs.declared.identifier.NameChoice.{NameChoice}

-- the type of a procedure's file
abbrev pub exec_kind : List ℕ
exec_kind = coded (codes "EXEC")

-- ---- the words

-- a mode that isn't given is A
abbrev pub mode_or_a : List Token → ℕ → List ℕ
mode_or_a operands place = given_or operands place (coded (codes "A"))

-- a part that isn't given is *
abbrev pub part_or_all : List Token → ℕ → List ℕ
part_or_all operands place = given_or operands place (coded (codes "*"))

-- fn ft: a file name and a file type, in a place and the next
unfoldable pub full_name : List Token → ℕ → Result Name Refusal
full_name operands place = do
  file_word ← needed operands place
  file ← name place file_word
  kind_word ← needed operands (place + 1)
  kind ← name (place + 1) kind_word
  Ok (record { file = file; kind = kind })

-- the same, where * stands for every file name or every file type
unfoldable pub name_choice : List Token → ℕ → Result NameChoice Refusal
name_choice operands place = do
  file_word ← needed operands place
  file ← name_or_all place file_word
  kind_word ← needed operands (place + 1)
  kind ← name_or_all (place + 1) kind_word
  Ok (record { file = file; kind = kind })

-- the same of an output, where = stands for the input's
unfoldable pub output_name : List Token → ℕ → Result OutId Refusal
output_name operands place = do
  file_word ← needed operands place
  file ← name_or_same place file_word
  kind_word ← needed operands (place + 1)
  kind ← name_or_same (place + 1) kind_word
  Ok (record { file = file; kind = kind })

-- fn ft [fm] of a file that is read
unfoldable pub file_input : List Token → ℕ → Result FileInput Refusal
file_input operands place = do
  file ← full_name operands place
  mode ← reading_mode_or_a operands (place + 2)
  Ok (record { name = file; mode = mode })

-- ---- which files are meant

-- the name or type is the one that was given; * takes any
abbrev pub takes_part : Option (List ℕ) → List ℕ → Bool
takes_part None text = true
takes_part (Some part) text = bytes_eq part text

-- both parts are taken
abbrev pub takes_name : NameChoice → Name → Bool
takes_name names name = takes_part names.file name.file && takes_part names.kind name.kind

-- a mode with a number takes the files of that number alone
abbrev pub takes_number : Option ℕ → ℕ → Bool
takes_number None number = true
takes_number (Some wanted) number = number == wanted
