-- The lines of an EXEC 2 procedure, and why a file is none.
use Rattle.std.specs.Prelude.{ℕ, ◌+◌, ◌==◌, nat_le, nat_lt, Bool, false, not, ◌||◌, List, map, length, slice_index, codes, Option, Some, None, Result, Ok, Err, find, option_map, position}
use Rattle.std.specs.Option.{option_map_or}
use Rattle.cms_fields.specs.Steps.{◌>>◌, want}
use Rattle.cms_text.specs.Limits.{longest_text}
use Rattle.cms_text.specs.Texts.{Text, first_word, is_keyword, without_trailing_blanks}
use Rattle.exec2_parse.specs.declared.procedure.ProcFault.{ProcFault}
use Rattle.exec2_parse.specs.declared.procedure.ProcFault.TheVariants.{NotExec2, LineTooLong, TooManyLines}

-- the most lines
abbrev pub most_lines : ℕ
most_lines = 4096

-- a line that begins with an asterisk
abbrev pub is_comment : Text → Bool
is_comment line = slice_index line 0 == 0x5C

-- a line with no word, or a comment
abbrev pub is_idle : Text → Bool
is_idle line = (length (first_word line) == 0) || is_comment line

-- the first line that says something
abbrev pub first_statement : List Text → Option Text
first_statement = find (λ line. not (is_idle line))

-- it begins with &TRACE
unfoldable pub begins_with_trace : List Text → Bool
begins_with_trace lines = option_map_or (λ line. is_keyword (codes "&TRACE") (first_word line)) (first_statement lines) false

-- a line has more than 255 bytes
abbrev pub is_long : Text → Bool
is_long line = nat_lt longest_text (length line)

-- the number of the first line that is too long, from 1
abbrev pub number_of_long_line : List Text → Option ℕ
number_of_long_line lines = option_map (λ place. place + 1) (position is_long lines)

-- no line is too long, or the first that is
abbrev pub want_none : Option ℕ → Result (Unit {0}) ProcFault
want_none None = Ok tt
want_none (Some number) = Err (LineTooLong number)

-- records as lines, without the blanks at their ends
abbrev pub lines_of : List Text → List Text
lines_of = map without_trailing_blanks

-- the procedure in a file with these records
unfoldable pub procedure_of : List Text → Result (List Text) ProcFault
procedure_of records = do
  let lines = lines_of records
  want (begins_with_trace lines) NotExec2
  want_none (number_of_long_line lines)
  want (nat_le (length lines) most_lines) TooManyLines
  Ok lines
