-- The variables that are given (VM/SP EXEC 2 Reference, predefined variables).
use Rattle.std.specs.Prelude.{ℕ, ◌+◌, ◌-◌, ◌/◌, ◌%◌, ◌==◌, nat_le, nat_lt, Bool, false, ◌&&◌, ◌||◌, if◌then◌else◌, List, [], ◌∷◌, codes, length, find, Option, Some, None, is_some}
use Rattle.std.specs.List.{list_all}
use Rattle.cms_fields.specs.declared.time.Moment.{Moment}
use Rattle.cms_text.specs.Texts.{Text, is_blank, is_keyword, without_one_blank}
use Rattle.exec2_parse.specs.Expansion.{Binding}
use Rattle.exec2_parse.specs.Variables.{Vars, value_of}
use Rattle.cms_text.specs.Numbers.{decimal_of, is_digit, written}
use Rattle.exec2_run.specs.declared.calls.Call.{Call}
use Rattle.exec2_run.specs.declared.given.AtStart.{AtStart}
use Rattle.exec2_run.specs.declared.given.Predefined.{Predefined}
use Rattle.exec2_run.specs.declared.given.Predefined.TheVariants as given
use Rattle.exec2_run.specs.declared.given.Seen.{Seen}
use Rattle.exec2_run.specs.declared.given.Standing.{Standing}
use Rattle.exec2_run.specs.declared.variables.Variables.{Variables}
use Rattle.exec2_run.specs.State.{Exec}
use Rattle.exec2_run.specs.declared.exec.FileName.{FileName}

-- the names that are given
abbrev pub all_given : List Predefined
all_given = given.Procedure ∷ given.Count ∷ given.Index ∷ given.Rc ∷ given.Retcode ∷ given.Line ∷ given.Linenum ∷ given.Depth
    ∷ given.From ∷ given.Filename ∷ given.Filetype ∷ given.Filemode ∷ given.Date ∷ given.Time ∷ given.Blank ∷ given.Argstring
    ∷ given.Cmdstring ∷ []

-- the name of each, in ASCII
abbrev pub name_of : Predefined → List ℕ
name_of given.Procedure = codes "0"
name_of given.Count = codes "N"
name_of given.Index = codes "INDEX"
name_of given.Rc = codes "RC"
name_of given.Retcode = codes "RETCODE"
name_of given.Line = codes "LINE"
name_of given.Linenum = codes "LINENUM"
name_of given.Depth = codes "DEPTH"
name_of given.From = codes "FROM"
name_of given.Filename = codes "FILENAME"
name_of given.Filetype = codes "FILETYPE"
name_of given.Filemode = codes "FILEMODE"
name_of given.Date = codes "DATE"
name_of given.Time = codes "TIME"
name_of given.Blank = codes "BLANK"
name_of given.Argstring = codes "ARGSTRING"
name_of given.Cmdstring = codes "CMDSTRING"

-- the line of the last open &CALL, or 0
abbrev pub line_of_last : List Call → ℕ
line_of_last [] = 0
line_of_last (call ∷ calls) = call.line

-- these can't be set
unfoldable pub given_of : Text → Option Predefined
given_of name = find (λ g. is_keyword (name_of g) name) all_given

-- a name is given
abbrev pub is_given : Text → Bool
is_given name = is_some (given_of name)

-- two decimal digits
abbrev pub digit_of : ℕ → ℕ
digit_of n = 0xF0 + n % 10

-- the tens of a number, as a digit
abbrev pub tens_of : ℕ → ℕ
tens_of n = 0xF0 + n / 10 % 10

-- yy/mm/dd
abbrev pub date_of : Moment → Text
date_of m = tens_of (m.year % 100) ∷ digit_of (m.year % 100) ∷ 0x61 ∷ tens_of m.month ∷ digit_of m.month ∷ 0x61
    ∷ tens_of m.day ∷ digit_of m.day ∷ []

-- hh:mm:ss
abbrev pub time_of : Moment → Text
time_of m = tens_of m.hour ∷ digit_of m.hour ∷ 0x7A ∷ tens_of m.minute ∷ digit_of m.minute ∷ 0x7A
    ∷ tens_of m.second ∷ digit_of m.second ∷ []

-- a letter from its number, 0 for A to 25 for Z
abbrev pub letter_of : ℕ → ℕ
letter_of n = if nat_lt n 9 then 0xC1 + n else (if nat_lt n 18 then 0xD1 + (n - 9) else 0xE2 + (n - 18) % 8)

-- a letter and a mode number
abbrev pub mode_of : FileName → Text
mode_of f = letter_of f.letter ∷ digit_of f.number ∷ []

-- what follows the name in a called line
abbrev pub ends_name : ℕ → Bool
ends_name byte = is_blank byte || ((byte == 0x4D) || (byte == 0x5D))

-- what stands behind the procedure's name in the line that called it
unfoldable pub behind_name : Text → Text
behind_name [] = []
behind_name (byte ∷ bytes) = if ends_name byte then byte ∷ bytes else behind_name bytes

-- what is fixed where a procedure begins, called by a line and found in a file
abbrev pub at_start : Text → FileName → AtStart
at_start called f = record {
  name = f.name.file;
  kind = f.name.kind;
  mode = mode_of f;
  rest = without_one_blank (behind_name called);
  called = called;
}

-- what is given for each: some is fixed, the other is what it is where the procedure stands
abbrev pub value_given : AtStart → Standing → Predefined → Text
value_given start at given.Procedure = start.name
value_given start at given.Count = decimal_of at.count
value_given start at given.Index = decimal_of at.count
value_given start at given.Rc = written at.code
value_given start at given.Retcode = written at.code
value_given start at given.Line = decimal_of at.line
value_given start at given.Linenum = decimal_of at.line
value_given start at given.Depth = decimal_of at.depth
value_given start at given.From = decimal_of at.from
value_given start at given.Filename = start.name
value_given start at given.Filetype = start.kind
value_given start at given.Filemode = start.mode
value_given start at given.Date = date_of at.moment
value_given start at given.Time = time_of at.moment
value_given start at given.Blank = 0x40 ∷ []
value_given start at given.Argstring = start.rest
value_given start at given.Cmdstring = start.called

-- ---- what the names in a statement stand for

-- a digit other than 0
abbrev pub is_first_digit : ℕ → Bool
is_first_digit byte = nat_le 0xF1 byte && nat_le byte 0xF9

-- an argument's name is a number from 1 without leading zeros
unfoldable pub is_argument : Text → Bool
is_argument [] = false
is_argument (first ∷ digits) = is_first_digit first && list_all is_digit digits

-- the variables among which a name belongs
abbrev pub table_of : Variables → Text → Vars
table_of v name = if is_argument name then v.arguments else v.others

-- the value of a name: given, else as it was set
abbrev pub known_by : Option Predefined → AtStart → Standing → Variables → Text → Text
known_by (Some g) start at v name = value_given start at g
known_by None start at v name = value_of (table_of v name) name

-- a name that is given has that value, and any other the one that was set
unfoldable pub known : AtStart → Standing → Variables → Binding
known start at v name = known_by (given_of name) start at v name

-- what each name stands for in a statement
abbrev pub bound : Seen → Binding
bound seen = known seen.start.now seen.standing seen.variables.now

-- where a procedure stands, as the given names tell it
abbrev pub standing_at : Exec → ℕ → Moment → Standing
standing_at s line moment =
    record { count = s.count; code = s.code; line = line; depth = length s.calls; from = line_of_last s.calls; moment = moment }

-- what the names stand for at a line and a moment
abbrev pub seen_at : Exec → ℕ → Moment → Binding
seen_at s line moment = known s.start (standing_at s line moment) s.variables

-- what they stand for in the statement that runs
abbrev pub seen : Exec → Binding
seen s = seen_at s s.line s.moment
