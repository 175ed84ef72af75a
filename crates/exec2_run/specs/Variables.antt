-- Variables that are set, the arguments among them (VM/SP EXEC 2 Reference, variables and arguments).
use Rattle.std.specs.Prelude.{◌≡◌, ℕ, ◌+◌, ◌==◌, nat_le, Bool, true, false, ◌||◌, if◌then◌else◌, List, [], ◌∷◌, map, length, drop, is_some, Option, Some, None, Result, Ok, Err}
use Rattle.std.specs.FinMap.{empty, get, insert, len, remove}
use Rattle.std.specs.List.{list_all}
use Rattle.cms_fields.specs.Steps.{◌>>=◌, ◌>>◌}
use Rattle.cms_ebcdic.specs.CodePage.{upper_of}
use Rattle.cms_text.specs.Numbers.{decimal_of}
use Rattle.cms_text.specs.Texts.{Text}
use Rattle.exec2_parse.specs.Expansion.{Binding, ampersands}
use Rattle.exec2_parse.specs.Variables.{Vars}
use Rattle.exec2_run.specs.Values.{value}
use Rattle.exec2_run.specs.Given.{is_argument, is_given, table_of}
use Rattle.exec2_run.specs.State.{Exec, Step}
use Rattle.exec2_run.specs.declared.want.Want.TheVariants.{Next}
use Rattle.exec2_run.specs.declared.variables.Variables.{Variables}
use Rattle.exec2_run.specs.declared.fault.Fault.{Fault}
use Rattle.exec2_run.specs.declared.fault.Fault.TheVariants.{BadStatement, Given, TooManyVariables}

-- a name that may be set
abbrev pub settable : Text → Result Text Fault
settable name = if is_given name then Err Given else Ok name

-- the name that is written as an assignment's target: its first ampersand stands, and what follows is expanded and folded
unfoldable pub target : Binding → Text → Result Text Fault
target names [] = Err BadStatement
target names (byte ∷ bytes) = if byte == 0x50 then (do
  name ← value names bytes
  settable (map upper_of name)) else Err BadStatement

-- a word is an ampersand and this name of a variable, which stands in capital letters, has no ampersand and isn't given
pub record NamesVariable (word name : Text) : Type 0 where
  pub word_is : word ≡ 0x50 ∷ name
  pub plain : ampersands name ≡ 0
  pub folded : list_all (λ byte. upper_of byte == byte) name ≡ true
  pub own : is_given name ≡ false

-- so many variables, of which at most 1,000 are set
abbrev pub room_for : ℕ → Result (Unit {0}) Fault
room_for n = if nat_le n 1000 then Ok tt else Err TooManyVariables

-- a name that is set may be set again, and another where fewer than 1,000 are set, the arguments among them
abbrev pub has_room : Variables → Text → Bool
has_room v name = is_some (get (table_of v name) name) || nat_le (len v.arguments + len v.others + 1) 1000

-- the arguments or the other variables are these
abbrev pub with_table : Variables → Text → Vars → Variables
with_table v name table = if is_argument name then record v { arguments = table } else record v { others = table }

-- a variable is set
unfoldable pub with_value : Variables → Text → Text → Result Variables Fault
with_value v name value =
    if has_room v name then Ok (with_table v name (insert (table_of v name) name value)) else Err TooManyVariables

-- a variable that was set is taken back: it has the value that it had before, or none
unfoldable pub taken_back : Variables → Text → Option Text → Variables
taken_back v name None = with_table v name (remove (table_of v name) name)
taken_back v name (Some value) = with_table v name (insert (table_of v name) name value)

-- the first word, or the empty one
abbrev pub first_or_empty : List Text → Text
first_or_empty [] = []
first_or_empty (word ∷ words) = word

-- each name takes a word, those past the last word the empty one
unfoldable pub each_set : List Text → List Text → Variables → Result Variables Fault
each_set [] words v = Ok v
each_set (name ∷ names) words v = do
  w ← with_value v name (first_or_empty words)
  each_set names (drop 1 words) w

-- these as &1 and on, from this number on
unfoldable pub numbered : ℕ → List Text → Vars → Vars
numbered n [] table = table
numbered n (value ∷ values) table = numbered (n + 1) values (insert table (decimal_of n) value)

-- ---- in the state

-- a procedure with other variables, or their fault
abbrev pub with_variables : Exec → Result Variables Fault → Result Exec Fault
with_variables s (Ok v) = Ok (record s { variables = v })
with_variables s (Err fault) = Err fault

-- a variable is set
abbrev pub with_variable : Exec → Text → Text → Result Exec Fault
with_variable s name value = with_variables s (with_value s.variables name value)

-- a variable is set, and nothing is wanted
abbrev pub set_to : Exec → Text → Text → Step
set_to s name value = do
  t ← with_variable s name value
  Ok (t, Next)

-- the arguments are these, so many
abbrev pub all_arguments : Exec → Vars → ℕ → Exec
all_arguments s arguments count = record s { variables = record { arguments = arguments; others = s.variables.others }; count = count }

-- these become the arguments, and no others are set
unfoldable pub with_arguments : Exec → List Text → Result Exec Fault
with_arguments s values = do
  room_for (len s.variables.others + length values)
  Ok (all_arguments s (numbered 1 values empty) (length values))
