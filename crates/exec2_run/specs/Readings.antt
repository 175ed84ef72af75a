-- &READ, the line that it asks for, and &ARGS (VM/SP EXEC 2 Reference, &READ and &ARGS).
use Rattle.std.specs.Prelude.{if◌then◌else◌, List, [], ◌∷◌, ◌++◌, codes, Result, Ok, Err}
use Rattle.cms_fields.specs.Steps.{◌>>=◌, ◌>>◌}
use Rattle.cms_text.specs.Texts.{Text, is_keyword}
use Rattle.exec2_parse.specs.Expansion.{Binding}
use Rattle.exec2_run.specs.Outputs.{no_words}
use Rattle.exec2_run.specs.Given.{seen}
use Rattle.exec2_run.specs.State.{Exec, Step}
use Rattle.exec2_run.specs.Values.{operands, whole}
use Rattle.exec2_run.specs.Variables.{each_set, target, with_arguments, with_variable, with_variables}
use Rattle.exec2_parse.specs.Words.{words_of}
use Rattle.exec2_run.specs.declared.asked_line.Reading.{Reading}
use Rattle.exec2_run.specs.declared.asked_line.Reading.TheVariants as reading
use Rattle.exec2_run.specs.declared.want.Want.TheVariants.{Next, Read}
use Rattle.exec2_run.specs.declared.fault.Fault.{Fault}
use Rattle.exec2_run.specs.declared.fault.Fault.TheVariants.{BadStatement}

-- &ARGS words: they become the arguments
unfoldable pub args_given : Exec → List Text → Step
args_given s words = do
  whole (operands (seen s) words).is_cut
  t ← with_arguments s (operands (seen s) words).words
  Ok (t, Next)

-- each word is written as an assignment's target
unfoldable pub names : Binding → List Text → Result (List Text) Fault
names binding [] = Ok []
names binding (word ∷ words) = do
  name ← target binding word
  others ← names binding words
  Ok (name ∷ others)

-- names in front of others
abbrev pub in_front : List Text → Result (List Text) Fault → Result (List Text) Fault
in_front front (Ok more) = Ok (front ++ more)
in_front front (Err fault) = Err fault

-- STRING name
abbrev pub reading_of_text : Exec → List Text → Result Reading Fault
reading_of_text s [] = Err BadStatement
reading_of_text s (word ∷ words) = do
  name ← target (seen s) word
  no_words s words
  Ok (reading.Text name)

-- &READ ARGS
abbrev pub reading_of_args : Exec → List Text → Result Reading Fault
reading_of_args s words = do
  no_words s words
  Ok reading.Arguments

-- VARS names
abbrev pub reading_of_names : Exec → List Text → Result Reading Fault
reading_of_names s words = do
  all ← names (seen s) words
  Ok (reading.Variables all)

-- what the line is asked for
unfoldable pub reading_of : Exec → List Text → Result Reading Fault
reading_of s [] = Err BadStatement
reading_of s (word ∷ words) =
    if is_keyword (codes "ARGS") word then reading_of_args s words
    else (if is_keyword (codes "VARS") word then reading_of_names s words
    else (if is_keyword (codes "STRING") word then reading_of_text s words
    else Err BadStatement))

-- &READ ARGS, &READ VARS names, &READ STRING name
unfoldable pub read : Exec → List Text → Step
read s words = do
  for ← reading_of s words
  Ok (record s { reading = for }, Read)

-- the line that was asked for
unfoldable pub taken_for : Reading → Exec → Text → Result Exec Fault
taken_for reading.Nothing s line = Ok s
taken_for reading.Arguments s line = with_arguments s (words_of line)
taken_for (reading.Variables names) s line = with_variables s (each_set names (words_of line) s.variables)
taken_for (reading.Text name) s line = with_variable s name line
