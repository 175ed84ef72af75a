-- A statement, the next line, and the calls of `Exec`.
use Rattle.std.specs.Prelude.{◌≡◌, ℕ, ◌+◌, nat_le, nat_lt, Bool, true, false, not, ◌&&◌, if◌then◌else◌, List, [], ◌∷◌, drop, length, slice_get, Option, Some, None, is_some, ok_or, Result, Ok, Err, ℤ, pos, negsuc}
use Rattle.std.specs.Option.{option_map_or}
use Rattle.std.specs.Ordering.{int_eq}
use Rattle.std.specs.FinMap as finite
use Rattle.cms_fields.specs.Steps.{◌>>=◌, ◌>>◌}
use Rattle.cms_fields.specs.Moments.{first_moment}
use Rattle.cms_fields.specs.declared.time.Moment.{Moment}
use Rattle.cms_text.specs.Texts.{Text}
use Rattle.exec2_parse.specs.Expansion.{Binding}
use Rattle.cms_text.specs.Numbers.{number_of}
use Rattle.exec2_run.specs.Given.{seen}
use Rattle.exec2_run.specs.Faults.{number_of_fault}
use Rattle.exec2_run.specs.Assignments.{assigned}
use Rattle.exec2_run.specs.Calls.{called, returned}
use Rattle.exec2_run.specs.Comparisons.{comparison_of, holds}
use Rattle.exec2_run.specs.Destinations.{presumed, sent, subcommanded}
use Rattle.exec2_run.specs.Given.{at_start, behind_name}
use Rattle.exec2_run.specs.Jumps.{gone, skipped}
use Rattle.exec2_parse.specs.Kinds.{is_if, kind_of}
use Rattle.exec2_run.specs.Loops.{looped, settled_loops}
use Rattle.exec2_run.specs.Outputs.{issued, stacked, stacked_block, typed, typed_block}
use Rattle.exec2_run.specs.Readings.{args_given, read, taken_for}
use Rattle.exec2_run.specs.State.{Exec, Step, still}
use Rattle.exec2_run.specs.Values.{ended, operands, value, whole}
use Rattle.exec2_run.specs.Variables.{with_arguments}
use Rattle.exec2_parse.specs.Words.{statement_on, words_of}
use Rattle.exec2_run.specs.declared.destination.Destination.TheVariants as destination
use Rattle.exec2_run.specs.declared.exec.ErrorAction.{ErrorAction}
use Rattle.exec2_run.specs.declared.exec.ErrorAction.TheVariants.{Idle, Due, Running}
use Rattle.exec2_run.specs.declared.exec.FileName.{FileName}
use Rattle.exec2_parse.specs.declared.kind.Control.{Control}
use Rattle.exec2_parse.specs.declared.kind.Control.TheVariants as control
use Rattle.exec2_parse.specs.declared.kind.Kind.{Kind}
use Rattle.exec2_parse.specs.declared.kind.Kind.TheVariants as kind
use Rattle.exec2_run.specs.declared.asked_line.Reading.TheVariants as reading
use Rattle.exec2_run.specs.declared.want.Want.{Want}
use Rattle.exec2_run.specs.declared.want.Want.TheVariants.{Next, Ended, Failed}
use Rattle.exec2_run.specs.declared.fault.Fault.{Fault}
use Rattle.exec2_run.specs.declared.given.AtStart.{AtStart}
use Rattle.exec2_run.specs.declared.fault.Fault.TheVariants.{NotNumber, BadStatement, StackFull}

-- ---- &EXIT and &ERROR

-- a code from -9999 to 99999
abbrev pub exit_code_by : Option ℤ → Result ℤ Fault
exit_code_by (Some (pos n)) = if nat_le n 99999 then Ok (pos n) else Err NotNumber
exit_code_by (Some (negsuc n)) = if nat_lt n 9999 then Ok (negsuc n) else Err NotNumber
exit_code_by None = Err NotNumber

-- a code from -9999 to 99999
abbrev pub exit_code : Text → Result ℤ Fault
exit_code word = exit_code_by (number_of word)

-- &EXIT, with its words
abbrev pub exited_by : List Text → Bool → Result Want Fault
exited_by [] is_cut = do
  whole is_cut
  Ok (Ended (pos 0))
exited_by (word ∷ others) is_cut = do
  code ← exit_code word
  ended others is_cut
  Ok (Ended code)

-- &EXIT, with a code or without
unfoldable pub exited : Exec → List Text → Result Want Fault
exited s words = exited_by (operands (seen s) words).words (operands (seen s) words).is_cut

-- &ERROR and a statement that is kept unexpanded, or alone
abbrev pub action_of : List Text → Option (List Text)
action_of [] = None
action_of (word ∷ words) = Some (word ∷ words)

-- the error action is these words, or none
abbrev pub with_error : Exec → List Text → Exec
with_error s words = record s { error = action_of words }

-- ---- &IF a op b statement

-- the comparison of an &IF, its values from left to right
abbrev pub compared : Binding → Text → Text → Text → Result Bool Fault
compared names left sign right = do
  a ← value names left
  comparison ← ok_or (comparison_of sign) BadStatement
  b ← value names right
  Ok (holds comparison a b)

-- the fault of an &IF that lacks words
abbrev pub fault_of_if : Binding → List Text → Result Fault Fault
fault_of_if names (word ∷ left ∷ words) = do
  a ← value names left
  Ok BadStatement
fault_of_if names words = Ok BadStatement

-- the statement behind an &IF, or nothing
abbrev pub if_holds : Bool → Result (List Text) Fault → Result (List Text) Fault
if_holds holds statement = if holds then statement else Ok []

-- an &IF without its three words
abbrev pub incomplete : Binding → List Text → Result (List Text) Fault
incomplete names words = do
  fault ← fault_of_if names words
  Err fault

-- the statement that runs: of an &IF what follows it, or nothing where the comparison doesn't hold
unfoldable pub guarded : Binding → List Text → Result (List Text) Fault
guarded names (word ∷ left ∷ sign ∷ right ∷ words) =
    if is_if (word ∷ left ∷ sign ∷ right ∷ words)
    then (do
      holds ← compared names left sign right
      if_holds holds (guarded names words))
    else Ok (word ∷ left ∷ sign ∷ right ∷ words)
guarded names words = if is_if words then incomplete names words else Ok words

-- ---- statements

-- what a control word does
unfoldable pub run_control : Control → Exec → List Text → Step
run_control control.Trace s words = Ok (s, Next)
run_control control.Type s words = still s (typed s words)
run_control control.BegType s words = typed_block s words
run_control control.Stack s words = still s (stacked s words)
run_control control.BegStack s words = stacked_block s words
run_control control.End s words = Ok (s, Next)
run_control control.Command s words = still s (issued s words)
run_control control.Subcommand s words = still s (subcommanded s words)
run_control control.Presume s words = presumed s words
run_control control.Read s words = read s words
run_control control.Args s words = args_given s words
run_control control.If s words = Ok (s, Next)
run_control control.Goto s words = gone s words
run_control control.Skip s words = skipped s words
run_control control.Loop s words = looped s words
run_control control.Call s words = called s words
run_control control.Return s words = returned s words
run_control control.Error s words = Ok (with_error s words, Next)
run_control control.Exit s words = still s (exited s words)

-- what a statement does, by its kind
abbrev pub run_by : Kind → Exec → List Text → Step
run_by kind.Nothing s words = Ok (s, Next)
run_by kind.Assignment s words = assigned s words
run_by (kind.Control c) s words = run_control c s (drop 1 words)
run_by kind.Command s words = still s (sent s words)

-- a statement that no &IF guards
unfoldable pub run_kind : Exec → List Text → Step
run_kind s words = run_by (kind_of words) s words

-- a statement, behind its &IFs
unfoldable pub run : Exec → List Text → Step
run s words = do
  statement ← guarded (seen s) words
  run_kind s statement

-- ---- one turn

-- the error action runs next
abbrev pub is_due : ErrorAction → Bool
is_due Idle = false
is_due Due = true
is_due Running = false

-- the words of the next line's statement
abbrev pub words_at : Exec → List Text
words_at s = option_map_or statement_on (slice_get s.lines s.next) []

-- the next line becomes the statement's, and the one behind it the next
abbrev pub past_line : Exec → Exec
past_line s = if nat_lt s.next (length s.lines) then record s { next = s.next + 1; line = s.next + 1 } else s

-- the error action runs where it is due, as if on the command's line
abbrev pub advanced : Moment → Exec → Exec
advanced moment s =
    if is_due s.action then record s { action = Running; moment = moment } else past_line (record s { action = Idle; moment = moment })

-- the words of the error action
abbrev pub action_words : Option (List Text) → List Text
action_words (Some words) = words
action_words None = []

-- the words of the statement that is due
abbrev pub due_words : Exec → List Text
due_words s = if is_due s.action then action_words s.error else words_at s

-- a fault is that of a line
abbrev pub at_line : {A : Type 0} → ℕ → Result A Fault → Result A (Fault × ℕ)
at_line line (Ok a) = Ok a
at_line line (Err fault) = Err (fault, line)

-- the statement that is due, with the variables that are given at its line and moment
unfoldable pub turned : Moment → Exec → Result (Exec × Want) (Fault × ℕ)
turned moment s = at_line (advanced moment s).line (run (advanced moment s) (due_words s))

-- ---- between two statements

-- past the last line the procedure has ended
abbrev pub at_next : Exec → Want
at_next s = if nat_lt s.next (length s.lines) then Next else Ended (pos 0)

-- a procedure that finds its next line, with the tests of its loops
unfoldable pub settled : Moment → Exec → Result (Exec × Want) (Fault × ℕ)
settled moment s = if is_due s.action then Ok (s, Next) else (do
  t ← settled_loops moment s
  Ok (t, at_next t))

-- ---- answers

-- the next statement follows; or a fault, with its line
abbrev pub with_next : Exec → Result Exec Fault → Result (Exec × Want) (Fault × ℕ)
with_next s (Ok t) = Ok (t, Next)
with_next s (Err fault) = Err (fault, s.line)

-- the line that was asked for
unfoldable pub line_taken : Exec → Text → Result (Exec × Want) (Fault × ℕ)
line_taken s line = with_next s (taken_for s.reading (record s { reading = reading.Nothing }) line)

-- the error action runs
abbrev pub is_running : ErrorAction → Bool
is_running Idle = false
is_running Due = false
is_running Running = true

-- the code of a command is kept; with one other than 0 the error action is due, unless it issued the command
abbrev pub action_after : Exec → ℤ → ErrorAction
action_after s code = if not (int_eq code (pos 0)) && (is_some s.error && not (is_running s.action)) then Due else Idle

-- the last command's code is this
unfoldable pub code_taken : Exec → ℤ → Exec
code_taken s code = record s { code = code; action = action_after s code }

-- the program stack has no room for the lines: fault 13, and the state stays
abbrev pub refused : Exec → Result (Exec × Want) (Fault × ℕ)
refused s = Ok (s, Failed (number_of_fault StackFull) s.line)

-- ---- the start

-- before its first line it has no arguments, and its commands go to CMS
abbrev pub before_first : List Text → AtStart → Exec
before_first lines start = record {
  lines = lines;
  next = 0;
  line = 0;
  moment = first_moment;
  start = start;
  variables = record { arguments = finite.empty; others = finite.empty };
  count = 0;
  loops = [];
  calls = [];
  error = None;
  action = Idle;
  code = pos 0;
  destination = destination.Cms;
  reading = reading.Nothing;
}

-- the procedure begins with its arguments; a line has no more than 1,000 words
unfoldable pub begun : List Text → Text → FileName → Result Exec Fault
begun lines called f = with_arguments (before_first lines (at_start called f)) (words_of (behind_name called))

-- ---- what a call answers

-- the defined state and want, or the fault and its line, after which the procedure stands as before the call
abbrev pub Takes : Result (Exec × Want) (Fault × ℕ) → Exec → Exec → Want → Type 0
Takes (Ok moved) old new want = (new ≡ moved.0) × (want ≡ moved.1)
Takes (Err failure) old new want = (new ≡ old) × (want ≡ Failed (number_of_fault failure.0) failure.1)
