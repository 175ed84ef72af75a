-- A procedure that runs, and a step of it.
use Rattle.std.specs.Prelude.{ℕ, ℤ, List, Option, Result, Ok, Err}
use Rattle.cms_fields.specs.declared.time.Moment.{Moment}
use Rattle.cms_text.specs.Texts.{Text}
use Rattle.exec2_run.specs.declared.calls.Call.{Call}
use Rattle.exec2_run.specs.declared.destination.Destination.{Destination}
use Rattle.exec2_run.specs.declared.exec.ErrorAction.{ErrorAction}
use Rattle.exec2_run.specs.declared.fault.Fault.{Fault}
use Rattle.exec2_run.specs.declared.given.AtStart.{AtStart}
use Rattle.exec2_run.specs.declared.loops.Loop.{Loop}
use Rattle.exec2_run.specs.declared.asked_line.Reading.{Reading}
use Rattle.exec2_run.specs.declared.variables.Variables.{Variables}
use Rattle.exec2_run.specs.declared.want.Want.{Want}

-- what there is of a procedure that runs
pub record Exec : Type 0 where
  -- its lines, and the place of the next one, from 0
  pub lines : List Text
  pub next : ℕ
  -- the line of the statement or test that ran last, from 1, and the moment of that statement
  pub line : ℕ
  pub moment : Moment
  -- what is fixed at its start
  pub start : AtStart
  -- the variables that are set, and how many arguments there are
  pub variables : Variables
  pub count : ℕ
  -- the open loops, the innermost first, and the open calls, the last one first
  pub loops : List Loop
  pub calls : List Call
  -- the words of the error action, unexpanded, and whether it is due or running
  pub error : Option (List Text)
  pub action : ErrorAction
  -- the last command's code
  pub code : ℤ
  -- where commands go
  pub destination : Destination
  -- what a line is asked for
  pub reading : Reading

-- the state that a statement leaves and what it wants, or its fault
abbrev pub Step : Type 0
Step = Result (Exec × Want) Fault

-- what a statement wants that changes nothing
abbrev pub still : Exec → Result Want Fault → Step
still s (Ok want) = Ok (s, want)
still s (Err fault) = Err fault
