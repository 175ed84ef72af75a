-- EXEC fn [words], and a line whose first word is the name of a procedure: the procedure's file is read whole, and the procedure begins.
use Rattle.std.specs.Prelude.{ℕ, pos, ◌+◌, nat_le, if◌then◌else◌, List, [], codes, drop, length, slice_get, Option, Some, None, Result, Ok, Err}
use Rattle.std.specs.Option.{option_map_or}
use Rattle.cms_fields.specs.Steps.{◌>>=◌}
use Rattle.cms_text.specs.Numbers.{decimal_of}
use Rattle.cms_text.specs.Texts.{Text, coded}
use Rattle.cms_model.specs.Acts.{Act, Done, bind}
use Rattle.cms_line.specs.declared.message.Message.TheVariants.{M002, M086, M120}
use Rattle.cms_line.specs.declared.token.Token.{Token}
use Rattle.cms_operands.specs.Operands.{name, needed}
use Rattle.cms_operands.specs.Refusals.{code_of, message_of}
use Rattle.cms_operands.specs.declared.refusal.Refusal.{Refusal}
use Rattle.cms_search.specs.Calls.{Meaning, course_of, machine_of}
use Rattle.cms_search.specs.ChangeTold.{limited}
use Rattle.cms_search.specs.DeviceSteps.{reading, silently}
use Rattle.cms_search.specs.Machine.{Machine, Course, Went, letter_at, refusal}
use Rattle.cms_search.specs.Refusals.{device_fault}
use Rattle.cms_search.specs.Units.{vdev_of}
use Rattle.cms_search.specs.declared.fault.SearchFault.{SearchFault}
use Rattle.cms_search.specs.declared.state.State.{State}
use Rattle.cms_files.specs.Files.{UnitFile, file_on, no_file_code}
use Rattle.cms_files.specs.Identifiers.{exec_kind}
use Rattle.exec2_parse.specs.Procedures.{procedure_of}
use Rattle.exec2_parse.specs.declared.procedure.ProcFault.{ProcFault}
use Rattle.exec2_parse.specs.declared.procedure.ProcFault.TheVariants.{NotExec2, LineTooLong, TooManyLines, Memory}
use Rattle.exec2_run.specs.Faults.{number_of_fault}
use Rattle.exec2_run.specs.Steps.{begun}
use Rattle.exec2_run.specs.State.{Exec}
use Rattle.exec2_run.specs.declared.exec.FileName.{FileName}
use Rattle.exec2_run.specs.declared.fault.Fault.{Fault}
use Rattle.cms_exec.specs.Searches.{procedure_named}
use Rattle.cms_exec.specs.declared.start.Started as declared
use Rattle.cms_exec.specs.declared.start.Started.TheVariants as came

-- ---- what a call comes to

-- the procedure has begun, before its first statement; or it was refused, and the command ended so
pub data Starting : Type 0 where
  HasBegun : Machine → Exec → Starting
  IsRefused : Course → Starting

-- a refusal ends the call
abbrev pub refused : Act Course → Act Starting
refused t = bind t (λ course. Done (IsRefused course))

-- what a value of the program means, with the state that it leaves
abbrev pub started_of : State → Meaning declared.Started Starting
started_of s units (came.Begun exec) = HasBegun (machine_of s units) exec
started_of s units (came.Refused course) = IsRefused (course_of s units course)

-- ---- refusals

-- how many procedures may run at a time, and the number of that limit
abbrev pub most_running : ℕ
most_running = 50

-- the number of the limit of procedures that run
abbrev pub running_limit : ℕ
running_limit = 5

-- as many procedures run as may
abbrev pub too_many : Machine → Act Course
too_many s = refusal s (M120 (decimal_of running_limit)) limited

-- no disk has the procedure
abbrev pub no_procedure : Machine → List ℕ → Act Course
no_procedure s file = refusal s (M002 file exec_kind (coded (codes "*"))) no_file_code

-- why a file isn't run, by its number; want of memory is never told
abbrev pub reason_of : ProcFault → ℕ
reason_of NotExec2 = 1
reason_of (LineTooLong line) = 2
reason_of TooManyLines = 3
reason_of Memory = 0

-- a procedure that isn't run has this code and the reason's number, one that stopped that and the fault's
abbrev pub not_run_code : ℕ
not_run_code = 10100

-- the code of a procedure that stopped, to which its fault's number is added
abbrev pub stopped_code : ℕ
stopped_code = 10000

-- the file is no procedure that can be run, for this reason
abbrev pub not_run : Machine → List ℕ → ℕ → Act Course
not_run s file reason = refusal s (M086 file (decimal_of reason)) (not_run_code + reason)

-- ---- the start

-- the state before its first statement; called by a line it always begins, as a law says
abbrev pub begins : Machine → Result Exec Fault → Act Starting
begins s (Ok exec) = Done (HasBegun s exec)
begins s (Err fault) = Done (IsRefused (Went s (pos (stopped_code + number_of_fault fault))))

-- the procedure of these lines begins; or the file is none: 086
abbrev pub beginning : Machine → Text → FileName → Result (List Text) ProcFault → Act Starting
beginning s called f (Ok lines) = begins s (begun lines called f)
beginning s called f (Err why) = refused (not_run s f.name.file (reason_of why))

-- all records of a file are read, and the procedure in them begins: 105, 086
abbrev pub read_whole : Machine → Text → FileName → UnitFile → Act Starting
read_whole s called f x =
    reading silently x.unit x.file (length x.file.records) (beginning s called f (procedure_of x.file.records))
    (refused (device_fault s (vdev_of s x.unit)))

-- the procedure's file is read and begins, where it is there; else it isn't found
abbrev pub read_found : Machine → Text → FileName → Result UnitFile SearchFault → Act Starting
read_found s called f (Ok x) = read_whole s called f x
read_found s called f (Err why) = refused (no_procedure s f.name.file)

-- the same, looked up on the letter on which it was found
abbrev pub read_there : Machine → Text → FileName → Act Starting
read_there s called f = read_found s called f (file_on s f.name (letter_at s f.letter))

-- a procedure that was found begins, called by a line, where so many run: 120 with 5, 105, 086
abbrev pub starting : ℕ → Machine → Text → FileName → Act Starting
starting running s called f = if nat_le most_running running then refused (too_many s) else read_there s called f

-- ---- the line

-- the line from the word in a place on, as it was given
abbrev pub line_from : ℕ → Text → List Token → Text
line_from place line words = option_map_or (λ word. drop word.start line) (slice_get words place) []

-- EXEC's operand. What stands behind it isn't looked at, and a parenthesis isn't told from other words.
unfoldable pub exec_operand : List Token → Result (List ℕ) Refusal
exec_operand words = do
  text ← needed words 1
  name 1 text

-- goes on with the procedure of a name, or it isn't found
abbrev pub on_procedure : Machine → List ℕ → (FileName → Act Starting) → Option FileName → Act Starting
on_procedure s file next (Some f) = next f
on_procedure s file next None = refused (no_procedure s file)

-- the procedure of a name begins, which is found first over all disks: 002, 120 with 5, 105, 086
abbrev pub start_named : ℕ → Machine → Text → List ℕ → Act Starting
start_named running s called file = on_procedure s file (λ f. starting running s called f) (procedure_named s file)

-- the procedure of EXEC's operand begins, or the operand is refused
abbrev pub exec_operands : ℕ → Machine → Text → List Token → Result (List ℕ) Refusal → Act Starting
exec_operands running s called words (Ok file) = start_named running s called file
exec_operands running s called words (Err why) = refused (refusal s (message_of words why) (code_of why))

-- EXEC fn [words], where so many procedures run: 054, 062, 002, 120 with 5, 105, 086. The procedure is called by the line from its name on.
abbrev pub exec_command : ℕ → Machine → Text → List Token → Act Starting
exec_command running s line words = exec_operands running s (line_from 1 line words) words (exec_operand words)

-- a line whose first word is the name of the procedure that was found: 120 with 5, 105, 086
abbrev pub call_command : ℕ → Machine → Text → List Token → FileName → Act Starting
call_command running s line words f = starting running s (line_from 0 line words) f
