-- The procedures of a session: a statement of the newest is run in a turn, and what it wants is met.
use Rattle.std.specs.Prelude.{ℕ, zero, suc, ℤ, pos, ◌+◌, nat_le, if◌then◌else◌, List, [], ◌∷◌, length, Option, Some, None, Ok, Err}
use Rattle.cms_text.specs.Numbers.{decimal_of}
use Rattle.cms_model.specs.Acts.{Act, Done, Out, Turn, bind, typed_line}
use Rattle.cms_model.specs.Objects.{Object}
use Rattle.cms_line.specs.Messages.{message_text}
use Rattle.cms_line.specs.Stack.{most_lines}
use Rattle.cms_line.specs.declared.message.Message.TheVariants.{M085}
use Rattle.cms_search.specs.Asks.{Asked, Given, Spent, ask}
use Rattle.cms_search.specs.Machine.{Machine, turned, Course, Went, OutOfTurns, typing}
use Rattle.cms_search.specs.Places.{after}
use Rattle.cms_search.specs.Ready.{ready_line}
use Rattle.cms_search.specs.declared.place_event.PlaceEvent.TheVariants as event
use Rattle.cms_files.specs.StackedLines.{stacked}
use Rattle.cms_files.specs.declared.stack.StackEnd.{StackEnd}
use Rattle.cms_files.specs.declared.stack.StackEnd.TheVariants as end
use Rattle.cms_exec.specs.Exec.{stopped_code}
use Rattle.exec2_run.specs.Faults.{number_of_fault}
use Rattle.exec2_run.specs.Relation.{Moved}
use Rattle.exec2_run.specs.Steps as exec
use Rattle.exec2_run.specs.State.{Exec}
use Rattle.exec2_run.specs.declared.want.Side.{Side}
use Rattle.exec2_run.specs.declared.want.Side.TheVariants.{Front, Back}
use Rattle.exec2_run.specs.declared.want.Want.{Want}
use Rattle.exec2_run.specs.declared.want.Want.TheVariants.{Next, Say, Stack, Read, Command, Sub, Ended, Failed}
use Rattle.cms_ext.specs.Extensions.{Desk, desk}
use Rattle.cms_ext.specs.Extensions as extension
use Rattle.cms_cards.specs.PunchedCards.{Decks}
use Rattle.cms_session.specs.Decks.{leaving_decks}
use Rattle.cms_session.specs.Lines.{Issued, Came, Begins, issued}
use Rattle.cms_session.specs.Subcommands.{sent_line}
use Rattle.cms_session.specs.declared.state.Finish.{Finish}
use Rattle.cms_session.specs.declared.state.Finish.TheVariants as finish

-- ---- the state

-- the machine, and the procedures that run, the newest first
pub record Session : Type 0 where
  pub machine : Machine
  pub procedures : List Exec

-- no procedure runs
abbrev pub idle : Machine → Session
idle m = record { machine = m; procedures = [] }

-- how a round ends: so that the session ends, or another may follow
pub data Round : Type 0 where
  Ends : Finish → Round
  Ready : Session → Round

-- the ready line, which forgets the reading places
abbrev pub readied : Session → ℤ → Act Round
readied s code =
    Out (typed_line (ready_line code)) (Done (Ready (record { machine = record s.machine { places = after event.Ready s.machine.places }; procedures = s.procedures })))

-- ---- how a procedure ends

-- what a call of a procedure leaves of it, and what it wants then; a fault leaves it as it was
abbrev pub came_to : Exec → Moved → Exec × Want
came_to p (Ok moved) = moved
came_to p (Err failure) = (p, Failed (number_of_fault failure.0) failure.1)

-- it has ended with this code, which is that of its fault behind the message; or it hasn't
abbrev pub over : Exec → Want → Act (Option ℤ)
over p (Ended code) = Done (Some code)
over p (Failed number line) =
    Out (typed_line (message_text (M085 p.start.name (decimal_of line) (decimal_of number)))) (Done (Some (pos (stopped_code + number))))
over p Next = Done None
over p (Say lines) = Done None
over p (Stack lines side) = Done None
over p Read = Done None
over p (Command line) = Done None
over p (Sub word text) = Done None

-- the code goes on, or something else follows
abbrev pub unless_over : (ℤ → Act Round) → Act Round → Option ℤ → Act Round
unless_over give next (Some code) = give code
unless_over give next None = next

-- ---- between two statements

-- at the moment of its last statement a procedure finds its next line, where it waits for a turn; or it has ended, and its code goes on
abbrev pub finding : Machine → List Exec → (ℤ → Act Round) → Exec × Want → Act Round
finding m ps give x = bind (over x.0 x.1) (unless_over give (Done (Ready (record { machine = m; procedures = x.0 ∷ ps }))))

-- a procedure that has found its next line, or has met its end or a fault, with what it wants then
abbrev pub settled : Exec → Exec × Want
settled p = came_to p (exec.settled p.moment p)

-- a code goes to the newest of these procedures, as that of the line that it issued; one that has ended so gives its own to the next, and
-- the last gives it to CMS
unfoldable pub giving : List Exec → Machine → ℤ → Act Round
giving [] m code = readied (idle m) code
giving (p ∷ ps) m code = finding m ps (giving ps m) (settled (exec.code_taken p code))

-- the newest procedure, above these, goes on
abbrev pub going_on : Machine → List Exec → Exec → Act Round
going_on m ps p = finding m ps (giving ps m) (settled p)

-- it goes on, but where it has ended
abbrev pub following : Machine → List Exec → Exec × Want → Act Round
following m ps x = bind (over x.0 x.1) (unless_over (giving ps m) (going_on m ps x.0))

-- ---- what a line came to

-- a command's code goes to the newest procedure, or to CMS; or no turn was left for a line that it asked for
abbrev pub ended : List Exec → Course → Act Round
ended ps (Went m code) = giving ps m code
ended ps OutOfTurns = Done (Ends finish.AtTurns)

-- ---- beside the objects

-- how a round ends that may have asked or dropped objects: so that the session ends, or another may follow
pub data Passed : Type 0 where
  Stops : Finish → Passed
  Goes : Desk → List Exec → Passed

-- how one ends that leaves these objects
abbrev pub passed : List Object → Round → Passed
passed objects (Ends end) = Stops end
passed objects (Ready s) = Goes (desk s.machine objects) s.procedures

-- what procedures do by themselves asks and drops no object, so it leaves them
abbrev pub leaving : List Object → Act Round → Act Passed
leaving objects t = bind t (λ r. Done (passed objects r))

-- what a line came to: its code goes to the newest procedure, or to CMS; or no turn was left; or a procedure goes on that has begun
abbrev pub answered : List Exec → Issued → Act Passed
answered ps (Came (extension.Went d code)) = leaving d.objects (giving ps d.machine code)
answered ps (Came extension.OutOfTurns) = Done (Stops finish.AtTurns)
answered ps (Begins d p) = leaving d.objects (going_on d.machine ps p)

-- the same beside the decks that the line left
abbrev pub answered_beside : List Exec → Issued × Decks → Act (Passed × Decks)
answered_beside ps x = leaving_decks x.1 (answered ps x.0)

-- ---- what a statement wants

-- where lines are stacked
abbrev pub end_of : Side → StackEnd
end_of Front = end.Front
end_of Back = end.Back

-- lines are stacked; where they don't all fit none is, which is a fault
abbrev pub stacking_for : Machine → List Exec → Exec → List (List ℕ) → Side → Act Round
stacking_for m ps p lines side =
    if nat_le (length m.stack + length lines) most_lines
    then going_on (record m { stack = stacked (end_of side) lines m.stack }) ps p
    else following m ps (came_to p (exec.refused p))

-- a line that was asked for is taken
abbrev pub given : List Exec → Exec → Asked → Act Round
given ps p (Given m line) = following m ps (came_to p (exec.line_taken p line))
given ps p Spent = Done (Ends finish.AtTurns)

-- what the newest procedure wants is met, above these
abbrev pub meeting : Desk → Decks → List Exec → Exec → Want → Act (Passed × Decks)
meeting d decks ps p Next = leaving_decks decks (leaving d.objects (following d.machine ps (p, Next)))
meeting d decks ps p (Say lines) = leaving_decks decks (leaving d.objects (typing lines (going_on d.machine ps p)))
meeting d decks ps p (Stack lines side) = leaving_decks decks (leaving d.objects (stacking_for d.machine ps p lines side))
meeting d decks ps p Read = leaving_decks decks (leaving d.objects (bind (ask d.machine) (given ps p)))
meeting d decks ps p (Command line) = bind (issued d decks (length (p ∷ ps)) line) (answered_beside (p ∷ ps))
meeting d decks ps p (Sub word text) = bind (leaving_decks decks (sent_line d word text)) (answered_beside (p ∷ ps))
meeting d decks ps p (Ended code) = leaving_decks decks (leaving d.objects (following d.machine ps (p, Ended code)))
meeting d decks ps p (Failed number line) = leaving_decks decks (leaving d.objects (following d.machine ps (p, Failed number line)))

-- the same of a procedure with its want
abbrev pub met : Desk → Decks → List Exec → Exec × Want → Act (Passed × Decks)
met d decks ps x = meeting d decks ps x.0 x.1

-- ---- a statement

-- with the turn spent, at its moment
abbrev pub stepped : Desk → Decks → List Exec → Exec → Act (Passed × Decks)
stepped d decks ps p = met d decks ps (came_to p (exec.turned d.machine.moment p))

-- a turn is spent, and the statement of the newest procedure that is due is run
abbrev pub statement_with : Desk → Decks → List Exec → Exec → ℕ → Act (Passed × Decks)
statement_with d decks ps p zero = Done (Stops finish.AtTurns, decks)
statement_with d decks ps p (suc left) = Turn (λ seconds. stepped (desk (turned d.machine left seconds) d.objects) decks ps p)

-- the same with the turns that the machine has left
abbrev pub statement : Desk → Decks → List Exec → Exec → Act (Passed × Decks)
statement d decks ps p = statement_with d decks ps p d.machine.left
