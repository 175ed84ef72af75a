-- What a call of a round does, as a part of the machine's run.
use Rattle.std.specs.Prelude.{ℕ, ℤ, List, ◌∷◌, length, Option, Some, None}
use Rattle.cms_line.specs.Tokens.{tokens_of}
use Rattle.cms_model.specs.Slots.{Slot}
use Rattle.cms_model.specs.Acts.{Act, bind}
use Rattle.cms_model.specs.Objects.{Object}
use Rattle.cms_model.specs.Items as items
use Rattle.cms_model.specs.Items.{Item}
use Rattle.cms_line.specs.declared.message.Message.{Message}
use Rattle.cms_line.specs.declared.token.Token.{Token}
use Rattle.cms_search.specs.Calls.{Meaning, course_of, machine_of}
use Rattle.cms_search.specs.Machine.{Machine, Course, refusal, typing}
use Rattle.cms_search.specs.Asks.{ask}
use Rattle.cms_search.specs.declared.state.State.{State}
use Rattle.cms_ext.specs.Calls.{desk_of, ended_of}
use Rattle.cms_ext.specs.Extensions.{Ended}
use Rattle.cms_exec.specs.declared.start.Started.{Started}
use Rattle.cms_exec.specs.declared.start.Started.TheVariants as call
use Rattle.exec2_run.specs.State.{Exec}
use Rattle.exec2_run.specs.declared.want.Side.{Side}
use Rattle.exec2_run.specs.declared.want.Want.{Want}
use Rattle.cms_cards.specs.PunchedCards.{Decks}
use Rattle.cms_session.specs.Decks.{leaving_decks}
use Rattle.cms_session.specs.Lines.{Issued, Came, Begins, issued, obeyed, requested, run_command, taken_up}
use Rattle.cms_session.specs.Nucleus.{nucxdrop, nucxmap}
use Rattle.cms_session.specs.Procedures as spec
use Rattle.cms_session.specs.Procedures.{Session, Round, Ends, Ready, Passed, passed}
use Rattle.cms_session.specs.Rounds.{bad_line, line_round, round, run_item, run_line, taking}
use Rattle.cms_session.specs.Subcommands.{sent, sent_line}
use Rattle.cms_session.specs.declared.command.Command.{Command}
use Rattle.cms_session.specs.declared.dispatch.Issued as declared
use Rattle.cms_session.specs.declared.dispatch.Issued.TheVariants as line
use Rattle.cms_session.specs.declared.round.Taken.{Taken}
use Rattle.cms_session.specs.declared.round.Taken.TheVariants as given
use Rattle.cms_session.specs.declared.state.Round as declared_round
use Rattle.cms_session.specs.declared.state.Round.TheVariants as end
use Rattle.cms_session.specs.declared.state.Session as declared_session

-- ---- the session of the program, as the machine's

-- the procedures that run, the newest first
abbrev pub procedures_of : declared_session.Session → List Exec
procedures_of s = s.procedures

-- the decks of its reader, the first punched first
abbrev pub decks_of : declared_session.Session → Decks
decks_of s = s.reader

-- the machine with its state and these units, and its procedures
abbrev pub session_of : declared_session.Session → List Slot → Session
session_of s units = record { machine = machine_of s.state units; procedures = procedures_of s }

-- ---- the trees of the parts of a session on the machine with these units

-- the command of a line that touches neither objects nor decks; or no command has the word
abbrev pub command_tree : State → List ℕ → List Token → List ℕ → Command → List Slot → Act Course
command_tree s line words word command units = run_command (machine_of s units) line words word command

-- NUCXDROP: the object under a word is taken out of these and dropped
abbrev pub nucxdrop_tree : State → List Object → List Token → List Slot → Act Ended
nucxdrop_tree s objects words units = nucxdrop (desk_of s objects units) words

-- NUCXMAP: these words of the extensions are typed
abbrev pub nucxmap_tree : State → List (List ℕ) → List Token → List Slot → Act Course
nucxmap_tree s under words units = nucxmap (machine_of s units) under words

-- what the first word of a line asks for, extensions apart, where so many procedures run
abbrev pub request_tree : State → List Object → Decks → ℕ → List ℕ → List Token → List Slot → Act (Issued × Decks)
request_tree s objects decks running line words units = requested (desk_of s objects units) decks running line words

-- the extension of a line's first word answers it, else what that word asks for is done
abbrev pub obey_tree : State → List Object → Decks → ℕ → List ℕ → List Token → List Slot → Act (Issued × Decks)
obey_tree s objects decks running line words units = obeyed (desk_of s objects units) decks running line words

-- a line that the newest of so many procedures issues
abbrev pub issue_tree : State → List Object → Decks → ℕ → List ℕ → List Slot → Act (Issued × Decks)
issue_tree s objects decks running line units = issued (desk_of s objects units) decks running line

-- a line of CMS: the procedure that its first word names begins, else its extension or its command is run
abbrev pub take_up_tree : State → List Object → Decks → ℕ → List ℕ → List Slot → Act (Issued × Decks)
take_up_tree s objects decks running line units = taken_up (desk_of s objects units) decks running line (tokens_of line)

-- a text is sent to the extension of a word
abbrev pub send_tree : State → List Object → List ℕ → List ℕ → List Slot → Act Ended
send_tree s objects word text units = sent (desk_of s objects units) word text

-- the ready line with this code is typed
abbrev pub ready_tree : declared_session.Session → ℤ → List Slot → Act Round
ready_tree s code units = spec.readied (session_of s units) code

-- whether a procedure that wants this has ended, and with which code; the message of a fault is typed
abbrev pub over_tree : Exec × Want → Act (Option ℤ)
over_tree x = spec.over x.0 x.1

-- a code goes to the newest procedure, as that of the line that it issued, or to CMS
abbrev pub give_tree : declared_session.Session → ℤ → List Slot → Act Round
give_tree s code units = spec.giving (procedures_of s) (machine_of s.state units) code

-- a procedure above the others goes on to its next line; or it has ended, and its code goes on
abbrev pub go_on_tree : declared_session.Session → Exec → List Slot → Act Round
go_on_tree s p units = spec.going_on (machine_of s.state units) (procedures_of s) p

-- it does so unless it wants to end, or a fault is told: its code goes on then
abbrev pub follow_tree : declared_session.Session → Exec → Want → List Slot → Act Round
follow_tree s p want units = spec.following (machine_of s.state units) (procedures_of s) (p, want)

-- lines that it says are typed, and it goes on
abbrev pub type_tree : declared_session.Session → Exec → List (List ℕ) → List Slot → Act Round
type_tree s p lines units = typing lines (spec.going_on (machine_of s.state units) (procedures_of s) p)

-- lines that it stacks have room, and it goes on; or none is stacked, which is a fault
abbrev pub stack_tree : declared_session.Session → Exec → List (List ℕ) → Side → List Slot → Act Round
stack_tree s p lines side units = spec.stacking_for (machine_of s.state units) (procedures_of s) p lines side

-- a line that it asks for is taken, and it goes on; or no turn is left for one
abbrev pub read_tree : declared_session.Session → Exec → List Slot → Act Round
read_tree s p units = bind (ask (machine_of s.state units)) (spec.given (procedures_of s) p)

-- a line that it issues is done, and its code goes to it; or a procedure begins above it
abbrev pub issued_tree : declared_session.Session → List Object → Exec → List ℕ → List Slot → Act (Passed × Decks)
issued_tree s objects p line units =
    bind (issued (desk_of s.state objects units) (decks_of s) (length (p ∷ (procedures_of s))) line)
    (spec.answered_beside (p ∷ (procedures_of s)))

-- a text that it sends is told to the extension of a word, and the code goes to it
abbrev pub sent_tree : declared_session.Session → List Object → Exec → List ℕ → List ℕ → List Slot → Act (Passed × Decks)
sent_tree s objects p word text units =
    bind (leaving_decks (decks_of s) (sent_line (desk_of s.state objects units) word text))
    (spec.answered_beside (p ∷ (procedures_of s)))

-- whatever it wants is met
abbrev pub meet_tree : declared_session.Session → List Object → Exec → Want → List Slot → Act (Passed × Decks)
meet_tree s objects p want units = spec.meeting (desk_of s.state objects units) (decks_of s) (procedures_of s) p want

-- a turn is spent, and its statement that is due is run
abbrev pub statement_tree : declared_session.Session → List Object → Exec → List Slot → Act (Passed × Decks)
statement_tree s objects p units = spec.statement (desk_of s.state objects units) (decks_of s) (procedures_of s) p

-- a line is refused
abbrev pub refused_tree : declared_session.Session → Message → List Slot → Act Round
refused_tree s message units = bind (refusal (machine_of s.state units) message bad_line) (spec.ended (procedures_of s))

-- a line that CMS took is done; a blank line and a comment do nothing
abbrev pub line_tree : declared_session.Session → List Object → List ℕ → List Slot → Act (Passed × Decks)
line_tree s objects line units = run_line (desk_of s.state objects units) (decks_of s) (procedures_of s) line

-- the same of an item that was taken: a line, or what is no line
abbrev pub item_tree : declared_session.Session → List Object → Item → List Slot → Act (Passed × Decks)
item_tree s objects item units = run_item (desk_of s.state objects units) (decks_of s) (procedures_of s) item

-- a round of CMS: an item is taken, a turn is spent, and what it asks for is done
abbrev pub line_round_tree : declared_session.Session → List Object → List Slot → Act (Passed × Decks)
line_round_tree s objects units = line_round (desk_of s.state objects units) (decks_of s) (procedures_of s)

-- a round of the session: one of CMS, or where a procedure runs a statement of the newest
abbrev pub round_tree : declared_session.Session → List Object → List Slot → Act (Passed × Decks)
round_tree s objects units = round (desk_of s.state objects units) (decks_of s) (procedures_of s)

-- the item that was taken
abbrev pub item_in : Taken → Item
item_in (given.Text text) = items.Text text
item_in given.Bad = items.Bad
item_in given.Long = items.Long
item_in given.Rest = items.Rest

-- what is taken, or the script's end
abbrev pub taking_tree : State → List Slot → Act (Machine × Option Item)
taking_tree s units = taking (machine_of s units)

-- ---- what their values mean

-- what a call of a procedure comes to, as what its line comes to
abbrev pub issued_started : Started → declared.Issued
issued_started (call.Begun exec) = line.Begun exec
issued_started (call.Refused course) = line.Came course

-- what a line comes to, with the state and the objects that it leaves
abbrev pub issued_of : State → List Object → Meaning declared.Issued Issued
issued_of s objects units (line.Came course) = Came (ended_of s objects units course)
issued_of s objects units (line.Begun exec) = Begins (desk_of s objects units) exec

-- the same beside the decks that are left
abbrev pub issued_beside : State → List Object → Decks → Meaning declared.Issued (Issued × Decks)
issued_beside s objects decks units x = (issued_of s objects units x, decks)

-- what follows what a line came to, which asks and drops no object
abbrev pub answering : State → List Exec → declared.Issued → List Slot → Act Round
answering s ps (line.Came course) units = spec.ended ps (course_of s units course)
answering s ps (line.Begun exec) units = spec.going_on (machine_of s units) ps exec

-- the same in this session, for the procedures that run there
abbrev pub answer_tree : declared_session.Session → declared.Issued → List Slot → Act Round
answer_tree s x units = answering s.state (procedures_of s) x units

-- a procedure waits above the others, but where it has ended with a code
abbrev pub waiting : Option ℤ → Exec → List Exec → List Exec
waiting None p ps = p ∷ ps
waiting (Some code) p ps = ps

-- how a round ends, with the state and the procedures that it leaves
abbrev pub round_with : State → List Exec → Meaning declared_round.Round Round
round_with s ps units (end.Ended finish) = Ends finish
round_with s ps units end.Ready = Ready (record { machine = machine_of s units; procedures = ps })

-- the same of a round that left this session
abbrev pub round_of : declared_session.Session → Meaning declared_round.Round Round
round_of s units r = round_with s.state (procedures_of s) units r

-- so for one that may have asked or dropped objects
abbrev pub passed_with : State → List Exec → List Object → Meaning declared_round.Round Passed
passed_with s ps objects units r = passed objects (round_with s ps units r)

-- the same beside the decks that are left
abbrev pub passed_beside : State → Decks → List Exec → List Object → Meaning declared_round.Round (Passed × Decks)
passed_beside s decks ps objects units r = (passed_with s ps objects units r, decks)

-- the same of a round that left this session, with its decks
abbrev pub passed_of : declared_session.Session → List Object → Meaning declared_round.Round (Passed × Decks)
passed_of s objects units r = passed_beside s.state (decks_of s) (procedures_of s) objects units r
