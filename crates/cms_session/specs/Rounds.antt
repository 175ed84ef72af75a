-- A round of a session: a line that CMS took, or a statement of the newest procedure.
use Rattle.std.specs.Prelude.{ℕ, zero, suc, ℤ, if◌then◌else◌, List, [], ◌∷◌, length, Option, Some, None}
use Rattle.cms_model.specs.Items.{Item, Text, Bad, Long, Rest}
use Rattle.cms_model.specs.Acts.{Act, Done, Take, Turn, bind}
use Rattle.cms_model.specs.Objects.{Object}
use Rattle.cms_line.specs.Tokens.{tokens_of}
use Rattle.cms_line.specs.declared.message.Message.TheVariants.{M010, M011}
use Rattle.cms_search.specs.Machine.{Machine, turned, refusal}
use Rattle.cms_ext.specs.Extensions.{Desk, desk}
use Rattle.exec2_run.specs.State.{Exec}
use Rattle.cms_cards.specs.PunchedCards.{Decks}
use Rattle.cms_session.specs.Commands.{is_comment}
use Rattle.cms_session.specs.Decks.{leaving_decks}
use Rattle.cms_session.specs.Lines.{taken_up}
use Rattle.cms_session.specs.Procedures.{Passed, Stops, Goes, answered_beside, ended, leaving, statement}
use Rattle.cms_session.specs.declared.state.Finish.TheVariants as finish

-- ---- lines that CMS took

-- a blank line and a comment do nothing
abbrev pub run_line : Desk → Decks → List Exec → List ℕ → Act (Passed × Decks)
run_line d decks ps line =
    if is_comment line then Done (Goes d ps, decks)
    else bind (taken_up d decks (length ps) line (tokens_of line)) (answered_beside ps)

-- the code of a line that is refused
abbrev pub bad_line : ℕ
bad_line = 20

-- a line, or what is no line: a line that isn't printable, a line that is too long, and a further piece of it, of which nothing is typed
abbrev pub run_item : Desk → Decks → List Exec → Item → Act (Passed × Decks)
run_item d decks ps (Text line) = run_line d decks ps line
run_item d decks ps Bad = leaving_decks decks (leaving d.objects (bind (refusal d.machine M010 bad_line) (ended ps)))
run_item d decks ps Long = leaving_decks decks (leaving d.objects (bind (refusal d.machine M011 bad_line) (ended ps)))
run_item d decks ps Rest = Done (Goes d ps, decks)

-- ---- rounds

-- what is taken: a stacked line first, then the console's next item, none at the script's end
abbrev pub taking_from : Machine → List (List ℕ) → Act (Machine × Option Item)
taking_from s [] = Take (λ item. Done (s, item))
taking_from s (line ∷ lines) = Done (record s { stack = lines }, Some (Text line))

-- the same with the lines that are stacked on the machine
abbrev pub taking : Machine → Act (Machine × Option Item)
taking s = taking_from s s.stack

-- with the turn spent
abbrev pub on_seconds : Desk → Decks → List Exec → ℕ → Item → ℤ → Act (Passed × Decks)
on_seconds d decks ps left item seconds = run_item (desk (turned d.machine left seconds) d.objects) decks ps item

-- a turn is spent for the item; where none is left the session ends
abbrev pub on_turn : Desk → Decks → List Exec → Item → ℕ → Act (Passed × Decks)
on_turn d decks ps item zero = Done (Stops finish.AtTurns, decks)
on_turn d decks ps item (suc left) = Turn (on_seconds d decks ps left item)

-- an item was taken; or the session ends at the end of the script
abbrev pub on_item : Desk → Decks → List Exec → Option Item → Act (Passed × Decks)
on_item d decks ps None = Done (Stops finish.AtEnd, decks)
on_item d decks ps (Some item) = on_turn d decks ps item d.machine.left

-- the same on the machine that the taking left, beside the objects
abbrev pub on_taken : List Object → Decks → List Exec → Machine × Option Item → Act (Passed × Decks)
on_taken objects decks ps x = on_item (desk x.0 objects) decks ps x.1

-- something is taken, a turn is spent, and what it asks for is done
abbrev pub line_round : Desk → Decks → List Exec → Act (Passed × Decks)
line_round d decks ps = bind (taking d.machine) (on_taken d.objects decks ps)

-- a line, or where a procedure runs a statement of the newest
abbrev pub round : Desk → Decks → List Exec → Act (Passed × Decks)
round d decks [] = line_round d decks []
round d decks (p ∷ ps) = statement d decks ps p
