-- The machine: minidisks as lists of named record lists, procedures as lists of lines, the objects that the session was handed, and what a
-- session does with them. No block occurs here.
use Rattle.std.specs.Prelude.{ℕ, zero, suc, ℤ, Bool, List, [], None}
use Rattle.cms_model.specs.Objects.{Back, Object}
use Rattle.cms_model.specs.Steps.{Outcome}
use Rattle.cms_model.specs.Items.{items}
use Rattle.cms_model.specs.Acts.{Act, Done, bind}
use Rattle.cms_model.specs.Feeds.{Fed, feed}
use Rattle.cms_search.specs.Access.{accessing}
use Rattle.cms_search.specs.Machine.{Machine}
use Rattle.cms_ext.specs.Extensions.{Desk, desk}
use Rattle.exec2_run.specs.State.{Exec}
use Rattle.cms_cards.specs.PunchedCards.{Decks}
use Rattle.cms_session.specs.Procedures.{Passed, Stops, Goes}
use Rattle.cms_session.specs.Rounds.{round}
use Rattle.cms_session.specs.declared.state.Finish.{Finish}
use Rattle.cms_session.specs.declared.state.Finish.TheVariants as finish

-- ---- the session

-- the next round follows with the decks that are left, unless the session has ended
abbrev pub then_round : (Desk → Decks → List Exec → Act Finish) → Passed × Decks → Act Finish
then_round next (Stops end, decks) = Done end
then_round next (Goes d ps, decks) = next d decks ps

-- so many rounds at most: each spends a turn, so one more than the turns is enough
unfoldable pub session : ℕ → Desk → Decks → List Exec → Act Finish
session zero d decks ps = Done finish.AtTurns
session (suc more) d decks ps = bind (round d decks ps) (then_round (session more))

-- rounds follow
abbrev pub rounds : Desk → Decks → List Exec → Act Finish
rounds d decks ps = session (suc d.machine.left) d decks ps

-- lines are run; no deck is there at the start
abbrev pub run_lines : List Object → Machine → Act Finish
run_lines objects s = rounds (desk s objects) [] []

-- ---- the start

-- where a unit is device 191 and holds a volume it is accessed as A, and nothing is typed; a fault leaves it without a letter
abbrev pub access_first : Machine → Act Machine
access_first s = bind (accessing s 0x191 0 None) (λ x. Done x.0)

-- and then lines are run
abbrev pub started : Desk → Act Finish
started d = bind (access_first d.machine) (run_lines d.objects)

-- the machine from a start, on what was told of the script and of the clock, with these outcomes, and with what came back from the objects
unfoldable pub machine : Desk → List ℕ → Bool → List ℤ → List Outcome → List Back → Fed Finish
machine d script ended seconds outcomes backs =
    feed (started d) (items (record { within = 0; bytes = script }) ended) ended seconds outcomes backs
