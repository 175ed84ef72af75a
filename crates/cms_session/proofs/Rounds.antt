-- Lines that CMS takes, turns and the ready line.
use Rattle.std.proofs.Common.{◌≡◌, ℕ, ℤ, ◌≤◌, suc, List, [], ◌∷◌, Option, Some, None, Result, Ok, Err, refl, ap, sym, subst}
use Rattle.std.specs.FinMap.{empty}
use Rattle.std.specs.Prelude.{option_map, pos}
use Rattle.cms_journal.specs.Causes.{Rose}
use Rattle.cms_model.specs.Slots.{Slot}
use Rattle.cms_model.specs.Objects.{Object}
use Rattle.cms_model.specs.Items as items
use Rattle.cms_model.specs.Items.{Item}
use Rattle.cms_model.specs.Acts.{Act, Done, bind, saying, taking as taking_item, typed_line}
use Rattle.cms_line.specs.Consoles.{Took, Stayed, item_of}
use Rattle.cms_line.specs.declared.console.ConsoleLine.{ConsoleLine}
use Rattle.cms_line.specs.Messages.{message_text}
use Rattle.cms_line.specs.declared.message.Message.{Message}
use Rattle.cms_search.specs.Calls.{Spot, SpotWith, Meaning, Does, Acts, Comes, beside, itself, said, holds, machine_of, course_of, refusal_tree, spot_at}
use Rattle.cms_search.specs.Machine.{Machine}
use Rattle.cms_search.specs.Ready.{ready_line}
use Rattle.cms_search.specs.declared.state.Course as declared
use Rattle.cms_search.specs.declared.state.Course.TheVariants as course
use Rattle.cms_search.specs.declared.state.End.{End}
use Rattle.cms_search.specs.declared.state.End.TheVariants.{Edge}
use Rattle.cms_search.specs.declared.state.State.{State}
use Rattle.cms_search.proofs.Acts.{acts_talks, comes_then, comes_in, comes_same, acts_done, acts_after, acts_same, acts_stop, refused}
use Rattle.cms_search.proofs.Talks.{Came, came_none, came_to, took, stayed}
use Rattle.cms_search.proofs.Turns.{cut_talks, done_talks, talks_kept}
use Rattle.cms_search.proofs.Unread.{comes_unread}
use Rattle.cms_search.specs.Tables.{AccessTable, without_readings}
use Rattle.cms_world.specs.Seen.{Seen}
use Rattle.cms_ext.specs.Calls.{desk_of}
use Rattle.cms_ext.specs.Extensions.{desk}
use Rattle.exec2_run.specs.State.{Exec}
use Rattle.cms_cards.specs.PunchedCards.{Decks}
use Rattle.cms_session.specs.Rounds.{line_round, on_turn, on_taken, round, run_item}
use Rattle.cms_session.specs.Procedures.{Passed, Round, Ready, ended, readied, statement}
use Rattle.cms_search.specs.Turns.{machine_now, turning_tree}
use Rattle.cms_session.specs.RoundCalls.{item_in, passed_beside, taking_tree, round_with}
use Rattle.cms_session.specs.declared.round.Taken.{Taken}
use Rattle.cms_session.specs.declared.round.Taken.TheVariants as given
use Rattle.cms_session.specs.declared.state.Round as rounds
use Rattle.cms_session.specs.declared.state.Round.TheVariants as end
use Rattle.cms_session.specs.declared.state.Finish.TheVariants as finish
use Rattle.cms_session.proofs.Alone.{acts_alone, alone}

-- ---- taking

pub stacked_so : (w : Seen) (s : State) (line : List ℕ) (lines : List (List ℕ)) → s.stack ≡ line ∷ lines
    → Acts (spot_at w s) (spot_at w (record s { stack = lines })) (taking_tree s) (Ok (Some (given.Text line)))
    (beside (record s { stack = lines }) (option_map item_in))
stacked_so w s line lines is =
    let old : Spot = record { world = w; state = s } in
    let new : Spot = record { world = w; state = record s { stack = lines } } in
    acts_talks old new (taking_tree s) (Ok (Some (given.Text line))) (beside new.state (option_map item_in)) refl
    (λ units. came_to w w s.console s.console (taking_tree s units) (Some (given.Text line)) (beside new.state (option_map item_in) units)
    (subst (λ (t : Act (Machine × Option Item)). Came w w s.console s.console (taking_tree s units) t) (tree units) (came_none w s.console (taking_tree s units))))
  where
    tree : (units : List Slot) → taking_tree s units ≡ Done (record (machine_of s units) { stack = lines }, Some (items.Text line))
    tree units = rw is refl

-- with no line stacked
unstacked : (old new : Spot) {T : Type 0} (r : Result T End) (m : Meaning T (Machine × Option Item)) → old.state.stack ≡ []
    → Acts old new (λ units. bind taking_item (λ i. Done (machine_of old.state units, i))) r m → Acts old new (taking_tree old.state) r m
unstacked old new r m none acts = acts_same old new (taking_tree old.state) (λ units. bind taking_item (λ i. Done (machine_of old.state units, i))) r m (λ units h. rw none refl) acts

pub taken_so : (old new : Spot) (l : ConsoleLine) (y : Option Taken) → old.state.stack ≡ [] → Took old.world.told new.world.told old.state.console new.state.console l
    → new.world.faults ≡ old.world.faults → old.world.edges ≤ new.world.edges → new.state ≡ record old.state { console = new.state.console } → option_map item_in y ≡ item_of l
    → Acts old new (taking_tree old.state) (Ok y) (beside new.state (option_map item_in))
taken_so old new l y none t faults edges kept item =
    unstacked old new (Ok y) (beside new.state (option_map item_in)) none
    (done_talks old new taking_item (λ units i. Done (machine_of old.state units, i)) l item_of y (beside new.state (option_map item_in)) (ap (λ (s : State). s.table) kept)
    (took old.world new.world old.state.console new.state.console l t faults edges)
    (λ units. let same : machine_of new.state units ≡ machine_of old.state units = ap (λ (s : State). machine_of s units) kept in rw (same, item) refl))

pub not_taken : (old new : Spot) (e : End) → old.state.stack ≡ [] → Stayed old.world.told new.world.told old.state.console new.state.console → new.world.faults ≡ old.world.faults
    → old.world.edges ≤ new.world.edges → new.state ≡ record old.state { console = new.state.console } → (e ≡ Edge → Rose old.world.edges new.world.edges)
    → Acts {T = Option Taken} old new (taking_tree old.state) (Err e) (beside new.state (option_map item_in))
not_taken old new e none st faults edges kept cause =
    unstacked old new (Err e) (beside new.state (option_map item_in)) none
    (cut_talks {T = ConsoleLine} {U = Option Taken} old new taking_item (λ units i. Done (machine_of old.state units, i)) e item_of (beside new.state (option_map item_in))
    (ap (λ (s : State). s.table) kept) (stayed old.world new.world old.state.console new.state.console e st faults edges cause))

-- ---- the ready line

abbrev pub ready_on : State → List Exec → ℤ → List Slot → Act Round
ready_on s ps code units = readied (record { machine = machine_of s units; procedures = ps }) code

abbrev ready_behind : State → List Exec → List Slot → Unit {0} → Act Round
ready_behind s ps units y = Done (Ready (record { machine = record (machine_of s units) { places = empty }; procedures = ps }))

pub readied_so : (old new : Spot) (ps : List Exec) (code : ℤ) (x : Unit {0}) → Does old.world new.world (saying (typed_line (ready_line code))) (Ok x) itself
    → new.state ≡ record old.state { places = empty } → Acts old new (ready_on old.state ps code) (Ok end.Ready) (round_with new.state ps)
readied_so old new ps code x does kept =
    done_talks old new (saying (typed_line (ready_line code))) (ready_behind old.state ps) x itself end.Ready (round_with new.state ps)
    (ap (λ (s : State). s.table) kept) (talks_kept old new (saying (typed_line (ready_line code))) (Ok x) itself (ap (λ (s : State). s.console) kept) does)
    (λ units. let machine : machine_of new.state units ≡ record (machine_of old.state units) { places = empty } = ap (λ (s : State). machine_of s units) kept in rw machine refl)

pub ready_stops : (old new : Spot) (ps qs : List Exec) (code : ℤ) (e : End) → Does {T = Unit {0}} old.world new.world (saying (typed_line (ready_line code))) (Err e) itself
    → new.state ≡ old.state → Acts {T = rounds.Round} old new (ready_on old.state ps code) (Err e) (round_with new.state qs)
ready_stops old new ps qs code e does kept =
    cut_talks {T = Unit {0}} {U = rounds.Round} old new (saying (typed_line (ready_line code))) (ready_behind old.state ps) e itself
    (round_with new.state qs) (ap (λ (s : State). s.table) kept)
    (talks_kept {T = Unit {0}} old new (saying (typed_line (ready_line code))) (Err e) itself (ap (λ (s : State). s.console) kept) does)

-- no disk keeps a reading any more, in front of the line
abbrev without_readings_of : Spot → AccessTable → Spot
without_readings_of old t = record { world = old.world; state = record old.state { table = t } }

drops : (old : Spot) (t : AccessTable) (ps : List Exec) (code : ℤ) → t ≡ without_readings old.state.table
    → Comes old (without_readings_of old t) (ready_on old.state ps code) (ready_on (without_readings_of old t).state ps code)
drops old t ps code is =
    comes_unread old (without_readings_of old t) (λ (m : Machine). readied (record { machine = m; procedures = ps }) code) refl
    (ap (λ (x : AccessTable). record old.state { table = x }) is)

pub readied_dropped : (old new : Spot) (ps : List Exec) (code : ℤ) (x : Unit {0}) (t : AccessTable) → t ≡ without_readings old.state.table
    → Does old.world new.world (saying (typed_line (ready_line code))) (Ok x) itself → new.state ≡ record old.state { table = t; places = empty }
    → Acts old new (ready_on old.state ps code) (Ok end.Ready) (round_with new.state ps)
readied_dropped old new ps code x t is does kept =
    let mid = without_readings_of old t in
    acts_after old mid new (ready_on old.state ps code) (ready_on mid.state ps code) (Ok end.Ready) (round_with new.state ps) (drops old t ps code is)
    (readied_so mid new ps code x does kept)

pub ready_dropped : (old new : Spot) (ps qs : List Exec) (code : ℤ) (e : End) (t : AccessTable) → t ≡ without_readings old.state.table
    → Does {T = Unit {0}} old.world new.world (saying (typed_line (ready_line code))) (Err e) itself → new.state ≡ record old.state { table = t }
    → Acts {T = rounds.Round} old new (ready_on old.state ps code) (Err e) (round_with new.state qs)
ready_dropped old new ps qs code e t is does kept =
    let mid = without_readings_of old t in
    acts_after old mid new (ready_on old.state ps code) (ready_on mid.state ps code) (Err e) (round_with new.state qs) (drops old t ps code is)
    (ready_stops mid new ps qs code e does kept)

-- where the tree is done already
pub done_here : {R T : Type 0} {os : List Object} (old : SpotWith os) (t : List Slot → Act R) (x : T) (m : Meaning T R) → ((units : List Slot) → holds old units → t units ≡ Done (m units x))
    → Acts old old t (Ok x) m
done_here old t x m is = acts_done old old t x m (comes_same old t (λ units. Done (m units x)) is)

-- ---- a round of a line

-- in a session with objects, which are left
module _ (os : List Object) (decks : Decks) where
  abbrev pub HasTaken : SpotWith os → SpotWith os → Option Taken → Type 0
  HasTaken old mid item = Acts (alone old) (alone mid) (taking_tree old.state) (Ok item) (beside mid.state (option_map item_in))

  abbrev pub line_round_on : State → List Exec → List Slot → Act (Passed × Decks)
  line_round_on s ps units = line_round (desk_of s os units) decks ps

  pub take_stops : (old new : SpotWith os) (ps qs : List Exec) (e : End)
      → Acts {T = Option Taken} (alone old) (alone new) (taking_tree old.state) (Err e) (beside new.state (option_map item_in))
      → Acts {T = rounds.Round} old new (line_round_on old.state ps) (Err e) (passed_beside new.state decks qs os)
  take_stops old new ps qs e a =
      acts_stop old new (taking_tree old.state) (on_taken os decks ps) e (beside {T = Option Taken} new.state (option_map item_in)) (passed_beside new.state decks qs os)
      (acts_alone {T = Option Taken} old new (taking_tree old.state) (Err e) (beside new.state (option_map item_in)) a)

  -- what follows, with the machine that is left
  abbrev taken_tree : State → List Exec → Option Taken → List Slot → Act (Passed × Decks)
  taken_tree s ps item units = on_taken os decks ps (machine_of s units, option_map item_in item)

  was_taken : (old mid : SpotWith os) (ps : List Exec) (item : Option Taken) → HasTaken old mid item
      → Comes old mid (line_round_on old.state ps) (taken_tree mid.state ps item)
  was_taken old mid ps item a =
      comes_in old mid (taking_tree old.state) (on_taken os decks ps) item (beside mid.state (option_map item_in))
      (acts_alone old mid (taking_tree old.state) (Ok item) (beside mid.state (option_map item_in)) a)

  pub finished_so : (old new : SpotWith os) (ps qs : List Exec) → HasTaken old new None
      → Acts old new (line_round_on old.state ps) (Ok (end.Ended finish.AtEnd)) (passed_beside new.state decks qs os)
  finished_so old new ps qs a =
      acts_done old new (line_round_on old.state ps) (end.Ended finish.AtEnd) (passed_beside new.state decks qs os) (was_taken old new ps None a)

  abbrev turn_tree : State → List Exec → Item → ℕ → List Slot → Act (Passed × Decks)
  turn_tree s ps item left units = on_turn (desk_of s os units) decks ps item left

  -- with so many turns left
  taken_with : (old mid : SpotWith os) (ps : List Exec) (item : Taken) (n : ℕ) → HasTaken old mid (Some item) → mid.state.left ≡ n
      → Comes old mid (line_round_on old.state ps) (turn_tree mid.state ps (item_in item) n)
  taken_with old mid ps item n a left =
      subst (λ (k : ℕ). Comes old mid (line_round_on old.state ps) (turn_tree mid.state ps (item_in item) k)) left (was_taken old mid ps (Some item) a)

  pub no_turns : (old new : SpotWith os) (ps qs : List Exec) (item : Taken) → HasTaken old new (Some item) → new.state.left ≡ 0
      → Acts old new (line_round_on old.state ps) (Ok (end.Ended finish.AtTurns)) (passed_beside new.state decks qs os)
  no_turns old new ps qs item a none =
      acts_done old new (line_round_on old.state ps) (end.Ended finish.AtTurns) (passed_beside new.state decks qs os) (taken_with old new ps item 0 a none)

  abbrev then_item : List Exec → Item → Machine → Act (Passed × Decks)
  then_item ps item m = run_item (desk m os) decks ps item

  abbrev pub item_on : State → List Exec → Item → List Slot → Act (Passed × Decks)
  item_on s ps item units = run_item (desk_of s os units) decks ps item

  pub turn_stops : (old mid new : SpotWith os) (ps qs : List Exec) (n : ℕ) (item : Taken) (e : End) → HasTaken old mid (Some item) → mid.state.left ≡ suc n
      → Acts {T = Unit {0}} (alone mid) (alone new) (turning_tree mid.state n) (Err e) (machine_now new.state)
      → Acts {T = rounds.Round} old new (line_round_on old.state ps) (Err e) (passed_beside new.state decks qs os)
  turn_stops old mid new ps qs n item e taken some a =
      acts_after old mid new (line_round_on old.state ps) (turn_tree mid.state ps (item_in item) (suc n)) (Err e) (passed_beside new.state decks qs os)
      (taken_with old mid ps item (suc n) taken some)
      (acts_stop mid new (turning_tree mid.state n) (then_item ps (item_in item)) e (machine_now {T = Unit {0}} new.state) (passed_beside new.state decks qs os)
      (acts_alone {T = Unit {0}} mid new (turning_tree mid.state n) (Err e) (machine_now new.state) a))

  -- what it asks for was done
  pub item_done : (b : List Object) (kept : Decks) (old mid begun : SpotWith os) (new : SpotWith b) (ps qs : List Exec) (n : ℕ) (item : Taken) (x : Unit {0}) (r : Result rounds.Round End)
      → HasTaken old mid (Some item) → mid.state.left ≡ suc n → Acts (alone mid) (alone begun) (turning_tree mid.state n) (Ok x) (machine_now begun.state)
      → Acts begun new (item_on begun.state ps (item_in item)) r (passed_beside new.state kept qs b) → Acts old new (line_round_on old.state ps) r (passed_beside new.state kept qs b)
  item_done b kept old mid begun new ps qs n item x r taken some turn a =
      acts_after old begun new (line_round_on old.state ps) (item_on begun.state ps (item_in item)) r (passed_beside new.state kept qs b)
      (comes_then old mid begun (line_round_on old.state ps) (turn_tree mid.state ps (item_in item) (suc n)) (item_on begun.state ps (item_in item))
      (taken_with old mid ps item (suc n) taken some)
      (comes_in mid begun (turning_tree mid.state n) (then_item ps (item_in item)) x (machine_now begun.state)
      (acts_alone mid begun (turning_tree mid.state n) (Ok x) (machine_now begun.state) turn)))
      a

-- ---- refusals of what was taken

abbrev message_tree : Message → Act (Unit {0})
message_tree message = saying (typed_line (message_text message))

abbrev refused_on : State → List Exec → Message → List Slot → Act Round
refused_on s ps message units = bind (refusal_tree s message (pos 20) units) (ended ps)

abbrev pub ended_on : State → List Exec → declared.Course → List Slot → Act Round
ended_on s ps c units = ended ps (course_of s units c)

pub refused_course : (old mid new : Spot) (ps qs : List Exec) (message : Message) (c : declared.Course) (r : Result rounds.Round End)
    → Does old.world mid.world (message_tree message) (Ok c) said → c ≡ course.Went (pos 20) → mid.state ≡ old.state
    → Acts mid new (ended_on mid.state ps c) r (round_with new.state qs) → Acts old new (refused_on old.state ps message) r (round_with new.state qs)
refused_course old mid new ps qs message c r does went same acts =
    acts_after old mid new (refused_on old.state ps message) (ended_on mid.state ps c) r (round_with new.state qs)
    (comes_in old mid (refusal_tree old.state message (pos 20)) (ended ps) c (course_of mid.state) (refused old mid message (pos 20) (Ok c) does went same)) acts

pub refused_stop : (old new : Spot) (ps qs : List Exec) (message : Message) (e : End) → Does {T = declared.Course} old.world new.world (message_tree message) (Err e) said
    → new.state ≡ old.state → Acts {T = rounds.Round} old new (refused_on old.state ps message) (Err e) (round_with new.state qs)
refused_stop old new ps qs message e does same =
    acts_stop old new (refusal_tree old.state message (pos 20)) (ended ps) e (course_of new.state) (round_with new.state qs)
    (refused old new message (pos 20) (Err e) does tt same)

-- ---- a round

abbrev pub round_on : State → List Object → Decks → List Exec → List Slot → Act (Passed × Decks)
round_on s os decks ps units = round (desk_of s os units) decks ps

-- a procedure runs
pub round_some : (a b : List Object) (decks kept : Decks) (old : SpotWith a) (new : SpotWith b) (ps rest qs : List Exec) (p : Exec) (r : Result rounds.Round End) → ps ≡ p ∷ rest
    → Acts old new (λ units. statement (desk_of old.state a units) decks rest p) r (passed_beside new.state kept qs b)
    → Acts old new (round_on old.state a decks ps) r (passed_beside new.state kept qs b)
round_some a b decks kept old new ps rest qs p r is acts =
    subst (λ (l : List Exec). Acts old new (round_on old.state a decks l) r (passed_beside new.state kept qs b)) (sym is) acts

-- or none
pub round_none : (a b : List Object) (decks kept : Decks) (old : SpotWith a) (new : SpotWith b) (ps rest qs : List Exec) (r : Result rounds.Round End) → ps ≡ [] → rest ≡ []
    → Acts old new (line_round_on a decks old.state rest) r (passed_beside new.state kept qs b)
    → Acts old new (round_on old.state a decks ps) r (passed_beside new.state kept qs b)
round_none a b decks kept old new ps rest qs r none none' acts =
    subst (λ (l : List Exec). Acts old new (round_on old.state a decks l) r (passed_beside new.state kept qs b)) (sym none)
    (subst (λ (l : List Exec). Acts old new (line_round_on a decks old.state l) r (passed_beside new.state kept qs b)) none' acts)
