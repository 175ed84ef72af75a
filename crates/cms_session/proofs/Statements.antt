-- What procedures do in a session: how they end and go on, and how what they want is met.
use Rattle.std.proofs.Common.{◌≡◌, ℕ, ℤ, suc, ◌+◌, Bool, true, false, List, [], ◌∷◌, length, Option, Some, None, Result, Ok, Err, refl, ap, sym, ◌∙◌, subst}
use Rattle.std.specs.Prelude.{nat_le}
use Rattle.cms_fields.specs.declared.time.Moment.{Moment}
use Rattle.cms_model.specs.Objects.{Object}
use Rattle.cms_model.specs.Slots.{Slot}
use Rattle.cms_model.specs.Acts.{Act, Done, Out, bind, saying}
use Rattle.cms_model.proofs.Join.{broke_here}
use Rattle.cms_line.specs.Stack.{most_lines}
use Rattle.cms_search.specs.Asks as asks
use Rattle.cms_search.specs.Calls.{Spot, SpotWith, Does, Acts, Comes, itself, said, machine_of, course_of}
use Rattle.cms_search.specs.Machine.{Machine, Course, Went, OutOfTurns, typing}
use Rattle.cms_search.specs.Talks.{ask_tree, asked_of}
use Rattle.cms_search.specs.declared.asked_line.Asked.{Asked}
use Rattle.cms_search.specs.declared.asked_line.Asked.TheVariants.{Given, Spent}
use Rattle.cms_search.specs.declared.state.Course as declared
use Rattle.cms_search.specs.declared.state.Course.TheVariants as course
use Rattle.cms_search.specs.declared.state.End.{End}
use Rattle.cms_search.specs.declared.state.End.TheVariants.{Memory}
use Rattle.cms_search.specs.declared.state.State.{State}
use Rattle.cms_search.proofs.Acts.{comes_in, comes_does, comes_none, comes_same, comes_then, acts_done, acts_after, acts_same, acts_stop, does_stop, no_memory}
use Rattle.cms_search.proofs.Lined.{Reached, nothing, reached_none, reached_on, reached_off, reached_to, typing_then}
use Rattle.cms_world.specs.Seen.{Seen}
use Rattle.cms_ext.specs.Calls.{desk_of}
use Rattle.cms_ext.specs.Extensions.{desk}
use Rattle.cms_files.specs.StackedLines.{stacking}
use Rattle.exec2_run.specs.Relation.{Moved}
use Rattle.exec2_run.specs.Steps.{Takes, code_taken}
use Rattle.exec2_run.specs.Steps as exec
use Rattle.exec2_run.specs.State.{Exec}
use Rattle.exec2_run.specs.declared.want.Side.{Side}
use Rattle.exec2_run.specs.declared.want.Want.{Want}
use Rattle.cms_cards.specs.PunchedCards.{Decks}
use Rattle.cms_session.specs.Commands.{is_comment}
use Rattle.cms_session.specs.Decks.{leaving_decks}
use Rattle.cms_session.specs.Lines.{Issued, issued}
use Rattle.cms_session.specs.Rounds.{run_line}
use Rattle.cms_session.specs.Procedures.{Passed, Round, Ends, Ready, answered, answered_beside, came_to, end_of, finding, following, given, giving, going_on, idle, leaving, meeting, met, over, readied, settled, stacking_for, statement, statement_with, stepped, unless_over}
use Rattle.cms_search.specs.Turns.{machine_now, turning_tree}
use Rattle.cms_session.specs.RoundCalls.{answering, issued_beside, issued_of, passed_beside, passed_with, round_with, take_up_tree}
use Rattle.cms_session.specs.declared.dispatch.Issued as declared_issued
use Rattle.cms_session.specs.declared.dispatch.Issued.TheVariants as issue
use Rattle.cms_session.specs.declared.state.Round as rounds
use Rattle.cms_session.specs.declared.state.Round.TheVariants as end
use Rattle.cms_session.specs.declared.state.Finish.TheVariants as finish
use Rattle.cms_session.proofs.Alone.{acts_alone, alone, decked, left}
use Rattle.cms_session.proofs.Rounds.{done_here, ready_on}

-- ---- calls of a procedure, and of the console

-- what a call left of a procedure, and what it said
pub called_so : (old new : Exec) (want : Want) (m : Moved) → Takes m old new want → came_to old m ≡ (new, want)
called_so old new want (Ok moved) t = let a = t.0 in let b = t.1 in rw (a, b) refl
called_so old new want (Err failure) t = let a = t.0 in let b = t.1 in rw (a, b) refl

-- a procedure found its next line, at the moment of its last statement
pub settled_so : (old new : Exec) (moment : Moment) (want : Want) → moment ≡ old.moment → Takes (exec.settled moment old) old new want → settled old ≡ (new, want)
settled_so old new moment want is t = called_so old new want (exec.settled old.moment old) (subst (λ (m : Moment). Takes (exec.settled m old) old new want) is t)

-- nothing is done
pub idle_so : {R T : Type 0} (w : Seen) (t : Act R) (x : T) (d : T → R) → t ≡ Done (d x) → Does w w t (Ok x) d
idle_so {R = R} w t x d is = reached_to w w t x d (subst (λ (u : Act R). Reached w w t u) is (reached_none w t))

abbrev said_tree : {R : Type 0} → List ℕ → R → Act R
said_tree b v = Out b (Done v)

-- something is typed, and has this value
pub said_so : {R T : Type 0} (before now : Seen) (b : List ℕ) (v : R) (x : Unit {0}) (y : T) (d : T → R) → Does before now (saying b) (Ok x) itself → d y ≡ v
    → Does before now (said_tree b v) (Ok y) d
said_so {R = R} before now b v x y d does is =
    reached_to before now (said_tree b v) y d
    (subst (λ (u : R). Reached before now (said_tree b v) (Done u)) (sym is)
    (reached_on before before now (said_tree b v) (saying b) (λ u. Done v) x itself (reached_none before (said_tree b v)) does))

pub said_off : {R T : Type 0} (before now : Seen) (b : List ℕ) (v : R) (e : End) (d : T → R) → Does {T = Unit {0}} before now (saying b) (Err e) itself
    → Does {T = T} before now (said_tree b v) (Err e) d
said_off before now b v e d does =
    reached_off before before now (said_tree b v) (saying b) (λ u. Done v) e itself d (reached_none before (said_tree b v)) does

-- it was done, and then there was no memory
pub does_here : {R T U : Type 0} (before now : Seen) (t : Act R) (x : T) (d : T → R) (d' : U → R) → Does before now t (Ok x) d → Does {T = U} before now t (Err Memory) d'
does_here before now t x d d' a = record {
  each = λ p journal. broke_here (a.each p journal);
  idle = a.idle;
  faults = a.faults;
  edges = a.edges;
  cause = λ edge. absurd (cc);
}

-- ---- between two statements

abbrev pub giving_on : State → List Exec → ℤ → List Slot → Act Round
giving_on s ps code units = giving ps (machine_of s units) code

abbrev waits_on : State → List Exec → Exec → List Slot → Act Round
waits_on s ps p units = Done (Ready (record { machine = machine_of s units; procedures = p ∷ ps }))

abbrev found_then : State → List Exec → Exec → List Slot → Option ℤ → Act Round
found_then s ps p units = unless_over (giving ps (machine_of s units)) (waits_on s ps p units)

abbrev pub finding_on : State → List Exec → Exec × Want → List Slot → Act Round
finding_on s ps x units = finding (machine_of s units) ps (giving ps (machine_of s units)) x

module _ (old mid : Spot) (ps : List Exec) (x : Exec × Want) where
  -- it has ended
  pub found_over : (own : ℤ) → Does old.world mid.world (over x.0 x.1) (Ok (Some own)) itself → mid.state ≡ old.state
      → Comes old mid (finding_on old.state ps x) (giving_on mid.state ps own)
  found_over own does same =
      subst (λ (s : State). Comes old mid (finding_on old.state ps x) (giving_on s ps own)) (sym same)
      (comes_does old mid (over x.0 x.1) (found_then old.state ps x.0) (Some own) itself does same)

  -- it waits
  pub found_waits : (qs : List Exec) → Does {T = Option ℤ} old.world mid.world (over x.0 x.1) (Ok None) itself → mid.state ≡ old.state → qs ≡ x.0 ∷ ps
      → Acts old mid (finding_on old.state ps x) (Ok end.Ready) (round_with mid.state qs)
  found_waits qs does same is =
      subst (λ (s : State). Acts old mid (finding_on old.state ps x) (Ok end.Ready) (round_with s qs)) (sym same)
      (subst (λ (l : List Exec). Acts old mid (finding_on old.state ps x) (Ok end.Ready) (round_with old.state l)) (sym is)
      (acts_done old mid (finding_on old.state ps x) end.Ready (round_with old.state (x.0 ∷ ps))
      (comes_does {T = Option ℤ} old mid (over x.0 x.1) (found_then old.state ps x.0) None itself does same)))

  pub found_off : (e : End) (qs : List Exec) → Does {T = Option ℤ} old.world mid.world (over x.0 x.1) (Err e) itself → mid.state ≡ old.state
      → Acts {T = rounds.Round} old mid (finding_on old.state ps x) (Err e) (round_with mid.state qs)
  found_off e qs does same =
      does_stop {T = Option ℤ} old mid (over x.0 x.1) (found_then old.state ps x.0) e itself (round_with mid.state qs) does same

-- it has ended, and its code was given
pub found_given : (old mid new : Spot) (ps rs qs : List Exec) (x : Exec × Want) (own : ℤ) (r : Result rounds.Round End)
    → Does old.world mid.world (over x.0 x.1) (Ok (Some own)) itself → mid.state ≡ old.state → rs ≡ ps → Acts mid new (giving_on mid.state rs own) r (round_with new.state qs)
    → Acts old new (finding_on old.state ps x) r (round_with new.state qs)
found_given old mid new ps rs qs x own r does same is a =
    acts_after old mid new (finding_on old.state ps x) (giving_on mid.state ps own) r (round_with new.state qs)
    (found_over old mid ps x own does same)
    (subst (λ (l : List Exec). Acts mid new (giving_on mid.state l own) r (round_with new.state qs)) is a)

-- ---- a code that is given

giving_next : (p : Exec) (ps : List Exec) (m : Machine) (code : ℤ) → giving (p ∷ ps) m code ≡ finding m ps (giving ps m) (settled (code_taken p code))
unfolding giving
giving_next p ps m code = refl

giving_none : (m : Machine) (code : ℤ) → giving [] m code ≡ readied (idle m) code
unfolding giving
giving_none m code = refl

-- how far it has come: so many procedures are left, and this code is given to the newest of them
pub record Gives (old now : Spot) (ps qs : List Exec) (code own : ℤ) : Type 0 where
  pub comes : Comes old now (giving_on old.state ps code) (giving_on now.state qs own)
  pub same : now.state ≡ old.state

pub gives_none : (old : Spot) (ps : List Exec) (code : ℤ) → Gives old old ps ps code code
gives_none old ps code = record { comes = comes_none old (giving_on old.state ps code); same = refl }

gives_at : (old now : Spot) (ps qs rs : List Exec) (p : Exec) (code own : ℤ) → Gives old now ps qs code own → qs ≡ p ∷ rs
    → Comes old now (giving_on old.state ps code) (finding_on now.state rs (settled (code_taken p own)))
gives_at old now ps qs rs p code own g is =
    comes_then old now now (giving_on old.state ps code) (giving_on now.state qs own) (finding_on now.state rs (settled (code_taken p own))) g.comes
    (comes_same now (giving_on now.state qs own) (finding_on now.state rs (settled (code_taken p own)))
    (λ units h. ap (λ (l : List Exec). giving l (machine_of now.state units) own) is ∙ giving_next p rs (machine_of now.state units) own))

module _ (old mid new : Spot) (ps qs rs : List Exec) (p : Exec) (code own : ℤ) where
  -- the newest has ended with a code of its own
  pub gives_on : (next : ℤ) (left : List Exec) → Gives old mid ps qs code own → qs ≡ p ∷ rs
      → Does mid.world new.world (over (settled (code_taken p own)).0 (settled (code_taken p own)).1) (Ok (Some next)) itself → new.state ≡ mid.state
      → left ≡ rs → Gives old new ps left code next
  gives_on next left g is does same left_is = record {
    comes =
        subst (λ (l : List Exec). Comes old new (giving_on old.state ps code) (giving_on new.state l next)) (sym left_is)
        (comes_then old mid new (giving_on old.state ps code) (finding_on mid.state rs (settled (code_taken p own))) (giving_on new.state rs next)
        (gives_at old mid ps qs rs p code own g is) (found_over mid new rs (settled (code_taken p own)) next does same));
    same = same ∙ g.same;
  }

  -- it goes on
  pub gives_waits : (left : List Exec) → Gives old mid ps qs code own → qs ≡ p ∷ rs
      → Does {T = Option ℤ} mid.world new.world (over (settled (code_taken p own)).0 (settled (code_taken p own)).1) (Ok None) itself → new.state ≡ mid.state
      → left ≡ (settled (code_taken p own)).0 ∷ rs → Acts old new (giving_on old.state ps code) (Ok end.Ready) (round_with new.state left)
  gives_waits left g is does same left_is =
      acts_after old mid new (giving_on old.state ps code) (finding_on mid.state rs (settled (code_taken p own))) (Ok end.Ready) (round_with new.state left)
      (gives_at old mid ps qs rs p code own g is) (found_waits mid new rs (settled (code_taken p own)) left does same left_is)

  pub gives_off : (e : End) (left : List Exec) → Gives old mid ps qs code own → qs ≡ p ∷ rs
      → Does {T = Option ℤ} mid.world new.world (over (settled (code_taken p own)).0 (settled (code_taken p own)).1) (Err e) itself → new.state ≡ mid.state
      → Acts {T = rounds.Round} old new (giving_on old.state ps code) (Err e) (round_with new.state left)
  gives_off e left g is does same =
      acts_after old mid new (giving_on old.state ps code) (finding_on mid.state rs (settled (code_taken p own))) (Err e) (round_with new.state left)
      (gives_at old mid ps qs rs p code own g is) (found_off mid new rs (settled (code_taken p own)) e left does same)

-- the last gives it to CMS
pub gives_ready : (old mid new : Spot) (ps qs rs left : List Exec) (code own : ℤ) (r : Result rounds.Round End) → Gives old mid ps qs code own → qs ≡ [] → rs ≡ []
    → Acts mid new (ready_on mid.state rs own) r (round_with new.state left) → Acts old new (giving_on old.state ps code) r (round_with new.state left)
gives_ready old mid new ps qs rs left code own r g none none' a =
    acts_after old mid new (giving_on old.state ps code) (ready_on mid.state rs own) r (round_with new.state left)
    (comes_then old mid mid (giving_on old.state ps code) (giving_on mid.state qs own) (ready_on mid.state rs own) g.comes
    (comes_same mid (giving_on mid.state qs own) (ready_on mid.state rs own)
    (λ units h. ap (λ (l : List Exec). giving l (machine_of mid.state units) own) none ∙ giving_none (machine_of mid.state units) own
    ∙ sym (ap (λ (l : List Exec). readied (record { machine = machine_of mid.state units; procedures = l }) own) none')))) a

-- ---- a procedure goes on

abbrev pub going_on_on : State → List Exec → Exec → List Slot → Act Round
going_on_on s ps p units = going_on (machine_of s units) ps p

abbrev follow_then : State → List Exec → Exec → List Slot → Option ℤ → Act Round
follow_then s ps p units = unless_over (giving ps (machine_of s units)) (going_on (machine_of s units) ps p)

abbrev pub following_on : State → List Exec → Exec × Want → List Slot → Act Round
following_on s ps x units = following (machine_of s units) ps x

module _ (old mid : Spot) (ps : List Exec) (x : Exec × Want) where
  pub follows_off : (e : End) (qs : List Exec) → Does {T = Option ℤ} old.world mid.world (over x.0 x.1) (Err e) itself → mid.state ≡ old.state
      → Acts {T = rounds.Round} old mid (following_on old.state ps x) (Err e) (round_with mid.state qs)
  follows_off e qs does same = does_stop {T = Option ℤ} old mid (over x.0 x.1) (follow_then old.state ps x.0) e itself (round_with mid.state qs) does same

  pub follows_over : (new : Spot) (own : ℤ) (r : Result rounds.Round End) (qs : List Exec) → Does old.world mid.world (over x.0 x.1) (Ok (Some own)) itself → mid.state ≡ old.state
      → Acts mid new (giving_on old.state ps own) r (round_with new.state qs) → Acts old new (following_on old.state ps x) r (round_with new.state qs)
  follows_over new own r qs does same a =
      acts_after old mid new (following_on old.state ps x) (giving_on old.state ps own) r (round_with new.state qs)
      (comes_does old mid (over x.0 x.1) (follow_then old.state ps x.0) (Some own) itself does same) a

  pub follows_on : (new : Spot) (r : Result rounds.Round End) (qs : List Exec) → Does {T = Option ℤ} old.world mid.world (over x.0 x.1) (Ok None) itself → mid.state ≡ old.state
      → Acts mid new (going_on_on old.state ps x.0) r (round_with new.state qs) → Acts old new (following_on old.state ps x) r (round_with new.state qs)
  follows_on new r qs does same a =
      acts_after old mid new (following_on old.state ps x) (going_on_on old.state ps x.0) r (round_with new.state qs)
      (comes_does {T = Option ℤ} old mid (over x.0 x.1) (follow_then old.state ps x.0) None itself does same) a

-- by what a call of it said
pub follows_so : (old new : Spot) (ps qs : List Exec) (x : Exec × Want) (p : Exec) (want : Want) (r : Result rounds.Round End) → x ≡ (p, want)
    → Acts old new (following_on old.state ps (p, want)) r (round_with new.state qs) → Acts old new (following_on old.state ps x) r (round_with new.state qs)
follows_so old new ps qs x p want r is a = subst (λ (y : Exec × Want). Acts old new (following_on old.state ps y) r (round_with new.state qs)) (sym is) a

-- ---- lines are typed

abbrev types_on : State → List Exec → Exec → List (List ℕ) → List Slot → Act Round
types_on s ps p lines units = typing lines (going_on (machine_of s units) ps p)

abbrev typed_then : State → List Exec → Exec → List Slot → Unit {0} → Act Round
typed_then s ps p units y = going_on (machine_of s units) ps p

module _ (old mid : Spot) (ps : List Exec) (p : Exec) (lines : List (List ℕ)) where
  as_said : (units : List Slot) → types_on old.state ps p lines units ≡ bind (typing lines nothing) (typed_then old.state ps p units)
  as_said units = typing_then lines (going_on (machine_of old.state units) ps p)

  pub types_off : (e : End) (qs : List Exec) → Does {T = Unit {0}} old.world mid.world (typing lines nothing) (Err e) said → mid.state ≡ old.state
      → Acts {T = rounds.Round} old mid (types_on old.state ps p lines) (Err e) (round_with mid.state qs)
  types_off e qs does same =
      acts_same old mid (types_on old.state ps p lines) (λ units. bind (typing lines nothing) (typed_then old.state ps p units)) (Err e) (round_with mid.state qs) (λ units h. as_said units)
      (does_stop {T = Unit {0}} old mid (typing lines nothing) (typed_then old.state ps p) e said (round_with mid.state qs) does same)

  pub types_on_so : (new : Spot) (x : Unit {0}) (r : Result rounds.Round End) (qs : List Exec) → Does old.world mid.world (typing lines nothing) (Ok x) said → mid.state ≡ old.state
      → Acts mid new (going_on_on old.state ps p) r (round_with new.state qs) → Acts old new (types_on old.state ps p lines) r (round_with new.state qs)
  types_on_so new x r qs does same a =
      acts_after old mid new (types_on old.state ps p lines) (going_on_on old.state ps p) r (round_with new.state qs)
      (comes_then old old mid (types_on old.state ps p lines) (λ units. bind (typing lines nothing) (typed_then old.state ps p units)) (going_on_on old.state ps p)
      (comes_same old (types_on old.state ps p lines) (λ units. bind (typing lines nothing) (typed_then old.state ps p units)) (λ units h. as_said units))
      (comes_does old mid (typing lines nothing) (typed_then old.state ps p) x said does same)) a

-- ---- lines are stacked

abbrev stacks_on : State → List Exec → Exec → List (List ℕ) → Side → List Slot → Act Round
stacks_on s ps p lines side units = stacking_for (machine_of s units) ps p lines side

abbrev stacking_on : State → List (List ℕ) → Side → List Slot → Act Course
stacking_on s lines side units = stacking (machine_of s units) (end_of side) lines

abbrev stacked_then : List Exec → Exec → Course → Act Round
stacked_then ps p (Went m code) = going_on m ps p
stacked_then ps p OutOfTurns = Done (Ends finish.AtTurns)

abbrev Fits : State → List (List ℕ) → Bool
Fits s lines = nat_le (length s.stack + length lines) most_lines

module _ (old : Spot) (ps : List Exec) (p : Exec) (lines : List (List ℕ)) (side : Side) where
  -- they don't fit
  pub stacks_not : (new : Spot) (q : Exec) (want : Want) (r : Result rounds.Round End) (qs : List Exec) → Fits old.state lines ≡ false → Takes (exec.refused p) p q want
      → Acts old new (following_on old.state ps (q, want)) r (round_with new.state qs) → Acts old new (stacks_on old.state ps p lines side) r (round_with new.state qs)
  stacks_not new q want r qs full t a =
      acts_same old new (stacks_on old.state ps p lines side) (following_on old.state ps (came_to p (exec.refused p))) r (round_with new.state qs) (λ units h. rw full refl)
      (follows_so old new ps qs (came_to p (exec.refused p)) q want r (called_so p q want (exec.refused p) t) a)

  as_stacked : Fits old.state lines ≡ true → (units : List Slot) → stacks_on old.state ps p lines side units ≡ bind (stacking_on old.state lines side units) (stacked_then ps p)
  as_stacked room units = rw room refl

  stacks_to : (mid : Spot) (c : declared.Course) → Fits old.state lines ≡ true → Acts old mid (stacking_on old.state lines side) (Ok c) (course_of mid.state)
      → Comes old mid (stacks_on old.state ps p lines side) (λ units. stacked_then ps p (course_of mid.state units c))
  stacks_to mid c room a =
      comes_then old old mid (stacks_on old.state ps p lines side) (λ units. bind (stacking_on old.state lines side units) (stacked_then ps p))
      (λ units. stacked_then ps p (course_of mid.state units c))
      (comes_same old (stacks_on old.state ps p lines side) (λ units. bind (stacking_on old.state lines side units) (stacked_then ps p)) (λ units h. as_stacked room units))
      (comes_in old mid (stacking_on old.state lines side) (stacked_then ps p) c (course_of mid.state) a)

  pub stacks_so : (mid new : Spot) (c : declared.Course) (code : ℤ) (r : Result rounds.Round End) (qs : List Exec) → Fits old.state lines ≡ true
      → Acts old mid (stacking_on old.state lines side) (Ok c) (course_of mid.state) → c ≡ course.Went code → Acts mid new (going_on_on mid.state ps p) r (round_with new.state qs)
      → Acts old new (stacks_on old.state ps p lines side) r (round_with new.state qs)
  stacks_so mid new c code r qs room a is b =
      acts_after old mid new (stacks_on old.state ps p lines side) (going_on_on mid.state ps p) r (round_with new.state qs)
      (subst (λ (d : declared.Course). Comes old mid (stacks_on old.state ps p lines side) (λ units. stacked_then ps p (course_of mid.state units d))) is (stacks_to mid c room a)) b

  pub stacks_spent : (new : Spot) (c : declared.Course) (qs : List Exec) → Fits old.state lines ≡ true
      → Acts old new (stacking_on old.state lines side) (Ok c) (course_of new.state) → c ≡ course.OutOfTurns
      → Acts old new (stacks_on old.state ps p lines side) (Ok (end.Ended finish.AtTurns)) (round_with new.state qs)
  stacks_spent new c qs room a is =
      acts_done old new (stacks_on old.state ps p lines side) (end.Ended finish.AtTurns) (round_with new.state qs)
      (subst (λ (d : declared.Course). Comes old new (stacks_on old.state ps p lines side) (λ units. stacked_then ps p (course_of new.state units d))) is (stacks_to new c room a))

  pub stacks_off : (new : Spot) (e : End) (qs : List Exec) → Fits old.state lines ≡ true → Acts {T = declared.Course} old new (stacking_on old.state lines side) (Err e) (course_of new.state)
      → Acts {T = rounds.Round} old new (stacks_on old.state ps p lines side) (Err e) (round_with new.state qs)
  stacks_off new e qs room a =
      acts_same old new (stacks_on old.state ps p lines side) (λ units. bind (stacking_on old.state lines side units) (stacked_then ps p)) (Err e) (round_with new.state qs)
      (λ units h. as_stacked room units)
      (acts_stop old new (stacking_on old.state lines side) (stacked_then ps p) e (course_of new.state) (round_with new.state qs) a)

-- ---- a line is asked for

abbrev reads_on : State → List Exec → Exec → List Slot → Act Round
reads_on s ps p units = bind (asks.ask (machine_of s units)) (given ps p)

module _ (old mid : Spot) (ps : List Exec) (p : Exec) where
  pub reads_off : (e : End) (qs : List Exec) → Acts {T = Asked} old mid (ask_tree old.state) (Err e) (asked_of mid.state)
      → Acts {T = rounds.Round} old mid (reads_on old.state ps p) (Err e) (round_with mid.state qs)
  reads_off e qs a = acts_stop old mid (ask_tree old.state) (given ps p) e (asked_of mid.state) (round_with mid.state qs) a

  reads_to : (x : Asked) → Acts old mid (ask_tree old.state) (Ok x) (asked_of mid.state) → Comes old mid (reads_on old.state ps p) (λ units. given ps p (asked_of mid.state units x))
  reads_to x a = comes_in old mid (ask_tree old.state) (given ps p) x (asked_of mid.state) a

  pub reads_spent : (qs : List Exec) → Acts old mid (ask_tree old.state) (Ok Spent) (asked_of mid.state)
      → Acts old mid (reads_on old.state ps p) (Ok (end.Ended finish.AtTurns)) (round_with mid.state qs)
  reads_spent qs a = acts_done old mid (reads_on old.state ps p) (end.Ended finish.AtTurns) (round_with mid.state qs) (reads_to Spent a)

  pub reads_no_memory : (line : List ℕ) (qs : List Exec) → Acts old mid (ask_tree old.state) (Ok (Given line)) (asked_of mid.state)
      → Acts {T = rounds.Round} old mid (reads_on old.state ps p) (Err Memory) (round_with mid.state qs)
  reads_no_memory line qs a =
      no_memory old mid (reads_on old.state ps p) (λ units. given ps p (asked_of mid.state units (Given line))) (round_with mid.state qs) (reads_to (Given line) a)

  pub reads_so : (new : Spot) (line : List ℕ) (q : Exec) (want : Want) (r : Result rounds.Round End) (qs : List Exec)
      → Acts old mid (ask_tree old.state) (Ok (Given line)) (asked_of mid.state) → Takes (exec.line_taken p line) p q want
      → Acts mid new (following_on mid.state ps (q, want)) r (round_with new.state qs) → Acts old new (reads_on old.state ps p) r (round_with new.state qs)
  reads_so new line q want r qs a t b =
      acts_after old mid new (reads_on old.state ps p) (following_on mid.state ps (came_to p (exec.line_taken p line))) r (round_with new.state qs)
      (reads_to (Given line) a)
      (follows_so mid new ps qs (came_to p (exec.line_taken p line)) q want r (called_so p q want (exec.line_taken p line) t) b)

-- ---- what a line comes to

abbrev pub issuing_on : State → List Object → Decks → ℕ → List ℕ → List Slot → Act (Issued × Decks)
issuing_on s os decks running line units = issued (desk_of s os units) decks running line

answered_so : (s : State) (os : List Object) (ps : List Exec) (x : declared_issued.Issued) (units : List Slot)
    → answered ps (issued_of s os units x) ≡ leaving os (answering s ps x units)
answered_so s os ps (issue.Came (course.Went code)) units = refl
answered_so s os ps (issue.Came course.OutOfTurns) units = refl
answered_so s os ps (issue.Begun p) units = refl

-- with the tree of what it comes to, which leaves these decks
module _ (a b : List Object) (kept : Decks) (old : SpotWith a) (mid : SpotWith b) (ps : List Exec) (tree : List Slot → Act (Issued × Decks)) where
  pub issue_off : (e : End) (qs : List Exec) → Acts {T = declared_issued.Issued} old mid tree (Err e) (issued_beside mid.state b kept)
      → Acts {T = rounds.Round} old mid (λ units. bind (tree units) (answered_beside ps)) (Err e) (passed_beside mid.state kept qs b)
  issue_off e qs acts = acts_stop old mid tree (answered_beside ps) e (issued_beside mid.state b kept) (passed_beside mid.state kept qs b) acts

  pub issue_answered : (new : SpotWith b) (x : declared_issued.Issued) (r : Result rounds.Round End) (qs : List Exec) (left_decks : Decks)
      → Acts old mid tree (Ok x) (issued_beside mid.state b kept) → left_decks ≡ kept
      → Acts (alone mid) (alone new) (answering mid.state ps x) r (round_with new.state qs)
      → Acts old new (λ units. bind (tree units) (answered_beside ps)) r (passed_beside new.state left_decks qs b)
  issue_answered new x r qs left_decks acts same next =
      let tail : List Slot → Act Passed = λ units. leaving b (answering mid.state ps x units) in
      subst (λ (ds : Decks). Acts old new (λ units. bind (tree units) (answered_beside ps)) r (passed_beside new.state ds qs b)) (sym same)
      (acts_after old mid new (λ units. bind (tree units) (answered_beside ps)) (λ units. answered_beside ps (issued_beside mid.state b kept units x)) r
      (passed_beside new.state kept qs b)
      (comes_in old mid tree (answered_beside ps) x (issued_beside mid.state b kept) acts)
      (acts_same mid new (λ units. answered_beside ps (issued_beside mid.state b kept units x)) (λ units. leaving_decks kept (tail units)) r
      (passed_beside new.state kept qs b) (λ units h. ap (leaving_decks kept) (answered_so mid.state b ps x units))
      (decked mid new kept tail r (passed_with new.state qs b) (left mid new (answering mid.state ps x) r qs next))))

abbrev issuing_for : State → List Object → Decks → List Exec → Exec → List ℕ → List Slot → Act (Passed × Decks)
issuing_for s os decks ps p text units = bind (issued (desk_of s os units) decks (length (p ∷ ps)) text) (answered_beside (p ∷ ps))

-- a line that the newest procedure issues, once it is back among the others
pub issues_off : (a b : List Object) (decks kept : Decks) (old : SpotWith a) (mid : SpotWith b) (ps rest : List Exec) (p : Exec) (text : List ℕ) (running : ℕ) (e : End)
    (qs : List Exec) → rest ≡ p ∷ ps → running ≡ length rest
    → Acts {T = declared_issued.Issued} old mid (issuing_on old.state a decks running text) (Err e) (issued_beside mid.state b kept)
    → Acts {T = rounds.Round} old mid (issuing_for old.state a decks ps p text) (Err e) (passed_beside mid.state kept qs b)
issues_off a b decks kept old mid ps rest p text running e qs is many acts =
    issue_off a b kept old mid (p ∷ ps) (issuing_on old.state a decks (length (p ∷ ps)) text) e qs
    (subst (λ (n : ℕ). Acts {T = declared_issued.Issued} old mid (issuing_on old.state a decks n text) (Err e) (issued_beside mid.state b kept))
    (many ∙ ap (λ (l : List Exec). length l) is) acts)

pub issues_so : (a b : List Object) (decks kept left_decks : Decks) (old : SpotWith a) (mid new : SpotWith b) (ps rest qs : List Exec) (p : Exec) (text : List ℕ) (running : ℕ)
    (x : declared_issued.Issued) (r : Result rounds.Round End) → rest ≡ p ∷ ps → running ≡ length rest
    → Acts old mid (issuing_on old.state a decks running text) (Ok x) (issued_beside mid.state b kept) → left_decks ≡ kept
    → Acts (alone mid) (alone new) (answering mid.state rest x) r (round_with new.state qs)
    → Acts old new (issuing_for old.state a decks ps p text) r (passed_beside new.state left_decks qs b)
issues_so a b decks kept left_decks old mid new ps rest qs p text running x r is many acts same next =
    issue_answered a b kept old mid (p ∷ ps) (issuing_on old.state a decks (length (p ∷ ps)) text) new x r qs left_decks
    (subst (λ (n : ℕ). Acts old mid (issuing_on old.state a decks n text) (Ok x) (issued_beside mid.state b kept)) (many ∙ ap (λ (l : List Exec). length l) is) acts)
    same
    (subst (λ (l : List Exec). Acts (alone mid) (alone new) (answering mid.state l x) r (round_with new.state qs)) is next)

-- ---- a statement

abbrev pub statement_on : State → List Object → Decks → List Exec → Exec → List Slot → Act (Passed × Decks)
statement_on s os decks ps p units = statement (desk_of s os units) decks ps p

abbrev with_turns : State → List Object → Decks → List Exec → Exec → ℕ → List Slot → Act (Passed × Decks)
with_turns s os decks ps p n units = statement_with (desk_of s os units) decks ps p n

abbrev pub meeting_on : State → List Object → Decks → List Exec → Exec → Want → List Slot → Act (Passed × Decks)
meeting_on s os decks ps p want units = meeting (desk_of s os units) decks ps p want

abbrev then_stepped : List Object → Decks → List Exec → Exec → Machine → Act (Passed × Decks)
then_stepped os decks ps p m = stepped (desk m os) decks ps p

abbrev stepped_on : State → List Object → Decks → List Exec → Exec → List Slot → Act (Passed × Decks)
stepped_on s os decks ps p units = stepped (desk_of s os units) decks ps p

module _ (os : List Object) (decks : Decks) (old : SpotWith os) (ps : List Exec) (p : Exec) where
  has_turns : (n : ℕ) → old.state.left ≡ n → Comes old old (statement_on old.state os decks ps p) (with_turns old.state os decks ps p n)
  has_turns n left =
      subst (λ (k : ℕ). Comes old old (statement_on old.state os decks ps p) (with_turns old.state os decks ps p k)) left (comes_none old (statement_on old.state os decks ps p))

  pub no_turn_left : (qs : List Exec) → old.state.left ≡ 0
      → Acts old old (statement_on old.state os decks ps p) (Ok (end.Ended finish.AtTurns)) (passed_beside old.state decks qs os)
  no_turn_left qs none =
      acts_done old old (statement_on old.state os decks ps p) (end.Ended finish.AtTurns) (passed_beside old.state decks qs os) (has_turns 0 none)

  pub statement_off : (new : SpotWith os) (n : ℕ) (e : End) (qs : List Exec) → old.state.left ≡ suc n
      → Acts {T = Unit {0}} (alone old) (alone new) (turning_tree old.state n) (Err e) (machine_now new.state)
      → Acts {T = rounds.Round} old new (statement_on old.state os decks ps p) (Err e) (passed_beside new.state decks qs os)
  statement_off new n e qs some a =
      acts_after old old new (statement_on old.state os decks ps p) (with_turns old.state os decks ps p (suc n)) (Err e) (passed_beside new.state decks qs os) (has_turns (suc n) some)
      (acts_stop old new (turning_tree old.state n) (then_stepped os decks ps p) e (machine_now {T = Unit {0}} new.state) (passed_beside new.state decks qs os)
      (acts_alone {T = Unit {0}} old new (turning_tree old.state n) (Err e) (machine_now new.state) a))

  turn_spent : (mid : SpotWith os) (n : ℕ) (x : Unit {0}) → old.state.left ≡ suc n
      → Acts (alone old) (alone mid) (turning_tree old.state n) (Ok x) (machine_now mid.state)
      → Comes old mid (statement_on old.state os decks ps p) (stepped_on mid.state os decks ps p)
  turn_spent mid n x some a =
      comes_then old old mid (statement_on old.state os decks ps p) (with_turns old.state os decks ps p (suc n)) (stepped_on mid.state os decks ps p) (has_turns (suc n) some)
      (comes_in old mid (turning_tree old.state n) (then_stepped os decks ps p) x (machine_now mid.state)
      (acts_alone old mid (turning_tree old.state n) (Ok x) (machine_now mid.state) a))

  pub statement_no_memory : (mid : SpotWith os) (n : ℕ) (x : Unit {0}) (qs : List Exec) → old.state.left ≡ suc n
      → Acts (alone old) (alone mid) (turning_tree old.state n) (Ok x) (machine_now mid.state)
      → Acts {T = rounds.Round} old mid (statement_on old.state os decks ps p) (Err Memory) (passed_beside mid.state decks qs os)
  statement_no_memory mid n x qs some a =
      no_memory old mid (statement_on old.state os decks ps p) (stepped_on mid.state os decks ps p) (passed_beside mid.state decks qs os) (turn_spent mid n x some a)

  pub statement_so : (b : List Object) (kept : Decks) (mid : SpotWith os) (new : SpotWith b) (n : ℕ) (x : Unit {0}) (q : Exec) (want : Want) (r : Result rounds.Round End) (qs : List Exec)
      → old.state.left ≡ suc n → Acts (alone old) (alone mid) (turning_tree old.state n) (Ok x) (machine_now mid.state) → Takes (exec.turned mid.state.moment p) p q want
      → Acts mid new (meeting_on mid.state os decks ps q want) r (passed_beside new.state kept qs b) → Acts old new (statement_on old.state os decks ps p) r (passed_beside new.state kept qs b)
  statement_so b kept mid new n x q want r qs some a t acts =
      let m : Moved = exec.turned mid.state.moment p in
      acts_after old mid new (statement_on old.state os decks ps p) (stepped_on mid.state os decks ps p) r (passed_beside new.state kept qs b) (turn_spent mid n x some a)
      (subst (λ (y : Exec × Want). Acts mid new (λ units. met (desk_of mid.state os units) decks ps y) r (passed_beside new.state kept qs b)) (sym (called_so p q want m t)) acts)

-- ---- a line of CMS

abbrev pub line_on : State → List Object → Decks → List Exec → List ℕ → List Slot → Act (Passed × Decks)
line_on s os decks ps text units = run_line (desk_of s os units) decks ps text

pub comment_so : (os : List Object) (decks : Decks) (old : SpotWith os) (ps : List Exec) (text : List ℕ) → is_comment text ≡ true
    → Acts old old (line_on old.state os decks ps text) (Ok end.Ready) (passed_beside old.state decks ps os)
comment_so os decks old ps text is =
    done_here old (line_on old.state os decks ps text) end.Ready (passed_beside old.state decks ps os) (λ units h. rw is refl)

abbrev taken_up_on : State → List Object → Decks → List Exec → List ℕ → List Slot → Act (Passed × Decks)
taken_up_on s os decks ps text units = bind (take_up_tree s os decks (length ps) text units) (answered_beside ps)

module _ (a b : List Object) (decks kept : Decks) (old : SpotWith a) (ps : List Exec) (text : List ℕ) (other : is_comment text ≡ false) where
  pub line_off : (new : SpotWith b) (e : End) (qs : List Exec)
      → Acts {T = declared_issued.Issued} old new (take_up_tree old.state a decks (length ps) text) (Err e) (issued_beside new.state b kept)
      → Acts {T = rounds.Round} old new (line_on old.state a decks ps text) (Err e) (passed_beside new.state kept qs b)
  line_off new e qs acts =
      acts_same old new (line_on old.state a decks ps text) (taken_up_on old.state a decks ps text) (Err e) (passed_beside new.state kept qs b)
      (λ units h. rw other refl)
      (issue_off a b kept old new ps (take_up_tree old.state a decks (length ps) text) e qs acts)

  pub line_so : (mid new : SpotWith b) (x : declared_issued.Issued) (r : Result rounds.Round End) (qs : List Exec) (left_decks : Decks)
      → Acts old mid (take_up_tree old.state a decks (length ps) text) (Ok x) (issued_beside mid.state b kept) → left_decks ≡ kept
      → Acts (alone mid) (alone new) (answering mid.state ps x) r (round_with new.state qs)
      → Acts old new (line_on old.state a decks ps text) r (passed_beside new.state left_decks qs b)
  line_so mid new x r qs left_decks acts same next =
      acts_same old new (line_on old.state a decks ps text) (taken_up_on old.state a decks ps text) r (passed_beside new.state left_decks qs b)
      (λ units h. rw other refl)
      (issue_answered a b kept old mid ps (take_up_tree old.state a decks (length ps) text) new x r qs left_decks acts same next)
