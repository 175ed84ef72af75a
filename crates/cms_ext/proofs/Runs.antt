-- A run of an extension: rounds, one after another.
use Rattle.std.proofs.Common.{◌≡◌, ◌∙◌, ◌-◌, ◌≤◌, ℕ, ℤ, suc, true, List, Result, Ok, Err, arith, refl, sym, ap, subst}
use Rattle.std.specs.Prelude.{Option, Some, remove}
use Rattle.std.specs.declared.alloc.AllocError.{AllocError}
use Rattle.cms_fields.specs.Moments.{is_moment}
use Rattle.cms_model.specs.Acts.{Act, Drops, bind}
use Rattle.cms_model.specs.Objects.{Back, Object, Reply}
use Rattle.cms_model.specs.Slots.{Slot}
use Rattle.cms_model.specs.Points.{Point}
use Rattle.cms_model.specs.Runs.{Ran}
use Rattle.cms_model.proofs.Single.{broke_before, ran_ask, ran_drop}
use Rattle.cms_world.specs.Seen.{Seen}
use Rattle.cms_search.specs.Calls.{Acts, Comes, SpotWith, at, spot_at}
use Rattle.cms_search.specs.Machine.{Machine}
use Rattle.cms_search.specs.Turns.{machine_now, turning_tree}
use Rattle.cms_search.specs.declared.state.Course as declared
use Rattle.cms_search.specs.declared.state.Course.TheVariants as course
use Rattle.cms_search.specs.declared.state.End.{End}
use Rattle.cms_search.specs.declared.state.End.TheVariants.{Memory}
use Rattle.cms_search.specs.declared.state.State.{State}
use Rattle.cms_search.proofs.Acts.{acts_after, acts_done, acts_stop, comes_in, comes_none, comes_same, comes_then, later_none}
use Rattle.cms_search.proofs.Besides.{acts_beside}
use Rattle.cms_ext.specs.Calls.{desk_of, ended_of, met_of, run_tree}
use Rattle.cms_ext.specs.Extensions.{Desk, Ended, Met, behind, desk, meeting, round, running, told_at}
use Rattle.cms_ext.specs.Extensions as spec
use Rattle.cms_ext.specs.Objects.{AnswersAt, HasPlace, words_of}
use Rattle.cms_ext.specs.Replies.{reply_of, want_of}
use Rattle.cms_ext.specs.declared.extension.ExtReply.{ExtReply}
use Rattle.cms_ext.specs.declared.extension.ExtWant.{ExtWant}
use Rattle.cms_ext.specs.declared.wants.Met as declared_met
use Rattle.cms_ext.specs.declared.wants.Met.TheVariants as met
use Rattle.cms_ext.proofs.Lists.{objects_kept, place_kept}

-- where a session with these objects stands
abbrev pub spot_in : Seen → State → (objects : List Object) → SpotWith objects
spot_in w s objects = record { world = w; state = s }

-- ---- one round

module _ (w : Seen) (s : State) (old new : List Object) (place : ℕ) (reply : ExtReply) where
  abbrev pub rounds : List Slot → Act Met
  rounds units = round place (desk_of s old units) (reply_of reply)

  -- it was asked, and wants this
  asked_ran : (want : ExtWant) → AnswersAt old place reply new (Ok want) → (units : List Slot)
      → Ran (at (spot_in w s old) units) (at (spot_in w s new) units) (rounds units) (meeting (desk_of s new units) (want_of want))
  asked_ran want a units =
      let p : Point = at (spot_in w s old) units in
      let d : Desk = desk_of s old units in
      let back : Back = record { want = want_of want; content = a.after } in
      let next : Act Met = meeting (desk_of s new units) (want_of want) in
      subst (λ (o : Option Object). Ran p (at (spot_in w s new) units) (told_at d place (reply_of reply) o) next) (sym a.there)
      (subst (λ (os : List Object). Ran p (at (spot_in w s os) units) (told_at d place (reply_of reply) (Some a.object))
      (meeting (desk_of s os units) (want_of want))) (sym a.others)
      (ran_ask p place a.object (reply_of reply) back (λ (b : Back). meeting (spec.answered_at d place a.object b) b.want) a.there a.answers.wants))

  asked_comes : (want : ExtWant) → AnswersAt old place reply new (Ok want)
      → Comes (spot_in w s old) (spot_in w s new) rounds (λ units. meeting (desk_of s new units) (want_of want))
  asked_comes want a = record {
    each = λ units h. (units, (h, asked_ran want a units));
    later = later_none w;
    usable = λ usable. usable;
  }

  -- and what it wants came to this
  pub round_met : (want : ExtWant) (v : Seen) (t : State) (r : Result declared_met.Met End) → AnswersAt old place reply new (Ok want)
      → ((objects : List Object) → Acts (spot_at w s) (spot_at v t) (λ units. meeting (desk_of s objects units) (want_of want)) r (met_of t objects))
      → Acts (spot_in w s old) (spot_in v t new) rounds r (met_of t new)
  round_met want v t r a b =
      acts_after (spot_in w s old) (spot_in w s new) (spot_in v t new) rounds (λ units. meeting (desk_of s new units) (want_of want)) r (met_of t new)
      (asked_comes want a)
      (acts_beside new (spot_at w s) (spot_at v t) (λ units. meeting (desk_of s new units) (want_of want)) r (met_of t new) (b new))

  -- or it had no memory, and holds what it held
  pub round_starved : (e : AllocError) → AnswersAt old place reply new (Err e)
      → Acts {T = declared_met.Met} (spot_in w s old) (spot_in w s new) rounds (Err Memory) (met_of s new)
  round_starved e a =
      subst (λ (os : List Object). Acts {T = declared_met.Met} (spot_in w s old) (spot_in w s os) rounds (Err Memory) (met_of s os))
      (sym (objects_kept old place reply new e a))
      (record {
        each = λ units h. (
          units,
          (h, broke_before (at (spot_in w s old) units) (at (spot_in w s old) units) (rounds units) refl (omega arith) refl),
        );
        later = later_none w;
        usable = λ usable. usable;
        cause = λ edge. absurd (cc edge);
      })

-- ---- rounds

module _ (place : ℕ) where
  run_more : (more : ℕ) (d : Desk) (reply : Reply) → running place (suc more) d reply ≡ bind (round place d reply) (behind (running place more))
  unfolding running
  run_more more d reply = refl

  -- the run stands before so many rounds at most
  abbrev pub before_rounds : State → List Object → ExtReply → ℕ → List Slot → Act Ended
  before_rounds s objects reply fuel units = running place fuel (desk_of s objects units) (reply_of reply)

  module _ {a b c : List Object} (old : SpotWith a) (mid : SpotWith b) (new : SpotWith c) (t : List Slot → Act Ended) (reply : ExtReply) (more : ℕ)
      (comes : Comes old mid t (before_rounds mid.state b reply (suc more))) where
    abbrev one_round : List Slot → Act Met
    one_round units = round place (desk_of mid.state b units) (reply_of reply)

    first_round : Comes old mid t (λ units. bind (one_round units) (behind (running place more)))
    first_round =
        comes_then old mid mid t (before_rounds mid.state b reply (suc more)) (λ units. bind (one_round units) (behind (running place more))) comes
        (comes_same mid (before_rounds mid.state b reply (suc more)) (λ units. bind (one_round units) (behind (running place more)))
        (λ units h. run_more more (desk_of mid.state b units) (reply_of reply)))

    -- the round came to this
    round_comes : (x : declared_met.Met) → Acts mid new one_round (Ok x) (met_of new.state c)
        → Comes old new t (λ units. behind (running place more) (met_of new.state c units x))
    round_comes x r =
        comes_then old mid new t (λ units. bind (one_round units) (behind (running place more))) (λ units. behind (running place more) (met_of new.state c units x))
        first_round (comes_in mid new one_round (behind (running place more)) x (met_of new.state c) r)

    -- it was cut off
    pub round_off : (e : End) → Acts {T = declared_met.Met} mid new one_round (Err e) (met_of new.state c)
        → Acts {T = declared.Course} old new t (Err e) (ended_of new.state c)
    round_off e r =
        acts_after old mid new t (λ units. bind (one_round units) (behind (running place more))) (Err e) (ended_of new.state c) first_round
        (acts_stop mid new one_round (behind (running place more)) e (met_of new.state c) (ended_of new.state c) r)

    -- the extension is done
    pub round_over : (x : declared_met.Met) (code : _) → Acts mid new one_round (Ok x) (met_of new.state c) → x ≡ met.Over code
        → Acts old new t (Ok (course.Went code)) (ended_of new.state c)
    round_over x code r is =
        acts_done old new t (course.Went code) (ended_of new.state c)
        (subst (λ (y : declared_met.Met). Comes old new t (λ units. behind (running place more) (met_of new.state c units y))) is (round_comes x r))

    -- no turn is left for the line that it asks for
    pub round_no_turns : (x : declared_met.Met) → Acts mid new one_round (Ok x) (met_of new.state c) → x ≡ met.NoTurns
        → Acts old new t (Ok course.OutOfTurns) (ended_of new.state c)
    round_no_turns x r is =
        acts_done old new t course.OutOfTurns (ended_of new.state c)
        (subst (λ (y : declared_met.Met). Comes old new t (λ units. behind (running place more) (met_of new.state c units y))) is (round_comes x r))

    -- it is asked again, where a turn is left
    again_comes : (x : declared_met.Met) (next : ExtReply) → Acts mid new one_round (Ok x) (met_of new.state c) → x ≡ met.Told next
        → Comes old new t (λ units. spec.again (running place more) (desk_of new.state c units) (reply_of next) new.state.left)
    again_comes x next r is =
        subst (λ (y : declared_met.Met). Comes old new t (λ units. behind (running place more) (met_of new.state c units y))) is (round_comes x r)

    pub again_out : (x : declared_met.Met) (next : ExtReply) → Acts mid new one_round (Ok x) (met_of new.state c) → x ≡ met.Told next
        → new.state.left ≡ 0 → Acts old new t (Ok course.OutOfTurns) (ended_of new.state c)
    again_out x next r is none =
        acts_done old new t course.OutOfTurns (ended_of new.state c)
        (subst (λ (left : ℕ). Comes old new t (λ units. spec.again (running place more) (desk_of new.state c units) (reply_of next) left)) none
        (again_comes x next r is))

    module _ (x : declared_met.Met) (next : ExtReply) (r : Acts mid new one_round (Ok x) (met_of new.state c)) (is : x ≡ met.Told next)
        (v : Seen) (u : State) (some : new.state.left ≡ suc u.left) where
      abbrev then_next : Machine → Act Ended
      then_next m = running place more (desk m c) (reply_of next)

      turn_due : Comes old new t (λ units. bind (turning_tree new.state u.left units) then_next)
      turn_due =
          subst (λ (left : ℕ). Comes old new t (λ units. spec.again (running place more) (desk_of new.state c units) (reply_of next) left)) some
          (again_comes x next r is)

      -- a turn was spent
      pub again_turned : (y : Unit {0}) → Acts (spot_at new.world new.state) (spot_at v u) (turning_tree new.state u.left) (Ok y) (machine_now u)
          → Comes old (spot_in v u c) t (before_rounds u c next more)
      again_turned y turn =
          comes_then old new (spot_in v u c) t (λ units. bind (turning_tree new.state u.left units) then_next) (before_rounds u c next more) turn_due
          (comes_in new (spot_in v u c) (turning_tree new.state u.left) then_next y (machine_now u)
          (acts_beside c (spot_at new.world new.state) (spot_at v u) (turning_tree new.state u.left) (Ok y) (machine_now u) turn))

      -- or cut off
      pub again_off : (e : End) → Acts {T = Unit {0}} (spot_at new.world new.state) (spot_at v u) (turning_tree new.state u.left) (Err e) (machine_now u)
          → Acts {T = declared.Course} old (spot_in v u c) t (Err e) (ended_of u c)
      again_off e turn =
          acts_after old new (spot_in v u c) t (λ units. bind (turning_tree new.state u.left units) then_next) (Err e) (ended_of u c) turn_due
          (acts_stop new (spot_in v u c) (turning_tree new.state u.left) then_next e (machine_now {T = Unit {0}} u) (ended_of u c)
          (acts_beside {T = Unit {0}} c (spot_at new.world new.state) (spot_at v u) (turning_tree new.state u.left) (Err e) (machine_now u) turn))

-- ---- a run that goes on

-- the run stands before a round, where the object is told this; no more rounds are due than may be
pub record IsRunning (place : ℕ) {first : List Object} (old : SpotWith first) (t : List Slot → Act Ended) (w : Seen) (s : State)
    (objects : List Object) (reply : ExtReply) : Type 0 where
  pub more : ℕ
  pub comes : Comes old (spot_in w s objects) t (before_rounds place s objects reply (suc more))
  pub enough : s.left ≤ more
  pub there : HasPlace place objects
  pub words : words_of objects ≡ words_of first
  pub moment : is_moment s.moment ≡ true
  pub offset : s.offset ≡ old.state.offset
  pub left : s.left ≤ old.state.left

-- it begins
pub begins : (place : ℕ) (w : Seen) (s : State) (objects : List Object) (reply : ExtReply) → HasPlace place objects → is_moment s.moment ≡ true
    → IsRunning place (spot_in w s objects) (run_tree s objects place (reply_of reply)) w s objects reply
begins place w s objects reply there moment = record {
  more = s.left;
  comes = comes_none (spot_in w s objects) (run_tree s objects place (reply_of reply));
  enough = omega arith;
  there = there;
  words = refl;
  moment = moment;
  offset = refl;
  left = omega arith;
}

-- all but the offset may be another
pub all_kept : (a s : State) → s.offset ≡ a.offset → s ≡ record a {
  table = s.table;
  stack = s.stack;
  console = s.console;
  places = s.places;
  moment = s.moment;
  left = s.left;
}
all_kept a s same = ap (λ (o : ℤ). record s { offset = o }) same

-- so it goes on behind a round and a turn
pub goes_on : (place : ℕ) {first : List Object} (old : SpotWith first) (t : List Slot → Act Ended) (w v x : Seen) (s c u : State)
    (before after : List Object) (reply next : ExtReply) (met' : declared_met.Met) (y : Unit {0})
    → (run : IsRunning place old t w s before reply)
    → Acts (spot_in w s before) (spot_in v c after) (λ units. round place (desk_of s before units) (reply_of reply)) (Ok met') (met_of c after)
    → met' ≡ met.Told next → words_of after ≡ words_of before → c.offset ≡ s.offset → c.left ≤ s.left
    → Acts (spot_at v c) (spot_at x u) (turning_tree c u.left) (Ok y) (machine_now u) → c.left ≡ suc u.left → u.offset ≡ c.offset
    → is_moment u.moment ≡ true → IsRunning place old t x u after next
goes_on place {first} old t w v x s c u before after reply next met' y run round is words offset left turn some offset' moment =
    let enough = run.enough in
    let less = run.left in
    let fuel : run.more ≡ suc (run.more - 1) = omega (arith, enough, left, some) in
    record {
      more = run.more - 1;
      comes = subst (λ (n : ℕ). Comes old (spot_in x u after) t (before_rounds place u after next n)) fuel
          (again_turned place old (spot_in w s before) (spot_in v c after) t reply run.more run.comes met' next round is x u some y turn);
      enough = omega (arith, enough, left, some);
      there = place_kept place before after words run.there;
      words = words ∙ run.words;
      moment = moment;
      offset = offset' ∙ (offset ∙ run.offset);
      left = omega (arith, less, left, some);
    }

-- ---- an object that is dropped

pub comes_dropped : {R : Type 0} (w : Seen) (s : State) (objects : List Object) (place : ℕ) (t : List Slot → Act R) → HasPlace place objects
    → Comes (spot_in w s objects) (spot_in w s (remove objects place)) (λ units. Drops place (t units)) t
comes_dropped w s objects place t there = record {
  each = λ units h. (units, (h, ran_drop (at (spot_in w s objects) units) place (t units) there));
  later = later_none w;
  usable = λ usable. usable;
}
