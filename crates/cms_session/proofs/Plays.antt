-- The session's rounds, one after another.
use Rattle.std.proofs.Common.{◌≡◌, ℕ, zero, suc, ◌<◌, List, [], Result, Ok, Err, refl, subst, arith}
use Rattle.cms_model.specs.Objects.{Object}
use Rattle.cms_model.specs.Slots.{Slot}
use Rattle.cms_model.specs.Acts.{Act, Done, bind}
use Rattle.cms_search.specs.declared.state.End.{End}
use Rattle.cms_search.specs.declared.state.State.{State}
use Rattle.cms_search.specs.Calls.{SpotWith, Acts, Comes, machine_of}
use Rattle.cms_search.specs.Turns.{machine_now}
use Rattle.cms_search.proofs.Acts.{comes_then, comes_in, comes_same, acts_done, acts_after, acts_stop}
use Rattle.cms_ext.specs.Calls.{desk_of}
use Rattle.exec2_run.specs.State.{Exec}
use Rattle.cms_cards.specs.PunchedCards.{Decks}
use Rattle.cms_session.specs.RoundCalls.{passed_beside}
use Rattle.cms_session.specs.declared.state.Finish.{Finish}
use Rattle.cms_session.specs.declared.state.Round as rounds
use Rattle.cms_session.specs.declared.state.Round.TheVariants as end
use Rattle.cms_session.proofs.Alone.{acts_alone, alone}
use Rattle.cms_session.proofs.Rounds.{round_on}
use Rattle.cms_session.specs.Machine.{rounds as rounds_from, run_lines, then_round, session}
use Rattle.cms_session.specs.Calls.{access_tree, finished, session_tree}

-- so many rounds at most, on the machine with these units, objects, decks and procedures
abbrev pub rounds_tree : ℕ → State → List Object → Decks → List Exec → List Slot → Act Finish
rounds_tree fuel s os ds ps units = session fuel (desk_of s os units) ds ps

abbrev rounds_in : ℕ → State → List Object → Decks → List Exec → List Slot → Act Finish
rounds_in fuel s os ds ps units = bind (round_on s os ds ps units) (then_round (session fuel))

first_round : (fuel : ℕ) (s : State) (os : List Object) (ds : Decks) (ps : List Exec) (units : List Slot) → rounds_tree (suc fuel) s os ds ps units ≡ rounds_in fuel s os ds ps units
unfolding session
first_round fuel s os ds ps units = refl

opened : (a b : List Object) (old : SpotWith a) (mid : SpotWith b) (ds : Decks) (ps : List Exec) (tree : List Slot → Act Finish) (fuel : ℕ)
    → Comes old mid tree (rounds_tree (suc fuel) mid.state b ds ps) → Comes old mid tree (rounds_in fuel mid.state b ds ps)
opened a b old mid ds ps tree fuel g =
    comes_then old mid mid tree (rounds_tree (suc fuel) mid.state b ds ps) (rounds_in fuel mid.state b ds ps) g
    (comes_same mid (rounds_tree (suc fuel) mid.state b ds ps) (rounds_in fuel mid.state b ds ps) (λ units h. first_round fuel mid.state b ds ps units))

-- how far the session has come: more rounds may follow than turns are left
pub record Going (a b : List Object) (old : SpotWith a) (now : SpotWith b) (ds : Decks) (ps : List Exec) (tree : List Slot → Act Finish) : Type 0 where
  pub fuel : ℕ
  pub enough : now.state.left < fuel
  pub comes : Comes old now tree (rounds_tree fuel now.state b ds ps)

module _ (a b c : List Object) (old : SpotWith a) (mid : SpotWith b) (new : SpotWith c) (ds es : Decks) (ps qs : List Exec) (tree : List Slot → Act Finish) where
  -- a round was cut off
  pub play_stops : (e : End) → Going a b old mid ds ps tree
      → Acts {T = rounds.Round} mid new (round_on mid.state b ds ps) (Err e) (passed_beside new.state es qs c) → Acts old new tree (Err e) finished
  play_stops e going acts = go going.fuel going.enough going.comes
    where
      go : (fuel : ℕ) → mid.state.left < fuel → Comes old mid tree (rounds_tree fuel mid.state b ds ps) → Acts old new tree (Err e) finished
      go zero enough g = absurd (omega (arith, enough))
      go (suc fuel) enough g =
          acts_after old mid new tree (rounds_in fuel mid.state b ds ps) (Err e) finished (opened a b old mid ds ps tree fuel g)
          (acts_stop mid new (round_on mid.state b ds ps) (then_round (session fuel)) e (passed_beside new.state es qs c) finished acts)

  -- a round after which the session ends
  pub play_ends : (r : rounds.Round) (finish : Finish) → Going a b old mid ds ps tree → r ≡ end.Ended finish
      → Acts mid new (round_on mid.state b ds ps) (Ok r) (passed_beside new.state es qs c) → Acts old new tree (Ok finish) finished
  play_ends r finish going is acts = go going.fuel going.enough going.comes
    where
      ended : Acts mid new (round_on mid.state b ds ps) (Ok (end.Ended finish)) (passed_beside new.state es qs c)
      ended = subst (λ (x : rounds.Round). Acts mid new (round_on mid.state b ds ps) (Ok x) (passed_beside new.state es qs c)) is acts

      go : (fuel : ℕ) → mid.state.left < fuel → Comes old mid tree (rounds_tree fuel mid.state b ds ps) → Acts old new tree (Ok finish) finished
      go zero enough g = absurd (omega (arith, enough))
      go (suc fuel) enough g =
          acts_done old new tree finish finished
          (comes_then old mid new tree (rounds_in fuel mid.state b ds ps) (λ units. Done finish) (opened a b old mid ds ps tree fuel g)
          (comes_in mid new (round_on mid.state b ds ps) (then_round (session fuel)) (end.Ended finish) (passed_beside new.state es qs c) ended))

  -- a round after which another may follow
  pub play_goes : (r : rounds.Round) → Going a b old mid ds ps tree → new.state.left < mid.state.left
      → r ≡ end.Ready → Acts mid new (round_on mid.state b ds ps) (Ok r) (passed_beside new.state es qs c) → Going a c old new es qs tree
  play_goes r going less is acts = go going.fuel going.enough going.comes
    where
      ready : Acts mid new (round_on mid.state b ds ps) (Ok end.Ready) (passed_beside new.state es qs c)
      ready = subst (λ (x : rounds.Round). Acts mid new (round_on mid.state b ds ps) (Ok x) (passed_beside new.state es qs c)) is acts

      go : (fuel : ℕ) → mid.state.left < fuel → Comes old mid tree (rounds_tree fuel mid.state b ds ps) → Going a c old new es qs tree
      go zero enough g = absurd (omega (arith, enough))
      go (suc fuel) enough g = record {
        fuel = fuel;
        enough = omega (arith, enough, less);
        comes =
            comes_then old mid new tree (rounds_in fuel mid.state b ds ps) (rounds_tree fuel new.state c es qs) (opened a b old mid ds ps tree fuel g)
            (comes_in mid new (round_on mid.state b ds ps) (then_round (session fuel)) end.Ready (passed_beside new.state es qs c) ready);
      }

-- ---- the session

-- the first device was not accessed
pub not_played : (os : List Object) (old new : SpotWith os) (e : End) → Acts {T = Unit {0}} (alone old) (alone new) (access_tree old.state) (Err e) (machine_now new.state)
    → Acts {T = Finish} old new (session_tree old.state os) (Err e) finished
not_played os old new e acts =
    acts_stop old new (access_tree old.state) (run_lines os) e (machine_now {T = Unit {0}} new.state) finished
    (acts_alone {T = Unit {0}} old new (access_tree old.state) (Err e) (machine_now new.state) acts)

-- it was, and rounds followed
pub played : (a b : List Object) (old mid : SpotWith a) (new : SpotWith b) (ds : Decks) (ps : List Exec) (x : Unit {0}) (r : Result Finish End) → ds ≡ [] → ps ≡ []
    → Acts (alone old) (alone mid) (access_tree old.state) (Ok x) (machine_now mid.state)
    → Acts mid new (λ units. rounds_from (desk_of mid.state a units) ds ps) r finished → Acts old new (session_tree old.state a) r finished
played a b old mid new ds ps x r no_deck none access acts =
    acts_after old mid new (session_tree old.state a) (λ units. run_lines a (machine_of mid.state units)) r finished
    (comes_in old mid (access_tree old.state) (run_lines a) x (machine_now mid.state) (acts_alone old mid (access_tree old.state) (Ok x) (machine_now mid.state) access))
    (subst (λ (l : List Exec). Acts mid new (λ units. rounds_from (desk_of mid.state a units) [] l) r finished) none
    (subst (λ (l : Decks). Acts mid new (λ units. rounds_from (desk_of mid.state a units) l ps) r finished) no_deck acts))
