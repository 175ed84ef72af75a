-- How a session ends: its parts joined, and the headline.
use Rattle.std.proofs.Common.{◌≡◌, inl, ℕ, ◌≤◌, List, [], ◌++◌, Option, Some, None, Result, Ok, Err, refl, ap, sym, subst, ◌∙◌, arith, append-nil, slice_get, length}
use Rattle.std.specs.Prelude.{option_map, is_some, true}
use Rattle.std.proofs.lemmas.List.{length-map}
use Rattle.std.proofs.lemmas.Option.{same_Some}
use Rattle.cms_journal.specs.declared.event.Event.{Event}
use Rattle.cms_journal.specs.declared.event.Attached.{Attached}
use Rattle.cms_journal.specs.Causes.{Counted}
use Rattle.cms_journal.specs.Told.{Told, typed, moments}
use Rattle.cms_model.specs.Minidisks.{State}
use Rattle.cms_model.specs.Slots.{Slot, Settled, state_in, set_of, unit_set, unit_state, IsAmong}
use Rattle.cms_model.specs.Steps.{faults_in}
use Rattle.cms_model.specs.Acts.{Act}
use Rattle.cms_model.specs.Acts as acts
use Rattle.cms_model.specs.LawsObjects.{AreDistinct}
use Rattle.cms_model.specs.Objects.{Back, Object}
use Rattle.cms_model.specs.Steps.{Outcome}
use Rattle.cms_model.specs.Points.{LeavesIn, Leaves, HasNowIn, HasNow, Point, Sound}
use Rattle.cms_model.specs.Beats.{AreWellOn, pieces, outcomes, backs}
use Rattle.cms_model.specs.Runs.{Ran, Broke, events_of}
use Rattle.cms_model.proofs.LawOfBeats.{at_of_within}
use Rattle.cms_model.proofs.Single.{broke_before}
use Rattle.cms_model.proofs.Whole.{follows_tree, comes_to, whole}
use Rattle.cms_disk.specs.declared.unit.UnitInfo.{UnitInfo}
use Rattle.cms_search.specs.Calls.{Holds, Acts, at, first_state, machine_of}
use Rattle.cms_search.specs.Machine.{Letter, Machine}
use Rattle.cms_search.specs.Shows.{devices_of}
use Rattle.cms_search.specs.Tables.{HaveDistinctDevices, Seated, new_table}
use Rattle.cms_search.specs.declared.state.Device.{Device}
use Rattle.cms_search.specs.declared.state.End.{End}
use Rattle.cms_search.specs.declared.state.End.TheVariants as cut
use Rattle.cms_search.specs.declared.state.State as declared
use Rattle.cms_ext.specs.Extensions.{desk}
use Rattle.cms_session.proofs.Alone.{standing}
use Rattle.cms_words.specs.declared.words.Words.{Words}
use Rattle.cms_world.specs.Seen.{Seen}
use Rattle.cms_session.specs.Machine.{machine, started}
use Rattle.cms_session.specs.Calls.{session_tree, finished}
use Rattle.cms_session.specs.Headline.{Start, Headline, Agrees, Came, Begins, EndsAs, IsAs, beats_in, fresh, settled, first_console, first_machine, first_point, start_point, start_tree, run_on}
use Rattle.cms_session.specs.Sessions.{AttachesAll, HaveSizes, IsAsSeen, CameTo, WasCut, EndedAs, OnUnits, RunsOn, start_on, status_at, status_of}
use Rattle.cms_session.specs.Words.{asked_of, given_by}
use Rattle.cms_session.specs.declared.state.Finish.{Finish}
use Rattle.cms_session.specs.declared.state.Finish.TheVariants as finish
use Rattle.cms_session.specs.declared.status.Status.{Status}
use Rattle.cms_session.specs.declared.status.Status.TheVariants.{Done, Usage, Memory, World, Turns}
use Rattle.cms_session.proofs.Starts.{first_state_of, none_lettered, settled_at, left_first, now_first, holds_start, devices_start}

-- ---- a run, and how it ended

-- nothing was done
pub cut_before : (p : Point) (now : Seen) (t : Act Finish) → now.told ≡ p.journal → p.faults ≤ now.faults → WasCut p now t
cut_before p now t told later =
    let q : Point = record { journal = now.told; faults = now.faults; units = p.units; unread = p.unread; ended = p.ended; objects = p.objects } in
    record { point = q; shown = record { told = refl; faults = refl }; broke = broke_before p q t told later refl }

-- the state of a session at its start, where it stands then, and the machine that it is
abbrev pub start_state : Words → List UnitInfo → declared.State
start_state words infos = record (first_state words infos) { console = first_console (given_by words.seed) }

machine_first : (words : Words) (infos : List UnitInfo) (units : List Slot)
    → machine_of (start_state words infos) units ≡ first_machine units (devices_of (new_table infos)) words.offset words.turns
machine_first words infos units =
    ap (λ (l : List (Option Letter)). record (first_machine units (devices_of (new_table infos)) words.offset words.turns) { letters = l }) (none_lettered (λ (s : Seated). s.letter) 26)

abbrev tree_first : Words → List UnitInfo → List Object → List Slot → Act Finish
tree_first words infos os units = started (desk (first_machine units (devices_of (new_table infos)) words.offset words.turns) os)

abbrev point_first : Seen → Words → List Object → List Slot → Point
point_first before words os units = first_point before.told before.faults units (given_by words.seed) os

ended_as : (p : Point) (edges : ℕ) (now : Seen) (t : Act Finish) (end : Finish) → CameTo p now t end → EndedAs p edges now t (status_of end)
ended_as p edges now t finish.AtEnd came = came
ended_as p edges now t finish.AtTurns came = came

-- what a session did from there, with these objects before and after it
abbrev Did : List Object → List Object → Seen → Seen → declared.State → declared.State → Result Finish End → Type 0
Did os left before now s new r = Acts (standing os before s) (standing left now new) (session_tree s os) r finished

module _ (os left : List Object) (before now : Seen) (words : Words) (infos : List UnitInfo) (s new : declared.State) (is : s ≡ start_state words infos) where
  -- it was cut off
  was_cut : (e : End) (units : List Slot) → Did os left before now s new (Err e) → Holds before.told (new_table infos) units
      → WasCut (point_first before words os units) now (tree_first words infos os units)
  was_cut e units did h =
      let there = subst (λ (x : declared.State). Did os left before now x new (Err e)) is did in
      let x = there.each units h in
      let q = at (standing left now new) x.0 in
      record {
        point = q;
        shown = record { told = refl; faults = refl };
        broke = subst (λ (m : Machine). Broke (point_first before words os units) q (started (desk m os))) (machine_first words infos units) x.1.1;
      }

  pub runs_cut : (e : End) → Did os left before now s new (Err e) → RunsOn infos words os before now (status_at e)
  runs_cut cut.Memory did units h = was_cut cut.Memory units did h
  runs_cut cut.Edge did units h = (was_cut cut.Edge units did h, did.cause refl)

  -- or came to an end
  pub runs_whole : (end : Finish) → Did os left before now s new (Ok end) → RunsOn infos words os before now (status_of end)
  runs_whole end did units h =
      let there = subst (λ (x : declared.State). Did os left before now x new (Ok end)) is did in
      let x = there.each units h in
      let q = at (standing left now new) x.0 in
      ended_as (point_first before words os units) before.edges now (tree_first words infos os units) end (record {
        point = q;
        shown = record { told = refl; faults = refl };
        ran =
            subst (λ (m : Machine). Ran (point_first before words os units) q (started (desk m os)) (acts.Done end)) (machine_first words infos units) x.1.1;
      })

-- there was no memory for the state
pub runs_not : (os : List Object) (before : Seen) (words : Words) (infos : List UnitInfo) → RunsOn infos words os before before Memory
runs_not os before words infos units h =
    cut_before (point_first before words os units) before (tree_first words infos os units) refl (omega arith)

-- the count of the edges may be an earlier one
ended_earlier : (p : Point) (edges mid : ℕ) (now : Seen) (t : Act Finish) (status : Status) → edges ≤ mid → EndedAs p mid now t status → EndedAs p edges now t status
ended_earlier p edges mid now t Done earlier e = e
ended_earlier p edges mid now t Turns earlier e = e
ended_earlier p edges mid now t World earlier e = let rose = e.1 in (e.0, omega (arith, earlier, rose))
ended_earlier p edges mid now t Memory earlier e = e
ended_earlier p edges mid now t (Usage fault) earlier e = e

-- ---- the headline

-- a crash leaves each unit as it was attached
sound_at : (units : List Attached) (u : ℕ) (x : State) → LeavesIn (fresh units) u x → IsAmong x (unit_set (settled units) u)
sound_at units u x l =
    let slot : slice_get (settled units) u ≡ Some (Settled (first_state_of l.unit)) = settled_at units u l.unit l.attached in
    rw slot (inl (left_first units u x l))

-- and the contents of each are those that it was attached with
now_at : (units : List Attached) (u : ℕ) (x : State) → HasNowIn (fresh units) u x → unit_state (settled units) u ≡ Some x
now_at units u x h =
    let slot : slice_get (settled units) u ≡ Some (Settled (first_state_of h.unit)) = settled_at units u h.unit h.attached in
    ap (λ (z : Option Slot). option_map state_in z) slot ∙ ap (λ (y : State). Some y) (now_first units u x h)

pub sound_start : (s : Start) → Sound (start_point s)
sound_start s = record { each = λ u x l. sound_at s.units u x l; now = λ u x h. now_at s.units u x h }

as_its_slot : (q : Point) (told : Told) (u : ℕ) (slot : Slot) → q.journal ≡ told → Sound q → slice_get q.units u ≡ Some slot → IsAs told u slot
as_its_slot q told u slot same sound there = record {
  crash = λ x leaves.
      let set : unit_set q.units u ≡ set_of slot = rw there refl in
      subst (IsAmong x) set (sound.each u x (subst (λ (t : Told). Leaves t u x) (sym same) leaves));
  now = λ x has.
      let is : unit_state q.units u ≡ Some x = sound.now u x (subst (λ (t : Told). HasNow t u x) (sym same) has) in
      let at : unit_state q.units u ≡ Some (state_in slot) = ap (λ (z : Option Slot). option_map state_in z) there in
      same_Some (state_in slot) x (sym at ∙ is);
}

not_given : (given : Option (List ℕ)) → (is_some given ≡ true → ⊥) → given ≡ None
not_given None none = refl
not_given (Some bytes) none = absurd (none refl)

module _ (s : Start) (before now : Seen) (faults : before.faults ≡ s.faults) (distinct : AreDistinct s.objects) where
  headline_of : (status : Status) (q : Point) (b : Broke (start_point s) q (start_tree s)) → IsAsSeen q now
      → (agrees : Agrees s (events_of b) (outcomes b.ran.beats) (backs b.ran.beats) q.units status)
      → beats_in s agrees.last status agrees.run ≡ b.ran.beats
      → EndsAs s (events_of b) (outcomes b.ran.beats) (backs b.ran.beats) q.units before.edges now.edges status → Headline s before now status
  unfolding machine
  headline_of status q b is agrees same ends =
      let follows = follows_tree (start_point s) q (start_tree s) b in
      let many = faults_in (outcomes b.ran.beats) in
      record {
        events = events_of b;
        told = sym is.told ∙ follows.journal;
        outcomes = outcomes b.ran.beats;
        backs = backs b.ran.beats;
        counted = subst (λ (n : ℕ). Counted n many now.faults) (sym faults) (subst (λ (n : ℕ). Counted s.faults many n) is.faults follows.faults);
        units = q.units;
        agrees = agrees;
        units_there = follows.as_many ∙ length-map s.units (λ (unit : Attached). Settled (first_state_of unit));
        stands = λ u slot there. as_its_slot q now.told u slot is.told (follows.sound (sound_start s)) there;
        ends = ends;
        distinct = distinct;
        crash = λ front rest e u x leaves. follows.crash (sound_start s) front rest e u x leaves;
        between = λ front rest e u x leaves.
            at_of_within (run_on s (events_of b) (outcomes b.ran.beats) (backs b.ran.beats)).trace (length (typed front)) (length (moments front)) u
            (unit_set (settled s.units) u) x (follows.crash (sound_start s) front rest e u x leaves);
        untouched = λ u well. follows.ones u (subst (AreWellOn u) same well);
        waits = λ front rest bytes e. follows.waits front rest bytes e;
        given = λ front rest bytes e. not_given s.given (λ ended. follows.given ended front rest bytes e);
        waits_before = λ front rest bytes e early later cut. follows.waits_before front rest bytes e early later cut;
      }

  begins_of : (q : Point) (b : Broke (start_point s) q (start_tree s))
      → Begins (events_of b) (run_on s (events_of b) (outcomes b.ran.beats) (backs b.ran.beats))
  unfolding machine
  begins_of q b = (follows_tree (start_point s) q (start_tree s) b).bytes

  came_of : (q : Point) (end : Finish) (r : Ran (start_point s) q (start_tree s) (acts.Done end))
      → Came s (pieces r.beats) (outcomes r.beats) (backs r.beats) q.units end
  unfolding machine
  came_of q end r =
      let comes = comes_to (start_point s) q (start_tree s) end r in
      record { close = comes.close; bytes = comes.bytes; turns = comes.turns; sets = comes.sets; states = comes.states (sound_start s) }

  came_whole : (q : Point) (end : Finish) (r : Ran (start_point s) q (start_tree s) (acts.Done end))
      → Came s (pieces r.beats ++ []) (outcomes r.beats) (backs r.beats) q.units end
  came_whole q end r =
      subst (λ (es : List Event). Came s es (outcomes r.beats) (backs r.beats) q.units end) (sym (append-nil (pieces r.beats))) (came_of q end r)

  -- a session that came to its end is the whole run
  of_done : CameTo (start_point s) now (start_tree s) finish.AtEnd → Headline s before now Done
  of_done e =
      let b = whole (start_point s) e.point (start_tree s) finish.AtEnd e.ran in
      headline_of Done e.point b e.shown
      (record {
        last = e.point;
        run = e.ran;
        events_are = sym (append-nil (pieces e.ran.beats));
        outcomes_are = refl;
        backs_are = refl;
        units_are = refl;
      })
      refl (came_whole e.point finish.AtEnd e.ran)

  -- so is one whose turns are spent
  of_turns : CameTo (start_point s) now (start_tree s) finish.AtTurns → Headline s before now Turns
  of_turns e =
      let b = whole (start_point s) e.point (start_tree s) finish.AtTurns e.ran in
      headline_of Turns e.point b e.shown
      (record {
        last = e.point;
        run = e.ran;
        events_are = sym (append-nil (pieces e.ran.beats));
        outcomes_are = refl;
        backs_are = refl;
        units_are = refl;
      })
      refl (came_whole e.point finish.AtTurns e.ran)

  pub headline : (status : Status) → EndedAs (start_point s) before.edges now (start_tree s) status → Headline s before now status
  headline Done e = of_done e
  headline Turns e = of_turns e
  headline World e =
      let b = e.0.broke in
      headline_of World e.0.point b e.0.shown
      (record { last = e.0.point; run = b; events_are = refl; outcomes_are = refl; backs_are = refl; units_are = refl })
      refl (begins_of e.0.point b, e.1)
  headline Memory e =
      headline_of Memory e.point e.broke e.shown
      (record { last = e.point; run = e.broke; events_are = refl; outcomes_are = refl; backs_are = refl; units_are = refl })
      refl (begins_of e.point e.broke)
  headline (Usage fault) e = absurd e

-- ---- on units

-- all units were attached, and the session ran on them
pub on_units : (words : Words) (os : List Object) (before mid now : Seen) (infos : List UnitInfo) (status : Status) → AreDistinct os → AttachesAll mid.told words.units infos
    → HaveDistinctDevices infos → HaveSizes infos → mid.faults ≡ before.faults → before.edges ≤ mid.edges → RunsOn infos words os mid now status
    → OnUnits (asked_of words) os before now status
on_units words os before mid now infos status differ all distinct sizes faults earlier ran =
    let s = start_on (asked_of words) all.units before.faults os in
    let held = holds_start mid.told words.units infos all distinct sizes in
    let tree : (devices : List Device) → Act Finish = λ devices. started (desk (first_machine (settled all.units) devices words.offset words.turns) os) in
    let ended = ran (settled all.units) held in
    let told : EndedAs (first_point (Some (fresh all.units)) mid.faults (settled all.units) (given_by words.seed) os) mid.edges now (tree (devices_of (new_table infos))) status =
    subst (λ (t : Told). EndedAs (first_point t mid.faults (settled all.units) (given_by words.seed) os) mid.edges now (tree (devices_of (new_table infos))) status) all.told ended in
    let counted : EndedAs (start_point s) mid.edges now (tree (devices_of (new_table infos))) status =
    subst (λ (n : ℕ). EndedAs (first_point (Some (fresh all.units)) n (settled all.units) (given_by words.seed) os) mid.edges now (tree (devices_of (new_table infos))) status) faults told in
    let there : EndedAs (start_point s) mid.edges now (start_tree s) status =
    subst (λ (ds : List Device). EndedAs (start_point s) mid.edges now (tree ds) status) (devices_start mid.told words.units infos all) counted in
    record {
      units = all.units;
      attached = all.attached;
      ran = headline s before now refl differ status (ended_earlier (start_point s) before.edges mid.edges now (start_tree s) status earlier there);
    }
