-- Calls join, with no knowledge of what a command is.
use Rattle.std.proofs.Common.{◌≡◌, ◌≤◌, ℕ, ℤ, List, [], Result, Ok, Err, IfOk, refl, ap, sym, ◌∙◌, subst, arith}
use Rattle.cms_journal.specs.Causes.{Rose}
use Rattle.cms_journal.proofs.Pieces.{grown_same, grown_idle, grown_then}
use Rattle.cms_model.specs.Objects.{Object}
use Rattle.cms_model.specs.Slots.{Slot}
use Rattle.cms_model.specs.Acts.{Act, Done, bind, saying, typed_line}
use Rattle.cms_model.proofs.Single.{broke_before}
use Rattle.cms_model.proofs.Join.{ran_none, ran_then, ran_bind, broke_then, broke_bind, broke_here}
use Rattle.cms_line.specs.ConsoleState.{Console}
use Rattle.cms_line.specs.declared.message.Message.{Message}
use Rattle.cms_line.specs.Messages.{message_text}
use Rattle.cms_search.specs.declared.state.End.{End}
use Rattle.cms_search.specs.declared.state.End.TheVariants.{Memory, Edge}
use Rattle.cms_search.specs.declared.state.State.{State}
use Rattle.cms_search.specs.declared.state.Course as declared
use Rattle.cms_search.specs.declared.state.Course.TheVariants as course
use Rattle.cms_search.specs.Machine.{Went}
use Rattle.cms_search.specs.Calls.{SpotWith, IsLater, IsUsable, Meaning, at, holds, Plays, Does, Acts, Comes, after_world, said, machine_of, course_of, refusal_tree}
use Rattle.cms_world.specs.Seen.{Seen}
use Rattle.cms_search.specs.Talks.{Talks}
use Rattle.cms_search.proofs.IdleEvents.{holds_idle, usable_grown}

-- ---- counts and journals

-- a count that rose later on rose
pub rose_from : (before mid now : ℕ) → before ≤ mid → Rose mid now → Rose before now
rose_from before mid now earlier rose = omega (arith, earlier, rose)

pub rose_until : (before mid now : ℕ) → mid ≤ now → Rose before mid → Rose before now
rose_until before mid now later rose = omega (arith, later, rose)

pub later_none : (s : Seen) → IsLater s s
later_none s = record { grown = grown_same s.told s.told refl; faults = omega arith; edges = omega arith }

pub later_then : (before mid now : Seen) → IsLater before mid → IsLater mid now → IsLater before now
later_then before mid now a b = record {
  grown = grown_then before.told mid.told now.told a.grown b.grown;
  faults = omega (arith, a.faults, b.faults);
  edges = omega (arith, a.edges, b.edges);
}

pub later_does : {R T : Type 0} (before now : Seen) (t : Act R) (r : Result T End) (d : T → R) → Does before now t r d → IsLater before now
later_does before now t r d does = record {
  grown = grown_idle before.told now.told does.idle;
  faults = omega (arith, does.faults);
  edges = does.edges;
}

-- a table that is the same may be used still
pub usable_later : {os : List Object} (old new : SpotWith os) → IsLater old.world new.world → new.state.table ≡ old.state.table → IsUsable old → IsUsable new
usable_later old new later same usable = rw same (usable_grown old.world.told new.world.told old.state.table later.grown usable)

-- ---- a call of the console or the clock alone

-- where the console is kept a point is as that call made it
pub at_kept : {os : List Object} (old new : SpotWith os) (units : List Slot) → new.world.faults ≡ old.world.faults → new.state.console ≡ old.state.console
    → at new units ≡ after_world (at old units) new.world
at_kept {os} old new units faults same =
    ap (λ (c : Console). record { journal = new.world.told; faults = new.world.faults; units = units; unread = c.unread; ended = c.ended; objects = os }) same
    ∙ ap (λ (n : ℕ). record (after_world (at old units) new.world) { faults = n }) faults

-- what it makes of the machine's units
pub holds_does : {R T : Type 0} {os : List Object} (old new : SpotWith os) (t : Act R) (r : Result T End) (d : T → R) (units : List Slot) → Does old.world new.world t r d
    → new.state.table ≡ old.state.table → holds old units → holds new units
holds_does old new t r d units does same h = rw same (holds_idle old.world.told new.world.told old.state.table units does.idle h)

plays_does : {R T : Type 0} {os : List Object} (old new : SpotWith os) (t : Act R) (r : Result T End) (d : T → R) (units : List Slot) → Does old.world new.world t r d
    → new.state ≡ old.state → Plays (at old units) (at new units) t r d
plays_does old new t r d units does same = let faults = does.faults in rw (same, faults) (does.each (at old units) refl)

-- ---- a call that only talks

later_talks : {R T : Type 0} (before now : Seen) (was is : Console) (t : Act R) (r : Result T End) (d : T → R) → Talks before now was is t r d → IsLater before now
later_talks before now was is t r d talks = record {
  grown = grown_idle before.told now.told talks.idle;
  faults = omega (arith, talks.faults);
  edges = talks.edges;
}

plays_talks : {R T : Type 0} {os : List Object} (old new : SpotWith os) (t : Act R) (r : Result T End) (d : T → R) (units : List Slot)
    → Talks old.world new.world old.state.console new.state.console t r d → Plays (at old units) (at new units) t r d
plays_talks {os = os} old new t r d units talks = let faults = talks.faults in rw faults (talks.each old.world.faults units os)

-- on whichever units, it did all of its tree or was cut off in it
pub acts_talks : {R T : Type 0} {os : List Object} (old new : SpotWith os) (t : List Slot → Act R) (r : Result T End) (d : Meaning T R) → new.state.table ≡ old.state.table
    → ((units : List Slot) → Talks old.world new.world old.state.console new.state.console (t units) r (d units)) → Acts old new t r d
acts_talks old new t (Ok x) d table talks =
    let later = later_talks old.world new.world old.state.console new.state.console (t []) (Ok x) (d []) (talks []) in
    record {
      each = λ units h. (
        units,
        (
          rw table (holds_idle old.world.told new.world.told old.state.table units (talks units).idle h),
          plays_talks old new (t units) (Ok x) (d units) units (talks units),
        ),
      );
      later = later;
      usable = usable_later old new later table;
      cause = tt;
    }
acts_talks {T = T} old new t (Err e) d table talks =
    let later = later_talks {T = T} old.world new.world old.state.console new.state.console (t []) (Err e) (d []) (talks []) in
    record {
      each = λ units h. (
        units,
        (
          rw table (holds_idle old.world.told new.world.told old.state.table units (talks units).idle h),
          plays_talks {T = T} old new (t units) (Err e) (d units) units (talks units),
        ),
      );
      later = later;
      usable = usable_later old new later table;
      cause = (talks []).cause;
    }

-- ---- parts of a call

pub comes_none : {R : Type 0} {a : List Object} (old : SpotWith a) (t : List Slot → Act R) → Comes old old t t
comes_none old t = record {
  each = λ units h. (units, (h, ran_none (at old units) (t units)));
  later = later_none old.world;
  usable = λ u. u;
}

pub comes_then : {R : Type 0} {a b c : List Object} (old : SpotWith a) (mid : SpotWith b) (new : SpotWith c) (t u v : List Slot → Act R) → Comes old mid t u → Comes mid new u v → Comes old new t v
comes_then old mid new t u v a b = record {
  each = λ units h. let x = a.each units h in let y = b.each x.0 x.1.0 in (y.0, (y.1.0, ran_then x.1.1 y.1.1));
  later = later_then old.world mid.world new.world a.later b.later;
  usable = λ u. b.usable (a.usable u);
}

-- the tree is another by its units
pub comes_same : {R : Type 0} {a : List Object} (old : SpotWith a) (t u : List Slot → Act R) → ((units : List Slot) → holds old units → t units ≡ u units) → Comes old old t u
comes_same old t u same = record {
  each = λ units h. (units, (h, (let e = same units h in rw e (ran_none (at old units) (u units)))));
  later = later_none old.world;
  usable = λ u. u;
}

-- a call within a tree
pub comes_in : {A R T : Type 0} {a b : List Object} (old : SpotWith a) (new : SpotWith b) (s : List Slot → Act A) (f : A → Act R) (x : T) (d : Meaning T A) → Acts old new s (Ok x) d
    → Comes old new (λ units. bind (s units) f) (λ units. f (d units x))
comes_in old new s f x d a = record {
  each = λ units h. let y = a.each units h in (y.0, (y.1.0, ran_bind f y.1.1));
  later = a.later;
  usable = a.usable;
}

-- a call that knows of no unit, within a tree that does
pub comes_does : {A R T : Type 0} {os : List Object} (old new : SpotWith os) (s : Act A) (f : List Slot → A → Act R) (x : T) (d : T → A) → Does old.world new.world s (Ok x) d
    → new.state ≡ old.state → Comes old new (λ units. bind s (f units)) (λ units. f units (d x))
comes_does old new s f x d c same =
    let later = later_does old.world new.world s (Ok x) d c in
    let table : new.state.table ≡ old.state.table = rw same refl in
    record {
      each = λ units h. (units, (holds_does old new s (Ok x) d units c table h, ran_bind (f units) (plays_does old new s (Ok x) d units c same)));
      later = later;
      usable = usable_later old new later table;
    }

-- a call that only talks, within a tree
pub comes_talks : {A R T : Type 0} {os : List Object} (old new : SpotWith os) (s : List Slot → Act A) (f : A → Act R) (x : T) (d : Meaning T A) → new.state.table ≡ old.state.table
    → ((units : List Slot) → Talks old.world new.world old.state.console new.state.console (s units) (Ok x) (d units))
    → Comes old new (λ units. bind (s units) f) (λ units. f (d units x))
comes_talks old new s f x d table talks = comes_in old new s f x d (acts_talks old new s (Ok x) d table talks)

-- ---- calls

-- all of the tree was done
pub acts_done : {R T : Type 0} {a b : List Object} (old : SpotWith a) (new : SpotWith b) (t : List Slot → Act R) (x : T) (d : Meaning T R) → Comes old new t (λ units. Done (d units x))
    → Acts old new t (Ok x) d
acts_done old new t x d g = record { each = g.each; later = g.later; usable = g.usable; cause = tt }

-- cut off where it came to
pub acts_here : {R T : Type 0} {a b : List Object} (old : SpotWith a) (new : SpotWith b) (t u : List Slot → Act R) (e : End) (d : Meaning T R) → Comes old new t u
    → (e ≡ Edge → Rose old.world.edges new.world.edges) → Acts old new t (Err e) d
acts_here old new t u e d g cause = record {
  each = λ units h. let x = g.each units h in (x.0, (x.1.0, broke_here x.1.1));
  later = g.later;
  usable = g.usable;
  cause = cause;
}

-- there was no memory where it came to
pub no_memory : {R T : Type 0} {a b : List Object} (old : SpotWith a) (new : SpotWith b) (t u : List Slot → Act R) (d : Meaning T R) → Comes old new t u → Acts old new t (Err Memory) d
no_memory old new t u d g = acts_here old new t u Memory d g (λ edge. absurd (cc))

pub acts_after : {R T : Type 0} {a b c : List Object} (old : SpotWith a) (mid : SpotWith b) (new : SpotWith c) (t u : List Slot → Act R) (r : Result T End) (d : Meaning T R) → Comes old mid t u → Acts mid new u r d → Acts old new t r d
acts_after old mid new t u (Ok x) d g a = record {
  each = λ units h. let y = g.each units h in let z = a.each y.0 y.1.0 in (z.0, (z.1.0, ran_then y.1.1 z.1.1));
  later = later_then old.world mid.world new.world g.later a.later;
  usable = λ u. a.usable (g.usable u);
  cause = tt;
}
acts_after old mid new t u (Err e) d g a = record {
  each = λ units h. let y = g.each units h in let z = a.each y.0 y.1.0 in (z.0, (z.1.0, broke_then y.1.1 z.1.1));
  later = later_then old.world mid.world new.world g.later a.later;
  usable = λ u. a.usable (g.usable u);
  cause = λ edge. rose_from old.world.edges mid.world.edges new.world.edges g.later.edges (a.cause edge);
}

-- the tree is another by its units
pub acts_same : {R T : Type 0} {a b : List Object} (old : SpotWith a) (new : SpotWith b) (t u : List Slot → Act R) (r : Result T End) (d : Meaning T R)
    → ((units : List Slot) → holds old units → t units ≡ u units) → Acts old new u r d → Acts old new t r d
acts_same old new t u r d same a = acts_after old old new t u r d (comes_same old t u same) a

-- a call that was cut off, within a tree
pub acts_stop : {A R T U : Type 0} {a b : List Object} (old : SpotWith a) (new : SpotWith b) (s : List Slot → Act A) (f : A → Act R) (e : End) (d : Meaning T A) (d' : Meaning U R) → Acts old new s (Err e) d
    → Acts old new (λ units. bind (s units) f) (Err e) d'
acts_stop old new s f e d d' a = record {
  each = λ units h. let x = a.each units h in (x.0, (x.1.0, broke_bind f x.1.1));
  later = a.later;
  usable = a.usable;
  cause = a.cause;
}

pub does_stop : {A R T U : Type 0} {os : List Object} (old new : SpotWith os) (s : Act A) (f : List Slot → A → Act R) (e : End) (d : T → A) (d' : Meaning U R)
    → Does {T = T} old.world new.world s (Err e) d → new.state ≡ old.state → Acts {T = U} old new (λ units. bind s (f units)) (Err e) d'
does_stop {T = T} old new s f e d d' c same =
    let later = later_does {T = T} old.world new.world s (Err e) d c in
    let table : new.state.table ≡ old.state.table = rw same refl in
    record {
      each = λ units h. (
        units,
        (
          holds_does {T = T} old new s (Err e) d units c table h,
          broke_bind (f units) (plays_does {T = T} old new s (Err e) d units c same),
        ),
      );
      later = later;
      usable = usable_later old new later table;
      cause = c.cause;
    }

-- there was no memory, and nothing was done
pub cut_off : {R T : Type 0} {os : List Object} (old new : SpotWith os) (t : List Slot → Act R) (d : Meaning T R) → new.world.told ≡ old.world.told → old.world.faults ≤ new.world.faults
    → old.world.edges ≤ new.world.edges → new.state.table ≡ old.state.table → Acts {T = T} old new t (Err Memory) d
cut_off old new t d told faults edges table =
    let later : IsLater old.world new.world = record { grown = grown_same old.world.told new.world.told told; faults = faults; edges = edges } in
    record {
      each = λ units h. (units, (rw (table, told) h, broke_before (at old units) (at new units) (t units) told faults refl));
      later = later;
      usable = usable_later old new later table;
      cause = λ edge. absurd (cc);
    }

-- ---- refusals

-- a command was refused, which leaves the state
pub refused : {os : List Object} (old new : SpotWith os) (message : Message) (code : ℤ) (r : Result declared.Course End)
    → Does old.world new.world (saying (typed_line (message_text message))) r said → IfOk r (λ c. c ≡ course.Went code) → new.state ≡ old.state
    → Acts old new (refusal_tree old.state message code) r (course_of new.state)
refused old new message code (Ok c) d went same =
    subst (λ (s : State). Acts old new (refusal_tree old.state message code) (Ok c) (course_of s)) (sym same)
    (rw went
    (acts_done old new (refusal_tree old.state message code) (course.Went code) (course_of old.state)
    (comes_does old new (saying (typed_line (message_text message))) (λ units y. Done (Went (machine_of old.state units) code)) c said d same)))
refused old new message code (Err e) d went same =
    does_stop {T = declared.Course} old new (saying (typed_line (message_text message))) (λ units y. Done (Went (machine_of old.state units) code))
    e said (course_of new.state) d same
