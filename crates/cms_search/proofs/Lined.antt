-- Lines that are typed one after another, by calls of the console alone.
use Rattle.std.proofs.Common.{◌≡◌, ◌+◌, ◌≤◌, ℕ, List, [], ◌∷◌, ◌++◌, drop, length, slice_get, Some, Result, Ok, Err, refl, sym, ap, ◌∙◌, subst, arith}
use Rattle.std.specs.Prelude.{IfOk, pos}
use Rattle.std.proofs.lemmas.List.{drop_all, drop_more}
use Rattle.std.proofs.lemmas.Option.{get_or_from_slice_get, slice_get_within}
use Rattle.cms_journal.specs.Told.{Idle}
use Rattle.cms_journal.proofs.Pieces.{idle_same, idle_then}
use Rattle.cms_model.specs.Acts.{Act, Done, Out, bind, saying, typed_line}
use Rattle.cms_model.specs.Points.{Point}
use Rattle.cms_model.specs.Runs.{Ran}
use Rattle.cms_model.specs.Slots.{Slot}
use Rattle.cms_model.proofs.Join.{broke_bind, broke_then, ran_bind, ran_none, ran_then}
use Rattle.cms_world.specs.Seen.{Seen}
use Rattle.cms_search.specs.Calls.{Acts, Does, Spot, after_world, course_of, itself, machine_of, said}
use Rattle.cms_search.specs.Machine.{Course, Went, typing}
use Rattle.cms_search.specs.declared.state.Course as declared
use Rattle.cms_search.specs.declared.state.Course.TheVariants as course
use Rattle.cms_search.specs.declared.state.End.{End}
use Rattle.cms_search.specs.declared.state.State.{State}
use Rattle.cms_search.proofs.Acts.{acts_done, acts_same, comes_does, does_stop, rose_from}

-- ---- lines

-- nothing is left to do
abbrev pub nothing : Act (Unit {0})
nothing = Done tt

pub typing_none : typing [] nothing ≡ nothing
unfolding typing
typing_none = refl

pub typing_one : (text : List ℕ) → typing (text ∷ []) nothing ≡ saying (typed_line text)
unfolding typing
typing_one text = refl

pub typing_first : (text : List ℕ) (more : List (List ℕ)) → typing (text ∷ more) nothing ≡ bind (saying (typed_line text)) (λ (x : Unit {0}). typing more nothing)
unfolding typing
typing_first text more = refl

-- some lines, and then more
pub typing_more : (lines more : List (List ℕ)) → typing (lines ++ more) nothing ≡ bind (typing lines nothing) (λ (x : Unit {0}). typing more nothing)
unfolding typing
typing_more [] more = refl
typing_more (text ∷ lines) more = ap (λ (t : Act (Unit {0})). Out (typed_line text) t) (typing_more lines more)

-- and then anything
pub typing_then : {R : Type 0} (lines : List (List ℕ)) (next : Act R) → typing lines next ≡ bind (typing lines nothing) (λ (x : Unit {0}). next)
unfolding typing
typing_then [] next = refl
typing_then {R = R} (text ∷ lines) next = ap (λ (t : Act R). Out (typed_line text) t) (typing_then lines next)

-- ---- calls of the console, one after another

-- a tree has come so far
pub record Reached {R : Type 0} (before now : Seen) (t u : Act R) : Type 0 where
  pub each : (p : Point) → p.journal ≡ before.told → Ran p (after_world p now) t u
  pub idle : Idle before.told now.told
  pub faults : now.faults ≡ before.faults
  pub edges : before.edges ≤ now.edges

pub reached_none : {R : Type 0} (before : Seen) (t : Act R) → Reached before before t t
reached_none before t = record {
  each = λ p journal. subst (λ j. Ran p (record p { journal = j }) t t) journal (ran_none p t);
  idle = idle_same before.told before.told refl;
  faults = refl;
  edges = omega arith;
}

-- a further call did its part
pub reached_on : {A R T : Type 0} (before mid now : Seen) (t : Act R) (s : Act A) (f : A → Act R) (x : T) (d : T → A) → Reached before mid t (bind s f)
    → Does mid now s (Ok x) d → Reached before now t (f (d x))
reached_on before mid now t s f x d a b = record {
  each = λ p journal. ran_then (a.each p journal) (ran_bind f (b.each (after_world p mid) refl));
  idle = idle_then before.told mid.told now.told a.idle b.idle;
  faults = b.faults ∙ a.faults;
  edges = omega (arith, a.edges, b.edges);
}

-- or was cut off in it
pub reached_off : {A R T U : Type 0} (before mid now : Seen) (t : Act R) (s : Act A) (f : A → Act R) (e : End) (d : T → A) (d' : U → R) → Reached before mid t (bind s f)
    → Does {T = T} mid now s (Err e) d → Does {T = U} before now t (Err e) d'
reached_off before mid now t s f e d d' a b = record {
  each = λ p journal. broke_then (a.each p journal) (broke_bind f (b.each (after_world p mid) refl));
  idle = idle_then before.told mid.told now.told a.idle b.idle;
  faults = b.faults ∙ a.faults;
  edges = omega (arith, a.edges, b.edges);
  cause = λ edge. rose_from before.edges mid.edges now.edges a.edges (b.cause edge);
}

-- all of it is done
pub reached_to : {R T : Type 0} (before now : Seen) (t : Act R) (x : T) (d : T → R) → Reached before now t (Done (d x)) → Does before now t (Ok x) d
reached_to before now t x d a = record { each = a.each; idle = a.idle; faults = a.faults; edges = a.edges; cause = tt }

-- another value is said of the same
pub does_said : {T U : Type 0} (before now : Seen) (t : Act (Unit {0})) (x : T) (y : U) → Does before now t (Ok x) said → Does before now t (Ok y) said
does_said before now t x y d = record { each = d.each; idle = d.idle; faults = d.faults; edges = d.edges; cause = tt }

pub does_unsaid : {T U : Type 0} (before now : Seen) (t : Act (Unit {0})) (e : End) → Does {T = T} before now t (Err e) said → Does {T = U} before now t (Err e) said
does_unsaid before now t e d = record { each = d.each; idle = d.idle; faults = d.faults; edges = d.edges; cause = d.cause }

-- one line is typed, by a call that types it
pub said_one : (before now : Seen) (line : List ℕ) (lines : List (List ℕ)) (r : Result (Unit {0}) End) → lines ≡ line ∷ [] → Does before now (saying (typed_line line)) r itself
    → Does before now (typing lines nothing) r said
said_one before now line lines (Ok x) is d =
    subst (λ (l : List (List ℕ)). Does before now (typing l nothing) (Ok x) said) (sym is)
    (subst (λ (a : Act (Unit {0})). Does before now a (Ok x) said) (sym (typing_one line)) (record { each = d.each; idle = d.idle; faults = d.faults; edges = d.edges; cause = tt }))
said_one before now line lines (Err e) is d =
    subst (λ (l : List (List ℕ)). Does {T = Unit {0}} before now (typing l nothing) (Err e) said) (sym is)
    (subst (λ (a : Act (Unit {0})). Does {T = Unit {0}} before now a (Err e) said) (sym (typing_one line))
    (record { each = d.each; idle = d.idle; faults = d.faults; edges = d.edges; cause = d.cause }))

-- ---- a command that only types

pub acts_typed : (old new : Spot) (lines : List (List ℕ)) (r : Result declared.Course End) → Does old.world new.world (typing lines nothing) r said
    → IfOk r (λ c. c ≡ course.Went (pos 0)) → new.state ≡ old.state
    → Acts old new (λ units. typing lines (Done (Went (machine_of old.state units) (pos 0)))) r (course_of new.state)
acts_typed old new lines (Ok c) does went same =
    let next : List Slot → Unit {0} → Act Course = λ units x. Done (Went (machine_of old.state units) (pos 0)) in
    subst (λ (s : State). Acts old new (λ units. typing lines (Done (Went (machine_of old.state units) (pos 0)))) (Ok c) (course_of s)) (sym same)
    (rw went
    (acts_same old new (λ units. typing lines (Done (Went (machine_of old.state units) (pos 0)))) (λ units. bind (typing lines nothing) (next units)) (Ok (course.Went (pos 0)))
    (course_of old.state) (λ units h. typing_then lines (Done (Went (machine_of old.state units) (pos 0))))
    (acts_done old new (λ units. bind (typing lines nothing) (next units)) (course.Went (pos 0)) (course_of old.state)
    (comes_does old new (typing lines nothing) next c said does same))))
acts_typed old new lines (Err e) does went same =
    let next : List Slot → Unit {0} → Act Course = λ units x. Done (Went (machine_of old.state units) (pos 0)) in
    acts_same old new (λ units. typing lines (Done (Went (machine_of old.state units) (pos 0)))) (λ units. bind (typing lines nothing) (next units)) (Err e)
    (course_of new.state) (λ units h. typing_then lines (Done (Went (machine_of old.state units) (pos 0))))
    (does_stop {T = declared.Course} old new (typing lines nothing) next e said (course_of new.state) does same)

-- ---- lines of a list

-- a list from the place of an item on
from_place : {A : Type 0} (xs : List A) (k : ℕ) (x : A) → slice_get xs k ≡ Some x → drop k xs ≡ x ∷ drop (k + 1) xs
from_place {A} xs k x at =
    drop_more xs k x (slice_get_within xs k x at) ∙ ap (λ (y : A). y ∷ drop (k + 1) xs) (get_or_from_slice_get xs k x x at)

module _ (lines : List (List ℕ)) where
  abbrev pub AreSaid : Seen → Seen → ℕ → Type 0
  AreSaid before now k = Reached before now (typing lines nothing) (typing (drop k lines) nothing)

  pub none_said : (before : Seen) → AreSaid before before 0
  none_said before = reached_none before (typing lines nothing)

  line_due : (before mid : Seen) (k : ℕ) (line : List ℕ) → slice_get lines k ≡ Some line → AreSaid before mid k
      → Reached before mid (typing lines nothing) (bind (saying (typed_line line)) (λ (x : Unit {0}). typing (drop (k + 1) lines) nothing))
  line_due before mid k line is a =
      subst (λ (t : Act (Unit {0})). Reached before mid (typing lines nothing) t)
      (ap (λ (l : List (List ℕ)). typing l nothing) (from_place lines k line is) ∙ typing_first line (drop (k + 1) lines)) a

  pub one_said : (before mid now : Seen) (k : ℕ) (line : List ℕ) (x : Unit {0}) → slice_get lines k ≡ Some line → AreSaid before mid k
      → Does mid now (saying (typed_line line)) (Ok x) itself → AreSaid before now (k + 1)
  one_said before mid now k line x is a d =
      reached_on before mid now (typing lines nothing) (saying (typed_line line)) (λ (y : Unit {0}). typing (drop (k + 1) lines) nothing) x itself
      (line_due before mid k line is a) d

  pub one_off : (before mid now : Seen) (k : ℕ) (line : List ℕ) (e : End) → slice_get lines k ≡ Some line → AreSaid before mid k
      → Does {T = Unit {0}} mid now (saying (typed_line line)) (Err e) itself → Does {T = Unit {0}} before now (typing lines nothing) (Err e) said
  one_off before mid now k line e is a d =
      reached_off before mid now (typing lines nothing) (saying (typed_line line)) (λ (y : Unit {0}). typing (drop (k + 1) lines) nothing) e itself said
      (line_due before mid k line is a) d

  pub all_said : (before now : Seen) (k : ℕ) (x : Unit {0}) → length lines ≤ k → AreSaid before now k → Does before now (typing lines nothing) (Ok x) said
  all_said before now k x is a =
      reached_to before now (typing lines nothing) x said
      (subst (λ (t : Act (Unit {0})). Reached before now (typing lines nothing) t)
      (ap (λ (l : List (List ℕ)). typing l nothing) (drop_all k lines is) ∙ typing_none) a)
