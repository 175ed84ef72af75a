-- Calls that change the state alone, and refusals that a tree tells.
use Rattle.std.proofs.Common.{◌≡◌, ℕ, ℤ, List, [], Some, None, Ok, Err, Result, refl, sym, ap, ◌∙◌, subst}
use Rattle.std.specs.Prelude.{IfOk, pos}
use Rattle.cms_journal.specs.Told.{Told}
use Rattle.cms_model.specs.Acts.{Act, Done, saying, typed_line}
use Rattle.cms_model.specs.Slots.{Slot}
use Rattle.cms_model.proofs.Join.{ran_none}
use Rattle.cms_line.specs.ConsoleState.{Console}
use Rattle.cms_line.specs.Messages.{message_text}
use Rattle.cms_line.specs.declared.message.Message.{Message}
use Rattle.cms_search.specs.Calls.{Acts, Does, IsLater, IsUsable, Meaning, Spot, Usable, Holds, at, course_of, holds, machine_of, refusal_tree, said, spot_at}
use Rattle.cms_line.specs.declared.token.Token.{Token}
use Rattle.cms_operands.specs.Choices.{AnswersLine}
use Rattle.cms_operands.specs.Refusals.{code_of, message_of}
use Rattle.cms_operands.specs.declared.options.CommandFault.{CommandFault}
use Rattle.cms_operands.specs.declared.options.CommandFault.TheVariants as line
use Rattle.cms_operands.specs.declared.refusal.Refusal.{Refusal}
use Rattle.cms_search.specs.LineRefused.{RefusesLine}
use Rattle.cms_search.specs.Machine.{Course, Machine}
use Rattle.cms_search.specs.Refusals.{on_line}
use Rattle.cms_search.specs.Tables.{AccessTable, released}
use Rattle.cms_search.specs.declared.state.Course as declared
use Rattle.cms_search.specs.declared.state.Course.TheVariants as course
use Rattle.cms_search.specs.declared.state.End.{End}
use Rattle.cms_search.specs.declared.state.End.TheVariants.{Memory}
use Rattle.cms_search.specs.declared.state.State.{State}
use Rattle.cms_world.specs.Seen.{Seen}
use Rattle.cms_search.proofs.Acts.{acts_same, comes_none, later_none, no_memory, refused}
use Rattle.cms_search.proofs.Released.{holds_left, usable_left}

-- a point is the same where the world and the console are
at_same : (old new : Spot) (units : List Slot) → new.world ≡ old.world → new.state.console ≡ old.state.console → at new units ≡ at old units
at_same old new units world console =
    ap (λ (w : Seen). record { journal = w.told; faults = w.faults; units = units; unread = new.state.console.unread; ended = new.state.console.ended; objects = [] }) world
    ∙ ap (λ (c : Console). record { journal = old.world.told; faults = old.world.faults; units = units; unread = c.unread; ended = c.ended; objects = [] }) console

-- all of the tree is done, and only the state is another
pub acts_stayed : {R T : Type 0} (old new : Spot) (t : List Slot → Act R) (x : T) (d : Meaning T R) → new.world ≡ old.world → new.state.console ≡ old.state.console
    → ((units : List Slot) → holds old units → holds new units × (t units ≡ Done (d units x))) → (IsUsable old → IsUsable new) → Acts old new t (Ok x) d
acts_stayed old new t x d world console kept usable = record {
  each = λ units h.
      let k = kept units h in
      let p = at_same old new units world console in
      (units, (k.0, (let e = k.1 in rw (p, e) (ran_none (at old units) (Done (d units x))))));
  later = subst (λ (w : Seen). IsLater old.world w) (sym world) (later_none old.world);
  usable = usable;
  cause = tt;
}

-- a refusal of a tree
pub acts_refused : (old new : Spot) (t : List Slot → Act Course) (message : Message) (code : ℤ) (r : Result declared.Course End)
    → Does old.world new.world (saying (typed_line (message_text message))) r said → IfOk r (λ c. c ≡ course.Went code) → new.state ≡ old.state
    → ((units : List Slot) → holds old units → t units ≡ refusal_tree old.state message code units) → Acts old new t r (course_of new.state)
acts_refused old new t message code r does went same tree =
    acts_same old new t (refusal_tree old.state message code) r (course_of new.state) tree (refused old new message code r does went same)

-- ---- a released letter

pub holds_released : (told : Told) (t : AccessTable) (n : ℕ) (units : List Slot) → Holds told t units → Holds told (released n t) units
holds_released None t n units h = absurd h
holds_released (Some j) t n units h = holds_left j units t n h

pub usable_released : (told : Told) (t : AccessTable) (n : ℕ) → Usable told t → Usable told (released n t)
usable_released told t n usable = λ j is. usable_left j t n (usable j is)

-- ---- a command's line

-- the line is read so
pub acts_line : {A : Type 0} (old new : Spot) (words : List Token) (next : Machine → A → Act Course) (read : List Slot → Result A Refusal) (x : A) (r : Result declared.Course End)
    (d : Meaning declared.Course Course) → ((units : List Slot) → read units ≡ Ok x) → Acts old new (λ units. next (machine_of old.state units) x) r d
    → Acts old new (λ units. on_line (machine_of old.state units) words (next (machine_of old.state units)) (read units)) r d
acts_line old new words next read x r d is a =
    acts_same old new (λ units. on_line (machine_of old.state units) words (next (machine_of old.state units)) (read units)) (λ units. next (machine_of old.state units) x) r d
    (λ units h. (let e = is units in rw e refl)) a

-- or it is refused
pub acts_line_refused : {A : Type 0} (old new : Spot) (words : List Token) (next : Machine → A → Act Course) (read : List Slot → Result A Refusal) (why : Refusal)
    (r : Result declared.Course End) → ((units : List Slot) → read units ≡ Err why)
    → Does old.world new.world (saying (typed_line (message_text (message_of words why)))) r said → IfOk r (λ c. c ≡ course.Went (pos (code_of why)))
    → new.state ≡ old.state → Acts old new (λ units. on_line (machine_of old.state units) words (next (machine_of old.state units)) (read units)) r (course_of new.state)
acts_line_refused old new words next read why r is does went same =
    acts_refused old new (λ units. on_line (machine_of old.state units) words (next (machine_of old.state units)) (read units)) (message_of words why) (pos (code_of why)) r
    does went same (λ units h. (let e = is units in rw e refl))

-- there was no memory, and nothing was done
pub acts_starved : {R T : Type 0} (old : Spot) (t : List Slot → Act R) (d : Meaning T R) → Acts {T = T} old old t (Err Memory) d
acts_starved old t d = no_memory old old t t d (comes_none old t)

-- it isn't taken
pub acts_line_fault : {A : Type 0} (old new : Spot) (words : List Token) (next : Machine → A → Act Course) (read : List Slot → Result A Refusal) (fault : CommandFault)
    (r : Result declared.Course End) → ((units : List Slot) → AnswersLine (read units) (Err fault)) → RefusesLine old.world new.world words fault r → new.state ≡ old.state
    → Acts old new (λ units. on_line (machine_of old.state units) words (next (machine_of old.state units)) (read units)) r (course_of new.state)
acts_line_fault old new words next read (line.Refused why) r is done same = acts_line_refused old new words next read why r is done.0 done.1 same
acts_line_fault old new words next read line.Memory r is done same =
    let t : List Slot → Act Course = λ units. on_line (machine_of old.state units) words (next (machine_of old.state units)) (read units) in
    let starved = done.0 in
    rw starved
    (subst (λ (w : Seen). Acts {T = declared.Course} old (spot_at w new.state) t (Err Memory) (course_of new.state)) (sym done.1)
    (subst (λ (s : State). Acts {T = declared.Course} old (spot_at old.world s) t (Err Memory) (course_of s)) (sym same)
    (acts_starved old t (course_of old.state))))
