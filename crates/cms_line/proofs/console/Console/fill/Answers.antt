use Rattle.std.proofs.Common.{◌≡◌, ◌∙◌, ◌+◌, ◌-◌, ◌≤◌, List, ℕ, length, take, ap, sym, arith, false, refl, subst}
use Rattle.std.proofs.lemmas.Grind.{common_steps}
use Rattle.cms_model.specs.Items.{Unread}
use Rattle.cms_line.proofs.ConsoleReads.{over_read}
use Rattle.cms_line.proofs.ConsoleViews.{filled_items, rest_length, kept_items, as_long, read_fits, room_left, at_least_none, fewer_than_held}
use Rattle.cms_line.specs.ConsoleState.{Console, state}
use Rattle.cms_line.proofs.ConsoleExits.{cause_at_ok}
use Rattle.cms_line.proofs.console.Console.fill.Goals as goal

pub returns-in-Ok-clause-ok : goal.returns-in-Ok-clause-ok
returns-in-Ok-clause-ok g c =
    let i = c.self.inside in
    let count : ℕ = c.in-Ok.count in
    let into : List ℕ = c.read.new.into in
    let within : count ≤ length into = omega (arith, c.in-Ok.ensures.within, c.read.auto.into) in
    let size : length i.buffer.items ≡ c.copy_within.new.self.len = sym (c.copy_within.ensures.len ∙ i.buffer.ok.0) in
    let all : length into ≡ length c.deref_mut.result.now - (i.end - i.start) = c.read.auto.into ∙ rest_length c.deref_mut.result.now (i.end - i.start) in
    let read = filled_items c.copy_within.new.self i.buffer.items c.deref_mut.result.now into i.start i.end count c.self.invariant.ordered c.self.invariant.inside size c.deref_mut.ensures.value
    c.copy_within.ensures.items all within in
    let whole : i.end - i.start + count - 0 ≡ i.end - i.start + count = omega arith in
    record {
      bytes = take count into;
      told = c.in-Ok.ensures.bytes;
      unread = rw (sym c.self.view_is) (rw whole (ap (λ (z : List ℕ). (let u : Unread = record { within = i.within; bytes = z } in u)) read));
      ended = over_read (take count into) count (grind (arith, common_steps, within));
    }

pub copy_within-requires-clause-start_le_end : goal.copy_within-requires-clause-start_le_end
copy_within-requires-clause-start_le_end g c = c.self.invariant.ordered

pub read-requires : goal.read-requires
read-requires g c =
    let i = c.self.inside in
    let copied = c.deref_mut.result.now in
    let yet : i.ended ≡ false = ap (λ (s : Console). s.ended) c.self.view_is ∙ c.requires.yet in
    let same : length copied ≡ length i.buffer.items = ap length c.deref_mut.ensures.value ∙ sym c.copy_within.new.self.ok.0 ∙ c.copy_within.ensures.len ∙ i.buffer.ok.0 in
    room_left i.buffer.items copied i.start i.end c.self.invariant.ordered c.self.invariant.inside (c.self.invariant.room yet) same
    (subst (λ (s : Console). length s.unread.bytes ≤ 256) (sym c.self.view_is) c.requires.room)

pub invariant_of-self : goal.invariant_of-self
invariant_of-self g c =
    let i = c.self.inside in
    let v = c.copy_within.new.self in
    let copied = c.deref_mut.result.now in
    let into : List ℕ = c.read.new.into in
    let size : length i.buffer.items ≡ v.len = sym (c.copy_within.ensures.len ∙ i.buffer.ok.0) in
    let all : length into ≡ length copied - (i.end - i.start) = c.read.auto.into ∙ rest_length copied (i.end - i.start) in
    let yet : i.ended ≡ false = ap (λ (s : Console). s.ended) c.self.view_is ∙ c.requires.yet in
    let within : c.in-Ok.count ≤ length into = subst (λ (n : ℕ). c.in-Ok.count ≤ n) (sym c.read.auto.into) c.in-Ok.ensures.within in
    let fits = read_fits v i.buffer.items copied into i.start i.end c.in-Ok.count c.self.invariant.inside size c.deref_mut.ensures.value all within in
    record {
      ordered = at_least_none (i.end - i.start + c.in-Ok.count);
      inside = as_long v _ _ fits;
      room = λ e. as_long v _ 4096 (subst (λ (n : ℕ). 4096 ≤ n) size (c.self.invariant.room yet));
    }

pub invariant_of-self-in-Err : goal.invariant_of-self-in-Err
invariant_of-self-in-Err g c =
    let i = c.self.inside in
    let v = c.copy_within.new.self in
    let size : length i.buffer.items ≡ v.len = sym (c.copy_within.ensures.len ∙ i.buffer.ok.0) in
    record {
      ordered = at_least_none (i.end - i.start);
      inside = as_long v _ _ (fewer_than_held i.buffer.items v.len i.start i.end c.self.invariant.inside size);
      room = λ yet. as_long v _ 4096 (subst (λ (n : ℕ). 4096 ≤ n) size (c.self.invariant.room yet));
    }

pub returns-in-Ok-clause-cause : goal.returns-in-Ok-clause-cause
returns-in-Ok-clause-cause g c = cause_at_ok _ _ tt c.read.ensures.cause.later

pub returns-in-Ok-clause-faults : goal.returns-in-Ok-clause-faults
returns-in-Ok-clause-faults g c = c.read.ensures.faults

pub returns-in-Err-clause-told : goal.returns-in-Err-clause-told
returns-in-Err-clause-told g c = c.in-Err.ensures.failed

pub returns-in-Err-clause-err : goal.returns-in-Err-clause-err
returns-in-Err-clause-err g c =
    let i = c.self.inside in
    let v = c.copy_within.new.self in
    let copied = c.deref_mut.result.now in
    let into : List ℕ = c.read.new.into in
    let size : length i.buffer.items ≡ v.len = sym (c.copy_within.ensures.len ∙ i.buffer.ok.0) in
    let all : length into ≡ length copied - (i.end - i.start) = c.read.auto.into ∙ rest_length copied (i.end - i.start) in
    ap (λ (z : List ℕ). state i.within z i.ended)
    (kept_items v i.buffer.items copied into i.start i.end c.self.invariant.ordered c.self.invariant.inside size c.deref_mut.ensures.value c.copy_within.ensures.items all)
    ∙ c.self.view_is

pub returns-in-Err-clause-fault : goal.returns-in-Err-clause-fault
returns-in-Err-clause-fault g c = refl

pub returns-in-Err-clause-cause : goal.returns-in-Err-clause-cause
returns-in-Err-clause-cause g c = record { later = c.read.ensures.cause.later; rose = λ h. c.in-Err.ensures.cause.failed }

pub returns-in-Err-clause-faults : goal.returns-in-Err-clause-faults
returns-in-Err-clause-faults g c = c.read.ensures.faults
