use Rattle.std.proofs.Common.{◌≡◌, ◌+◌, ◌-◌, length, drop, Ok, true, false, sym, ◌∙◌, ap, arith, length-drop}
use Rattle.std.specs.Prelude.{nat_lt}
use Rattle.std.proofs.lemmas.List.{take_rest}
use Rattle.std.proofs.lemmas.Bool.{lt-ltb, le-ltb}
use Rattle.std.proofs.lemmas.Result.{err_from_is_err_and}
use Rattle.cms_records.specs.Views.{first_size}
use Rattle.cms_records.proofs.Lengths.{first_within, comes_next, comes_to_fault, comes_to_end, comes_to_left}
use Rattle.cms_cards.proofs.stored.longest_of.Goals as goal

pub returns-in_err-size : goal.returns-in_err-size
returns-in_err-size c =
    let l = c.loop-done in
    let p = err_from_is_err_and c.from_residual.result c.from_residual.ensures.1 in
    let is = sym (c.in_err-size.ensures.size ∙ ap (first_size l.place) (take_rest c.args.bytes.now l.place)) in
    rw (p.1, p.2) (sym (comes_to_fault 1 c.args.count c.args.bytes.now (c.args.count - l._done) l.place l.longest c.in_err-size.field-0.0 l.invariant.comes (omega arith) is))

pub overflow_add-place : goal.overflow_add-place
overflow_add-place c =
    let l = c.loop-done in
    let is : first_size l.place (drop l.place c.args.bytes.now) ≡ Ok c.in_ok-size.size = sym (c.in_ok-size.ensures.size ∙ ap (first_size l.place) (take_rest c.args.bytes.now l.place)) in
    omega (arith, first_within l.place (drop l.place c.args.bytes.now) c.in_ok-size.size is, length-drop l.place c.args.bytes.now)

pub overflow_add-place-in-loop-done : goal.overflow_add-place-in-loop-done
overflow_add-place-in-loop-done c =
    let l = c.loop-done in
    let is : first_size l.place (drop l.place c.args.bytes.now) ≡ Ok c.in_ok-size.size = sym (c.in_ok-size.ensures.size ∙ ap (first_size l.place) (take_rest c.args.bytes.now l.place)) in
    omega (arith, first_within l.place (drop l.place c.args.bytes.now) c.in_ok-size.size is, length-drop l.place c.args.bytes.now, l.invariant.within)

pub loop-done-preserved : goal.loop-done-preserved
loop-done-preserved c =
    let l = c.loop-done in
    let is : first_size l.place (drop l.place c.args.bytes.now) ≡ Ok c.in_ok-size.size = sym (c.in_ok-size.ensures.size ∙ ap (first_size l.place) (take_rest c.args.bytes.now l.place)) in
    let next = comes_next 1 c.args.count c.args.bytes.now (c.args.count - l._done) l.place l.longest c.in_ok-size.size l.invariant.comes (omega arith) is in
    let left : c.args.count - (l._done + 1) ≡ c.args.count - l._done - 1 = omega arith in
    record {
      comes = rw (left, c.max-longest.ensures) next;
      within = omega (arith, first_within l.place (drop l.place c.args.bytes.now) c.in_ok-size.size is, length-drop l.place c.args.bytes.now, l.invariant.within);
    }

pub returns-then-bytes-place : goal.returns-then-bytes-place
returns-then-bytes-place c =
    let l = c.loop-done in
    let long = length-drop l.place c.args.bytes.now in
    let over : nat_lt (length (drop l.place c.args.bytes.now)) 1 ≡ false = le-ltb _ _ (omega arith) in
    sym (comes_to_left 1 c.args.count c.args.bytes.now (c.args.count - l._done) l.place l.longest l.invariant.comes (omega arith) over)

pub returns : goal.returns
returns c =
    let l = c.loop-done in
    let long = length-drop l.place c.args.bytes.now in
    let short : nat_lt (length (drop l.place c.args.bytes.now)) 1 ≡ true = lt-ltb _ _ (omega arith) in
    sym (comes_to_end 1 c.args.count c.args.bytes.now (c.args.count - l._done) l.place l.longest l.invariant.comes (omega arith) short)
