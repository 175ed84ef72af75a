-- One place behind the other is looked at.
use Rattle.std.proofs.Common.{◌≡◌, ◌∙◌, ◌<◌, ◌≤◌, ◌++◌, ◌∷◌, [], ◌-◌, ℕ, List, length, drop, get_or, ap, sym, append-nil, length-drop, rules, arith}
use Rattle.std.proofs.lemmas.List.{take_all}
use Rattle.cms_edf.proofs.LeftLeaves.{at_passed, at_places, at_taken, left_all, left_none}
use Rattle.cms_edf.proofs.Exits.{ok_at_err}
use Rattle.cms_edf.proofs.new_directory.append_left.Goals as goal
use Rattle.cms_edf.proofs.new_directory.append_left.Goals.{then-place-leaves+in_ok-push, else-place-leaves}

pub loop-place-init : goal.loop-place-init
unfolding at_places
loop-place-init c = sym (append-nil c.args.into.now.items)

pub loop-place-preserved : goal.loop-place-preserved
loop-place-preserved c =
    let a = c.args in
    let l = c.loop-place in
    let less : l.place-index < length a.written.now = search rules in
    elim c.if-place-leaves.branch [
      | then-place-leaves+in_ok-push w ↦
          let one : c.if-place-leaves.into.items ≡ l.into.items ++ get_or a.leaves.now (get_or a.written.now l.place-index 0) 0 ∷ [] = search rules in
          at_taken a.leaves.now a.written.now a.into.now.items l.into.items c.if-place-leaves.into.items l.place-index less w.if-place-leaves.true l.invariant one
      | else-place-leaves w ↦
          let still : c.if-place-leaves.into.items ≡ l.into.items = search rules in
          let past = w.if-place-leaves.false in
          still ∙ at_passed a.leaves.now a.written.now a.into.now.items l.into.items l.place-index less (omega (arith, past)) l.invariant
    ]

pub returns-in_ok-extend_from_slice : goal.returns-in_ok-extend_from_slice
returns-in_ok-extend_from_slice c =
    let a = c.args in
    let l = c.loop-place in
    let past : length a.written.now ≤ l.place-index = search rules in
    let rest = length-drop a.count a.leaves.now in
    let more : c.extend_from_slice.new.self.items ≡ l.into.items ++ drop a.count a.leaves.now =
    c.in_ok-extend_from_slice.ensures.items ∙ ap (λ (xs : List ℕ). l.into.items ++ xs) (take_all (length a.leaves.now - a.count) (drop a.count a.leaves.now) (omega (arith, rest))) in
    left_all a.leaves.now a.count l.place-index a.written.now a.into.now.items l.into.items c.extend_from_slice.new.self.items c.requires past l.invariant more

pub returns-else-count-leaves : goal.returns-else-count-leaves
returns-else-count-leaves c =
    let a = c.args in
    let l = c.loop-place in
    let past : length a.written.now ≤ l.place-index = search rules in
    let none = c.if-count-leaves.false in
    left_none a.leaves.now a.count l.place-index a.written.now a.into.now.items l.into.items c.requires past l.invariant (omega (arith, none))

pub bounds-written-place-index : goal.bounds-written-place-index
bounds-written-place-index c = c.loop-place-test.true

pub bounds-leaves-place : goal.bounds-leaves-place
bounds-leaves-place c = c.if-place-leaves.true

pub returns-in_err-push : goal.returns-in_err-push
returns-in_err-push c = ok_at_err _ c.from_residual.result _ c.from_residual.ensures.1

pub returns-in_err-extend_from_slice : goal.returns-in_err-extend_from_slice
returns-in_err-extend_from_slice c = ok_at_err _ c.from_residual-in_err-extend_from_slice.result _ c.from_residual-in_err-extend_from_slice.ensures.1
