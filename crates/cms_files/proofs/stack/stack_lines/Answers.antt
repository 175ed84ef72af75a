use Rattle.std.proofs.Common.{◌≡◌, ◌+◌, ℕ, List, false, length, nat_le, refl, arith, rules, subst, true}
use Rattle.std.proofs.lemmas.Bool.{leb-true}
use Rattle.std.specs.Prelude.{pos}
use Rattle.std.proofs.lemmas.Result.{err_from_is_err_and}
use Rattle.cms_line.specs.Stack.{most_lines}
use Rattle.cms_line.specs.declared.message.Message.TheVariants.{M120}
use Rattle.cms_text.specs.Numbers.{decimal_of}
use Rattle.cms_search.specs.Calls.{machine_of}
use Rattle.cms_search.proofs.Acts.{cut_off}
use Rattle.cms_search.proofs.StateCalls.{acts_refused}
use Rattle.cms_files.specs.StackedLines.{StacksFirst, stack_limit, stacking}
use Rattle.cms_search.specs.ChangeTold.{limited}
use Rattle.cms_files.proofs.Stacked.{stacks_none}
use Rattle.cms_files.proofs.stack.stack_lines.Goals as goal

pub returns-then-not-has_room-clause-acts : goal.returns-then-not-has_room-clause-acts
returns-then-not-has_room-clause-acts g c =
    let s = c.args.state.now in
    let full : nat_le (length s.stack + length c.args.lines.now) most_lines ≡ false = search rules in
    acts_refused _ _ (λ units. stacking (machine_of s units) c.args.end c.args.lines.now) (M120 (decimal_of stack_limit)) (pos limited) c.refuse_limit.result
    c.refuse_limit.ensures.does c.refuse_limit.ensures.went refl (λ units h. rw full refl)

pub returns-in_err-push_all-clause-acts : goal.returns-in_err-push_all-clause-acts
returns-in_err-push_all-clause-acts g c =
    let p = err_from_is_err_and c.from_residual.result c.from_residual.ensures.1 in
    rw (p.1, p.2) (cut_off _ _ (λ units. stacking (machine_of c.args.state.now units) c.args.end c.args.lines.now) _ refl (omega arith) (omega arith) refl)

-- none was stacked
pub returns-then-not-has_room-clause-stack : goal.returns-then-not-has_room-clause-stack
returns-then-not-has_room-clause-stack g c = stacks_none c.args.end c.args.lines.now c.args.state.now.stack

-- there is room for all of them
pub returns-in_err-push_all-clause-stack : goal.returns-in_err-push_all-clause-stack
returns-in_err-push_all-clause-stack g c = record {
  first = subst (λ (lines : List (List ℕ)). StacksFirst c.args.end lines c.args.state.now.stack c.push_all.new.stack) c.as_slice.ensures c.push_all.ensures.first;
  full = λ over. (
      let fits : nat_le (length c.args.state.now.stack + length c.args.lines.now) most_lines ≡ true = search rules in
      let few = leb-true (length c.args.state.now.stack + length c.args.lines.now) most_lines fits in
      absurd (omega (arith, few))
      );
}

pub returns-clause-stack : goal.returns-clause-stack
returns-clause-stack g c = record {
  first = subst (λ (lines : List (List ℕ)). StacksFirst c.args.end lines c.args.state.now.stack c.push_all.new.stack) c.as_slice.ensures c.push_all.ensures.first;
  full = λ over. (
      let fits : nat_le (length c.args.state.now.stack + length c.args.lines.now) most_lines ≡ true = search rules in
      let few = leb-true (length c.args.state.now.stack + length c.args.lines.now) most_lines fits in
      absurd (omega (arith, few))
      );
}
