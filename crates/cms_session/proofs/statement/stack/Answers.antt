use Rattle.std.proofs.lemmas.Result.{err_from_is_err_and}
use Rattle.std.proofs.Common.{ℕ, List, subst, sym, ◌∙◌}
use Rattle.cms_files.specs.StackedLines.{StacksSome}
use Rattle.cms_files.proofs.Stacked.{stacks_none}
use Rattle.cms_session.specs.Procedures.{end_of}
use Rattle.cms_session.proofs.Statements.{stacks_off, stacks_so, stacks_spent}
use Rattle.cms_session.proofs.statement.stack.Goals as goal

pub returns-in_err-stack_lines-clause-acts : goal.returns-in_err-stack_lines-clause-acts
returns-in_err-stack_lines-clause-acts g c =
    let p = err_from_is_err_and c.from_residual.result c.from_residual.ensures.1 in
    let ps = c.args.session.now.procedures in
    let side = c.end_of.ensures in
    let acts = rw side at c.in_err-stack_lines.ensures.acts in
    rw (p.1, p.2) (stacks_off _ ps c.args.procedure c.args.lines.now c.args.side _ _ ps (sym c.has_room.ensures ∙ c.if-not-has_room.false) acts)

pub returns-in-Went-clause-acts : goal.returns-in-Went-clause-acts
returns-in-Went-clause-acts g c =
    let ps = c.args.session.now.procedures in
    let side = c.end_of.ensures in
    let acts = rw side at c.in_ok-stack_lines.ensures.acts in
    stacks_so _ ps c.args.procedure c.args.lines.now c.args.side _ _ c.in_ok-stack_lines.field-0 c.in-Went.field-0 _ c.go_on.new.session.procedures
    (sym c.has_room.ensures ∙ c.if-not-has_room.false) acts c.in-Went.is c.go_on.ensures.acts

pub returns-in-OutOfTurns-clause-acts : goal.returns-in-OutOfTurns-clause-acts
returns-in-OutOfTurns-clause-acts g c =
    let ps = c.args.session.now.procedures in
    let side = c.end_of.ensures in
    let acts = rw side at c.in_ok-stack_lines.ensures.acts in
    stacks_spent _ ps c.args.procedure c.args.lines.now c.args.side _ c.in_ok-stack_lines.field-0 ps (sym c.has_room.ensures ∙ c.if-not-has_room.false) acts c.in-OutOfTurns.is

-- none was stacked
pub returns-then-not-has_room-clause-stack : goal.returns-then-not-has_room-clause-stack
returns-then-not-has_room-clause-stack g c =
    let was = c.args.session.now.state.stack in
    subst (λ (l : List (List ℕ)). StacksSome (end_of c.args.side) c.args.lines.now was l) (sym c.follow.ensures.stack)
    (stacks_none (end_of c.args.side) c.args.lines.now was)

pub returns-in_err-stack_lines-clause-stack : goal.returns-in_err-stack_lines-clause-stack
returns-in_err-stack_lines-clause-stack g c = let side = c.end_of.ensures in rw side at c.stack_lines.ensures.stack

-- what follows leaves the stack alone
pub returns-in-Went-clause-stack : goal.returns-in-Went-clause-stack
returns-in-Went-clause-stack g c =
    let side = c.end_of.ensures in
    let some = rw side at c.stack_lines.ensures.stack in
    subst (λ (l : List (List ℕ)). StacksSome (end_of c.args.side) c.args.lines.now c.args.session.now.state.stack l) (sym c.go_on.ensures.stack) some

pub returns-in-OutOfTurns-clause-stack : goal.returns-in-OutOfTurns-clause-stack
returns-in-OutOfTurns-clause-stack g c = let side = c.end_of.ensures in rw side at c.stack_lines.ensures.stack
