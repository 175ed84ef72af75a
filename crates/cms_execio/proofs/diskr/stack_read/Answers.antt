use Rattle.std.proofs.Common.{◌∙◌, ℕ, List, ap, subst, sym, rules}
use Rattle.std.proofs.lemmas.Result.{err_from_is_err_and}
use Rattle.cms_search.specs.Calls.{spot}
use Rattle.cms_search.specs.declared.state.State.{State}
use Rattle.cms_files.specs.StackedLines.{StacksSome}
use Rattle.cms_files.specs.Told.{info_named}
use Rattle.cms_execio.proofs.Takings.{stacked_ends, stacked_stops, stacked_then}
use Rattle.cms_execio.proofs.diskr.stack_read.Goals as goal

-- stacking was cut off
pub returns-in_err-course-clause-acts : goal.returns-in_err-course-clause-acts
returns-in_err-course-clause-acts g c =
    let p = err_from_is_err_and c.from_residual.result c.from_residual.ensures.1 in
    let span = c.args.span in
    let old = spot g.W.World c.args.world.now c.args.state.now in
    let mid = spot g.W.World c.stack_lines.new.world c.stack_lines.new.state in
    rw (p.1, p.2)
    (stacked_stops old mid c.args.line.now c.args.letter c.args.vdev span.last span.front span.taken c.args.lines.now c.in_err-course.field-0.0 c.in_err-course.ensures.acts)

-- not all of them had room
pub returns-then-not-went_well-clause-acts : goal.returns-then-not-went_well-clause-acts
returns-then-not-went_well-clause-acts g c =
    let span = c.args.span in
    let old = spot g.W.World c.args.world.now c.args.state.now in
    let mid = spot g.W.World c.stack_lines.new.world c.stack_lines.new.state in
    stacked_ends old mid c.args.line.now c.args.letter c.args.vdev span.last span.front span.taken c.args.lines.now c.in_ok-course.course c.in_ok-course.ensures.acts
    (c.went_well.ensures.other (search rules))

-- the disks are as before
pub end_read-requires-clause-told : goal.end_read-requires-clause-told
end_read-requires-clause-told g c =
    c.requires.told ∙ sym (ap (λ (s : State). info_named s.table c.args.letter c.args.line.now.range.input.name) c.stack_lines.ensures.kept)

-- all were stacked
pub returns-clause-acts : goal.returns-clause-acts
returns-clause-acts g c =
    let span = c.args.span in
    let old = spot g.W.World c.args.world.now c.args.state.now in
    let mid = spot g.W.World c.stack_lines.new.world c.stack_lines.new.state in
    let new = spot g.W.World c.end_read.new.world c.end_read.new.state in
    stacked_then old mid c.args.line.now c.args.letter c.args.vdev span.last span.front span.taken c.args.lines.now new c.in_ok-course.course c.end_read.result
    c.in_ok-course.ensures.acts (c.went_well.ensures.good (search rules)) c.end_read.ensures.acts

-- the command's end leaves the stack
pub returns-clause-stack : goal.returns-clause-stack
returns-clause-stack g c =
    subst (λ (l : List (List ℕ)). StacksSome c.args.line.now.style.end c.args.lines.now c.args.state.now.stack l)
    (sym (ap (λ (s : State). s.stack) c.end_read.ensures.kept)) c.stack_lines.ensures.stack

-- and so does the disk, where the file's last record isn't among them
pub returns-clause-table : goal.returns-clause-table
returns-clause-table g c = λ last. c.end_read.ensures.table last ∙ ap (λ (s : State). s.table) c.stack_lines.ensures.kept

pub returns-in_err-course-clause-table : goal.returns-in_err-course-clause-table
returns-in_err-course-clause-table g c = λ last. ap (λ (s : State). s.table) c.stack_lines.ensures.kept

pub returns-then-not-went_well-clause-table : goal.returns-then-not-went_well-clause-table
returns-then-not-went_well-clause-table g c = λ last. ap (λ (s : State). s.table) c.stack_lines.ensures.kept
