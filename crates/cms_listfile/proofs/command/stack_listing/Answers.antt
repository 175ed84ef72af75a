use Rattle.std.proofs.Common.{◌∙◌, ◌++◌, List, ℕ, ap, refl, subst, arith}
use Rattle.std.proofs.lemmas.Result.{err_from_is_err_and}
use Rattle.cms_files.specs.StackedLines.{StacksSome, stacking}
use Rattle.cms_files.proofs.Stacked.{stacks_none}
use Rattle.cms_search.specs.Calls.{machine_of}
use Rattle.cms_search.proofs.Acts.{cut_off}
use Rattle.cms_listfile.specs.Lines.{lines_of}
use Rattle.cms_listfile.specs.Listfile.{with_header}
use Rattle.cms_listfile.specs.Told.{lines_told}
use Rattle.cms_listfile.proofs.Delivered.{header_before, listing_stacked}
use Rattle.cms_listfile.proofs.command.stack_listing.Goals as goal

pub returns-in_err-lines-clause-acts : goal.returns-in_err-lines-clause-acts
returns-in_err-lines-clause-acts g c =
    let p = err_from_is_err_and c.from_residual.result c.from_residual.ensures.1 in
    let st = c.args.state.now in
    let style = c.args.style.now in
    rw (p.1, p.2) (cut_off _ _
    (λ units. stacking (machine_of st units) c.args.end (with_header style (lines_of (machine_of st units) style.columns c.args.found.now))) _ refl (omega arith) (omega arith) refl)

pub returns-in_err-add_files-clause-acts : goal.returns-in_err-add_files-clause-acts
returns-in_err-add_files-clause-acts g c =
    let p = err_from_is_err_and c.from_residual-in_err-add_files.result c.from_residual-in_err-add_files.ensures.1 in
    let st = c.args.state.now in
    let style = c.args.style.now in
    rw (p.1, p.2) (cut_off _ _
    (λ units. stacking (machine_of st units) c.args.end (with_header style (lines_of (machine_of st units) style.columns c.args.found.now))) _ refl (omega arith) (omega arith) refl)

pub returns-clause-acts : goal.returns-clause-acts
returns-clause-acts g c =
    let style = c.args.style.now in
    let more = lines_told style.columns c.args.state.now.table c.args.found.now in
    listing_stacked _ _ c.args.end style c.args.found.now _ c.stack_lines.result
    (c.in_ok-add_files.ensures ∙ ap (λ (l : List (List ℕ)). l ++ more) c.in_ok-lines.ensures) c.stack_lines.ensures.acts

-- none was stacked yet
pub returns-in_err-lines-clause-stack : goal.returns-in_err-lines-clause-stack
returns-in_err-lines-clause-stack g c = stacks_none c.args.end _ c.args.state.now.stack

pub returns-in_err-add_files-clause-stack : goal.returns-in_err-add_files-clause-stack
returns-in_err-add_files-clause-stack g c = stacks_none c.args.end _ c.args.state.now.stack

pub returns-clause-stack : goal.returns-clause-stack
returns-clause-stack g c =
    let style = c.args.style.now in
    let more = lines_told style.columns c.args.state.now.table c.args.found.now in
    let lines = c.in_ok-add_files.ensures ∙ ap (λ (l : List (List ℕ)). l ++ more) c.in_ok-lines.ensures ∙ header_before style more in
    subst (λ (l : List (List ℕ)). StacksSome c.args.end l c.args.state.now.stack c.stack_lines.new.state.stack) lines c.stack_lines.ensures.stack
