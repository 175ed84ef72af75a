use Rattle.std.proofs.Common.{◌≡◌, ◌∙◌, refl}
use Rattle.std.proofs.lemmas.Result.{err_from_is_err_and}
use Rattle.cms_search.specs.Calls.{machine_of, spot}
use Rattle.cms_search.proofs.StateCalls.{acts_starved}
use Rattle.cms_files.specs.Updates.{telling}
use Rattle.cms_files.proofs.Updates.{told_behind, told_never}
use Rattle.cms_model.specs.Acts.{bind}
use Rattle.cms_copyfile.specs.Copyfile.{copy_erased, copy_told, with_copying}
use Rattle.cms_copyfile.specs.Shown.{copy_text}
use Rattle.cms_copyfile.proofs.FilesCopied.{acts_copying, shown_input, shown_output, told_so}
use Rattle.cms_copyfile.proofs.command.copy_told.Goals as goal

pub returns-in_err-text-clause-acts : goal.returns-in_err-text-clause-acts
returns-in_err-text-clause-acts g c =
    let p = err_from_is_err_and c.from_residual.result c.from_residual.ensures.1 in
    rw (p.1, p.2) (acts_starved _ _ _)

pub returns-in_err-updated-clause-acts : goal.returns-in_err-updated-clause-acts
returns-in_err-updated-clause-acts g c =
    let p = err_from_is_err_and c.from_residual-in_err-updated.result c.from_residual-in_err-updated.ensures.1 in
    let st = c.args.state.now in
    let words = c.args.words.now in
    let line = c.args.line.now in
    let file = c.args.file.now in
    let old = spot g.W.World c.args.world.now st in
    let new = spot g.W.World c.copy_erased.new.world c.copy_erased.new.state in
    let text = copy_text (shown_input file) (shown_output line file) in
    rw (p.1, p.2)
    (acts_copying old new words line file (λ m. copy_told m words line)
    (λ units. bind (with_copying words line (machine_of st units) file.found (copy_erased (machine_of st units) words line)) (telling line.style.types text)) _ _ c.requires.file
    (λ units x h. told_so (machine_of st units) words line file x text refl)
    (told_never old new (λ units. with_copying words line (machine_of st units) file.found (copy_erased (machine_of st units) words line)) line.style.types text c.in_err-updated.field-0.0
    c.in_err-updated.ensures.acts))

pub returns-clause-acts : goal.returns-clause-acts
returns-clause-acts g c =
    let st = c.args.state.now in
    let words = c.args.words.now in
    let line = c.args.line.now in
    let file = c.args.file.now in
    let old = spot g.W.World c.args.world.now st in
    let mid = spot g.W.World c.copy_erased.new.world c.copy_erased.new.state in
    let new = spot g.W.World c.tell_updated.new.world c.copy_erased.new.state in
    let one = c.input_shown.ensures in
    let two = c.output_shown.ensures in
    let text : c.deref.result.now ≡ copy_text (shown_input file) (shown_output line file) = c.deref.ensures.value ∙ (rw (one, two) at c.in_ok-text.ensures) in
    acts_copying old new words line file (λ m. copy_told m words line)
    (λ units. bind (with_copying words line (machine_of st units) file.found (copy_erased (machine_of st units) words line)) (telling line.style.types c.deref.result.now)) c.tell_updated.result _
    c.requires.file (λ units x h. told_so (machine_of st units) words line file x c.deref.result.now text)
    (told_behind old mid new (λ units. with_copying words line (machine_of st units) file.found (copy_erased (machine_of st units) words line)) line.style.types c.deref.result.now
    c.in_ok-updated.updated c.tell_updated.result c.in_ok-updated.ensures.acts c.tell_updated.ensures)
