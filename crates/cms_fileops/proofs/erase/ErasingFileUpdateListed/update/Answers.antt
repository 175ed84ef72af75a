use Rattle.std.proofs.Common.{◌≡◌, ◌∙◌}
use Rattle.std.proofs.lemmas.Result.{err_from_is_err_and}
use Rattle.cms_search.specs.Calls.{machine_of, spot}
use Rattle.cms_search.proofs.StateCalls.{acts_starved}
use Rattle.cms_files.specs.Files.{file_text}
use Rattle.cms_files.proofs.Updates.{told_behind, told_never}
use Rattle.cms_fileops.specs.Erase.{erase_file}
use Rattle.cms_fileops.proofs.erase.ErasingFileUpdateListed.update.Goals as goal

pub returns-in_err-text-clause-acts : goal.returns-in_err-text-clause-acts
returns-in_err-text-clause-acts g c =
    let p = err_from_is_err_and c.from_residual.result c.from_residual.ensures.1 in
    rw (p.1, p.2) (acts_starved _ _ _)

pub returns-in_err-updated-clause-acts : goal.returns-in_err-updated-clause-acts
returns-in_err-updated-clause-acts g c =
    let p = err_from_is_err_and c.from_residual-in_err-updated.result c.from_residual-in_err-updated.ensures.1 in
    let st = c.args.state.now in
    let e = c.args.self.now in
    let f = c.file.inside in
    let view = c.file.view_is in
    rw (p.1, p.2, ← view)
    (told_never (spot g.W.World c.args.world.now st) (spot g.W.World c.erase_file.new.world c.erase_file.new.state) (λ units. erase_file (machine_of st units) e.words.now e.letter f.name)
    e.types (file_text e.letter f.name f.number) c.in_err-updated.field-0.0 c.in_err-updated.ensures.acts)

pub returns-clause-acts : goal.returns-clause-acts
returns-clause-acts g c =
    let st = c.args.state.now in
    let e = c.args.self.now in
    let f = c.file.inside in
    let view = c.file.view_is in
    let text : c.deref.result.now ≡ file_text e.letter f.name f.number = c.deref.ensures.value ∙ c.in_ok-text.ensures in
    rw (← view)
    (told_behind (spot g.W.World c.args.world.now st) (spot g.W.World c.erase_file.new.world c.erase_file.new.state) (spot g.W.World c.tell_updated.new.world c.erase_file.new.state)
    (λ units. erase_file (machine_of st units) e.words.now e.letter f.name) e.types (file_text e.letter f.name f.number) c.in_ok-updated.updated c.tell_updated.result
    c.in_ok-updated.ensures.acts (rw text at c.tell_updated.ensures))
