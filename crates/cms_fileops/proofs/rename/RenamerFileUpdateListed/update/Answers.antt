use Rattle.std.proofs.Common.{◌≡◌, ◌∙◌}
use Rattle.std.proofs.lemmas.Result.{err_from_is_err_and}
use Rattle.cms_search.specs.Calls.{machine_of, spot}
use Rattle.cms_search.proofs.StateCalls.{acts_starved}
use Rattle.cms_files.specs.Files.{file_text}
use Rattle.cms_files.proofs.Updates.{told_behind, told_never}
use Rattle.cms_fileops.specs.Rename.{rename_file, renaming_of}
use Rattle.cms_fileops.proofs.rename.RenamerFileUpdateListed.update.Goals as goal

pub returns-in_err-text-clause-acts : goal.returns-in_err-text-clause-acts
returns-in_err-text-clause-acts g c =
    let p = err_from_is_err_and c.from_residual.result c.from_residual.ensures.1 in
    rw (p.1, p.2) (acts_starved _ _ _)

pub rename_file-requires-clause-number : goal.rename_file-requires-clause-number
rename_file-requires-clause-number g c = let to = c.renaming_of-to.ensures in rw to c.requires.takes

pub returns-in_err-updated-clause-acts : goal.returns-in_err-updated-clause-acts
returns-in_err-updated-clause-acts g c =
    let p = err_from_is_err_and c.from_residual-in_err-updated.result c.from_residual-in_err-updated.ensures.1 in
    let st = c.args.state.now in
    let r = c.args.self.now in
    let line = r.line.now in
    let f = c.file.inside in
    let view = c.file.view_is in
    let to = renaming_of line.files (record { name = f.name; number = f.number }) in
    let same : c.renaming_of-to.result ≡ to = rw (← view) at c.renaming_of-to.ensures in
    rw (p.1, p.2, ← view)
    (told_never (spot g.W.World c.args.world.now st) (spot g.W.World c.rename_file.new.world c.rename_file.new.state)
    (λ units. rename_file (machine_of st units) r.words.now line.files.mode.letter f.name to) line.types (file_text line.files.mode.letter to.name to.number) c.in_err-updated.field-0.0
    (rw same at c.in_err-updated.ensures.acts))

pub returns-clause-acts : goal.returns-clause-acts
returns-clause-acts g c =
    let st = c.args.state.now in
    let r = c.args.self.now in
    let line = r.line.now in
    let f = c.file.inside in
    let view = c.file.view_is in
    let to = renaming_of line.files (record { name = f.name; number = f.number }) in
    let same : c.renaming_of-to.result ≡ to = rw (← view) at c.renaming_of-to.ensures in
    let text : c.deref.result.now ≡ file_text line.files.mode.letter to.name to.number = c.deref.ensures.value ∙ rw same at c.in_ok-text.ensures in
    rw (← view)
    (told_behind (spot g.W.World c.args.world.now st) (spot g.W.World c.rename_file.new.world c.rename_file.new.state) (spot g.W.World c.tell_updated.new.world c.rename_file.new.state)
    (λ units. rename_file (machine_of st units) r.words.now line.files.mode.letter f.name to) line.types (file_text line.files.mode.letter to.name to.number) c.in_ok-updated.updated
    c.tell_updated.result (rw same at c.in_ok-updated.ensures.acts) (rw text at c.tell_updated.ensures))
