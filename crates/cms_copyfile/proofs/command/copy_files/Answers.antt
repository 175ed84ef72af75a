use Rattle.std.proofs.Common.{⊎_elim, refl}
use Rattle.cms_files.proofs.Found.{acts_found, acts_search_fault}
use Rattle.cms_files.specs.Updates.{updating_each}
use Rattle.cms_search.specs.Calls.{machine_of, spot}
use Rattle.cms_search.proofs.LetterDisks.{holds_shows}
use Rattle.cms_copyfile.specs.Copyfile.{copy_found, files_copied}
use Rattle.cms_copyfile.proofs.command.copy_files.Goals as goal

pub returns-in-Ok-clause-acts : goal.returns-in-Ok-clause-acts
returns-in-Ok-clause-acts g c =
    let st = c.args.state.now in
    let line = c.args.line.now in
    let words = c.args.words.now in
    let old = spot g.W.World c.args.world.now st in
    let new = spot g.W.World c.update_each.new.world c.update_each.new.state in
    let same = c.as_slice.ensures.value in
    acts_found old new words 1 (λ m found. updating_each (copy_found words line) found m) (λ m. files_copied m line) c.in-Ok.files.items c.update_each.result _
    (λ units h. c.in-Ok.ensures.found (machine_of st units) (holds_shows old units h)) (rw same at c.update_each.ensures.acts)

pub returns-in-Err-clause-acts : goal.returns-in-Err-clause-acts
returns-in-Err-clause-acts g c =
    let st = c.args.state.now in
    let line = c.args.line.now in
    let words = c.args.words.now in
    let old = spot g.W.World c.args.world.now st in
    let new = spot g.W.World c.refuse_unfound.new.world st in
    acts_search_fault old new words 1 (λ m found. updating_each (copy_found words line) found m) (λ m. files_copied m line) c.in-Err.fault c.refuse_unfound.result
    (λ other units h. ⊎_elim (λ memory. absurd (other memory)) (λ refused. refused (machine_of st units) (holds_shows old units h)) c.in-Err.ensures.refused)
    c.refuse_unfound.ensures refl
