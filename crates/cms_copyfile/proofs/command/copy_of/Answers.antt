use Rattle.std.proofs.Common.{sym}
use Rattle.cms_search.specs.Calls.{machine_of, spot}
use Rattle.cms_search.proofs.LetterDisks.{holds_shows}
use Rattle.cms_files.specs.Files.{search_refused}
use Rattle.cms_files.specs.Updates.{stopping}
use Rattle.cms_copyfile.specs.Copyfile.{copy_of, copy_told, with_copying}
use Rattle.cms_copyfile.proofs.FilesCopied.{acts_copying, of_unwritten, of_written}
use Rattle.cms_copyfile.proofs.command.copy_of.Goals as goal

pub returns-in-Ok-clause-acts : goal.returns-in-Ok-clause-acts
returns-in-Ok-clause-acts g c =
    let st = c.args.state.now in
    let words = c.args.words.now in
    let line = c.args.line.now in
    let file = c.args.file.now in
    let old = spot g.W.World c.args.world.now st in
    let new = spot g.W.World c.copy_told.new.world c.copy_told.new.state in
    acts_copying old new words line file (λ m. copy_of m words line) (λ units. with_copying words line (machine_of st units) file.found (copy_told (machine_of st units) words line))
    c.copy_told.result _ c.requires.file (λ units x h. of_written st.table (machine_of st units) words line file x (holds_shows old units h) (sym c.in-Ok.ensures)) c.copy_told.ensures.acts

pub returns-in-Err-clause-acts : goal.returns-in-Err-clause-acts
returns-in-Err-clause-acts g c =
    let st = c.args.state.now in
    let words = c.args.words.now in
    let line = c.args.line.now in
    let file = c.args.file.now in
    let old = spot g.W.World c.args.world.now st in
    let new = spot g.W.World c.stop_search.new.world st in
    acts_copying old new words line file (λ m. copy_of m words line) (λ units. stopping (search_refused (machine_of st units) words 1 c.in-Err.fault)) c.stop_search.result _ c.requires.file
    (λ units x h. of_unwritten st.table (machine_of st units) words line file x c.in-Err.fault (holds_shows old units h) (sym c.in-Err.ensures)) c.stop_search.ensures
