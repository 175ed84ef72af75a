use Rattle.std.proofs.Common.{Ok, Err}
use Rattle.cms_model.specs.Changes.{Drop}
use Rattle.cms_search.specs.Calls.{spot}
use Rattle.cms_search.specs.Searches.{shelves_in}
use Rattle.cms_search.specs.Tables.{shelves_of}
use Rattle.cms_files.specs.Files.{shelf_with}
use Rattle.cms_files.specs.Updates.{updated_of, updating}
use Rattle.cms_files.proofs.Updates.{acts_step_found, acts_step_unfound, found_on_disks, shelf_from}
use Rattle.cms_fileops.proofs.erase.erase_file.Goals as goal

pub returns-in-Ok-clause-acts : goal.returns-in-Ok-clause-acts
returns-in-Ok-clause-acts g c =
    let st = c.args.state.now in
    let n = c.args.letter in
    let name = c.args.name.now in
    let old = spot g.W.World c.args.world.now st in
    let new = spot g.W.World c.update_disk.new.world c.update_disk.new.state in
    let shelf = shelf_from (shelf_with (shelves_of st.table) n name) c.in-Ok.ensures.found in
    acts_step_found old new c.args.words.now 1 (λ m shelf. updating m n (Drop name)) (λ m. shelf_with (shelves_in m) n name) shelf.0 c.update_disk.result
    (updated_of c.update_disk.new.state) (found_on_disks old (λ shelves. shelf_with shelves n name) (Ok shelf.0) shelf.1) c.update_disk.ensures.acts

pub returns-in-Err-clause-acts : goal.returns-in-Err-clause-acts
returns-in-Err-clause-acts g c =
    let st = c.args.state.now in
    let n = c.args.letter in
    let name = c.args.name.now in
    let old = spot g.W.World c.args.world.now st in
    let new = spot g.W.World c.stop_search.new.world st in
    acts_step_unfound old new c.args.words.now 1 (λ m shelf. updating m n (Drop name)) (λ m. shelf_with (shelves_in m) n name) c.in-Err.fault c.stop_search.result
    (updated_of st) (found_on_disks old (λ shelves. shelf_with shelves n name) (Err c.in-Err.fault) c.in-Err.ensures.refused) c.stop_search.ensures
