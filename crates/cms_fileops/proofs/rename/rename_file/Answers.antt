use Rattle.std.proofs.Common.{◌≡◌, ◌∙◌, Ok, Err, false, refl, sym, true}
use Rattle.cms_model.specs.Changes as changes
use Rattle.cms_search.specs.Calls.{machine_of, spot}
use Rattle.cms_search.specs.Searches.{item_at, shelves_in}
use Rattle.cms_search.specs.Tables.{shelves_of}
use Rattle.cms_search.proofs.Acts.{acts_same}
use Rattle.cms_files.specs.Files.{shelf_with}
use Rattle.cms_files.specs.Updates.{updated_of, updating}
use Rattle.cms_files.proofs.TakenFiles.{shelf_there}
use Rattle.cms_files.proofs.Updates.{acts_step_found, acts_step_unfound, found_on_disks, shelf_from}
use Rattle.cms_fileops.specs.Rename.{is_others, others_name, rename_in}
use Rattle.cms_fileops.proofs.Renames.{at_shelf, may_have}
use Rattle.cms_fileops.proofs.rename.rename_file.Goals as goal

pub update_disk-requires-clause-there : goal.update_disk-requires-clause-there
update_disk-requires-clause-there g c = λ s at. (
  c.in-Ok-2.ensures.there s at,
  c.requires.number,
  may_have c.args.state.now.table c.args.letter c.args.from.now c.args.to.now.name c.is_others.result c.is_others.ensures c.if-is_others.false s at,
)

pub returns-in-Ok-clause-acts : goal.returns-in-Ok-clause-acts
returns-in-Ok-clause-acts g c =
    let st = c.args.state.now in
    let n = c.args.letter in
    let words = c.args.words.now in
    let from = c.args.from.now in
    let to = c.args.to.now in
    let old = spot g.W.World c.args.world.now st in
    let new = spot g.W.World c.stop_others.new.world st in
    let shelf = shelf_from (shelf_with (shelves_of st.table) n from) c.in-Ok.ensures.found in
    let there = shelf_there (shelves_of st.table) n from shelf.0 shelf.1 in
    let others : is_others from to.name shelf.0.files ≡ true =
    sym (at_shelf (item_at (shelves_of st.table) n) shelf.0 c.is_others.result from to.name there c.is_others.ensures) ∙ c.if-is_others.true in
    acts_step_found old new words 1 (λ m shelf. rename_in m words n from to shelf) (λ m. shelf_with (shelves_in m) n from) shelf.0 c.stop_others.result (updated_of st)
    (found_on_disks old (λ shelves. shelf_with shelves n from) (Ok shelf.0) shelf.1)
    (acts_same old new (λ units. rename_in (machine_of st units) words n from to shelf.0)
    (λ units. others_name (machine_of st units) words n to.name) c.stop_others.result (updated_of st) (λ units h. rw others refl) c.stop_others.ensures)

pub returns-in-Ok-2-clause-acts : goal.returns-in-Ok-2-clause-acts
returns-in-Ok-2-clause-acts g c =
    let st = c.args.state.now in
    let n = c.args.letter in
    let words = c.args.words.now in
    let from = c.args.from.now in
    let to = c.args.to.now in
    let old = spot g.W.World c.args.world.now st in
    let new = spot g.W.World c.update_disk.new.world c.update_disk.new.state in
    let shelf = shelf_from (shelf_with (shelves_of st.table) n from) c.in-Ok-2.ensures.found in
    let there = shelf_there (shelves_of st.table) n from shelf.0 shelf.1 in
    let others : is_others from to.name shelf.0.files ≡ false =
    sym (at_shelf (item_at (shelves_of st.table) n) shelf.0 c.is_others.result from to.name there c.is_others.ensures) ∙ c.if-is_others.false in
    acts_step_found old new words 1 (λ m shelf. rename_in m words n from to shelf) (λ m. shelf_with (shelves_in m) n from) shelf.0 c.update_disk.result
    (updated_of c.update_disk.new.state) (found_on_disks old (λ shelves. shelf_with shelves n from) (Ok shelf.0) shelf.1)
    (acts_same old new (λ units. rename_in (machine_of st units) words n from to shelf.0) (λ units. updating (machine_of st units) n (changes.Rename from to.name to.number))
    c.update_disk.result (updated_of c.update_disk.new.state) (λ units h. rw others refl) c.update_disk.ensures.acts)

pub returns-in-Err-clause-acts : goal.returns-in-Err-clause-acts
returns-in-Err-clause-acts g c =
    let st = c.args.state.now in
    let n = c.args.letter in
    let words = c.args.words.now in
    let from = c.args.from.now in
    let to = c.args.to.now in
    let old = spot g.W.World c.args.world.now st in
    let new = spot g.W.World c.stop_search.new.world st in
    acts_step_unfound old new words 1 (λ m shelf. rename_in m words n from to shelf) (λ m. shelf_with (shelves_in m) n from) c.in-Err.fault c.stop_search.result
    (updated_of st) (found_on_disks old (λ shelves. shelf_with shelves n from) (Err c.in-Err.fault) c.in-Err.ensures.refused) c.stop_search.ensures
