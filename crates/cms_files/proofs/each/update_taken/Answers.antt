use Rattle.std.proofs.Common.{◌≤◌, Ok, Err, refl}
use Rattle.std.proofs.lemmas.List.Elements.{All-weaker}
use Rattle.cms_search.specs.Calls.{spot}
use Rattle.cms_search.specs.Searches.{shelves_in}
use Rattle.cms_search.specs.Tables.{shelves_of}
use Rattle.cms_files.specs.Files.{files_written}
use Rattle.cms_files.specs.Updates.{updating_each}
use Rattle.cms_files.proofs.Found.{acts_found, acts_search_fault, with_memory}
use Rattle.cms_files.proofs.Updates.{found_on_disks}
use Rattle.cms_files.proofs.each.update_taken.Goals as goal

pub returns-in-Ok-clause-acts : goal.returns-in-Ok-clause-acts
returns-in-Ok-clause-acts g c =
    let names = c.args.names.now in
    let mode = c.args.mode.now in
    let old = spot g.W.World c.args.world.now c.args.state.now in
    let new = spot g.W.World c.update_each.new.world c.update_each.new.state in
    let same = c.as_slice.ensures in
    acts_found old new c.args.words.now 1 (λ m files. updating_each (g.U.FileUpdate.tree c.args.update.now) files m) (λ m. files_written (shelves_in m) names mode)
    c.in-Ok.files c.update_each.result _
    (found_on_disks old (λ shelves. files_written shelves names mode) (Ok c.in-Ok.files) c.in-Ok.ensures.found) (rw same at c.update_each.ensures.acts)

pub returns-in-Err-clause-acts : goal.returns-in-Err-clause-acts
returns-in-Err-clause-acts g c =
    let names = c.args.names.now in
    let mode = c.args.mode.now in
    let state = c.args.state.now in
    let old = spot g.W.World c.args.world.now state in
    let new = spot g.W.World c.refuse_unfound.new.world state in
    let fault = c.in-Err.fault in
    acts_search_fault old new c.args.words.now 1 (λ m files. updating_each (g.U.FileUpdate.tree c.args.update.now) files m) (λ m. files_written (shelves_in m) names mode)
    fault c.refuse_unfound.result
    (λ other. found_on_disks old (λ shelves. files_written shelves names mode) (Err fault)
    (with_memory (files_written (shelves_of state.table) names mode) fault c.in-Err.ensures.refused other))
    c.refuse_unfound.ensures refl

pub update_each-requires-clause-takes : goal.update_each-requires-clause-takes
update_each-requires-clause-takes g c =
    let same = c.as_slice.ensures in
    rw same (All-weaker (λ f. f.number ≤ 6) (g.U.FileUpdate.takes c.args.update.now) c.requires.takes c.in-Ok.files c.in-Ok.ensures.numbers)
