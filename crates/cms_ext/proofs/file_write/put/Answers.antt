use Rattle.std.proofs.Common.{◌≡◌, ◌∙◌, Ok, Err, sym}
use Rattle.cms_search.specs.Calls.{spot}
use Rattle.cms_search.specs.Searches.{item_at}
use Rattle.cms_search.specs.Tables.{letters_of, shelf_of, writing}
use Rattle.cms_search.proofs.Stepped.{written_at}
use Rattle.cms_files.specs.Files.{writable}
use Rattle.cms_files.proofs.TakenFiles.{no_shelf, open_shelf}
use Rattle.cms_files.proofs.Updates.{found_on_disks}
use Rattle.cms_ext.proofs.Puts.{may_not_put, may_put}
use Rattle.cms_ext.proofs.file_write.put.Goals as goal

pub returns-in-Ok-clause-acts : goal.returns-in-Ok-clause-acts
returns-in-Ok-clause-acts g c = λ objects.
    let st = c.args.state.now in
    let n = c.args.letter in
    let old = spot g.W.World c.args.world.now st in
    let may : writing (item_at (letters_of st.table) n) n ≡ Ok tt = sym c.find_write.ensures ∙ c.in-Ok.is in
    let seat = written_at st.table n may in
    may_put old (spot g.W.World c.write.new.world c.write.new.state) objects c.args.name.now n c.args.records.now (shelf_of seat.0) c.write.result _
    (found_on_disks old (λ shelves. writable shelves n) (Ok (shelf_of seat.0)) (open_shelf st.table n seat.0 seat.1 may)) (c.write.ensures.acts objects)

pub returns-in-Err-clause-acts : goal.returns-in-Err-clause-acts
returns-in-Err-clause-acts g c = λ objects.
    let st = c.args.state.now in
    let n = c.args.letter in
    let old = spot g.W.World c.args.world.now st in
    may_not_put old (spot g.W.World c.refuse_unfound.new.world st) objects c.args.name.now n c.args.records.now c.in-Err.fault c.refuse_unfound.result _
    (found_on_disks old (λ shelves. writable shelves n) (Err c.in-Err.fault) (no_shelf st.table n c.in-Err.fault (sym c.find_write.ensures ∙ c.in-Err.is)))
    (c.refuse_unfound.ensures objects)
