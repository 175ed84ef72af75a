use Rattle.std.proofs.Common.{◌≡◌, ◌∙◌, Ok, Err, refl, sym}
use Rattle.cms_search.specs.Calls.{spot}
use Rattle.cms_search.specs.Searches.{item_at, shelves_in}
use Rattle.cms_search.specs.Tables.{letters_of, shelf_of, writing}
use Rattle.cms_search.proofs.Stepped.{written_at}
use Rattle.cms_files.specs.Files.{writable}
use Rattle.cms_files.proofs.Found.{acts_found, acts_search_fault}
use Rattle.cms_files.proofs.TakenFiles.{no_shelf, open_shelf}
use Rattle.cms_files.proofs.Updates.{found_on_disks}
use Rattle.cms_execio.specs.Diskw.{write_lines}
use Rattle.cms_execio.proofs.diskw.disk_write.Goals as goal

pub returns-in-Ok-clause-acts : goal.returns-in-Ok-clause-acts
returns-in-Ok-clause-acts g c =
    let st = c.args.state.now in
    let target = c.args.target.now in
    let n = target.mode.letter in
    let old = spot g.W.World c.args.world.now st in
    let new = spot g.W.World c.write_lines.new.world c.write_lines.new.state in
    let may : writing (item_at (letters_of st.table) n) n ≡ Ok tt = sym c.find_write.ensures ∙ c.in-Ok.is in
    let seat = written_at st.table n may in
    let shelf = shelf_of seat.0 in
    acts_found old new c.args.words.now 3 (λ m shelf. write_lines m target c.args.text shelf) (λ m. writable (shelves_in m) n) shelf c.write_lines.result _
    (found_on_disks old (λ shelves. writable shelves n) (Ok shelf) (open_shelf st.table n seat.0 seat.1 may)) (c.write_lines.ensures.acts shelf)

pub returns-in-Err-clause-acts : goal.returns-in-Err-clause-acts
returns-in-Err-clause-acts g c =
    let st = c.args.state.now in
    let target = c.args.target.now in
    let n = target.mode.letter in
    let old = spot g.W.World c.args.world.now st in
    let new = spot g.W.World c.refuse_unfound.new.world st in
    acts_search_fault old new c.args.words.now 3 (λ m shelf. write_lines m target c.args.text shelf) (λ m. writable (shelves_in m) n) c.in-Err.fault c.refuse_unfound.result
    (λ other. found_on_disks old (λ shelves. writable shelves n) (Err c.in-Err.fault) (no_shelf st.table n c.in-Err.fault (sym c.find_write.ensures ∙ c.in-Err.is)))
    c.refuse_unfound.ensures refl
