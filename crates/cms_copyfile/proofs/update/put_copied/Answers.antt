use Rattle.std.proofs.Common.{refl, arith}
use Rattle.std.proofs.lemmas.Result.{err_from_is_err_and}
use Rattle.cms_world.specs.Seen.{seen}
use Rattle.cms_disk.specs.Disks.{Accessed}
use Rattle.cms_search.specs.Calls.{spot}
use Rattle.cms_search.specs.Tables.{Seated}
use Rattle.cms_search.proofs.Stepped.{written_at}
use Rattle.cms_files.specs.Updates.{updated_of}
use Rattle.cms_copyfile.specs.Drafts.{WritesTo}
use Rattle.cms_copyfile.specs.declared.draft.CopyTarget.{CopyTarget}
use Rattle.cms_copyfile.proofs.OneCopied.{copies_written}
use Rattle.cms_copyfile.proofs.CopyInput.{opened_blocks}
use Rattle.cms_copyfile.proofs.OneRead.{cut_read, whole}
use Rattle.cms_copyfile.proofs.Writes.{may_at, still_device, still_there, written_there}
use Rattle.cms_copyfile.proofs.update.put_copied.Goals as goal

pub returns-in_err-input-clause-acts : goal.returns-in_err-input-clause-acts
returns-in_err-input-clause-acts g c = λ before words line read is shaped.
    let p = err_from_is_err_and c.from_residual.result c.from_residual.ensures.1 in
    let memory = c.in_err-input.ensures.fault in
    rw (p.1, p.2, memory)
    (cut_read before (spot g.W.World c.args.world.now c.args.state.now) (whole (spot g.W.World c.args.world.now c.args.state.now) words line c.args.file.now) (updated_of c.args.state.now) read)

pub write_copies-written-requires-clause-accessed : goal.write_copies-written-requires-clause-accessed
write_copies-written-requires-clause-accessed g c = written_there c.args.state.now.table c.args.file.now.letter c.requires.writing

pub write_copies-written-requires-clause-may : goal.write_copies-written-requires-clause-may
write_copies-written-requires-clause-may g c =
    let to : CopyTarget = record { letter = c.args.file.now.letter; name = c.args.file.now.name; there = c.args.file.now.there_place; write = c.args.write; shape = c.args.shape.now; stamp = c.of.result } in
    may_at _ c.args.state.now.table to.letter c.vdev-vdev.result to c.vdev-vdev.ensures.accessed c.requires.usable c.requires.there c.requires.fits

pub write_copies-written-requires-clause-blocks : goal.write_copies-written-requires-clause-blocks
write_copies-written-requires-clause-blocks g c =
    opened_blocks _ c.args.state.now.table c.args.file.now.found.letter c.args.file.now.found.name c.in_ok-input.input c.in_ok-input.ensures.opened c.requires.usable

pub write_copies-written-requires-clause-room : goal.write_copies-written-requires-clause-room
write_copies-written-requires-clause-room g c =
    let low = c.requires.size c.in_ok-input.input.cursor.begun.longest c.in_ok-input.ensures.short in
    let room = c.requires.room in
    omega (arith, low, room)

pub end_written-requires-clause-accessed : goal.end_written-requires-clause-accessed
end_written-requires-clause-accessed g c =
    let st = c.args.state.now in
    let s = written_at st.table c.args.file.now.letter c.requires.writing in
    let to : CopyTarget = record { letter = c.args.file.now.letter; name = c.args.file.now.name; there = c.args.file.now.there_place; write = c.args.write; shape = c.args.shape.now; stamp = c.of.result } in
    still_there (λ (x : Seated) (e : Accessed). WritesTo (seen g.W.World c.args.world.now) (seen g.W.World c.write_copies-written.new.world) x.disk e to c.args.plan.now c.in_ok-input.input.cursor
    c.write_copies-written.result) st.table c.write_copies-written.new.table c.args.file.now.letter s.0 s.1 c.write_copies-written.ensures.writes

pub end_written-requires-clause-device : goal.end_written-requires-clause-device
end_written-requires-clause-device g c =
    let st = c.args.state.now in
    let s = written_at st.table c.args.file.now.letter c.requires.writing in
    let to : CopyTarget = record { letter = c.args.file.now.letter; name = c.args.file.now.name; there = c.args.file.now.there_place; write = c.args.write; shape = c.args.shape.now; stamp = c.of.result } in
    still_device (λ (x : Seated) (e : Accessed). WritesTo (seen g.W.World c.args.world.now) (seen g.W.World c.write_copies-written.new.world) x.disk e to c.args.plan.now c.in_ok-input.input.cursor
    c.write_copies-written.result) st.table c.write_copies-written.new.table c.args.file.now.letter s.0 c.vdev-vdev.result s.1 c.write_copies-written.ensures.writes c.vdev-vdev.ensures.accessed

pub returns-clause-acts : goal.returns-clause-acts
returns-clause-acts g c = λ before words line read is shaped.
    let st = c.args.state.now in
    let f = c.args.file.now in
    let mid = spot g.W.World c.args.world.now st in
    let now = spot g.W.World c.write_copies-written.new.world (record st { table = c.write_copies-written.new.table }) in
    let s = written_at st.table f.letter c.requires.writing in
    let to : CopyTarget = record { letter = f.letter; name = f.name; there = f.there_place; write = c.args.write; shape = c.args.shape.now; stamp = c.of.result } in
    c.end_written.ensures.acts before mid words line read
    (copies_written mid now line f c.in_ok-input.input to c.args.plan.now is c.in_ok-input.ensures.opened shaped refl refl s.0 c.vdev-vdev.result c.write_copies-written.result
    c.vdev-vdev.ensures.accessed s.1 c.write_copies-written.ensures.writes refl c.of.ensures.value)
