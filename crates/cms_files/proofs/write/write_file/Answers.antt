use Rattle.std.proofs.lemmas.Result.{err_from_is_err_and}
use Rattle.cms_search.specs.Calls.{spot}
use Rattle.cms_search.specs.FileWrites.{change_with}
use Rattle.cms_search.proofs.Stepped.{if_some, written_at}
use Rattle.cms_files.proofs.Updates.{device_at, update_cut, update_ends}
use Rattle.cms_files.proofs.Writes.{names_one}
use Rattle.cms_files.proofs.write.write_file.Goals as goal

pub returns-in_err-changed-clause-acts : goal.returns-in_err-changed-clause-acts
returns-in_err-changed-clause-acts g c = λ records stands.
    let p = err_from_is_err_and c.from_residual.result c.from_residual.ensures.1 in
    rw (p.1, p.2) (update_cut _ _ c.args.letter (change_with c.args.name.now c.args.update records) c.in_err-changed.field-0.0 (c.in_err-changed.ensures.acts records stands))

pub returns-clause-acts : goal.returns-clause-acts
returns-clause-acts g c = λ records stands.
    let st = c.args.state.now in
    let n = c.args.letter in
    let vdev = c.vdev-vdev.result in
    let change = change_with c.args.name.now c.args.update records in
    let seat = written_at st.table n c.requires.writing in
    let device = device_at st n vdev seat.0 seat.1 (if_some _ _ seat.0 seat.1 c.vdev-vdev.ensures.accessed) in
    update_ends (spot g.W.World c.args.world.now st) (spot g.W.World c.update_file.new.world c.update_file.new.state) (spot g.W.World c.end_writing.new.world c.end_writing.new.state) n vdev
    change c.in_ok-changed.changed c.end_writing.result (c.in_ok-changed.ensures.acts records stands) device
    (c.end_writing.ensures.acts change (names_one c.args.name.now c.args.update records))
