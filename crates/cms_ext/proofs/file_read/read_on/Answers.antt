use Rattle.std.proofs.Common.{[], refl, arith, sym}
use Rattle.std.proofs.lemmas.Result.{err_from_is_err_and}
use Rattle.cms_search.specs.Calls.{spot}
use Rattle.cms_search.proofs.Acts.{cut_off}
use Rattle.cms_search.proofs.HandedRecords.{only_read}
use Rattle.cms_world.specs.Seen.{seen}
use Rattle.cms_ext.specs.Calls.{met_of}
use Rattle.cms_files.proofs.FoundTold.{is_found, on_disk}
use Rattle.cms_files.proofs.OpenedFiles.{found_within}
use Rattle.cms_files.proofs.WholeReads.{some_place}
use Rattle.cms_ext.proofs.Gets.{may_read, no_disk, read_data, read_missing, read_starved, read_tree, read_unread}
use Rattle.cms_ext.proofs.file_read.read_on.Goals as goal

pub get_at-requires-clause-place : goal.get_at-requires-clause-place
get_at-requires-clause-place g c =
    let table = c.args.state.now.table in
    found_within table c.args.found c.in-Some.disk.now (is_found table c.args.found c.args.name.now c.requires.found) c.in-Some.ensures

pub get_at-requires-clause-blocks : goal.get_at-requires-clause-blocks
get_at-requires-clause-blocks g c =
    may_read (spot g.W.World c.args.world.now c.args.state.now) [] c.args.name.now c.args.letter c.args.found.letter c.in-Some.disk.now c.in-Some.ensures
    c.vdev-vdev.result c.vdev-vdev.ensures.accessed c.requires.usable

-- no disk has the letter
pub returns-in_default : goal.returns-in_default
returns-in_default g c = λ objects.
    let s = c.args.state.now in
    let old = spot g.W.World c.args.world.now s in
    read_missing old objects c.args.name.now c.args.letter c.args.found.letter (spot g.W.World c.refuse_unfound.new.world s) c.refuse_unfound.result (met_of s objects)
    (λ units h. no_disk old objects c.args.name.now c.args.letter c.args.found.letter units h c.in_default.ensures) (c.refuse_unfound.ensures objects)

-- its records are handed over
pub returns-in_ok-records_of-in-Ok : goal.returns-in_ok-records_of-in-Ok
returns-in_ok-records_of-in-Ok g c = λ objects.
    let s = c.args.state.now in
    let old = spot g.W.World c.args.world.now s in
    let read = c.get_at.ensures.reads in
    let place = on_disk s.table c.args.found c.args.name.now c.in-Some.disk.now c.requires.found c.in-Some.ensures in
    read_data old objects c.args.name.now c.args.letter c.args.found.letter c.in-Some.disk.now c.in-Some.ensures (seen g.W.World c.get_at.new.world) c.in-Ok.file _
    (only_read _ _ _ _ read) (c.in-Ok.ensures.file c.args.name.now place) c.in_ok-records_of-in-Ok.ensures

-- there is no memory for them
pub returns-in_err-records_of-in-Ok : goal.returns-in_err-records_of-in-Ok
returns-in_err-records_of-in-Ok g c = λ objects.
    let p = err_from_is_err_and c.from_residual.result c.from_residual.ensures.1 in
    let s = c.args.state.now in
    let old = spot g.W.World c.args.world.now s in
    let read = c.get_at.ensures.reads in
    let place = on_disk s.table c.args.found c.args.name.now c.in-Some.disk.now c.requires.found c.in-Some.ensures in
    rw (p.1, p.2) (read_starved old objects c.args.name.now c.args.letter c.args.found.letter c.in-Some.disk.now c.in-Some.ensures (seen g.W.World c.get_at.new.world)
    c.in-Ok.file (only_read _ _ _ _ read) (c.in-Ok.ensures.file c.args.name.now place))

-- it can't be read to its end
pub returns-in-Device : goal.returns-in-Device
returns-in-Device g c = λ objects.
    let s = c.args.state.now in
    let old = spot g.W.World c.args.world.now s in
    let got = c.in-Err.ensures in
    let place = on_disk s.table c.args.found c.args.name.now c.in-Some.disk.now c.requires.found c.in-Some.ensures in
    read_unread old objects c.args.name.now c.args.letter c.args.found.letter c.in-Some.disk.now c.in-Some.ensures (seen g.W.World c.get_at.new.world)
    (spot g.W.World c.refuse_unread.new.world s) c.vdev-vdev.result c.in-Err.fault c.refuse_unread.result c.refused.result c.in-Device.is
    (only_read _ _ _ _ got.reads) got.reads.cause (got.file c.args.name.now place) (some_place _ _ (sym place)) c.vdev-vdev.ensures.accessed
    c.refuse_unread.ensures.does c.refuse_unread.ensures.went refl c.refused.ensures

-- there is no memory
pub returns-in_default-fault : goal.returns-in_default-fault
returns-in_default-fault g c = λ objects.
    let s = c.args.state.now in
    let read = c.in-Err.ensures.reads in
    let edges = read.edges in
    cut_off _ _ (read_tree (spot g.W.World c.args.world.now s) objects c.args.name.now c.args.letter c.args.found.letter) _ read.told read.faults (omega arith) refl
