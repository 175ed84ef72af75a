use Rattle.std.proofs.Common.{refl, pos, arith, sym, codes}
use Rattle.cms_text.specs.Texts.{coded}
use Rattle.cms_line.specs.declared.message.Message.TheVariants.{M002}
use Rattle.cms_files.specs.Files.{no_file_code}
use Rattle.cms_files.specs.Identifiers.{exec_kind}
use Rattle.cms_search.specs.Calls.{machine_of, spot}
use Rattle.cms_search.specs.Searches.{found_at}
use Rattle.cms_search.proofs.Acts.{cut_off}
use Rattle.cms_search.proofs.HandedRecords.{only_read}
use Rattle.cms_world.specs.Seen.{seen}
use Rattle.cms_exec.specs.Exec.{read_there}
use Rattle.cms_files.proofs.FoundTold.{is_found, on_disk}
use Rattle.cms_files.proofs.OpenedFiles.{found_within}
use Rattle.cms_files.proofs.WholeReads.{some_place}
use Rattle.cms_exec.proofs.Starts.{may_read, no_disk, read_data, read_unread, refused_so}
use Rattle.cms_exec.proofs.start.read_found.Goals as goal

pub get_at-requires-clause-place : goal.get_at-requires-clause-place
get_at-requires-clause-place g c =
    let table = c.args.state.now.table in
    let found = c.args.found.now in
    let place = found_at found.file.letter found.place in
    found_within table place c.in-Some.disk.now (is_found table place found.file.name c.requires.there) c.in-Some.ensures

pub get_at-requires-clause-blocks : goal.get_at-requires-clause-blocks
get_at-requires-clause-blocks g c =
    may_read (spot g.W.World c.args.world.now c.args.state.now) c.args.called.now c.args.found.now.file c.in-Some.disk.now c.in-Some.ensures c.vdev-vdev.result
    c.vdev-vdev.ensures.accessed c.requires.usable

-- no disk has the letter
pub returns-in_default : goal.returns-in_default
returns-in_default g c =
    let s = c.args.state.now in
    let old = spot g.W.World c.args.world.now s in
    refused_so old (spot g.W.World c.refuse_no_procedure.new.world s) (λ units. read_there (machine_of s units) c.args.called.now c.args.found.now.file)
    (M002 c.args.found.now.file.name.file exec_kind (coded (codes "*"))) (pos no_file_code) c.refuse_no_procedure.result c.refused.result c.refuse_no_procedure.ensures.does
    c.refuse_no_procedure.ensures.went refl c.refused.ensures (λ units h. no_disk old c.args.called.now c.args.found.now.file units h c.in_default.ensures)

pub returns-in-Ok : goal.returns-in-Ok
returns-in-Ok g c =
    let s = c.args.state.now in
    let old = spot g.W.World c.args.world.now s in
    let read = c.get_at.ensures.reads in
    let place = on_disk s.table (found_at c.args.found.now.file.letter c.args.found.now.place) c.args.found.now.file.name c.in-Some.disk.now c.requires.there c.in-Some.ensures in
    read_data old c.args.called.now c.args.found.now.file c.in-Some.disk.now c.in-Some.ensures (seen g.W.World c.get_at.new.world) (spot g.W.World c.begin.new.world s) c.in-Ok.file
    c.begin.result (only_read _ _ _ _ read) (c.in-Ok.ensures.file c.args.found.now.file.name place) c.begin.ensures

-- it can't be read to its end
pub returns-in-Device : goal.returns-in-Device
returns-in-Device g c =
    let s = c.args.state.now in
    let old = spot g.W.World c.args.world.now s in
    let got = c.in-Err.ensures in
    let place = on_disk s.table (found_at c.args.found.now.file.letter c.args.found.now.place) c.args.found.now.file.name c.in-Some.disk.now c.requires.there c.in-Some.ensures in
    read_unread old c.args.called.now c.args.found.now.file c.in-Some.disk.now c.in-Some.ensures (seen g.W.World c.get_at.new.world) (spot g.W.World c.refuse_unread.new.world s)
    c.vdev-vdev.result c.in-Err.fault c.refuse_unread.result c.refused-in-Device.result c.in-Device.is (only_read _ _ _ _ got.reads) got.reads.cause
    (got.file c.args.found.now.file.name place) (some_place _ _ (sym place)) c.vdev-vdev.ensures.accessed c.refuse_unread.ensures.does c.refuse_unread.ensures.went refl c.refused-in-Device.ensures

-- there is no memory
pub returns-in_default-fault : goal.returns-in_default-fault
returns-in_default-fault g c =
    let s = c.args.state.now in
    let read = c.in-Err.ensures.reads in
    let edges = read.edges in
    cut_off _ _ (λ units. read_there (machine_of s units) c.args.called.now c.args.found.now.file) _ read.told read.faults (omega arith) refl
