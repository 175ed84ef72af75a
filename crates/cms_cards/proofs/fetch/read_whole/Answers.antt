use Rattle.std.proofs.Common.{refl, arith, sym}
use Rattle.cms_search.specs.Calls.{spot}
use Rattle.cms_search.proofs.Acts.{comes_none, cut_off, no_memory}
use Rattle.cms_search.proofs.HandedRecords.{only_read}
use Rattle.cms_files.proofs.FoundTold.{on_disk}
use Rattle.cms_files.proofs.OpenedFiles.{found_within}
use Rattle.cms_files.proofs.WholeReads.{some_place}
use Rattle.cms_world.specs.Seen.{seen}
use Rattle.cms_cards.proofs.Fetches.{may_read, read_data, read_unread, tree}
use Rattle.cms_cards.proofs.fetch.read_whole.Goals as goal

pub get_at-requires-clause-place : goal.get_at-requires-clause-place
get_at-requires-clause-place g c = found_within c.args.state.now.table c.args.found c.in-Some.disk.now c.requires.there c.in-Some.ensures

pub get_at-requires-clause-blocks : goal.get_at-requires-clause-blocks
get_at-requires-clause-blocks g c =
    may_read (spot g.W.World c.args.world.now c.args.state.now) c.args.found.letter c.in-Some.disk.now c.in-Some.ensures c.vdev-vdev.result c.vdev-vdev.ensures.accessed c.requires.usable

pub returns-in_default-clause-acts : goal.returns-in_default-clause-acts
returns-in_default-clause-acts g c = λ name here. no_memory _ _ _ _ _ (comes_none _ _)

pub returns-in-Ok-clause-acts : goal.returns-in-Ok-clause-acts
returns-in-Ok-clause-acts g c = λ name here.
    let s = c.args.state.now in
    let disk = c.in-Some.disk.now in
    read_data (spot g.W.World c.args.world.now s) name c.args.found.letter disk c.in-Some.ensures (seen g.W.World c.get_at.new.world) c.in-Ok.file
    (only_read _ _ _ _ c.get_at.ensures.reads) (c.in-Ok.ensures.file name (on_disk s.table c.args.found name disk here c.in-Some.ensures))

-- it can't be read to its end
pub returns-in-Device-clause-acts : goal.returns-in-Device-clause-acts
returns-in-Device-clause-acts g c = λ name here.
    let s = c.args.state.now in
    let got = c.in-Err.ensures in
    let disk = c.in-Some.disk.now in
    let place = on_disk s.table c.args.found name disk here c.in-Some.ensures in
    read_unread (spot g.W.World c.args.world.now s) name c.args.found.letter disk c.in-Some.ensures (seen g.W.World c.get_at.new.world)
    (spot g.W.World c.refuse_unread.new.world s) c.vdev-vdev.result c.in-Err.fault c.refuse_unread.result c.refused.result c.in-Device.is (only_read _ _ _ _ got.reads) got.reads.cause
    (got.file name place) (some_place _ _ (sym place)) c.vdev-vdev.ensures.accessed c.refuse_unread.ensures.does c.refuse_unread.ensures.went refl c.refused.ensures

-- there is no memory
pub returns-in_default-fault-clause-acts : goal.returns-in_default-fault-clause-acts
returns-in_default-fault-clause-acts g c = λ name here.
    let s = c.args.state.now in
    let read = c.in-Err.ensures.reads in
    let edges = read.edges in
    cut_off _ _ (tree (spot g.W.World c.args.world.now s) name c.args.found.letter) _ read.told read.faults (omega arith) refl
