use Rattle.std.proofs.Common.{◌≡◌, [], true, refl, arith}
use Rattle.std.proofs.lemmas.Result.{err_from_is_err_and}
use Rattle.cms_search.specs.Calls.{spot}
use Rattle.cms_search.proofs.HandedRecords.{only_read}
use Rattle.cms_world.specs.Seen.{seen}
use Rattle.cms_files.proofs.OpenedFiles.{opened_open}
use Rattle.cms_fileops.proofs.Typed.{typed_all, typed_left, typed_more, typed_none, typed_part, typed_stops, typed_unread, typed_whole}
use Rattle.cms_fileops.proofs.type_command.type_records.Goals as goal

pub loop-nth-init : goal.loop-nth-init
loop-nth-init g c =
    let s = c.args.state.now in
    let line = c.args.line.now in
    typed_none line (seen g.W.World c.args.world.now) c.args.file.cursor
    (opened_open (spot g.W.World c.args.world.now s) c.args.letter line.range.input.name c.args.file c.requires.opened c.requires.usable)

-- a further record is there, and it was handed out
pub text-requires : goal.text-requires
text-requires g c =
    let s = c.args.state.now in
    let next = c.in-Ok.ensures in
    next.whole (next.some.1 (typed_left (spot g.W.World c.args.world.now s) [] c.args.letter c.args.line.now c.args.file c.requires.opened c.requires.first
    c.wanted-last.result c.wanted-last.ensures (spot g.W.World c.loop-nth.world s) c.loop-nth.cursor c.loop-nth.nth c.loop-nth.invariant (omega arith)))

pub loop-nth-preserved : goal.loop-nth-preserved
loop-nth-preserved g c =
    let s = c.args.state.now in
    let next = c.in-Ok.ensures in
    let handed : c.in-Ok.field-0 ≡ true =
    next.some.1 (typed_left (spot g.W.World c.args.world.now s) [] c.args.letter c.args.line.now c.args.file c.requires.opened c.requires.first
    c.wanted-last.result c.wanted-last.ensures (spot g.W.World c.loop-nth.world s) c.loop-nth.cursor c.loop-nth.nth c.loop-nth.invariant (omega arith)) in
    typed_more c.args.line.now (seen g.W.World c.args.world.now) (seen g.W.World c.loop-nth.world) (seen g.W.World c.next.new.world) (seen g.W.World c.type_nth.new.world)
    c.args.file.cursor c.loop-nth.cursor c.next.new.self c.loop-nth.nth c.text.result.now _ c.loop-nth.invariant
    (rw handed at next.records) next.file (next.left handed) (only_read _ _ _ _ next.reads)
    c.text.ensures c.in_ok-type_nth-in-Ok.ensures

-- typing it was cut off
pub returns-in_err-type_nth-in-Ok-clause-acts : goal.returns-in_err-type_nth-in-Ok-clause-acts
returns-in_err-type_nth-in-Ok-clause-acts g c = λ words.
    let p = err_from_is_err_and c.from_residual.result c.from_residual.ensures.1 in
    let s = c.args.state.now in
    let next = c.in-Ok.ensures in
    let handed : c.in-Ok.field-0 ≡ true =
    next.some.1 (typed_left (spot g.W.World c.args.world.now s) [] c.args.letter c.args.line.now c.args.file c.requires.opened c.requires.first
    c.wanted-last.result c.wanted-last.ensures (spot g.W.World c.loop-nth.world s) c.loop-nth.cursor c.loop-nth.nth c.loop-nth.invariant (omega arith)) in
    rw (p.1, p.2)
    (typed_stops (spot g.W.World c.args.world.now s) words c.args.letter c.args.line.now c.args.file c.requires.opened c.requires.first c.wanted-last.result c.wanted-last.ensures
    (spot g.W.World c.loop-nth.world s) (spot g.W.World c.next.new.world s) (spot g.W.World c.type_nth.new.world s) c.loop-nth.cursor c.next.new.self c.loop-nth.nth c.text.result.now _
    c.loop-nth.invariant (omega arith) (rw handed at next.records)
    (only_read _ _ _ _ next.reads) c.text.ensures c.in_err-type_nth-in-Ok.ensures refl)

-- the file couldn't be read any further
pub returns-in-Err-clause-acts : goal.returns-in-Err-clause-acts
returns-in-Err-clause-acts g c = λ words.
    let s = c.args.state.now in
    let next = c.in-Err.ensures in
    let refuse = c.refuse_unread.ensures in
    typed_unread (spot g.W.World c.args.world.now s) words c.args.letter c.args.line.now c.args.file c.requires.opened c.requires.first c.wanted-last.result c.wanted-last.ensures
    (spot g.W.World c.loop-nth.world s) (spot g.W.World c.next.new.world s) (spot g.W.World c.refuse_unread.new.world s) c.loop-nth.cursor c.next.new.self c.loop-nth.nth
    c.in-Err.fault c.refuse_unread.result c.loop-nth.invariant (omega arith) next.fault next.records next.reads refl refuse.does refuse.went refl

-- the last that is typed isn't the file's
pub returns-then-last-count-clause-acts : goal.returns-then-last-count-clause-acts
returns-then-last-count-clause-acts g c = λ words.
    let s = c.args.state.now in
    typed_part (spot g.W.World c.args.world.now s) words c.args.letter c.args.line.now c.args.file c.requires.opened c.requires.first c.wanted-last.result c.wanted-last.ensures
    (spot g.W.World c.loop-nth.world s) c.loop-nth.cursor c.loop-nth.nth c.loop-nth.invariant (omega arith) refl (omega arith)

-- or it is, and the units may be used still
pub consume_last-requires-clause-usable : goal.consume_last-requires-clause-usable
consume_last-requires-clause-usable g c =
    let s = c.args.state.now in
    let come = typed_all (spot g.W.World c.args.world.now s) [] c.args.letter c.args.line.now c.args.file c.requires.opened c.requires.first c.wanted-last.result c.wanted-last.ensures
    (spot g.W.World c.loop-nth.world s) c.loop-nth.cursor c.loop-nth.nth c.loop-nth.invariant (omega arith) refl in
    come.usable c.requires.usable

pub returns-clause-acts : goal.returns-clause-acts
returns-clause-acts g c = λ words.
    let s = c.args.state.now in
    typed_whole (spot g.W.World c.args.world.now s) words c.args.letter c.args.line.now c.args.file c.requires.opened c.requires.first c.wanted-last.result c.wanted-last.ensures
    (spot g.W.World c.loop-nth.world s) (spot g.W.World c.consume_last.new.world c.consume_last.new.state) c.loop-nth.cursor c.loop-nth.nth c.consume_last.result c.loop-nth.invariant
    (omega arith) refl (omega arith) c.consume_last.ensures.acts
