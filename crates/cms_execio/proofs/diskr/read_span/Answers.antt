use Rattle.std.proofs.Common.{◌≡◌, ◌∙◌, ◌+◌, [], arith, false, inr, pos, refl, subst, sym, true, true≢false}
use Rattle.std.specs.Prelude.{List, None, ℕ}
use Rattle.std.proofs.lemmas.Result.{err_from_is_err_and}
use Rattle.cms_search.specs.Calls.{course_of, machine_of, spot}
use Rattle.cms_search.proofs.Acts.{acts_after}
use Rattle.cms_search.proofs.HandedRecords.{only_read}
use Rattle.cms_world.specs.Seen.{seen}
use Rattle.cms_files.proofs.OpenedFiles.{opened_open}
use Rattle.cms_disk.proofs.FilesFound.{ok_maps}
use Rattle.cms_search.specs.Refusals.{unread_code}
use Rattle.cms_search.specs.Tables.{AccessTable}
use Rattle.cms_search.specs.declared.state.Course.{Course}
use Rattle.cms_search.specs.declared.state.Course.TheVariants.{Went}
use Rattle.cms_execio.specs.Diskr.{lines_on, stack_read}
use Rattle.cms_execio.specs.Starts.{GoesOnBehind, KeepsBehind}
use Rattle.cms_execio.proofs.Resumed.{left_kept, left_sound, ok_each, opened_reading, resumed_all, resumed_lines, resumed_starved, resumed_unread, told_behind, told_reading, unread_behind}
use Rattle.cms_execio.proofs.Takings.{IsStart, TakenSoFar, front_left, read_more, stacks_nothing, stacks_read, start_read, taken_left, taken_more, tree}
use Rattle.cms_execio.proofs.diskr.read_span.Goals as goal
use Rattle.cms_execio.proofs.diskr.read_span.Goals.{then-span, else-span}

-- the letter has its disk
pub take_reading-kept-requires : goal.take_reading-kept-requires
take_reading-kept-requires g c = let there = c.requires.opened.there in rw there refl

-- the records in front may be passed over
pub start_at-start-requires-clause-unread : goal.start_at-start-requires-clause-unread
start_at-start-requires-clause-unread g c = c.requires.opened.unread

pub start_at-start-requires-clause-few : goal.start_at-start-requires-clause-few
start_at-start-requires-clause-few g c =
    front_left (spot g.W.World c.args.world.now c.args.state.now) [] c.args.letter c.args.line.now c.args.file c.requires.opened c.args.span.front c.args.span.taken
    c.requires.front c.requires.taken c.requires.some

pub loop-nth-init : goal.loop-nth-init
loop-nth-init g c = λ first read. (
  read,
  λ begun. subst
      (λ (l : List (List ℕ)). TakenSoFar c.args.line.now c.args.span.front (seen g.W.World c.args.world.now) (seen g.W.World c.args.world.now) first
      c.start_at-start.result.cursor c.start_at-start.result.behind l)
      (sym c.new-lines.ensures) begun,
)

-- its blocks may be read
pub next-requires : goal.next-requires
next-requires g c =
    let old = spot g.W.World c.args.world.now c.args.state.now in
    let n = c.args.letter in
    let name = c.args.line.now.range.input.name in
    let file = c.args.file in
    let o = c.requires.opened in
    let kept = c.take_reading-kept in
    let start = c.start_at-start in
    let is : IsStart old.state.table n name file.cursor c.args.span.front kept.result start.result =
    record { there = kept.ensures.some; sound = kept.ensures.sound; goes = start.ensures.kept; past = start.ensures.past; few = start.ensures.few } in
    let so = c.loop-nth.invariant file.cursor (start_read old n name file o (opened_open old n name file o c.requires.usable) c.args.span.front kept.result start.result is) in
    record { blocks = so.0.opened }

-- a further record is there, and it was handed out
pub text-requires : goal.text-requires
text-requires g c =
    let old = spot g.W.World c.args.world.now c.args.state.now in
    let n = c.args.letter in
    let name = c.args.line.now.range.input.name in
    let file = c.args.file in
    let o = c.requires.opened in
    let span = c.args.span in
    let kept = c.take_reading-kept in
    let start = c.start_at-start in
    let is : IsStart old.state.table n name file.cursor span.front kept.result start.result =
    record { there = kept.ensures.some; sound = kept.ensures.sound; goes = start.ensures.kept; past = start.ensures.past; few = start.ensures.few } in
    let so = c.loop-nth.invariant file.cursor (start_read old n name file o (opened_open old n name file o c.requires.usable) span.front kept.result start.result is) in
    let next = c.in-Ok.ensures in
    next.whole (next.some.1 (taken_left old [] n c.args.line.now file o span.front span.taken c.requires.front c.requires.taken c.requires.some
    (spot g.W.World c.loop-nth.world c.args.state.now) c.loop-nth.cursor c.loop-nth.nth so.0 (omega arith)))

pub loop-nth-preserved : goal.loop-nth-preserved
loop-nth-preserved g c = λ first read.
    let old = spot g.W.World c.args.world.now c.args.state.now in
    let n = c.args.letter in
    let name = c.args.line.now.range.input.name in
    let file = c.args.file in
    let o = c.requires.opened in
    let span = c.args.span in
    let kept = c.take_reading-kept in
    let start = c.start_at-start in
    let is : IsStart old.state.table n name file.cursor span.front kept.result start.result =
    record { there = kept.ensures.some; sound = kept.ensures.sound; goes = start.ensures.kept; past = start.ensures.past; few = start.ensures.few } in
    let so = c.loop-nth.invariant file.cursor (start_read old n name file o (opened_open old n name file o c.requires.usable) span.front kept.result start.result is) in
    let next = c.in-Ok.ensures in
    let handed : c.in-Ok.field-0 ≡ true =
    next.some.1 (taken_left old [] n c.args.line.now file o span.front span.taken c.requires.front c.requires.taken c.requires.some
    (spot g.W.World c.loop-nth.world c.args.state.now) c.loop-nth.cursor c.loop-nth.nth so.0 (omega arith)) in
    let here = c.loop-nth.invariant first read in
    let before = seen g.W.World c.args.world.now in
    let mid = seen g.W.World c.loop-nth.world in
    let now = seen g.W.World c.next.new.world in
    let reads = only_read mid now _ _ next.reads in (
      read_more before mid now first c.loop-nth.cursor c.next.new.self c.loop-nth.nth here.0 next.file (next.left handed) reads,
      λ begun. taken_more c.args.line.now span.front before mid now first c.loop-nth.cursor c.next.new.self c.loop-nth.nth c.loop-nth.lines c.keep_nth.new.lines c.text.result.now
          (here.1 begun) (rw handed at next.records) next.file reads c.text.ensures c.in_ok-keep_nth-in-Ok.ensures,
    )

-- there was no memory to keep its line
pub returns-in_err-keep_nth-in-Ok-clause-acts : goal.returns-in_err-keep_nth-in-Ok-clause-acts
returns-in_err-keep_nth-in-Ok-clause-acts g c = λ words.
    let p = err_from_is_err_and c.from_residual.result c.from_residual.ensures.1 in
    let old = spot g.W.World c.args.world.now c.args.state.now in
    let n = c.args.letter in
    let name = c.args.line.now.range.input.name in
    let file = c.args.file in
    let o = c.requires.opened in
    let span = c.args.span in
    let kept = c.take_reading-kept in
    let start = c.start_at-start in
    let is : IsStart old.state.table n name file.cursor span.front kept.result start.result =
    record { there = kept.ensures.some; sound = kept.ensures.sound; goes = start.ensures.kept; past = start.ensures.past; few = start.ensures.few } in
    let so = c.loop-nth.invariant file.cursor (start_read old n name file o (opened_open old n name file o c.requires.usable) span.front kept.result start.result is) in
    let next = c.in-Ok.ensures in
    rw (p.1, p.2)
    (resumed_starved old words n c.args.line.now file o span.front span.taken c.requires.front c.requires.taken c.requires.some c.requires.usable kept.new.self kept.ensures.taken
    kept.result start.result is (seen g.W.World c.loop-nth.world) c.loop-nth.cursor c.loop-nth.nth c.loop-nth.lines so.0 so.1 (seen g.W.World c.next.new.world)
    (only_read _ _ _ _ next.reads))

-- the file couldn't be read any further
pub returns-in-Err-clause-acts : goal.returns-in-Err-clause-acts
returns-in-Err-clause-acts g c = λ words.
    let old = spot g.W.World c.args.world.now c.args.state.now in
    let n = c.args.letter in
    let name = c.args.line.now.range.input.name in
    let file = c.args.file in
    let o = c.requires.opened in
    let span = c.args.span in
    let kept = c.take_reading-kept in
    let start = c.start_at-start in
    let is : IsStart old.state.table n name file.cursor span.front kept.result start.result =
    record { there = kept.ensures.some; sound = kept.ensures.sound; goes = start.ensures.kept; past = start.ensures.past; few = start.ensures.few } in
    let so = c.loop-nth.invariant file.cursor (start_read old n name file o (opened_open old n name file o c.requires.usable) span.front kept.result start.result is) in
    let next = c.in-Err.ensures in
    let refuse = c.refuse_unread.ensures in
    resumed_unread old words n c.args.line.now file o span.front span.taken c.requires.front c.requires.taken c.requires.some c.requires.usable kept.new.self kept.ensures.taken
    kept.result start.result is (seen g.W.World c.loop-nth.world) c.loop-nth.cursor c.loop-nth.nth c.loop-nth.lines so.0 so.1 (seen g.W.World c.next.new.world)
    (spot g.W.World c.refuse_unread.new.world (record c.args.state.now { table = kept.new.self })) c.next.new.self c.in-Err.fault c.refuse_unread.result (omega arith) next.fault next.records
    next.reads refuse.does refuse.went refl

-- the reading that is left is one of the disk's
pub keep_behind-requires-clause-accessed : goal.keep_behind-requires-clause-accessed
keep_behind-requires-clause-accessed g c =
    let there = (opened_reading c.args.state.now.table c.take_reading-kept.new.self c.args.letter None c.args.line.now.range.input.name c.args.file c.requires.opened c.take_reading-kept.ensures.taken).there in
    rw there refl

pub keep_behind-requires-clause-sound : goal.keep_behind-requires-clause-sound
keep_behind-requires-clause-sound g c =
    let old = spot g.W.World c.args.world.now c.args.state.now in
    let n = c.args.letter in
    let name = c.args.line.now.range.input.name in
    let file = c.args.file in
    let o = c.requires.opened in
    let span = c.args.span in
    let kept = c.take_reading-kept in
    let start = c.start_at-start in
    let is : IsStart old.state.table n name file.cursor span.front kept.result start.result =
    record { there = kept.ensures.some; sound = kept.ensures.sound; goes = start.ensures.kept; past = start.ensures.past; few = start.ensures.few } in
    let so = c.loop-nth.invariant file.cursor (start_read old n name file o (opened_open old n name file o c.requires.usable) span.front kept.result start.result is) in
    left_sound old [] n c.args.line.now file o span.front span.taken c.requires.front c.requires.taken c.requires.some c.requires.usable kept.new.self kept.ensures.taken
    kept.result start.result is (seen g.W.World c.loop-nth.world) c.loop-nth.cursor c.loop-nth.nth c.loop-nth.lines so.0 so.1 (omega arith)

-- the same is told of the file
pub stack_read-requires-clause-told : goal.stack_read-requires-clause-told
stack_read-requires-clause-told g c =
    let table = c.args.state.now.table in
    let n = c.args.letter in
    let name = c.args.line.now.range.input.name in
    let file = c.args.file in
    let kept = c.take_reading-kept in
    let opened = opened_reading table kept.new.self n None name file c.requires.opened kept.ensures.taken in
    let count = c.args.span.front + c.args.span.taken in
    c.requires.told
    ∙ sym (told_behind kept.new.self c.keep_behind.new.table n name file count _ c.loop-nth.cursor opened c.keep_behind.ensures
    ∙ told_reading table kept.new.self n None name file c.requires.opened kept.ensures.taken)

-- the units may be used still
pub stack_read-requires-clause-usable : goal.stack_read-requires-clause-usable
stack_read-requires-clause-usable g c =
    let old = spot g.W.World c.args.world.now c.args.state.now in
    let n = c.args.letter in
    let name = c.args.line.now.range.input.name in
    let file = c.args.file in
    let o = c.requires.opened in
    let span = c.args.span in
    let kept = c.take_reading-kept in
    let start = c.start_at-start in
    let is : IsStart old.state.table n name file.cursor span.front kept.result start.result =
    record { there = kept.ensures.some; sound = kept.ensures.sound; goes = start.ensures.kept; past = start.ensures.past; few = start.ensures.few } in
    let so = c.loop-nth.invariant file.cursor (start_read old n name file o (opened_open old n name file o c.requires.usable) span.front kept.result start.result is) in
    let come = resumed_all old [] n c.args.line.now file o span.front span.taken c.requires.front c.requires.taken c.requires.some c.requires.usable kept.new.self kept.ensures.taken
    kept.result start.result is (seen g.W.World c.loop-nth.world) c.loop-nth.cursor c.loop-nth.nth c.loop-nth.lines so.0 so.1 (omega arith) span.last c.requires.last _
    c.keep_behind.new.table c.keep_behind.ensures in
    come.usable c.requires.usable

-- all that are wanted were handed out
pub returns-clause-acts : goal.returns-clause-acts
returns-clause-acts g c = λ words.
    let old = spot g.W.World c.args.world.now c.args.state.now in
    let n = c.args.letter in
    let line = c.args.line.now in
    let name = line.range.input.name in
    let file = c.args.file in
    let o = c.requires.opened in
    let span = c.args.span in
    let kept = c.take_reading-kept in
    let start = c.start_at-start in
    let is : IsStart old.state.table n name file.cursor span.front kept.result start.result =
    record { there = kept.ensures.some; sound = kept.ensures.sound; goes = start.ensures.kept; past = start.ensures.past; few = start.ensures.few } in
    let so = c.loop-nth.invariant file.cursor (start_read old n name file o (opened_open old n name file o c.requires.usable) span.front kept.result start.result is) in
    let come = resumed_all old words n line file o span.front span.taken c.requires.front c.requires.taken c.requires.some c.requires.usable kept.new.self kept.ensures.taken
    kept.result start.result is (seen g.W.World c.loop-nth.world) c.loop-nth.cursor c.loop-nth.nth c.loop-nth.lines so.0 so.1 (omega arith) span.last c.requires.last _
    c.keep_behind.new.table c.keep_behind.ensures in
    acts_after old (spot g.W.World c.loop-nth.world (record c.args.state.now { table = c.keep_behind.new.table })) (spot g.W.World c.stack_read.new.world c.stack_read.new.state)
    (tree old words n line file o span.front span.taken c.requires.front c.requires.taken)
    (λ units. stack_read (machine_of (record c.args.state.now { table = c.keep_behind.new.table }) units) line n file.vdev span.last span.front span.taken c.loop-nth.lines)
    c.stack_read.result (course_of c.stack_read.new.state) come c.stack_read.ensures.acts

-- nothing was stacked yet
pub returns-in_err-keep_nth-in-Ok-clause-stack : goal.returns-in_err-keep_nth-in-Ok-clause-stack
returns-in_err-keep_nth-in-Ok-clause-stack g c = stacks_nothing (spot g.W.World c.args.world.now c.args.state.now) c.args.line.now (λ s. lines_on s c.args.line.now c.args.letter)

pub returns-in-Err-clause-stack : goal.returns-in-Err-clause-stack
returns-in-Err-clause-stack g c = stacks_nothing (spot g.W.World c.args.world.now c.args.state.now) c.args.line.now (λ s. lines_on s c.args.line.now c.args.letter)

-- the lines that are stacked are those of the records that are wanted
pub returns-clause-stack : goal.returns-clause-stack
returns-clause-stack g c =
    let old = spot g.W.World c.args.world.now c.args.state.now in
    let n = c.args.letter in
    let line = c.args.line.now in
    let name = line.range.input.name in
    let file = c.args.file in
    let o = c.requires.opened in
    let span = c.args.span in
    let kept = c.take_reading-kept in
    let start = c.start_at-start in
    let is : IsStart old.state.table n name file.cursor span.front kept.result start.result =
    record { there = kept.ensures.some; sound = kept.ensures.sound; goes = start.ensures.kept; past = start.ensures.past; few = start.ensures.few } in
    let so = c.loop-nth.invariant file.cursor (start_read old n name file o (opened_open old n name file o c.requires.usable) span.front kept.result start.result is) in
    stacks_read old c.stack_read.new.state line (λ m. lines_on m line n) c.loop-nth.lines c.stack_read.ensures.stack
    (resumed_lines old [] n line file o span.front span.taken c.requires.front c.requires.taken c.requires.some c.requires.usable kept.new.self kept.ensures.taken
    kept.result start.result is (seen g.W.World c.loop-nth.world) c.loop-nth.cursor c.loop-nth.nth c.loop-nth.lines so.0 so.1 (omega arith))

-- ---- the reading that is kept

pub returns-in_err-keep_nth-in-Ok-clause-goes_on : goal.returns-in_err-keep_nth-in-Ok-clause-goes_on
returns-in_err-keep_nth-in-Ok-clause-goes_on g c = λ last forgets.
    let p = err_from_is_err_and c.from_residual.result c.from_residual.ensures.1 in
    rw p.1 tt

pub returns-in-Err-clause-goes_on : goal.returns-in-Err-clause-goes_on
returns-in-Err-clause-goes_on g c = λ last forgets.
    let count = c.args.span.front + c.args.span.taken in
    let name = c.args.line.now.range.input.name in
    ok_maps (λ (x : Course). x ≡ Went (pos (unread_code c.in-Err.fault))) (GoesOnBehind c.take_reading-kept.new.self c.args.letter name count) c.refuse_unread.result
    (λ x went. unread_behind c.take_reading-kept.new.self c.args.letter name count c.in-Err.fault x c.in-Err.ensures.fault went) c.refuse_unread.ensures.went

pub returns-clause-goes_on : goal.returns-clause-goes_on
returns-clause-goes_on g c = λ last forgets.
    let old = spot g.W.World c.args.world.now c.args.state.now in
    let n = c.args.letter in
    let line = c.args.line.now in
    let name = line.range.input.name in
    let file = c.args.file in
    let o = c.requires.opened in
    let span = c.args.span in
    let kept = c.take_reading-kept in
    let start = c.start_at-start in
    let is : IsStart old.state.table n name file.cursor span.front kept.result start.result =
    record { there = kept.ensures.some; sound = kept.ensures.sound; goes = start.ensures.kept; past = start.ensures.past; few = start.ensures.few } in
    let so = c.loop-nth.invariant file.cursor (start_read old n name file o (opened_open old n name file o c.requires.usable) span.front kept.result start.result is) in
    let count = span.front + span.taken in
    let none : c.if-span.drops ≡ false =
    elim c.if-span.branch [
      | then-span w ↦ absurd (true≢false (sym w.if-span.true ∙ last))
      | else-span w ↦ w.drops-is ∙ forgets
    ] in
    let keeps = left_kept old [] n line file o span.front span.taken c.requires.front c.requires.taken c.requires.some c.requires.usable kept.new.self kept.ensures.taken
    kept.result start.result is (seen g.W.World c.loop-nth.world) c.loop-nth.cursor c.loop-nth.nth c.loop-nth.lines so.0 so.1 (omega arith) _ c.keep_behind.new.table
    none c.keep_behind.ensures in
    ok_each c.stack_read.result (GoesOnBehind c.stack_read.new.state.table n name count)
    (λ x. inr (inr (subst (λ (z : AccessTable). KeepsBehind z n name count) (sym (c.stack_read.ensures.table last)) keeps)))
