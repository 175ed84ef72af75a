use Rattle.std.proofs.Common.{◌∙◌, false, refl, sym, true≢false}
use Rattle.std.proofs.lemmas.Result.{err_from_is_err_and}
use Rattle.cms_search.specs.Calls.{machine_of, spot}
use Rattle.cms_search.proofs.LetterDisks.{holds_shows}
use Rattle.cms_files.proofs.Consumed.{named_there}
use Rattle.cms_execio.proofs.Takings.{Goes, read_erases, read_kept, read_starved}
use Rattle.cms_execio.proofs.diskr.end_read.Goals as goal
use Rattle.cms_execio.proofs.diskr.end_read.Goals.{else-span-via-then-span+else-is_consumed, else-span-via-else-span}

-- the file goes
pub returns-then-is_consumed-clause-acts : goal.returns-then-is_consumed-clause-acts
returns-then-is_consumed-clause-acts g c =
    let s = c.args.state.now in
    let span = c.args.span in
    let old = spot g.W.World c.args.world.now s in
    let new = spot g.W.World c.erase_read.new.world c.erase_read.new.state in
    read_erases old c.args.line.now c.args.letter c.args.vdev span.last span.front span.taken new c.erase_read.result
    (λ units h.
    let last = c.if-span.true in
    let goes = sym (c.is_consumed.ensures.machine c.args.line.now.range.input.name (machine_of s units) c.requires.told (holds_shows old units h)) ∙ c.if-is_consumed.true in
    rw (last, goes) refl)
    c.erase_read.ensures.acts

pub erase_read-requires-clause-there : goal.erase_read-requires-clause-there
erase_read-requires-clause-there g c = λ s at. named_there c.args.state.now.table c.args.letter c.args.line.now.range.input.name c.args.info.now (sym c.requires.told) s at

-- there is no memory to keep a place
pub returns-in_err-go_on-clause-acts : goal.returns-in_err-go_on-clause-acts
returns-in_err-go_on-clause-acts g c =
    let p = err_from_is_err_and c.from_residual.result c.from_residual.ensures.1 in
    let span = c.args.span in
    let old = spot g.W.World c.args.world.now c.args.state.now in
    rw (p.1, p.2) (read_starved old c.args.line.now c.args.letter c.args.vdev span.last span.front span.taken c.go_on.new.places c.in_err-go_on.ensures.err)

-- reading goes on behind the records
pub returns-clause-acts : goal.returns-clause-acts
returns-clause-acts g c =
    let s = c.args.state.now in
    let span = c.args.span in
    let old = spot g.W.World c.args.world.now s in
    let stays : Goes old c.args.line.now c.args.letter c.args.vdev span.last span.front span.taken false =
    elim c.else-span.branch [
      | else-span-via-then-span+else-is_consumed w ↦ (λ units h.
          let last = w.if-span.true in
          let no = sym (w.is_consumed.ensures.machine c.args.line.now.range.input.name (machine_of s units) c.requires.told (holds_shows old units h)) ∙ w.if-is_consumed.false in
          rw (last, no) refl)
      | else-span-via-else-span w ↦ (λ units h. let last = w.if-span.false in rw last refl)
    ] in
    read_kept old c.args.line.now c.args.letter c.args.vdev span.last span.front span.taken c.go_on.new.places c.course_behind.result stays c.in_ok-go_on.ensures.ok c.course_behind.ensures

-- where the file's last record isn't among them the disk stays
pub returns-then-is_consumed-clause-table : goal.returns-then-is_consumed-clause-table
returns-then-is_consumed-clause-table g c = λ last. absurd (true≢false (sym c.if-span.true ∙ last))
