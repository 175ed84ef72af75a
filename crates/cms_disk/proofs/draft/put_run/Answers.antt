use Rattle.std.proofs.Common.{◌≤◌, ◌+◌, ℕ, List, ◌∙◌, length, sym, subst, ap}
use Rattle.cms_names.specs.declared.name.Format.{Format}
use Rattle.cms_model.specs.Records.{stored}
use Rattle.cms_held.specs.BlockWriters.{came}
use Rattle.cms_disk.proofs.Courses.{held_minidisk}
use Rattle.cms_disk.proofs.RecordsPut.{some_for}
use Rattle.cms_disk.proofs.RunSteps.{run_gives_up, run_on, same_run}
use Rattle.cms_disk.proofs.draft.put_run.Goals as goal

pub returns-in-Ok-clause-puts : goal.returns-in-Ok-clause-puts
returns-in-Ok-clause-puts g c = λ start d m change stamp done run more long are goes.
    let told = g.W.World.told in
    let s = goes.stands in
    let put = c.in-Ok.ensures in
    let held = held_minidisk s.at d m s.minidisk s.readable in
    let some = some_for s.at d c.args.draft.now change stamp goes.front _ goes.is_for in
    run_on start (told c.args.world.now) (told c.put_run.new.world) d m c.args.draft.now c.put_run.new.self change stamp done run more goes put.own
    (same_run c.args.draft.now c.put_run.new.self c.args.count put.draft put.same) put.is
    (put.puts goes.front done run more long are goes.drafts)
    (put.stands s.at d.volume m goes.front done run more long are s.told_is held some goes.drafts goes.written)
    (λ name f shape planned read. put.front s.at d.volume m name f shape stamp goes.front s.told_is held planned read)

pub returns-in-Err-clause-puts : goal.returns-in-Err-clause-puts
returns-in-Err-clause-puts g c = λ start d m change stamp done run more long are goes.
    let told = g.W.World.told in
    let put = c.in-Err.ensures in
    let draft = c.args.draft.now in
    let size = ap (λ (l : List ℕ). length l) are ∙ sym (ap (λ (f : Format). length (stored f run)) c.requires.fixed) in
    run_gives_up start (told c.args.world.now) (told c.put_run.new.world) d m draft change stamp done run more goes put.own put.kept
    (subst (λ (n : ℕ). came draft.writer.writer + n ≤ draft.writer.writer.size) size c.requires.room)
    (put.puts goes.front done run more long are goes.drafts)

pub returns-in-Ok-clause-same : goal.returns-in-Ok-clause-same
returns-in-Ok-clause-same g c = same_run c.args.draft.now c.put_run.new.self c.args.count c.in-Ok.ensures.draft c.in-Ok.ensures.same

pub returns-in-Err-clause-same : goal.returns-in-Err-clause-same
returns-in-Err-clause-same g c = same_run c.args.draft.now c.put_run.new.self c.args.count c.in-Err.ensures.draft c.in-Err.ensures.same
