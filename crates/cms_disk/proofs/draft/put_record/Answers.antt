use Rattle.cms_disk.proofs.Courses.{held_minidisk}
use Rattle.cms_disk.proofs.DraftSteps.{gives_up, goes_on}
use Rattle.cms_disk.proofs.RecordsPut.{same_of, some_for}
use Rattle.cms_disk.proofs.draft.put_record.Goals as goal

pub returns-in-Ok-clause-puts : goal.returns-in-Ok-clause-puts
returns-in-Ok-clause-puts g c = λ start d m change stamp done more goes.
    let told = g.W.World.told in
    let s = goes.stands in
    let put = c.in-Ok.ensures in
    let held = held_minidisk s.at d m s.minidisk s.readable in
    let some = some_for s.at d c.args.draft.now change stamp goes.front _ goes.is_for in
    goes_on start (told c.args.world.now) (told c.put.new.world) d m c.args.draft.now c.put.new.self change stamp done more c.args.text.now goes put.own
    (same_of c.args.draft.now c.put.new.self put.draft put.same) put.is
    (put.puts goes.front done more goes.drafts)
    (put.stands s.at d.volume m goes.front done more s.told_is held some goes.drafts goes.written)
    (λ name f shape planned read. put.front s.at d.volume m name f shape stamp goes.front s.told_is held planned read)

pub returns-in-Err-clause-puts : goal.returns-in-Err-clause-puts
returns-in-Err-clause-puts g c = λ start d m change stamp done more goes.
    let told = g.W.World.told in
    let put = c.in-Err.ensures in
    gives_up start (told c.args.world.now) (told c.put.new.world) d m c.args.draft.now change stamp done more c.args.text.now goes put.own put.kept c.requires.room
    (put.puts goes.front done more goes.drafts)
