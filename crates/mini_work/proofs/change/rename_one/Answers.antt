use Rattle.cms_disk.specs.Disks.{place_of}
use Rattle.cms_held.specs.Renewals.{made_at, needed}
use Rattle.mini_work.proofs.Caused.{end_then, rename_rose, units_later}
use Rattle.mini_work.specs.Causes.{counts}
use Rattle.std.proofs.Common.{length}
use Rattle.std.specs.Prelude.{⊤, unwrap_or}
use Rattle.cms_model.specs.Changes.{Rename}
use Rattle.mini_work.specs.Output.{name_line}
use Rattle.mini_work.proofs.PartsJoined.{change_done, change_refused, change_told}
use Rattle.mini_work.proofs.change.rename_one.Goals as goal

pub returns-in-Ok-clause-goes : goal.returns-in-Ok-clause-goes
returns-in-Ok-clause-goes g c =
    let told = g.W.World.told in
    let change = Rename c.args.from.now c.args.to.now c.args.number in
    let e = c.in-Ok.ensures in
    change_told {A = ⊤} change c.args.stamp.now c.args.says (name_line c.args.to.now) (told c.args.world.now) (told c.rename.new.world) (told c.say_name.new.world)
    c.args.disk.now c.rename.new.self tt c.say_name.result
    (change_done (told c.args.world.now) (told c.rename.new.world) c.args.disk.now c.rename.new.self change c.args.stamp.now tt (λ j m told is looked. e.alters j m told is) e.changes.same)
    (c.say_name.ensures.goes c.rename.new.self)

pub returns-in-Err-clause-goes : goal.returns-in-Err-clause-goes
returns-in-Err-clause-goes g c =
    let told = g.W.World.told in
    let change = Rename c.args.from.now c.args.to.now c.args.number in
    let e = c.in-Err.ensures in
    change_refused change c.args.stamp.now c.args.says (name_line c.args.to.now) (told c.args.world.now) (told c.rename.new.world) c.args.disk.now c.rename.new.self
    c.in-Err.why c.refuse_change.result c.refuse_change.ensures.refused (λ j m told is looked. e.alters j m told is) e.changes.kept e.changes.same

pub returns-in-Ok-clause-cause : goal.returns-in-Ok-clause-cause
returns-in-Ok-clause-cause g c = λ may. end_then _ _ _ _ (units_later _ _ _ _ (g.H.Host.faults c.args.host.now) c.in-Ok.ensures.changes.units) (c.say_name.ensures.cause (g.H.Host.faults c.args.host.now))

pub returns-in-Err-clause-cause : goal.returns-in-Err-clause-cause
returns-in-Err-clause-cause g c = λ may. let at = counts g.W.World g.H.Host in c.refuse_change.ensures.cause (at c.args.world.now c.args.host.now) _ _ (units_later _ _ _ _ (g.H.Host.faults c.args.host.now) c.in-Err.ensures.changes.units) (rename_rose _ _ c.args.disk.now.volume (needed c.args.disk.now.volume (length c.args.disk.now.volume.files) (made_at (unwrap_or (place_of c.args.from.now c.args.disk.now.volume) 0))) c.args.disk.now.writable c.in-Err.why (g.H.Host.faults c.args.host.now) c.in-Err.ensures.changes.units c.in-Err.ensures.fault c.in-Err.ensures.read_only may)
