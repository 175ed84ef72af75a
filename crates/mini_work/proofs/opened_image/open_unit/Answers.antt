use Rattle.cms_disk.specs.declared.fault.AccessFault.TheVariants.{Open}
use Rattle.mini_work.proofs.Caused.{cause_done, units_later}
use Rattle.mini_work.specs.Causes.{counts}
use Rattle.mini_work.proofs.LoneUnit.{access_told, may_opened, opens}
use Rattle.std.proofs.Common.{subst, sym, ap, inl, inr, ◌∙◌}
use Rattle.cms_journal.specs.Told.{Told}
use Rattle.mini_work.specs.OpenedImages.{Attaches, MayUse}
use Rattle.mini_work.proofs.opened_image.open_unit.Goals as goal

pub returns-in-Ok-clause-opens : goal.returns-in-Ok-clause-opens
returns-in-Ok-clause-opens g c = λ name size access a.
    let told = g.W.World.told in
    opens (told c.access.new.world) name size access c.args.unit.now c.in-Ok.disk
    (subst (λ (t : Told). Attaches name size access t c.args.unit.now) (sym c.in-Ok.ensures.synced) a) c.in-Ok.ensures.unit c.in-Ok.ensures.left
    (subst (λ (t : Told). MayUse t c.args.unit.now) (sym c.in-Ok.ensures.synced) c.requires).blocks

pub returns-in-Ok-clause-may : goal.returns-in-Ok-clause-may
returns-in-Ok-clause-may g c =
    let told = g.W.World.told in
    may_opened (told c.access.new.world) c.args.unit.now c.in-Ok.disk
    (subst (λ (t : Told). MayUse t c.args.unit.now) (sym c.in-Ok.ensures.synced) c.requires) c.in-Ok.ensures.unit

pub returns-in-Err-Open-clause-told : goal.returns-in-Err-Open-clause-told
returns-in-Err-Open-clause-told g c = access_told _ c.args.unit.now.unit.number _ _ c.in-Err-Open.ensures.refused

pub returns-in-Err-Sync-clause-told : goal.returns-in-Err-Sync-clause-told
returns-in-Err-Sync-clause-told g c = access_told _ c.args.unit.now.unit.number _ _ c.in-Err-Sync.ensures.refused

pub returns-in-Ok-clause-cause : goal.returns-in-Ok-clause-cause
returns-in-Ok-clause-cause g c = cause_done _ _ _ (units_later _ _ _ _ (g.H.Host.faults c.args.host.now) c.in-Ok.ensures.changes)

pub returns-in-Err-Open-clause-cause : goal.returns-in-Err-Open-clause-cause
returns-in-Err-Open-clause-cause g c = let at = counts g.W.World g.H.Host in c.refuse_volume.ensures.cause (at c.args.world.now c.args.host.now) _ _ (units_later _ _ _ _ (g.H.Host.faults c.args.host.now) c.in-Err-Open.ensures.changes) (λ is. inl (c.in-Err-Open.ensures.changes.cause (inr (c.in-Err-Open.field-0-is ∙ ap Open is))))

pub returns-in-Err-Sync-clause-cause : goal.returns-in-Err-Sync-clause-cause
returns-in-Err-Sync-clause-cause g c = record { later = units_later _ _ _ _ (g.H.Host.faults c.args.host.now) c.in-Err-Sync.ensures.changes; failed = λ e. inl (c.in-Err-Sync.ensures.changes.cause (inl c.in-Err-Sync.field-0-is)) }

pub returns-in-Ok-clause-writable : goal.returns-in-Ok-clause-writable
returns-in-Ok-clause-writable g c = c.in-Ok.ensures.unit.writable
