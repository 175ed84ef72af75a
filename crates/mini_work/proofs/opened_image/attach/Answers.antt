use Rattle.std.proofs.Common.{ℕ, refl, subst}
use Rattle.std.specs.Option.{ForSome}
use Rattle.cms_journal.specs.declared.event.Event.TheVariants.{Missed}
use Rattle.cms_journal.specs.Journal.{IsAttached, MayAdd}
use Rattle.mini_work.proofs.LoneUnit.{attaches, unwritten_alone, unwritten_missed}
use Rattle.mini_work.specs.declared.fault.Fault.TheVariants as fault
use Rattle.mini_work.proofs.Caused.{cause_done, edges_failed, edges_later}
use Rattle.mini_work.proofs.opened_image.attach.Goals as goal

pub returns-in-Ok-clause-attaches : goal.returns-in-Ok-clause-attaches
returns-in-Ok-clause-attaches g c = λ is.
    let told = g.W.World.told in
    let name = c.args.name.now in
    let attached = subst (λ (n : ℕ). ForSome (told c.args.world.now) (λ j. IsAttached j (told c.attach.new.self) name n c.args.access c.in-Ok.unit.number c.in-Ok.unit.blocks))
    c.bytes.ensures.value c.in-Ok.ensures.attached in
    attaches _ _ name c.args.size c.args.access c.in-Ok.unit.number c.in-Ok.unit.blocks _ c.bytes.ensures.size attached is
    c.looked_at.ensures.number c.looked_at.ensures.blocks refl c.may_write.ensures

pub returns-in-Ok-clause-unwritten : goal.returns-in-Ok-clause-unwritten
returns-in-Ok-clause-unwritten g c = λ is.
    let told = g.W.World.told in
    let name = c.args.name.now in
    let attached = subst (λ (n : ℕ). ForSome (told c.args.world.now) (λ j. IsAttached j (told c.attach.new.self) name n c.args.access c.in-Ok.unit.number c.in-Ok.unit.blocks))
    c.bytes.ensures.value c.in-Ok.ensures.attached in
    unwritten_alone name c.args.size c.args.access _
    (attaches _ _ name c.args.size c.args.access c.in-Ok.unit.number c.in-Ok.unit.blocks
    (record { vdev = 1; unit = c.looked_at.result; bsize = c.args.size; writable = c.may_write.result }) c.bytes.ensures.size attached is
    c.looked_at.ensures.number c.looked_at.ensures.blocks refl c.may_write.ensures).alone

pub returns-in-Err-clause-unwritten : goal.returns-in-Err-clause-unwritten
returns-in-Err-clause-unwritten g c = λ is.
    let told = g.W.World.told in
    unwritten_missed c.args.name.now c.args.size c.args.access _ _ is
    (subst (λ (n : ℕ). MayAdd (Missed c.args.name.now n c.args.access) (told c.args.world.now) (told c.attach.new.self)) c.bytes.ensures.value c.in-Err.ensures.failed)

pub returns-in-Ok-clause-cause : goal.returns-in-Ok-clause-cause
returns-in-Ok-clause-cause g c = λ n. cause_done _ _ _ (edges_later _ _ _ _ _ c.in-Ok.ensures.faults c.in-Ok.ensures.cause.later)

pub returns-in-Err-clause-cause : goal.returns-in-Err-clause-cause
returns-in-Err-clause-cause g c =
    λ n. edges_failed _ _ fault.Image (edges_later _ _ _ _ _ c.in-Err.ensures.faults c.in-Err.ensures.cause.later) c.in-Err.ensures.cause.failed
