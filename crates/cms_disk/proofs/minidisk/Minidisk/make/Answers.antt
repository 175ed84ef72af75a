-- The exits of a making: the wiping failed, the making failed, and all was done.
use Rattle.std.proofs.Common.{◌≡◌, Some, Err, ap, ◌∙◌, arith, refl}
use Rattle.std.proofs.lemmas.Result.{err_from_is_err_and}
use Rattle.cms_journal.specs.Journal.{Journal}
use Rattle.cms_model.specs.Minidisks.{State}
use Rattle.cms_held.specs.EmptyVolumes.{made_writes}
use Rattle.cms_held.specs.HeldVolumes.{HeldVolume}
use Rattle.cms_edf.specs.Doubts.{IsCutOff}
use Rattle.cms_edf.specs.declared.doubt.Doubt.{Doubt}
use Rattle.cms_edf.proofs.Listings.{fewer_on}
use Rattle.cms_disk.specs.Changes.{fault_of}
use Rattle.cms_disk.specs.EmptyMinidisks.{Formats, IsReady}
use Rattle.cms_disk.proofs.MakeSteps.{IsPlanned, failed_grown, failed_quiet, grown_cut_wipe, made, made_grown, made_quiet, make_failed, make_fault, not_memory, wipe_doubted}
use Rattle.cms_disk.proofs.StepPieces.{grown_some}
use Rattle.cms_edf.proofs.Exits.{ok_at_err, err_at_err}
use Rattle.cms_world.specs.Seen.{seen}
use Rattle.cms_disk.specs.declared.fault.DiskFault.TheVariants.{Memory}
use Rattle.cms_disk.proofs.MakeExits.{changes_nothing, fault_memory, formats_nothing, grown_nothing, made_on, made_without_files, make_blocks, make_writable, quiet_nothing, volume_on}
use Rattle.cms_disk.proofs.minidisk.Minidisk.make.Given as given
use Rattle.cms_disk.proofs.minidisk.Minidisk.make.Goals as goal
use Rattle.cms_disk.proofs.minidisk.Minidisk.make.Goals.{After-make}

-- the unit was wiped, and what was planned for it was begun
planned : (g : given.Over) (c : After-make g) (j : Journal) (before : State) → g.W.World.told c.args.world.now ≡ Some j → IsReady j c.args.unit.now before
    → IsPlanned j (g.W.World.told c.args.world.now) (g.W.World.told c.wipe.new.world) c.args.unit.now before c.args.volid c.args.stamp.now c.in_ok-plan.plan
planned g c j before is ready = record {
  told_is = is;
  ready = ready;
  has = c.requires.blocks j is;
  least = c.requires.least;
  wiped_is = c.in-Ok.ensures.done;
  unit_is = c.in_ok-plan.ensures.unit;
  disk_is = c.in_ok-plan.ensures.disk;
  empty = c.in_ok-plan.ensures.empty;
}

pub wipe-requires-clause-blocks : goal.wipe-requires-clause-blocks
wipe-requires-clause-blocks g c = λ j told.
    let least = c.requires.least in
    fewer_on j.units c.args.unit.now.unit.number 3 c.args.unit.now.unit.blocks c.args.unit.now.bsize (omega (arith, least)) (c.requires.blocks j told)

-- ---- the wiping failed

pub returns-in-Err-clause-formats : goal.returns-in-Err-clause-formats
returns-in-Err-clause-formats g c = λ j before is ready.
    let failed = c.in-Err.ensures in
    rw (c.from.ensures, failed.either) (wipe_doubted j _ _ c.args.unit.now before c.args.volid c.args.stamp.now is ready failed.cut_off)

pub returns-in-Err-clause-quiet : goal.returns-in-Err-clause-quiet
returns-in-Err-clause-quiet g c = λ j before is ready.
    rw (c.from.ensures, c.in-Err.ensures.either) tt

pub returns-in-Err-clause-fault : goal.returns-in-Err-clause-fault
returns-in-Err-clause-fault g c =
    rw c.from.ensures (make_fault c.in-Err.doubt)

pub returns-in-Err-clause-nothing : goal.returns-in-Err-clause-nothing
returns-in-Err-clause-nothing g c =
    rw c.from.ensures (λ memory. absurd (not_memory c.in-Err.doubt memory))

pub returns-in-Err-clause-of_unit : goal.returns-in-Err-clause-of_unit
returns-in-Err-clause-of_unit g c = grown_cut_wipe c.args.unit.now.unit.number c.args.unit.now.bsize _ _ c.in-Err.ensures.cut_off

pub returns-in-Err-clause-changes : goal.returns-in-Err-clause-changes
returns-in-Err-clause-changes g c =
    let counts = c.in-Err.ensures.counts in
    rw c.from.ensures (record { grown = grown_some (returns-in-Err-clause-of_unit g c); faults = counts.cause.later; edges = counts.edges; cause = λ device. counts.cause.failed })

-- ---- the making failed

fails : (g : given.Over) (c : After-make g) (j : Journal) (before : State) (why : Doubt) → g.W.World.told c.args.world.now ≡ Some j → IsReady j c.args.unit.now before
    → IsCutOff (g.W.World.told c.wipe.new.world) (g.W.World.told c.make.new.world) c.in_ok-plan.plan.unit (made_writes c.in_ok-plan.plan) c.in_ok-plan.plan.systems.label_bytes why
    → Formats (g.W.World.told c.args.world.now) (g.W.World.told c.make.new.world) c.args.unit.now before c.args.volid c.args.stamp.now (Err (fault_of why))
fails g c j before why is ready cut = make_failed j _ _ _ c.args.unit.now before c.args.volid c.args.stamp.now c.in_ok-plan.plan why (planned g c j before is ready) cut

pub returns-in_err-held-clause-formats : goal.returns-in_err-held-clause-formats
returns-in_err-held-clause-formats g c = λ j before is ready.
    let p = err_from_is_err_and c.from_residual-in_err-held.result c.from_residual-in_err-held.ensures.1 in
    rw (p.1, p.2) (fails g (goal.at.returns-in_err-held-clause-formats g c).After-make j before c.in_err-held.field-0.0 is ready c.in_err-held.ensures.cut_off)

pub returns-in_err-held-clause-quiet : goal.returns-in_err-held-clause-quiet
returns-in_err-held-clause-quiet g c = λ j before is ready.
    let p = err_from_is_err_and c.from_residual-in_err-held.result c.from_residual-in_err-held.ensures.1 in
    let why = c.in_err-held.field-0.0 in
    rw (p.1, p.2) (failed_quiet _ _ c.args.unit.now before c.args.volid c.args.stamp.now why
    (fails g (goal.at.returns-in_err-held-clause-quiet g c).After-make j before why is ready c.in_err-held.ensures.cut_off))

pub returns-in_err-held-clause-fault : goal.returns-in_err-held-clause-fault
returns-in_err-held-clause-fault g c =
    let p = err_from_is_err_and c.from_residual-in_err-held.result c.from_residual-in_err-held.ensures.1 in
    rw (p.1, p.2) (make_fault c.in_err-held.field-0.0)

pub returns-in_err-held-clause-nothing : goal.returns-in_err-held-clause-nothing
returns-in_err-held-clause-nothing g c =
    let p = err_from_is_err_and c.from_residual-in_err-held.result c.from_residual-in_err-held.ensures.1 in
    rw (p.1, p.2) (λ memory. absurd (not_memory c.in_err-held.field-0.0 memory))

pub returns-in_err-held-clause-of_unit : goal.returns-in_err-held-clause-of_unit
returns-in_err-held-clause-of_unit g c =
    let told = g.W.World.told in
    let plan = c.in_ok-plan.plan in
    failed_grown c.args.unit.now.unit.number plan.unit c.args.unit.now.bsize (made_writes plan) plan.systems.label_bytes c.in_err-held.field-0.0 (told c.args.world.now)
    (told c.wipe.new.world) (told c.make.new.world) c.in_ok-plan.ensures.unit c.in-Ok.ensures.done c.in_err-held.ensures.cut_off

pub returns-in_err-held-clause-changes : goal.returns-in_err-held-clause-changes
returns-in_err-held-clause-changes g c =
    let p = err_from_is_err_and c.from_residual-in_err-held.result c.from_residual-in_err-held.ensures.1 in
    let wiped = c.wipe.ensures.counts in
    let first = wiped.cause.later in
    let made = c.in_err-held.ensures.counts in
    let second = made.cause.later in
    let rose = made.cause.failed in
    rw (p.1, p.2) (record {
      grown = grown_some (returns-in_err-held-clause-of_unit g c);
      faults = omega (arith, first, second);
      edges = made.edges ∙ wiped.edges;
      cause = λ device. omega (arith, first, rose);
    })

-- ---- all was done

pub returns-clause-formats : goal.returns-clause-formats
returns-clause-formats g c = λ j before is ready.
    let unit = c.args.unit.now in
    let held = c.in_ok-held.held in
    made j _ _ _ unit before c.args.volid c.args.stamp.now c.in_ok-plan.plan (record { vdev = unit.vdev; writable = unit.writable; volume = held.volume; spare = held.spare })
    (planned g (goal.at.returns-clause-formats g c).After-make j before is ready)
    c.in_ok-held.ensures.done c.in_ok-held.ensures.held

pub returns-clause-quiet : goal.returns-clause-quiet
returns-clause-quiet g c = λ j before is ready.
    made_quiet _ _ c.args.unit.now before c.args.volid c.args.stamp.now _ (ap (λ (v : HeldVolume). v.unit) c.in_ok-held.ensures.held ∙ c.in_ok-plan.ensures.unit)
    (ap (λ (v : HeldVolume). v.disk) c.in_ok-held.ensures.held ∙ c.in_ok-plan.ensures.disk) (returns-clause-formats g c j before is ready)

pub returns-clause-of_unit : goal.returns-clause-of_unit
returns-clause-of_unit g c =
    made_grown c.args.unit.now.unit.number c.in_ok-plan.plan.unit c.args.unit.now.bsize (made_writes c.in_ok-plan.plan) c.in_ok-plan.plan.systems.label_bytes _ _ _
    c.in_ok-plan.ensures.unit c.in-Ok.ensures.done c.in_ok-held.ensures.done

pub returns-clause-changes : goal.returns-clause-changes
returns-clause-changes g c =
    let wiped = c.wipe.ensures.counts in
    let first = wiped.cause.later in
    let made = c.make.ensures.counts in
    let second = made.cause.later in
    record { grown = grown_some (returns-clause-of_unit g c); faults = omega (arith, first, second); edges = made.edges ∙ wiped.edges; cause = tt }

pub returns-in_err-plan-clause-unit : goal.returns-in_err-plan-clause-unit
returns-in_err-plan-clause-unit g c = ok_at_err _ c.from_residual.result _ c.from_residual.ensures.1

pub returns-in_err-plan-clause-empty : goal.returns-in_err-plan-clause-empty
returns-in_err-plan-clause-empty g c = ok_at_err _ c.from_residual.result _ c.from_residual.ensures.1

pub returns-in_err-held-clause-unit : goal.returns-in_err-held-clause-unit
returns-in_err-held-clause-unit g c = ok_at_err _ c.from_residual-in_err-held.result _ c.from_residual-in_err-held.ensures.1

pub returns-in_err-held-clause-empty : goal.returns-in_err-held-clause-empty
returns-in_err-held-clause-empty g c = ok_at_err _ c.from_residual-in_err-held.result _ c.from_residual-in_err-held.ensures.1

pub returns-clause-fault : goal.returns-clause-fault
returns-clause-fault g c = tt

pub returns-clause-nothing : goal.returns-clause-nothing
returns-clause-nothing g c = tt

pub returns-in-Err-clause-unit : goal.returns-in-Err-clause-unit
returns-in-Err-clause-unit g c = tt

pub returns-in-Err-clause-empty : goal.returns-in-Err-clause-empty
returns-in-Err-clause-empty g c = tt

pub plan_make-requires-clause-blocks : goal.plan_make-requires-clause-blocks
plan_make-requires-clause-blocks g c = c.requires.least

pub plan_make-requires-clause-stamp : goal.plan_make-requires-clause-stamp
plan_make-requires-clause-stamp g c = c.requires.stamp

pub returns-in_err-plan-clause-formats : goal.returns-in_err-plan-clause-formats
returns-in_err-plan-clause-formats g c = λ j before is ready. formats_nothing c.args.unit.now c.from_residual.result c.from_residual.ensures.1 (g.W.World.told c.args.world.now) before c.args.volid c.args.stamp.now

pub returns-in_err-plan-clause-quiet : goal.returns-in_err-plan-clause-quiet
returns-in_err-plan-clause-quiet g c = λ j before is ready. quiet_nothing c.args.unit.now c.from_residual.result c.from_residual.ensures.1 j (g.W.World.told c.args.world.now) before is ready

pub returns-in_err-plan-clause-fault : goal.returns-in_err-plan-clause-fault
returns-in_err-plan-clause-fault g c = fault_memory c.args.unit.now c.from_residual.result c.from_residual.ensures.1

pub returns-in_err-plan-clause-nothing : goal.returns-in_err-plan-clause-nothing
returns-in_err-plan-clause-nothing g c = err_at_err (λ e. e ≡ Memory) c.from_residual.result _ c.from_residual.ensures.1 (λ e is memory. refl)

pub returns-in_err-plan-clause-of_unit : goal.returns-in_err-plan-clause-of_unit
returns-in_err-plan-clause-of_unit g c = grown_nothing c.args.unit.now.unit.number (g.W.World.told c.args.world.now)

pub returns-in_err-plan-clause-changes : goal.returns-in_err-plan-clause-changes
returns-in_err-plan-clause-changes g c = changes_nothing c.args.unit.now c.from_residual.result c.from_residual.ensures.1 (seen g.W.World c.args.world.now)

pub wipe-requires-clause-writable : goal.wipe-requires-clause-writable
wipe-requires-clause-writable g c = c.requires.writable

pub from-requires : goal.from-requires
from-requires g c = tt

pub make-requires-clause-blocks : goal.make-requires-clause-blocks
make-requires-clause-blocks g c =
    let unit = c.args.unit.now in
    make_blocks unit.unit.number unit.unit.blocks unit.bsize c.in_ok-plan.plan.unit (g.W.World.told c.args.world.now) (g.W.World.told c.wipe.new.world) c.in_ok-plan.ensures.unit c.in-Ok.ensures.done
    c.in_ok-plan.plan.disk c.in_ok-plan.ensures.disk c.requires.blocks

pub make-requires-clause-writable : goal.make-requires-clause-writable
make-requires-clause-writable g c =
    let unit = c.args.unit.now in
    make_writable unit.unit.number unit.unit.blocks unit.bsize c.in_ok-plan.plan.unit (g.W.World.told c.args.world.now) (g.W.World.told c.wipe.new.world) c.in_ok-plan.ensures.unit c.in-Ok.ensures.done
    c.requires.writable

pub invariant_of-result : goal.invariant_of-result
invariant_of-result g c = volume_on c.args.unit.now c.in_ok-plan.plan c.in_ok-held.held.volume c.in_ok-held.ensures.held c.in_ok-plan.ensures.unit c.in_ok-plan.ensures.disk

pub returns-clause-unit : goal.returns-clause-unit
returns-clause-unit g c =
    made_on c.args.unit.now c.in_ok-plan.plan c.in_ok-held.held.volume c.in_ok-held.ensures.held c.in_ok-plan.ensures.unit c.in_ok-plan.ensures.disk c.in_ok-held.held.spare

pub returns-clause-empty : goal.returns-clause-empty
returns-clause-empty g c =
    made_without_files c.args.unit.now c.in_ok-plan.plan c.in_ok-held.held.volume c.in_ok-held.ensures.held c.in_ok-plan.ensures.unit c.in_ok-plan.ensures.disk c.in_ok-held.held.spare c.args.volid c.args.stamp.now
    c.in_ok-plan.ensures.empty
