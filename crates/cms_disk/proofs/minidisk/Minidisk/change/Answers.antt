use Rattle.std.proofs.Common.{rules, ◌≡◌, Some, sym, ◌∙◌, ap, subst}
use Rattle.std.proofs.lemmas.Result.{err_from_is_err_and}
use Rattle.cms_held.specs.HeldVolumes.{HeldVolume, Held}
use Rattle.cms_held.specs.Kept.{Keeps}
use Rattle.cms_journal.specs.Journal.{Journal, HasBlocks, IsWritable}
use Rattle.cms_journal.specs.Told.{plus}
use Rattle.cms_model.specs.Minidisks as minidisks
use Rattle.cms_edf.specs.ChangePlans.{IsFullFor, IsPlanFor, change_of}
use Rattle.cms_edf.specs.Updates.{IsStopped, LeadsTo, step_events}
use Rattle.cms_disk.specs.Disks.{Accessed, IsMinidisk}
use Rattle.cms_disk.proofs.ChangeSteps.{Setting, altered, alters_by, carry_fault, grown_cut, grown_done, held_then, leads_same, not_planned, on_same, plan_fault}
use Rattle.cms_disk.proofs.minidisk.Minidisk.change.Given as given
use Rattle.cms_disk.proofs.minidisk.Minidisk.change.Goals as goal
use Rattle.cms_disk.proofs.minidisk.Minidisk.change.Goals.{After-carry_out, In_ok-carry_out}

pub returns-in_err-plan-clause-alters : goal.returns-in_err-plan-clause-alters
returns-in_err-plan-clause-alters g c = λ j m told is.
    let p = err_from_is_err_and c.from_residual.result c.from_residual.ensures.1 in
    let e : Accessed = record { vdev = c.self.inside.unit.vdev; writable = c.self.inside.unit.writable; volume = c.plan.new.held.volume; spare = c.plan.new.held.spare } in
    let view = ap (λ (a : Accessed). a.volume) c.self.view_is in
    let why = c.in_err-plan.field-0.0 in
    rw (p.1, p.2) (not_planned j (g.W.World.told c.args.world.now) c.args.self.now e m c.args.change.now c.args.stamp.now why
    (record { is = is; readable = c.requires.blocks j told; kept = subst Keeps (c.plan.ensures.volume ∙ view) c.plan.ensures.kept; can = c.requires.change })
    (subst (λ (v : HeldVolume). IsFullFor v c.args.change.now why) view c.in_err-plan.ensures.full))

pub returns-in_err-plan-clause-fault : goal.returns-in_err-plan-clause-fault
returns-in_err-plan-clause-fault g c =
    let p = err_from_is_err_and c.from_residual.result c.from_residual.ensures.1 in
    let view = ap (λ (a : Accessed). a.volume) c.self.view_is in
    let why = c.in_err-plan.field-0.0 in
    rw (p.1, p.2) (plan_fault c.args.self.now.volume c.args.change.now why c.requires.change (subst (λ (v : HeldVolume). IsFullFor v c.args.change.now why) view c.in_err-plan.ensures.full))

pub carry_out-requires-clause-plan : goal.carry_out-requires-clause-plan
carry_out-requires-clause-plan g c = record {
  change = change_of c.args.change.now;
  stamp = c.args.stamp.now;
  is = subst (λ (v : HeldVolume). IsPlanFor v (change_of c.args.change.now) c.args.stamp.now c.in_ok-plan.plan) (sym c.plan.ensures.volume) c.in_ok-plan.ensures.planned;
}

pub carry_out-requires-clause-blocks : goal.carry_out-requires-clause-blocks
carry_out-requires-clause-blocks g c = λ j told.
    subst (λ (v : HeldVolume). HasBlocks j.units v.unit v.disk.count v.disk.bsize)
    (sym (c.plan.ensures.volume ∙ ap (λ (a : Accessed). a.volume) c.self.view_is)) (c.requires.blocks j told)

pub carry_out-requires-clause-writable : goal.carry_out-requires-clause-writable
carry_out-requires-clause-writable g c = λ j told.
    subst (λ (v : HeldVolume). IsWritable j.units v.unit) (sym (c.plan.ensures.volume ∙ ap (λ (a : Accessed). a.volume) c.self.view_is)) (c.requires.writable j told)

-- the volume then is on the same unit
stays : (g : given.Over) (c : In_ok-carry_out g) → (c.carry_out.new.held.volume.unit ≡ c.plan.new.held.volume.unit) × (c.carry_out.new.held.volume.disk ≡ c.plan.new.held.volume.disk)
stays g c =
    leads_same c.plan.new.held.volume c.carry_out.new.held.volume (change_of c.args.change.now) c.args.stamp.now c.in_ok-plan.plan
    (subst (λ (v : HeldVolume). IsPlanFor v (change_of c.args.change.now) c.args.stamp.now c.in_ok-plan.plan) (sym c.plan.ensures.volume) c.in_ok-plan.ensures.planned) c.in_ok-carry_out.ensures.volume

pub invariant_of-self-2 : goal.invariant_of-self-2
invariant_of-self-2 g c =
    let on = stays g c in
    let volume = c.plan.ensures.volume in
    record { number = on.0 ∙ (ap (λ (v : HeldVolume). v.unit) volume ∙ c.self.invariant.number); disk = on.1 ∙ (ap (λ (v : HeldVolume). v.disk) volume ∙ c.self.invariant.disk) }

setting : (g : given.Over) (c : After-carry_out g) (j : Journal) (m : minidisks.Minidisk) → g.W.World.told c.args.world.now ≡ Some j → IsMinidisk j c.args.self.now m
    → Setting j (g.W.World.told c.args.world.now) c.args.self.now m (change_of c.args.change.now) c.args.stamp.now c.in_ok-plan.plan
setting g c j m told is =
    let view = ap (λ (a : Accessed). a.volume) c.self.view_is in
    record {
      told_is = told;
      is = is;
      readable = c.requires.blocks j told;
      kept = subst Keeps (c.plan.ensures.volume ∙ view) c.plan.ensures.kept;
      plan = subst (λ (v : HeldVolume). IsPlanFor v (change_of c.args.change.now) c.args.stamp.now c.in_ok-plan.plan) view c.in_ok-plan.ensures.planned;
    }

abbrev new_view : (g : given.Over) (c : After-carry_out g) → Accessed
new_view g c = record { vdev = c.self.inside.unit.vdev; writable = c.self.inside.unit.writable; volume = c.carry_out.new.held.volume; spare = c.carry_out.new.held.spare }

-- the volume for which it was planned
volume_is : (g : given.Over) (c : After-carry_out g) → c.plan.new.held.volume ≡ c.args.self.now.volume
volume_is g c = c.plan.ensures.volume ∙ ap (λ (a : Accessed). a.volume) c.self.view_is

pub returns-in_err-carry_out-clause-alters : goal.returns-in_err-carry_out-clause-alters
returns-in_err-carry_out-clause-alters g c = λ j m told is.
    let at = (goal.at.returns-in_err-carry_out-clause-alters g c).After-carry_out in
    let p = err_from_is_err_and c.from_residual-in_err-carry_out.result c.from_residual-in_err-carry_out.ensures.1 in
    let why = c.in_err-carry_out.field-0.0 in
    let old = g.W.World.told c.args.world.now in
    let new = g.W.World.told c.carry_out.new.world in
    let same = volume_is g at in
    rw (p.1, p.2) (alters_by j old new c.args.self.now (new_view g at) m (change_of c.args.change.now) c.args.stamp.now c.in_ok-plan.plan (setting g at j m told is) why
    (subst (λ (v : HeldVolume). IsStopped old new v c.in_ok-plan.plan why) same c.in_err-carry_out.ensures.cut_off)
    (ap (λ (h : Held). h.volume) c.in_err-carry_out.ensures.kept ∙ same))

pub returns-in_err-carry_out-clause-fault : goal.returns-in_err-carry_out-clause-fault
returns-in_err-carry_out-clause-fault g c =
    let p = err_from_is_err_and c.from_residual-in_err-carry_out.result c.from_residual-in_err-carry_out.ensures.1 in
    rw (p.1, p.2) (carry_fault c.args.self.now.volume _ c.in_err-carry_out.field-0.0)

pub returns-in_err-carry_out-clause-changes : goal.returns-in_err-carry_out-clause-changes
returns-in_err-carry_out-clause-changes g c =
    let shows = g.W.World in
    let p = err_from_is_err_and c.from_residual-in_err-carry_out.result c.from_residual-in_err-carry_out.ensures.1 in
    let at = (goal.at.returns-in_err-carry_out-clause-changes g c).After-carry_out in
    let counts = c.in_err-carry_out.ensures.counts in
    let d = c.args.self.now in
    let kept = ap (λ (h : Held). h.volume) c.in_err-carry_out.ensures.kept ∙ volume_is g at in
    rw (p.1, p.2) (record {
      units = record {
        grown = grown_cut (shows.told c.args.world.now) (shows.told c.carry_out.new.world) c.plan.new.held.volume c.in_ok-plan.plan c.in_err-carry_out.field-0.0 c.in_err-carry_out.ensures.cut_off;
        faults = counts.cause.later;
        edges = counts.edges;
        cause = λ device. counts.cause.failed;
      };
      same = on_same d (new_view g at) (ap (λ (a : Accessed). a.vdev) c.self.view_is) (ap (λ (a : Accessed). a.writable) c.self.view_is) (ap (λ (v : HeldVolume). v.unit) kept)
          (ap (λ (v : HeldVolume). v.disk) kept);
      kept = λ sure. search rules;
    })

pub returns-clause-alters : goal.returns-clause-alters
returns-clause-alters g c = λ j m told is.
    let at = (goal.at.returns-clause-alters g c).After-carry_out in
    let old = g.W.World.told c.args.world.now in
    let new = g.W.World.told c.carry_out.new.world in
    let same = volume_is g at in
    altered j old new c.args.self.now (new_view g at) m (change_of c.args.change.now) c.args.stamp.now c.in_ok-plan.plan (setting g at j m told is)
    (subst (λ (v : HeldVolume). new ≡ plus old (step_events v c.in_ok-plan.plan)) same c.in_ok-carry_out.ensures.done)
    (subst (λ (v : HeldVolume). LeadsTo v c.in_ok-plan.plan c.carry_out.new.held.volume) same c.in_ok-carry_out.ensures.volume)

pub returns-clause-changes : goal.returns-clause-changes
returns-clause-changes g c =
    let shows = g.W.World in
    let at = (goal.at.returns-clause-changes g c).After-carry_out in
    let counts = c.carry_out.ensures.counts in
    let d = c.args.self.now in
    let e = new_view g at in
    let before = c.plan.new.held.volume in
    let on = stays g (goal.at.returns-clause-changes g c).In_ok-carry_out in
    let volume = volume_is g at in
    record {
      units = record {
        grown = grown_done (shows.told c.args.world.now) (shows.told c.carry_out.new.world) before c.in_ok-plan.plan c.in_ok-carry_out.ensures.done;
        faults = counts.cause.later;
        edges = counts.edges;
        cause = tt;
      };
      same = on_same d e (ap (λ (a : Accessed). a.vdev) c.self.view_is) (ap (λ (a : Accessed). a.writable) c.self.view_is) (on.0 ∙ ap (λ (v : HeldVolume). v.unit) volume)
          (on.1 ∙ ap (λ (v : HeldVolume). v.disk) volume);
      kept = tt;
    }

pub returns-clause-holds : goal.returns-clause-holds
returns-clause-holds g c =
    let at = (goal.at.returns-clause-holds g c).After-carry_out in
    let same = volume_is g at in
    held_then c.args.self.now.volume c.carry_out.new.held.volume (change_of c.args.change.now) c.args.stamp.now c.in_ok-plan.plan
    (subst (λ (v : HeldVolume). IsPlanFor v (change_of c.args.change.now) c.args.stamp.now c.in_ok-plan.plan) (ap (λ (a : Accessed). a.volume) c.self.view_is) c.in_ok-plan.ensures.planned)
    (subst (λ (v : HeldVolume). LeadsTo v c.in_ok-plan.plan c.carry_out.new.held.volume) same c.in_ok-carry_out.ensures.volume)
