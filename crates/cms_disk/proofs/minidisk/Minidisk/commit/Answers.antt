use Rattle.std.proofs.Common.{◌≡◌, Ok, Err, refl, sym, ◌∙◌, ap, subst, rules}
use Rattle.std.proofs.lemmas.Result.{err_from_is_err_and}
use Rattle.cms_journal.specs.Journal.{HasBlocks, IsWritable}
use Rattle.cms_held.specs.HeldVolumes.{HeldVolume, Held}
use Rattle.cms_disk.specs.Disks.{Accessed}
use Rattle.cms_disk.proofs.DraftSteps.{Ending, commit_fault, ends_so, on_volume, stays_on}
use Rattle.cms_disk.proofs.minidisk.Minidisk.commit.Given as given
use Rattle.cms_disk.proofs.minidisk.Minidisk.commit.Goals as goal
use Rattle.cms_disk.proofs.minidisk.Minidisk.commit.Goals.{After-commit}

pub commit-requires-clause-blocks : goal.commit-requires-clause-blocks
commit-requires-clause-blocks g c = λ j told.
    subst (λ (v : HeldVolume). HasBlocks j.units v.unit v.disk.count v.disk.bsize) (sym (ap (λ (a : Accessed). a.volume) c.self.view_is)) (c.requires.blocks j told)

pub commit-requires-clause-writable : goal.commit-requires-clause-writable
commit-requires-clause-writable g c = λ j told.
    subst (λ (v : HeldVolume). IsWritable j.units v.unit) (sym (ap (λ (a : Accessed). a.volume) c.self.view_is)) (c.requires.writable j told)

-- the volume stays on its unit
stays : (g : given.Over) (c : After-commit g) → (c.commit.new.held.volume.unit ≡ c.self.inside.held.volume.unit) × (c.commit.new.held.volume.disk ≡ c.self.inside.held.volume.disk)
stays g c =
    stays_on c.self.inside.held.volume c.commit.new.held.volume c.args.draft c.commit.result (rw (← c.self.view_is) at c.requires.planned) c.commit.ensures.volume
    (on_volume c.commit.new.held c.self.inside.held c.commit.result c.commit.ensures.kept)

pub invariant_of-self : goal.invariant_of-self
invariant_of-self g c =
    let on = stays g (goal.at.invariant_of-self g c).After-commit in
    record { number = on.0 ∙ c.self.invariant.number; disk = on.1 ∙ c.self.invariant.disk }

pub invariant_of-self-2 : goal.invariant_of-self-2
invariant_of-self-2 g c =
    let on = stays g (goal.at.invariant_of-self-2 g c).After-commit in
    record { number = on.0 ∙ c.self.invariant.number; disk = on.1 ∙ c.self.invariant.disk }

pub returns-in_err-commit-clause-alters : goal.returns-in_err-commit-clause-alters
returns-in_err-commit-clause-alters g c =
    let p = err_from_is_err_and c.from_residual.result c.from_residual.ensures.1 in
    rw (← c.self.view_is) (λ start m change stamp records goes.
    let s = c.self.inside in
    let d : Accessed = record { vdev = s.unit.vdev; writable = s.unit.writable; volume = s.held.volume; spare = s.held.spare } in
    let e : Accessed = record { vdev = s.unit.vdev; writable = s.unit.writable; volume = c.commit.new.held.volume; spare = c.commit.new.held.spare } in
    let x : Ending start (g.W.World.told c.args.world.now) d m c.args.draft change stamp records = record { goes = goes; sound = c.commit.ensures.sound } in
    let failed = c.in_err-commit.ensures in
    rw (p.1, p.2) (ends_so start (g.W.World.told c.args.world.now) (g.W.World.told c.commit.new.world) d e m c.args.draft change stamp records (Err c.in_err-commit.field-0.0) x
    (record { events = failed.events; puts = failed.puts; adds = failed.adds; leads = tt; kept = ap (λ (h : Held). h.volume) failed.kept })))

pub returns-in_err-commit-clause-fault : goal.returns-in_err-commit-clause-fault
returns-in_err-commit-clause-fault g c =
    let p = err_from_is_err_and c.from_residual.result c.from_residual.ensures.1 in
    rw (p.1, p.2) (commit_fault c.in_err-commit.field-0.0)

pub returns-in_err-commit-clause-changes : goal.returns-in_err-commit-clause-changes
returns-in_err-commit-clause-changes g c =
    let p = err_from_is_err_and c.from_residual.result c.from_residual.ensures.1 in
    let counts = c.in_err-commit.ensures.counts in
    let on = stays g (goal.at.returns-in_err-commit-clause-changes g c).After-commit in
    rw (← c.self.view_is, p.1, p.2) (record {
      units = record { grown = c.commit.ensures.grown; faults = counts.cause.later; edges = counts.edges; cause = λ device. counts.cause.failed };
      same = record { vdev = refl; writable = refl; unit = on.0; disk = on.1 };
      kept = λ sure. search rules;
    })

pub returns-clause-alters : goal.returns-clause-alters
returns-clause-alters g c = rw (← c.self.view_is) (λ start m change stamp records goes.
    let s = c.self.inside in
    let d : Accessed = record { vdev = s.unit.vdev; writable = s.unit.writable; volume = s.held.volume; spare = s.held.spare } in
    let e : Accessed = record { vdev = s.unit.vdev; writable = s.unit.writable; volume = c.commit.new.held.volume; spare = c.commit.new.held.spare } in
    let x : Ending start (g.W.World.told c.args.world.now) d m c.args.draft change stamp records = record { goes = goes; sound = c.commit.ensures.sound } in
    let made = c.in_ok-commit.ensures in
    ends_so start (g.W.World.told c.args.world.now) (g.W.World.told c.commit.new.world) d e m c.args.draft change stamp records (Ok tt) x
    (record { events = made.events; puts = made.puts; adds = made.adds; leads = made.volume; kept = tt }))

pub returns-clause-changes : goal.returns-clause-changes
returns-clause-changes g c =
    let counts = c.commit.ensures.counts in
    let on = stays g (goal.at.returns-clause-changes g c).After-commit in
    rw (← c.self.view_is) (record {
      units = record { grown = c.commit.ensures.grown; faults = counts.cause.later; edges = counts.edges; cause = tt };
      same = record { vdev = refl; writable = refl; unit = on.0; disk = on.1 };
      kept = tt;
    })

pub returns-clause-holds : goal.returns-clause-holds
returns-clause-holds g c = rw (← c.self.view_is) c.in_ok-commit.ensures.volume
