use Rattle.std.proofs.Common.{ℕ, List, sym, subst}
use Rattle.cms_journal.specs.Journal.{HasBlocks, IsWritable}
use Rattle.cms_held.specs.EmptyVolumes.{MakePlan, made_writes}
use Rattle.cms_held.specs.Systems.{system_writes}
use Rattle.cms_held.proofs.Made.{made_empty}
use Rattle.cms_edf.specs.Doubts.{IsCutOff}
use Rattle.cms_edf.specs.NewDirectories.{GoesOn, directory_in}
use Rattle.cms_edf.proofs.Listings.{fewer_on}
use Rattle.cms_edf.proofs.empty_volume.make.Goals as goal

pub carry_out-requires : goal.carry_out-requires
carry_out-requires g c =
    let s = c.plan.inside.systems in
    let kept = c.plan.invariant.0 in
    let back = sym c.plan.view_is in
    record {
      goes = subst (λ (l : List ℕ). GoesOn l (directory_in s)) (sym c.deref.ensures.value) c.plan.invariant.3;
      may = record {
        blocks = λ j told. subst (λ (n : ℕ). HasBlocks j.units c.plan.inside.unit s.label.blocks n) (sym kept.label_long)
            (fewer_on j.units c.plan.inside.unit s.label.blocks c.plan.inside.blocks c.plan.inside.bsize kept.within
            (subst (λ (p : MakePlan). HasBlocks j.units p.unit p.disk.count p.disk.bsize) back (c.requires.blocks j told)));
        writable = λ j told. subst (λ (p : MakePlan). IsWritable j.units p.unit) back (c.requires.writable j told);
      };
    }

pub returns-in-Err-clause-cut_off : goal.returns-in-Err-clause-cut_off
returns-in-Err-clause-cut_off g c =
    let old = g.W.World.told c.args.world.now in
    let new = g.W.World.told c.carry_out.new.world in
    let s = c.plan.inside.systems in
    let at : IsCutOff old new c.plan.inside.unit (system_writes c.plan.inside.bsize s) s.label_bytes c.in-Err.why =
    subst (λ (n : ℕ). IsCutOff old new c.plan.inside.unit (system_writes n s) s.label_bytes c.in-Err.why) c.plan.invariant.0.label_long c.in-Err.ensures.updates in
    subst (λ (p : MakePlan). IsCutOff old new p.unit (made_writes p) p.systems.label_bytes c.in-Err.why) c.plan.view_is at

pub returns-in-Ok-clause-moments : goal.returns-in-Ok-clause-moments
returns-in-Ok-clause-moments g c = λ j volid stamp told empty ready. made_empty j c.args.plan volid stamp empty ready

pub returns-in-Err-clause-moments : goal.returns-in-Err-clause-moments
returns-in-Err-clause-moments g c = λ j volid stamp told empty ready. made_empty j c.args.plan volid stamp empty ready

pub returns-in-Ok-clause-cut_off : goal.returns-in-Ok-clause-cut_off
returns-in-Ok-clause-cut_off g c = tt

pub returns-in-Err-clause-done : goal.returns-in-Err-clause-done
returns-in-Err-clause-done g c = tt

pub returns-in-Err-clause-held : goal.returns-in-Err-clause-held
returns-in-Err-clause-held g c = tt
