use Rattle.std.proofs.Common.{ℕ, List, ◌∙◌, ap, sym, refl, subst, length, Ok, Err}
use Rattle.cms_journal.specs.Journal.{HasBlocks, IsWritable}
use Rattle.cms_held.specs.HeldVolumes.{Held}
use Rattle.cms_edf.specs.Doubts.{UpdatesSystems}
use Rattle.cms_edf.specs.NewDirectories.{GoesOn, directory_in}
use Rattle.cms_edf.proofs.held.Held.carry_file.Goals as goal

pub carry_out-requires : goal.carry_out-requires
carry_out-requires g c = record {
  goes = subst (λ (l : List ℕ). GoesOn l (directory_in c.args.systems)) (sym (c.deref.ensures.value ∙ ap (λ (h : Held). h.volume.directory.leaves) c.self.view_is)) c.requires.goes;
  may = record {
    blocks = λ j told. subst (λ (u : ℕ). HasBlocks j.units u c.args.systems.label.blocks (length c.args.systems.label_bytes))
        (sym (ap (λ (h : Held). h.volume.unit) c.self.view_is)) (c.requires.blocks j told);
    writable = λ j told. subst (IsWritable j.units) (sym (ap (λ (h : Held). h.volume.unit) c.self.view_is)) (c.requires.writable j told);
  };
}

pub returns-in-Ok-clause-updates : goal.returns-in-Ok-clause-updates
returns-in-Ok-clause-updates g c =
    subst (λ (h : Held). UpdatesSystems (g.W.World.told c.args.world.now) (g.W.World.told c.carry_out.new.world) h.volume.unit c.args.systems (Ok tt)) c.self.view_is c.in-Ok.ensures.updates

pub returns-in-Err-clause-updates : goal.returns-in-Err-clause-updates
returns-in-Err-clause-updates g c =
    subst (λ (h : Held). UpdatesSystems (g.W.World.told c.args.world.now) (g.W.World.told c.carry_out.new.world) h.volume.unit c.args.systems (Err c.in-Err.doubt)) c.self.view_is
    c.in-Err.ensures.updates

pub returns-in-Ok-clause-counts : goal.returns-in-Ok-clause-counts
returns-in-Ok-clause-counts g c = c.in-Ok.ensures.counts

pub returns-in-Err-clause-kept : goal.returns-in-Err-clause-kept
returns-in-Err-clause-kept g c = refl

pub returns-in-Err-clause-counts : goal.returns-in-Err-clause-counts
returns-in-Err-clause-counts g c = c.in-Err.ensures.counts

pub returns-in-Ok-clause-kept : goal.returns-in-Ok-clause-kept
returns-in-Ok-clause-kept g c = tt

pub returns-in-Err-clause-volume : goal.returns-in-Err-clause-volume
returns-in-Err-clause-volume g c = tt
