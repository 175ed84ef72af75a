use Rattle.std.proofs.Common.{ℕ, List, length, refl, sym, ◌∙◌, ap, subst}
use Rattle.cms_journal.specs.Journal.{HasBlocks, IsWritable, MayAdd}
use Rattle.cms_journal.specs.declared.event.Event.TheVariants.{Wrote}
use Rattle.cms_journal.specs.Told.{plus}
use Rattle.cms_model.specs.LawsUpdates.{relabel}
use Rattle.cms_held.specs.HeldVolumes.{Held}
use Rattle.cms_held.specs.Kept.{Keeps}
use Rattle.cms_edf.specs.Updates.{with_label_bytes}
use Rattle.cms_edf.proofs.held.Held.carry_label.Goals as goal

pub write_label_block-requires-clause-blocks : goal.write_label_block-requires-clause-blocks
write_label_block-requires-clause-blocks g c = λ j told.
    subst (λ (l : List ℕ). HasBlocks j.units c.self.inside.unit 3 (length l)) (sym c.deref.ensures.value)
    (subst (λ (h : Held). HasBlocks j.units h.volume.unit 3 (length c.args.bytes.items)) (sym c.self.view_is) (c.requires.blocks j told))

pub write_label_block-requires-clause-writable : goal.write_label_block-requires-clause-writable
write_label_block-requires-clause-writable g c = λ j told. subst (λ (h : Held). IsWritable j.units h.volume.unit) (sym c.self.view_is) (c.requires.writable j told)

pub invariant_of-self : goal.invariant_of-self
invariant_of-self g c = record {
  named = c.self.invariant.named;
  kept = subst (λ (h : Held). Keeps (with_label_bytes h.volume c.args.label c.args.bytes.items)) (sym c.self.view_is) c.requires.kept;
}

pub returns-in-Ok-clause-done : goal.returns-in-Ok-clause-done
returns-in-Ok-clause-done g c =
    let unit = ap (λ (h : Held). h.volume.unit) c.self.view_is in
    c.in-Ok.ensures.done ∙ (λ i. plus (g.W.World.told c.args.world.now) (relabel (unit i) (c.deref.ensures.value i)))

pub returns-in-Ok-clause-volume : goal.returns-in-Ok-clause-volume
returns-in-Ok-clause-volume g c = ap (λ (h : Held). with_label_bytes h.volume c.args.label c.args.bytes.items) c.self.view_is

pub returns-in-Ok-clause-counts : goal.returns-in-Ok-clause-counts
returns-in-Ok-clause-counts g c = c.in-Ok.ensures.counts

pub returns-in-Err-clause-either : goal.returns-in-Err-clause-either
returns-in-Err-clause-either g c = c.in-Err.ensures.either

pub returns-in-Err-clause-cut_off : goal.returns-in-Err-clause-cut_off
returns-in-Err-clause-cut_off g c =
    let unit = ap (λ (h : Held). h.volume.unit) c.self.view_is in
    subst (λ (l : List ℕ). MayAdd (Wrote c.args.self.now.volume.unit 3 l) (g.W.World.told c.args.world.now) (g.W.World.told c.write_label_block.new.world)) c.deref.ensures.value
    (subst (λ (u : ℕ). MayAdd (Wrote u 3 c.deref.result.now) (g.W.World.told c.args.world.now) (g.W.World.told c.write_label_block.new.world)) unit c.in-Err.ensures.cut_off)

pub returns-in-Err-clause-kept : goal.returns-in-Err-clause-kept
returns-in-Err-clause-kept g c = refl

pub returns-in-Err-clause-counts : goal.returns-in-Err-clause-counts
returns-in-Err-clause-counts g c = c.in-Err.ensures.counts

pub returns-in-Ok-clause-either : goal.returns-in-Ok-clause-either
returns-in-Ok-clause-either g c = tt

pub returns-in-Ok-clause-cut_off : goal.returns-in-Ok-clause-cut_off
returns-in-Ok-clause-cut_off g c = tt

pub returns-in-Ok-clause-kept : goal.returns-in-Ok-clause-kept
returns-in-Ok-clause-kept g c = tt

pub returns-in-Err-clause-done : goal.returns-in-Err-clause-done
returns-in-Err-clause-done g c = tt

pub returns-in-Err-clause-volume : goal.returns-in-Err-clause-volume
returns-in-Err-clause-volume g c = tt
