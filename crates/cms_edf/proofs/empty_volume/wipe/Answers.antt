use Rattle.std.proofs.Common.{◌≡◌, ℕ, ◌≤◌, List, OnOk, OnErr, take, replicate, ◌∙◌, ap, subst, arith}
use Rattle.std.proofs.lemmas.List.{take-replicate}
use Rattle.cms_journal.specs.declared.event.Event.TheVariants.{Wrote}
use Rattle.cms_journal.specs.Journal.{MayAdd}
use Rattle.cms_journal.specs.Told.{plus}
use Rattle.cms_model.specs.LawsUpdates.{relabel}
use Rattle.cms_model.proofs.Wipes.{wipe_is_whole}
use Rattle.cms_edf.proofs.empty_volume.wipe.Goals as goal

-- the front of zeros
zeros : (room n b : ℕ) → n ≡ b → b ≤ room → take n (replicate {A = ℕ} room 0) ≡ replicate b 0
zeros room n b is least = ap (λ (k : ℕ). take k (replicate {A = ℕ} room 0)) is ∙ take-replicate b room 0 least

pub returns-clause-done : goal.returns-clause-done
returns-clause-done g c =
    let told = g.W.World.told in
    subst (λ (l : List ℕ). OnOk c.write_label_block.result (told c.write_label_block.new.world ≡ plus (told c.args.world.now) (relabel c.args.unit l)))
    (zeros 4096 c.bytes.result c.args.bsize c.bytes.ensures.value (omega arith)) c.write_label_block.ensures.done

pub returns-clause-cut_off : goal.returns-clause-cut_off
returns-clause-cut_off g c =
    let told = g.W.World.told in
    subst (λ (l : List ℕ). OnErr c.write_label_block.result (MayAdd (Wrote c.args.unit 3 l) (told c.args.world.now) (told c.write_label_block.new.world)))
    (zeros 4096 c.bytes.result c.args.bsize c.bytes.ensures.value (omega arith)) c.write_label_block.ensures.cut_off

pub returns-clause-moments : goal.returns-clause-moments
returns-clause-moments g c = λ j disk before told firm. wipe_is_whole disk j c.args.unit c.args.bsize before firm
