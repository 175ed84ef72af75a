use Rattle.std.proofs.Common.{rules, ◌≡◌, ℕ, Bool, true, length, Ok, refl, sym, ◌∙◌, subst, arith, ◌⊎◌, inr, ◌≤◌, List}
use Rattle.std.specs.Prelude.{max}
use Rattle.cms_journal.specs.Journal.{contents_of}
use Rattle.cms_model.specs.Trees.{image_of}
use Rattle.cms_disk.specs.Cursors.{HandsOut, HasLeft}
use Rattle.cms_disk.proofs.RecordsGathered.{gather_first, gather_next}
use Rattle.cms_fields.specs.Limits.{longest_record}
use Rattle.cms_world.specs.Seen.{seen}
use Rattle.cms_edf.proofs.Exits.{err_at_err, ok_at_err, plain_at_err, reads_at_err, reads_at_ok, reads_behind, same_at_err}
use Rattle.cms_disk.specs.declared.fault.DiskFault.{DiskFault}
use Rattle.cms_disk.specs.declared.fault.DiskFault.TheVariants.{Altered, Device, Memory}
use Rattle.cms_disk.proofs.NextSteps.{device_or, memory_altered, memory_device, one_fewer, record_fits, within_all}
use Rattle.cms_disk.proofs.ReadSteps.{blocks_same}
use Rattle.cms_disk.proofs.get.gather.Goals as goal

pub loop-bytes-init : goal.loop-bytes-init
loop-bytes-init g c = record {
  to = rw c.new-bytes.ensures.items (gather_first (g.W.World.told c.args.world.now) c.args.format c.args.cursor.now);
  file = record { unit = refl; total = refl; bsize = refl; leaves = refl; fixed = refl; longest = refl };
  told = refl;
  faults = omega arith;
  edges = refl;
}

pub loop-bytes-preserved : goal.loop-bytes-preserved
loop-bytes-preserved g c =
    let l = c.loop-bytes in
    let first = c.args.cursor.now in
    let next = c.next.new.self in
    let n = c.in_ok-next.ensures in
    let yes' : c.in_ok-next.field-0 ≡ true = c.if-branch.true in
    let a = l.invariant.file in
    let b = n.file in
    let at = a.unit in
    let text : c.text-text.result.now ≡ _ = c.text-text.ensures in
    let most : c.max-longest.result ≡ max l.longest (length c.text-text.result.now) = search rules in
    record {
      to = gather_next (g.W.World.told c.args.world.now) c.args.format first l.cursor next l.bytes.items c.push.new.bytes.items c.text-text.result.now l.longest c.max-longest.result
          l.invariant.to (n.left yes') (n.text yes') (b.fixed ∙ (a.fixed ∙ c.requires.fixed)) (b.longest ∙ a.longest) c.requires.short text c.in_ok-push.ensures most
          (λ j is all has.
          subst (λ (x : Bool). HandsOut (image_of (contents_of j first.unit)) next all (Ok x)) yes'
          (subst (λ (u : ℕ). HandsOut (image_of (contents_of j u)) next all (Ok c.in_ok-next.field-0)) at
          (n.records j (l.invariant.told ∙ is) all (subst (λ (u : ℕ). HasLeft (image_of (contents_of j u)) l.cursor all) (sym at) has))));
      file = record { unit = b.unit ∙ a.unit; total = b.total ∙ a.total; bsize = b.bsize ∙ a.bsize; leaves = b.leaves ∙ a.leaves; fixed = b.fixed ∙ a.fixed; longest = b.longest ∙ a.longest };
      told = n.reads.told ∙ l.invariant.told;
      faults = omega (arith, n.reads.faults, l.invariant.faults);
      edges = n.reads.edges ∙ l.invariant.edges;
    }

pub returns-clause-fault : goal.returns-clause-fault
returns-clause-fault g c = tt

pub returns-clause-altered : goal.returns-clause-altered
returns-clause-altered g c = tt

pub next-requires : goal.next-requires
next-requires g c =
    record { blocks = λ j told. blocks_same j.units c.args.cursor.now c.loop-bytes.cursor c.loop-bytes.invariant.file (c.requires.blocks j (sym c.loop-bytes.invariant.told ∙ told)) }

pub returns-in_err-next-clause-gathered : goal.returns-in_err-next-clause-gathered
returns-in_err-next-clause-gathered g c = ok_at_err _ c.from_residual.result _ c.from_residual.ensures.1

pub returns-in_err-next-clause-fault : goal.returns-in_err-next-clause-fault
returns-in_err-next-clause-fault g c =
    same_at_err c.from_residual.result (λ (e : DiskFault). (e ≡ Device) ⊎ ((e ≡ Altered) ⊎ (e ≡ Memory))) _ c.from_residual.ensures.1 (device_or _ c.in_err-next.ensures.fault)

pub returns-in_err-next-clause-reads : goal.returns-in_err-next-clause-reads
returns-in_err-next-clause-reads g c =
    let i = c.loop-bytes.invariant in
    reads_at_err c.from_residual.result _ c.from_residual.ensures.1 (reads_behind (seen g.W.World c.args.world.now) i.told i.faults i.edges c.in_err-next.ensures.reads)

pub text-text-requires : goal.text-text-requires
text-text-requires g c = c.in_ok-next.ensures.whole c.if-branch.true

pub overflow_cast-text : goal.overflow_cast-text
overflow_cast-text g c =
    let t = c.in_ok-next.ensures.text c.if-branch.true in
    record_fits (length c.text-text.result.now) (subst (λ (l : List ℕ). length l ≤ longest_record) (sym c.text-text.ensures)
    (within_all _ _ _ longest_record t.short (c.in_ok-next.ensures.file.longest ∙ c.loop-bytes.invariant.file.longest) c.requires.short))

pub push-requires-clause-some : goal.push-requires-clause-some
push-requires-clause-some g c = subst (λ (l : List ℕ). 1 ≤ length l) (sym c.text-text.ensures) (c.in_ok-next.ensures.text c.if-branch.true).some

pub push-requires-clause-short : goal.push-requires-clause-short
push-requires-clause-short g c =
    let t = c.in_ok-next.ensures.text c.if-branch.true in
    subst (λ (l : List ℕ). length l ≤ longest_record) (sym c.text-text.ensures)
    (within_all _ _ _ longest_record t.short (c.in_ok-next.ensures.file.longest ∙ c.loop-bytes.invariant.file.longest) c.requires.short)

pub loop-bytes-smaller : goal.loop-bytes-smaller
loop-bytes-smaller g c = one_fewer c.next.new.self.left c.loop-bytes.cursor.left (c.in_ok-next.ensures.left c.if-branch.true)

pub returns-in_err-push-clause-gathered : goal.returns-in_err-push-clause-gathered
returns-in_err-push-clause-gathered g c = ok_at_err _ c.from_residual-in_err-push.result _ c.from_residual-in_err-push.ensures.1

pub returns-in_err-push-clause-altered : goal.returns-in_err-push-clause-altered
returns-in_err-push-clause-altered g c =
    err_at_err (λ (e : DiskFault). e ≡ Memory) c.from_residual-in_err-push.result _ c.from_residual-in_err-push.ensures.1 (λ e is altered. absurd (memory_altered e is altered))

pub returns-in_err-push-clause-fault : goal.returns-in_err-push-clause-fault
returns-in_err-push-clause-fault g c =
    err_at_err (λ (e : DiskFault). e ≡ Memory) c.from_residual-in_err-push.result (λ (e : DiskFault). (e ≡ Device) ⊎ ((e ≡ Altered) ⊎ (e ≡ Memory))) c.from_residual-in_err-push.ensures.1
    (λ e is. inr (inr is))

pub returns-in_err-push-clause-reads : goal.returns-in_err-push-clause-reads
returns-in_err-push-clause-reads g c =
    let i = c.loop-bytes.invariant in
    plain_at_err (λ (e : DiskFault). e ≡ Memory) c.from_residual-in_err-push.result c.from_residual-in_err-push.ensures.1 memory_device
    (reads_behind (seen g.W.World c.args.world.now) i.told i.faults i.edges c.in_ok-next.ensures.reads)

pub returns-clause-reads : goal.returns-clause-reads
returns-clause-reads g c =
    let i = c.loop-bytes.invariant in
    reads_at_ok _ (reads_behind (seen g.W.World c.args.world.now) i.told i.faults i.edges c.in_ok-next.ensures.reads)
