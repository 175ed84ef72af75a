use Rattle.std.proofs.Common.{rules, ◌≡◌, ◌∙◌, ◌≤◌, ℕ, List, Bool, true, false, Ok, Err, length, refl, sym, subst, le_of_lt, le_trans, arith}
use Rattle.std.specs.Prelude.{IsTrue}
use Rattle.std.proofs.lemmas.Result.{IfOk-from_err, err_from_is_err_and}
use Rattle.cms_fields.specs.Limits.{longest_record}
use Rattle.cms_journal.specs.Journal.{contents_of}
use Rattle.cms_model.specs.Trees.{image_of}
use Rattle.cms_disk.specs.Cursors.{HandsOut, HasLeft}
use Rattle.cms_edf.proofs.Exits.{reads_at_err, reads_at_ok, reads_behind, reads_so_far, same_at_err}
use Rattle.cms_copyfile.proofs.Passes.{measured_all, measured_first, measured_next, measured_wanted, never_altered, records_all, records_wanted}
use Rattle.cms_copyfile.proofs.SoundMeasures.{never_ended, read_sound}
use Rattle.cms_copyfile.proofs.first_pass.measure_copies.Goals as goal

pub loop-place-init : goal.loop-place-init
loop-place-init g c =
    let none = c.new-measure.ensures.none in
    record {
      to = measured_first (g.W.World.told c.args.world.now) c.args.plan.now c.args.cursor.now c.new-measure.result (c.new-measure.ensures.measured c.args.plan.now.format);
      file = record { unit = refl; total = refl; bsize = refl; leaves = refl; fixed = refl; longest = refl };
      left = omega arith;
      few = omega arith;
      bytes = omega arith;
      capacity = omega arith;
      told = refl;
      faults = omega arith;
      edges = refl;
    }

pub loop-place-preserved : goal.loop-place-preserved
loop-place-preserved g c =
    let l = c.loop-place in
    let first = c.args.cursor.now in
    let next = c.next.new.self in
    let n = c.in_ok-next.ensures in
    let yes = c.if-not-branch.false in
    let a = l.invariant.file in
    let b = n.file in
    let at = a.unit in
    let m = c.measure_copy.ensures in
    let sure : IsTrue c.in_ok-next.field-0 = search rules in
    let fits = n.text sure in
    record {
      to = measured_next (g.W.World.told c.args.world.now) c.args.plan.now first l.cursor next l.place l.measure c.measure_copy.new.measure c.text.result.now l.invariant.to
          (λ j is all has.
          subst (λ (x : Bool). HandsOut (image_of (contents_of j first.unit)) next all (Ok x)) yes
          (subst (λ (u : ℕ). HandsOut (image_of (contents_of j u)) next all (Ok c.in_ok-next.field-0)) at
          (n.records j (l.invariant.told ∙ is) all (subst (λ (u : ℕ). HasLeft (image_of (contents_of j u)) l.cursor all) (sym at) has))))
          c.text.ensures (subst (λ (t : List ℕ). (1 ≤ length t) × (length t ≤ longest_record)) (sym c.text.ensures) (fits.some, omega (arith, fits.short, a.longest, b.longest, c.requires.short)))
          m.measured;
      file = record { unit = b.unit ∙ a.unit; total = b.total ∙ a.total; bsize = b.bsize ∙ a.bsize; leaves = b.leaves ∙ a.leaves; fixed = b.fixed ∙ a.fixed; longest = b.longest ∙ a.longest };
      left = omega (arith, n.left sure, l.invariant.left);
      few = m.few;
      bytes = m.bytes;
      capacity = omega (arith, l.invariant.capacity, m.capacity);
      told = n.reads.told ∙ l.invariant.told;
      faults = omega (arith, n.reads.faults, l.invariant.faults);
      edges = n.reads.edges ∙ l.invariant.edges;
    }

pub returns-in_err-next-clause-never : goal.returns-in_err-next-clause-never
returns-in_err-next-clause-never g c =
    let p = err_from_is_err_and c.from_residual.result c.from_residual.ensures.1 in
    let l = c.loop-place in
    let first = c.args.cursor.now in
    let next = c.next.new.self in
    let at = l.invariant.file.unit in
    rw (p.1, p.2)
    (never_altered (g.W.World.told c.args.world.now) c.args.plan.now first l.cursor next l.place l.measure c.in_err-next.field-0.0 l.invariant.to
    (λ j is all has.
    subst (λ (u : ℕ). HandsOut (image_of (contents_of j u)) next all (Err c.in_err-next.field-0.0)) at
    (c.in_err-next.ensures.records j (l.invariant.told ∙ is) all (subst (λ (u : ℕ). HasLeft (image_of (contents_of j u)) l.cursor all) (sym at) has))))

-- a record is there for each that is wanted
pub returns-then-not-branch-clause-sound : goal.returns-then-not-branch-clause-sound
returns-then-not-branch-clause-sound g c = λ form p.
    let l = c.loop-place in
    let off = c.if-not-branch.true in
    absurd (never_ended form c.args.plan.now c.args.cursor.now.left l.cursor.left l.place c.in_ok-next.field-0 p l.invariant.left (omega arith) c.in_ok-next.ensures.some off)

pub returns-clause-sound : goal.returns-clause-sound
returns-clause-sound g c = λ form p.
    let l = c.loop-place in
    let is : l.place ≡ c.args.plan.now.wanted = omega arith in
    read_sound (g.W.World.told c.args.world.now) c.args.plan.now c.args.cursor.now l.cursor l.place l.measure form c.args.cursor.now.left l.invariant.to is p

pub returns-in_err-next-clause-measured : goal.returns-in_err-next-clause-measured
returns-in_err-next-clause-measured g c = IfOk-from_err c.from_residual.result _ c.from_residual.ensures.0

pub returns-in_err-next-clause-records : goal.returns-in_err-next-clause-records
returns-in_err-next-clause-records g c = IfOk-from_err c.from_residual.result _ c.from_residual.ensures.0

pub returns-in_err-next-clause-count : goal.returns-in_err-next-clause-count
returns-in_err-next-clause-count g c = IfOk-from_err c.from_residual.result _ c.from_residual.ensures.0

pub returns-in_err-next-clause-bytes : goal.returns-in_err-next-clause-bytes
returns-in_err-next-clause-bytes g c = IfOk-from_err c.from_residual.result _ c.from_residual.ensures.0

pub returns-in_err-next-clause-sound : goal.returns-in_err-next-clause-sound
returns-in_err-next-clause-sound g c = λ form p. IfOk-from_err c.from_residual.result _ c.from_residual.ensures.0

pub returns-in_err-next-clause-fault : goal.returns-in_err-next-clause-fault
returns-in_err-next-clause-fault g c = same_at_err c.from_residual.result _ c.in_err-next.field-0.0 c.from_residual.ensures.1 c.in_err-next.ensures.fault

pub returns-in_err-next-clause-capacity : goal.returns-in_err-next-clause-capacity
returns-in_err-next-clause-capacity g c = c.loop-place.invariant.capacity

pub returns-in_err-next-clause-reads : goal.returns-in_err-next-clause-reads
returns-in_err-next-clause-reads g c =
    let l = c.loop-place.invariant in
    reads_at_err c.from_residual.result _ c.from_residual.ensures.1 (reads_behind _ l.told l.faults l.edges c.in_err-next.ensures.reads)

-- there is no record more
pub returns-then-not-branch-clause-measured : goal.returns-then-not-branch-clause-measured
returns-then-not-branch-clause-measured g c =
    let l = c.loop-place in
    let first = c.args.cursor.now in
    let next = c.next.new.self in
    let at = l.invariant.file.unit in
    measured_all (g.W.World.told c.args.world.now) c.args.plan.now first l.cursor next l.place l.measure l.invariant.to (le_of_lt c.loop-place-test.true)
    (λ j is all has.
    subst (λ (x : Bool). HandsOut (image_of (contents_of j first.unit)) next all (Ok x)) c.if-not-branch.true
    (subst (λ (u : ℕ). HandsOut (image_of (contents_of j u)) next all (Ok c.in_ok-next.field-0)) at
    (c.in_ok-next.ensures.records j (l.invariant.told ∙ is) all (subst (λ (u : ℕ). HasLeft (image_of (contents_of j u)) l.cursor all) (sym at) has))))

pub returns-then-not-branch-clause-records : goal.returns-then-not-branch-clause-records
returns-then-not-branch-clause-records g c =
    let l = c.loop-place in
    let first = c.args.cursor.now in
    let next = c.next.new.self in
    let at = l.invariant.file.unit in
    records_all (g.W.World.told c.args.world.now) c.args.plan.now first l.cursor next l.place l.measure l.invariant.to (le_of_lt c.loop-place-test.true)
    (λ j is all has.
    subst (λ (x : Bool). HandsOut (image_of (contents_of j first.unit)) next all (Ok x)) c.if-not-branch.true
    (subst (λ (u : ℕ). HandsOut (image_of (contents_of j u)) next all (Ok c.in_ok-next.field-0)) at
    (c.in_ok-next.ensures.records j (l.invariant.told ∙ is) all (subst (λ (u : ℕ). HasLeft (image_of (contents_of j u)) l.cursor all) (sym at) has))))

pub returns-then-not-branch-clause-count : goal.returns-then-not-branch-clause-count
returns-then-not-branch-clause-count g c = le_trans c.loop-place.invariant.few (le_of_lt c.loop-place-test.true)

pub returns-then-not-branch-clause-capacity : goal.returns-then-not-branch-clause-capacity
returns-then-not-branch-clause-capacity g c = c.loop-place.invariant.capacity

pub returns-then-not-branch-clause-reads : goal.returns-then-not-branch-clause-reads
returns-then-not-branch-clause-reads g c =
    let l = c.loop-place.invariant in
    reads_at_ok _ (reads_behind _ l.told l.faults l.edges c.in_ok-next.ensures.reads)

pub measure_copy-requires-clause-few : goal.measure_copy-requires-clause-few
measure_copy-requires-clause-few g c = c.loop-place.invariant.few

pub measure_copy-requires-clause-bytes : goal.measure_copy-requires-clause-bytes
measure_copy-requires-clause-bytes g c = c.loop-place.invariant.bytes

-- all that are wanted were read
pub returns-clause-measured : goal.returns-clause-measured
returns-clause-measured g c =
    let l = c.loop-place in
    let is : l.place ≡ c.args.plan.now.wanted = omega arith in
    measured_wanted (g.W.World.told c.args.world.now) c.args.plan.now c.args.cursor.now l.cursor l.place l.measure l.invariant.to is

pub returns-clause-records : goal.returns-clause-records
returns-clause-records g c =
    let l = c.loop-place in
    let is : l.place ≡ c.args.plan.now.wanted = omega arith in
    records_wanted (g.W.World.told c.args.world.now) c.args.plan.now c.args.cursor.now l.cursor l.place l.measure l.invariant.to is

pub returns-clause-capacity : goal.returns-clause-capacity
returns-clause-capacity g c = c.loop-place.invariant.capacity

pub returns-clause-reads : goal.returns-clause-reads
returns-clause-reads g c =
    let l = c.loop-place.invariant in
    reads_so_far _ _ _ l.told l.faults l.edges
