use Rattle.std.proofs.Common.{◌≡◌, ◌∙◌, ◌≤◌, ℕ, List, length, sym, ap, subst, arith, ◌*◌}
use Rattle.std.specs.Prelude.{IfSome}
use Rattle.cms_edf.proofs.Exits.{err_at_err, ok_at_err}
use Rattle.cms_disk.specs.declared.fault.DiskFault.TheVariants.{Memory}
use Rattle.cms_fields.specs.Limits.{most_bytes}
use Rattle.cms_records.specs.Pieces.{RecordState}
use Rattle.cms_disk.specs.Cursors.{AreOn}
use Rattle.cms_disk.proofs.NextSteps.{reading_first, size_fits, some_size}
use Rattle.cms_disk.proofs.cursor.Cursor.new.Goals as goal
use Rattle.cms_disk.proofs.cursor.Cursor.new.Goals.{in-F, in-V}

pub returns-in_err-to_vec-clause-first : goal.returns-in_err-to_vec-clause-first
returns-in_err-to_vec-clause-first c = ok_at_err _ c.from_residual.result _ c.from_residual.ensures.1

pub returns-in_err-to_vec-clause-fault : goal.returns-in_err-to_vec-clause-fault
returns-in_err-to_vec-clause-fault c = err_at_err _ c.from_residual.result (λ e. e ≡ Memory) c.from_residual.ensures.1 (λ e is. is)

pub returns-in_err-vec-clause-first : goal.returns-in_err-vec-clause-first
returns-in_err-vec-clause-first c = ok_at_err _ c.from_residual-in_err-vec.result _ c.from_residual-in_err-vec.ensures.1

pub returns-in_err-vec-clause-fault : goal.returns-in_err-vec-clause-fault
returns-in_err-vec-clause-fault c = err_at_err _ c.from_residual-in_err-vec.result (λ e. e ≡ Memory) c.from_residual-in_err-vec.ensures.1 (λ e is. is)

pub returns-in_err-new-clause-first : goal.returns-in_err-new-clause-first
returns-in_err-new-clause-first c = ok_at_err _ c.from_residual-in_err-new.result _ c.from_residual-in_err-new.ensures.1

pub returns-in_err-new-clause-fault : goal.returns-in_err-new-clause-fault
returns-in_err-new-clause-fault c = err_at_err _ c.from_residual-in_err-new.result (λ e. e ≡ Memory) c.from_residual-in_err-new.ensures.1 (λ e is. is)

pub returns-clause-fault : goal.returns-clause-fault
returns-clause-fault c = tt

pub overflow_cast-size : goal.overflow_cast-size
overflow_cast-size c = size_fits c.bytes-size.result c.bytes-size.ensures.most

pub new-requires-clause-fixed : goal.new-requires-clause-fixed
new-requires-clause-fixed c =
    elim c.match-info.branch [
      | in-F w ↦ rw w.fixed-is (c.requires.fixed w.in-F.is, omega arith)
      | in-V w ↦ rw w.fixed-is tt
    ]

pub new-requires-clause-longest : goal.new-requires-clause-longest
new-requires-clause-longest c = c.requires.short

pub invariant_of-result : goal.invariant_of-result
invariant_of-result c =
    let a = c.args in
    let there : c.in_ok-to_vec.field-0.items ≡ a.leaves.now = c.in_ok-to_vec.ensures.items_if_clones_equal (λ x y e. e) in
    let lengths : IfSome c.match-info.fixed (λ n. (1 ≤ n) × (n ≤ a.info.now.length)) = elim c.match-info.branch [
      | in-F w ↦ rw w.fixed-is (c.requires.fixed w.in-F.is, omega arith)
      | in-V w ↦ rw w.fixed-is tt
    ] in
    record {
      reading = reading_first a.unit.number a.unit.blocks a.bsize c.bytes-size.result a.info.now.count a.info.now.length c.in_ok-to_vec.field-0.items c.in_ok-vec.field-0.items c.match-info.fixed
          c.in_ok-new.field-0 c.in_ok-new.ensures (sym c.in_ok-vec.field-0.ok.0 ∙ (c.in_ok-vec.ensures.len ∙ c.bytes-size.ensures.value)) lengths c.requires.short
          (subst (AreOn a.unit.blocks) (sym there) c.requires.leaves) c.bytes-size.ensures.value (some_size c.bytes-size.result a.bsize c.bytes-size.ensures.value c.bytes-size.ensures.least)
          (subst (λ (l : List ℕ). length l * a.bsize ≤ most_bytes) (sym there) c.requires.few);
      longest = sym (ap (λ (b : RecordState). b.longest) c.in_ok-new.ensures);
    }
