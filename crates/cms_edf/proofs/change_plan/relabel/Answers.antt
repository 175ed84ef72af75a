use Rattle.std.proofs.Common.{length, ap, sym, ◌∙◌, arith, ◌≡◌, drop, refl, subst}
use Rattle.cms_edf.proofs.Exits.{ok_at_err}
use Rattle.std.proofs.lemmas.List.{take_at}
use Rattle.cms_journal.specs.Journal.{IsBlockSize}
use Rattle.cms_journal.proofs.Sizes.{block_bounds}
use Rattle.cms_fields.specs.Labels.{with_label}
use Rattle.cms_held.specs.HeldVolumes.{Held}
use Rattle.cms_edf.proofs.change_plan.relabel.Goals as goal

-- a block has room for a label
pub write_label-requires : goal.write_label-requires
write_label-requires c =
    let long = c.held.invariant.kept.label_long in
    let copy = c.in_ok-bytes.ensures.items_if_clones_equal (λ x y e. e) in
    let whole = ap length (c.as_mut_slice.ensures.value ∙ (copy ∙ c.deref.ensures.value)) in
    let low = (block_bounds c.held.inside.bsize c.held.invariant.kept.sized).0 in
    omega (arith, long, low, whole)

pub returns-in_err-bytes-clause-label : goal.returns-in_err-bytes-clause-label
returns-in_err-bytes-clause-label c = ok_at_err _ c.from_residual.result _ c.from_residual.ensures.1

pub returns-in_err-bytes-clause-bytes : goal.returns-in_err-bytes-clause-bytes
returns-in_err-bytes-clause-bytes c = ok_at_err _ c.from_residual.result _ c.from_residual.ensures.1

pub returns-in_err-bytes-clause-long : goal.returns-in_err-bytes-clause-long
returns-in_err-bytes-clause-long c = ok_at_err _ c.from_residual.result _ c.from_residual.ensures.1

pub returns-in_err-bytes-clause-size : goal.returns-in_err-bytes-clause-size
returns-in_err-bytes-clause-size c = ok_at_err _ c.from_residual.result _ c.from_residual.ensures.1

pub returns-clause-label : goal.returns-clause-label
returns-clause-label c = refl

pub returns-clause-bytes : goal.returns-clause-bytes
returns-clause-bytes c =
    let bytes = c.in_ok-bytes.bytes in
    let new = c.write_label.new.into in
    let copy = c.in_ok-bytes.ensures.items_if_clones_equal (λ x y e. e) in
    let all : length new ≡ bytes.len = c.write_label.auto.into ∙ (ap length c.as_mut_slice.ensures.value ∙ sym bytes.ok.0) in
    take_at new (drop (length new) bytes.items) bytes.len all
    ∙ (c.write_label.ensures.written ∙ ap (with_label c.args.label) (c.as_mut_slice.ensures.value ∙ (copy ∙ (c.deref.ensures.value ∙ ap (λ (h : Held). h.volume.label_bytes) c.held.view_is))))

pub returns-clause-long : goal.returns-clause-long
returns-clause-long c =
    let bytes = c.in_ok-bytes.bytes in
    let new = c.write_label.new.into in
    let copy = c.in_ok-bytes.ensures.items_if_clones_equal (λ x y e. e) in
    let all : length new ≡ bytes.len = c.write_label.auto.into ∙ (ap length c.as_mut_slice.ensures.value ∙ sym bytes.ok.0) in
    ap length (take_at new (drop (length new) bytes.items) bytes.len all)
    ∙ (c.write_label.auto.into ∙ (ap length (c.as_mut_slice.ensures.value ∙ (copy ∙ c.deref.ensures.value)) ∙ (c.held.invariant.kept.label_long ∙ ap (λ (h : Held). h.volume.disk.bsize) c.held.view_is)))

pub returns-clause-size : goal.returns-clause-size
returns-clause-size c = subst (λ (h : Held). IsBlockSize h.volume.disk.bsize) c.held.view_is c.held.invariant.kept.sized
