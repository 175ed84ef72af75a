use Rattle.std.proofs.Common.{◌≡◌, ◌+◌, ◌-◌, refl, arith, false, length-set, ◌∙◌, ap, slice_set}
use Rattle.std.specs.Prelude.{slice_index_or, ◌||◌}
use Rattle.cms_names.proofs.Rows.{suffixes_none, suffixes_more, suffixes_all, or_first, or_second}
use Rattle.cms_names.proofs.pattern.suffix_row.Goals as goal
use Rattle.cms_names.proofs.pattern.suffix_row.Goals.{then-row-place, else-row-place}

pub loop-place-init : goal.loop-place-init
loop-place-init c = record { long = c.told-rests; row = suffixes_none _ c.args.text.now c.args.rests.now refl }

either : (c : goal.Joined-row-place) → c.if-row-place.row
    ≡ (slice_index_or c.loop-place.row (c.loop-place.place - 1) false || slice_index_or c.loop-place.row (c.loop-place.place - 1 + 1) false)
either c = elim c.if-row-place.branch [
  | then-row-place w ↦ w.row-is ∙ or_first _ _ w.if-row-place.true
  | else-row-place w ↦ w.row-is ∙ or_second _ _ w.if-row-place.false
]

pub loop-place-preserved : goal.loop-place-preserved
loop-place-preserved c =
    let place : c.loop-place.place ≡ c.loop-place.place - 1 + 1 = omega arith in
    record {
      long = length-set _ _ _ ∙ c.loop-place.invariant.long;
      row = suffixes_more c.loop-place.place (c.loop-place.place - 1) c.args.text.now c.args.rests.now c.loop-place.row _ place (omega arith) (omega arith)
          (ap (λ b. slice_set c.loop-place.row (c.loop-place.place - 1) b) (either c)) c.loop-place.invariant.row;
    }

pub returns : goal.returns
returns c = suffixes_all c.loop-place.place c.args.text.now c.args.rests.now c.loop-place.row (omega arith) c.loop-place.invariant.row
