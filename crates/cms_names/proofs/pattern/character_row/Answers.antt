use Rattle.std.proofs.Common.{◌≡◌, ◌+◌, refl, arith, false, length-set, ◌∙◌, ap, slice_set}
use Rattle.std.specs.Prelude.{slice_index_or, ◌&&◌}
use Rattle.cms_names.specs.Patterns.{is_wanted}
use Rattle.cms_names.proofs.Rows.{characters_none, characters_more, characters_all, and_first, and_second}
use Rattle.cms_names.proofs.pattern.character_row.Goals as goal
use Rattle.cms_names.proofs.pattern.character_row.Goals.{then-is_wanted, else-is_wanted}

pub loop-place-init : goal.loop-place-init
loop-place-init c = record { long = refl; row = characters_none (is_wanted c.args.wanted) c.args.text.now c.args.rests.now _ c.requires refl }

both : (c : goal.Joined-is_wanted) → c.if-is_wanted.row
    ≡ (is_wanted c.args.wanted (slice_index_or c.args.text.now c.loop-place.place 0) && slice_index_or c.args.rests.now (c.loop-place.place + 1) false)
both c = rw (← c.is_wanted.ensures) (elim c.if-is_wanted.branch [
  | then-is_wanted w ↦ w.row-is ∙ and_second _ _ w.if-is_wanted.true
  | else-is_wanted w ↦ w.row-is ∙ and_first _ _ w.if-is_wanted.false
])

pub loop-place-preserved : goal.loop-place-preserved
loop-place-preserved c = record {
  long = length-set _ _ _ ∙ c.loop-place.invariant.long;
  row = characters_more c.loop-place.place (is_wanted c.args.wanted) c.args.text.now c.args.rests.now c.loop-place.row _ c.loop-place-test.true (omega arith)
      (ap (λ b. slice_set c.loop-place.row c.loop-place.place b) (both c)) c.loop-place.invariant.row;
}

pub returns : goal.returns
returns c = characters_all c.loop-place.place (is_wanted c.args.wanted) c.args.text.now c.args.rests.now c.loop-place.row (omega arith) c.loop-place.invariant.row
