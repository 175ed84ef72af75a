use Rattle.std.proofs.Common.{◌≡◌, ℕ, ◌/◌, length, List, refl, sym, ◌∙◌, ap, arith}
use Rattle.std.proofs.lemmas.List.{length-replicate}
use Rattle.std.proofs.lemmas.List.Elements.{All-weaker}
use Rattle.cms_model.specs.Sizes.{levels}
use Rattle.cms_tree.specs.Tiers.{lowest}
use Rattle.cms_tree.specs.Climbs.{HasSize}
use Rattle.cms_tree.specs.Resumes.{IsClear}
use Rattle.cms_tree.proofs.ClimbBlocks.{some_fan, some_pointer}
use Rattle.cms_tree.proofs.ClimbSteps.{zeros_stand}
use Rattle.cms_tree.proofs.BuiltTrees.{fan_wide}
use Rattle.cms_tree.proofs.Exits.{ok_at_err}
use Rattle.cms_tree.proofs.climb.Climb.new.Goals as goal

pub returns : goal.returns
returns c =
    let a = c.args in
    let levels' = c.in_ok-levels.levels.items in
    let clear = c.in_ok-levels.ensures.clear in
    let count : length levels' ≡ levels (a.bsize / a.psize) a.leaves =
    c.in_ok-levels.ensures.count ∙ c.shape.ensures.levels ∙ (rw (c.bytes.ensures.value, c.from.ensures) refl) in
    record {
      bsize_is = refl;
      psize_is = refl;
      count_is = refl;
      added_is = refl;
      climbs = λ leaves marks fresh plan long.
          record { plan = plan; count = sym long; stand = λ some. zeros_stand a.bsize a.psize marks (length leaves) fresh (lowest 0 leaves) levels' (some_fan a.bsize a.psize plan.size plan.pointer) refl refl clear };
      held = record {
        levels = count;
        blocks = All-weaker (IsClear a.bsize) (HasSize a.bsize)
            (λ level zeros. ap (λ (bytes : List ℕ). length bytes) zeros.0 ∙ length-replicate a.bsize 0) levels' clear;
      };
    }

pub nonzero_div-fan : goal.nonzero_div-fan
nonzero_div-fan c = rw c.from.ensures (some_pointer c.args.psize c.requires.psize)

pub shape-requires-clause-some : goal.shape-requires-clause-some
shape-requires-clause-some c = c.requires.some

pub shape-requires-clause-wide : goal.shape-requires-clause-wide
shape-requires-clause-wide c = rw (c.bytes.ensures.value, c.from.ensures) (fan_wide c.args.bsize c.args.psize c.bytes.ensures.size c.requires.psize)

pub returns-in_err-levels : goal.returns-in_err-levels
returns-in_err-levels c = ok_at_err _ c.from_residual.result _ c.from_residual.ensures.1

pub invariant_of-result : goal.invariant_of-result
invariant_of-result c =
    let a = c.args in
    record {
      size = c.bytes.ensures.size;
      pointer = c.requires.psize;
      some = c.requires.some;
      few = c.ranges.leaves.fits;
      added = omega arith;
      held = record {
        levels = c.in_ok-levels.ensures.count ∙ (c.shape.ensures.levels ∙ (rw (c.bytes.ensures.value, c.from.ensures) refl));
        blocks = All-weaker (IsClear a.bsize) (HasSize a.bsize) (λ level zeros. ap (λ (bytes : List ℕ). length bytes) zeros.0 ∙ length-replicate a.bsize 0) c.in_ok-levels.levels.items c.in_ok-levels.ensures.clear;
      };
    }
