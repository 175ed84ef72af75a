use Rattle.std.proofs.Common.{◌≡◌, ℕ, ◌/◌, ◌^◌, ◌≤◌, List, min, length, false, All, refl, sym, ◌∙◌, ap, subst, arith}
use Rattle.std.specs.Vec.{with_items}
use Rattle.std.proofs.lemmas.List.{with_items_is}
use Rattle.std.proofs.lemmas.Bool.{false≢true}
use Rattle.cms_model.specs.Sizes.{levels}
use Rattle.cms_model.proofs.SharedTiers.{up_one}
use Rattle.cms_tree.specs.declared.climb.Level.{Level}
use Rattle.cms_tree.specs.declared.climb.Before.{Before}
use Rattle.cms_tree.specs.Builds.{Child}
use Rattle.cms_tree.specs.Climbs.{IsClimbing}
use Rattle.cms_tree.specs.Resumes.{IsClear, IsResumed}
use Rattle.cms_tree.proofs.BuiltTrees.{fan_wide}
use Rattle.cms_tree.proofs.ClimbSteps.{over_all}
use Rattle.cms_tree.proofs.Resumes.{IsStart, kept_room, over_fewer, resumed}
use Rattle.cms_tree.specs.declared.types.ResumeFault.TheVariants.{Device}
use Rattle.cms_tree.proofs.ClimbBlocks.{some_pointer}
use Rattle.cms_tree.proofs.Exits.{err_at_err, memory_resumes, ok_at_err, reads_none}
use Rattle.cms_tree.proofs.climb.Climb.resume.Given as given
use Rattle.cms_tree.proofs.climb.Climb.resume.Goals as goal
use Rattle.cms_tree.proofs.climb.Climb.resume.Goals.{After-deref_mut, In-Ok}

-- so many levels have blocks that stand there
both_levels : (g : given.Over) (c : After-deref_mut g) → c.min.result ≡ min (levels (c.args.bsize / c.args.psize) c.args.old_leaves) (levels (c.args.bsize / c.args.psize) c.args.leaves)
both_levels g c =
    let a = c.args in
    let fan = c.bytes.result / c.from.result in
    let fan_is : fan ≡ a.bsize / a.psize = rw (c.bytes.ensures.value, c.from.ensures) refl in
    c.min.ensures ∙ ap (λ (n : ℕ). min n c.shape-height.result.levels) c.shape.ensures.levels ∙ ap (min (levels fan a.old_leaves)) c.shape-height.ensures.levels
    ∙ ap (λ (n : ℕ). min (levels n a.old_leaves) (levels n a.leaves)) fan_is

all_levels : (g : given.Over) (c : After-deref_mut g) → length c.deref_mut.result.now ≡ levels (c.args.bsize / c.args.psize) c.args.leaves
all_levels g c =
    let a = c.args in
    let fan = c.bytes.result / c.from.result in
    let fan_is : fan ≡ a.bsize / a.psize = rw (c.bytes.ensures.value, c.from.ensures) refl in
    let long : length c.in_ok-levels.levels.items ≡ levels (a.bsize / a.psize) a.leaves = c.in_ok-levels.ensures.count ∙ c.shape-height.ensures.levels ∙ ap (λ (n : ℕ). levels n a.leaves) fan_is in
    ap (λ (l : List Level). length l) c.deref_mut.ensures.value ∙ long

pub resume_levels-requires-clause-clear : goal.resume_levels-requires-clause-clear
resume_levels-requires-clause-clear g c = subst (All (IsClear c.args.bsize)) (sym c.deref_mut.ensures.value) c.in_ok-levels.ensures.clear

pub resume_levels-requires-clause-fewer : goal.resume_levels-requires-clause-fewer
resume_levels-requires-clause-fewer g c =
    let here = (goal.at.resume_levels-requires-clause-fewer g c).After-deref_mut in
    let both = both_levels g here in
    let all = all_levels g here in
    omega arith

pub resume_levels-requires-clause-pointers : goal.resume_levels-requires-clause-pointers
resume_levels-requires-clause-pointers g c =
    let a = c.args in
    let fan = a.bsize / a.psize in
    let wide : 2 ≤ fan = fan_wide a.bsize a.psize c.bytes.ensures.size c.requires.psize in
    let both = both_levels g (goal.at.resume_levels-requires-clause-pointers g c).After-deref_mut in
    let fewer = over_fewer fan c.min.result (levels fan a.old_leaves) a.old_leaves (omega arith) in
    let all = over_all fan a.old_leaves (omega arith) in
    let enough = c.requires.pointers in
    omega arith

pub resume_levels-requires-clause-low : goal.resume_levels-requires-clause-low
resume_levels-requires-clause-low g c =
    let a = c.args in
    let fan = a.bsize / a.psize in
    let wide : 2 ≤ fan = fan_wide a.bsize a.psize c.bytes.ensures.size c.requires.psize in
    let both = both_levels g (goal.at.resume_levels-requires-clause-low g c).After-deref_mut in
    subst (λ (n : ℕ). a.kept ≤ fan ^ n) (sym both) (kept_room fan a.old_leaves a.leaves a.kept wide c.ranges.old_leaves.fits c.ranges.leaves.fits c.requires.kept (omega arith))

-- it stands as after the kept leaves
stands : (g : given.Over) (c : In-Ok g) → IsResumed (g.W.World.told c.args.world.now) c.args.unit c.args.bsize c.args.psize c.args.old_leaves c.args.old_pointers.now c.args.last c.args.mark.now c.args.kept c.args.leaves
    (record { bsize = c.args.bsize; psize = c.args.psize; count = c.args.leaves; added = c.args.kept; levels = c.resume_levels.new.levels })
stands g c =
    let a = c.args in
    let fan = a.bsize / a.psize in
    let here = (goal.at.returns-in-Ok-clause-resumed g c).After-deref_mut in
    let wide : 2 ≤ fan = fan_wide a.bsize a.psize c.bytes.ensures.size c.requires.psize in
    let before : Before = record { pointers = a.old_pointers; levels = c.min.result; count = a.old_leaves; kept = a.kept; partly = false; root = c.root_of.result; last = a.mark.now.last } in
    let child : ℕ → Child = λ block. record { block = block; mark = record { last = a.mark.now.last; place = 0 } } in
    let start : IsStart fan a.old_leaves a.old_pointers.now a.last a.mark.now a.kept a.leaves before = record {
      pointers_are = refl;
      levels_are = both_levels g here;
      kept_is = refl;
      partly_is = refl;
      root_is = ap child c.root_of.ensures;
    } in
    resumed (g.W.World.told a.world.now) a.unit a.bsize a.psize a.old_leaves a.old_pointers.now a.last a.mark.now a.kept a.leaves before c.resume_levels.new.levels c.in-Ok.field-0 (omega arith) start
    (c.resume_levels.auto.levels ∙ all_levels g here) (c.in-Ok.ensures.resumes 1 a.old_leaves (omega arith) (up_one a.old_leaves))

-- the levels in the vector are those that were passed
items : (g : given.Over) (c : In-Ok g) → (with_items c.in_ok-levels.levels c.resume_levels.new.levels).items ≡ c.resume_levels.new.levels
items g c = with_items_is c.in_ok-levels.levels c.resume_levels.new.levels (c.resume_levels.auto.levels ∙ c.deref_mut.ensures.len)

pub invariant_of-result : goal.invariant_of-result
invariant_of-result g c =
    let a = c.args in
    let s = stands g c in
    subst (λ (l : List Level). IsClimbing (record { bsize = a.bsize; psize = a.psize; count = a.leaves; added = a.kept; levels = l })) (sym (items g c))
    (record {
      size = c.bytes.ensures.size;
      pointer = c.requires.psize;
      some = omega arith;
      few = c.ranges.leaves.fits;
      added = omega arith;
      held = s.held;
    })

pub returns-in-Ok-clause-resumed : goal.returns-in-Ok-clause-resumed
returns-in-Ok-clause-resumed g c =
    let a = c.args in
    subst (λ (l : List Level). IsResumed (g.W.World.told a.world.now) a.unit a.bsize a.psize a.old_leaves a.old_pointers.now a.last a.mark.now a.kept a.leaves
    (record { bsize = a.bsize; psize = a.psize; count = a.leaves; added = a.kept; levels = l })) (sym (items g c)) (stands g c)

pub nonzero_div-fan : goal.nonzero_div-fan
nonzero_div-fan g c = rw c.from.ensures (some_pointer c.args.psize c.requires.psize)

pub returns-in_err-levels-clause-resumed : goal.returns-in_err-levels-clause-resumed
returns-in_err-levels-clause-resumed g c = ok_at_err _ c.from_residual.result _ c.from_residual.ensures.1

pub returns-in_err-levels-clause-reads : goal.returns-in_err-levels-clause-reads
returns-in_err-levels-clause-reads g c =
    reads_none _ c.from_residual.result (err_at_err _ c.from_residual.result (λ e. e ≡ Device → ⊥) c.from_residual.ensures.1 (λ e is device. memory_resumes e is device))

pub shape-requires-clause-some : goal.shape-requires-clause-some
shape-requires-clause-some g c = c.requires.some

pub shape-height-requires-clause-wide : goal.shape-height-requires-clause-wide
shape-height-requires-clause-wide g c = rw (c.bytes.ensures.value, c.from.ensures) (fan_wide c.args.bsize c.args.psize c.bytes.ensures.size c.requires.psize)

pub shape-requires-clause-wide : goal.shape-requires-clause-wide
shape-requires-clause-wide g c = rw (c.bytes.ensures.value, c.from.ensures) (fan_wide c.args.bsize c.args.psize c.bytes.ensures.size c.requires.psize)

pub resume_levels-requires-clause-size : goal.resume_levels-requires-clause-size
resume_levels-requires-clause-size g c = c.bytes.ensures.size

pub resume_levels-requires-clause-psize : goal.resume_levels-requires-clause-psize
resume_levels-requires-clause-psize g c = c.requires.psize

pub resume_levels-requires-clause-kept : goal.resume_levels-requires-clause-kept
resume_levels-requires-clause-kept g c = c.requires.kept

pub resume_levels-requires-clause-partly : goal.resume_levels-requires-clause-partly
resume_levels-requires-clause-partly g c = λ is. absurd (false≢true is)

pub resume_levels-requires-clause-blocks : goal.resume_levels-requires-clause-blocks
resume_levels-requires-clause-blocks g c = c.requires.blocks

pub returns-in-Ok-clause-reads : goal.returns-in-Ok-clause-reads
returns-in-Ok-clause-reads g c =
    let e = c.in-Ok.ensures in
    record { told = e.told; faults = e.counts.cause.later; edges = e.counts.edges; cause = tt }

pub returns-in-Err-clause-reads : goal.returns-in-Err-clause-reads
returns-in-Err-clause-reads g c =
    let e = c.in-Err.ensures in
    record { told = e.told; faults = e.counts.cause.later; edges = e.counts.edges; cause = λ is. e.counts.cause.failed }
