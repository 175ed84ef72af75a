use Rattle.std.proofs.Common.{◌≡◌, ℕ, suc, ◌+◌, ◌-◌, ◌/◌, ◌≤◌, List, [], ◌∷◌, ◌++◌, length, take, drop, Option, IfSome, Some, None, Ok, Err, All, refl, sym, ◌∙◌, ap, subst, arith}
use Rattle.std.proofs.lemmas.Result.{err_from_is_err_and}
use Rattle.std.proofs.lemmas.List.{drop-drop, length-drop, length-take, take_all}
use Rattle.std.proofs.lemmas.List.Elements.{All-head, All-tail, All-cons, All-take, All-drop}
use Rattle.cms_journal.specs.Journal.{HasBlock, IsWritable}
use Rattle.cms_journal.specs.Told.{Told}
use Rattle.cms_fields.specs.Numbers.{up}
use Rattle.cms_tree.specs.declared.climb.Level.{Level}
use Rattle.cms_tree.specs.declared.climb.Child.{Child}
use Rattle.cms_tree.specs.Levels.{over_count}
use Rattle.cms_tree.specs.Kept.{kept_here, kept_above}
use Rattle.cms_tree.specs.Tiers.{tier_above, IsTier, IsParent, Stand, Lifts, Rises}
use Rattle.cms_tree.specs.Climbs.{AddsOwn, HasSize, HasEach, numbers_behind}
use Rattle.cms_tree.proofs.ClimbBlocks.{div_mono, some_fan, tier_next}
use Rattle.cms_tree.proofs.ClimbSteps.{rises_nothing, rises_no_more, rises_on, rises_failed, units_kept}
use Rattle.cms_model.proofs.Members.{In-left, In-right}
use Rattle.cms_tree.proofs.Own.{own_none, own_some, own_twice, own_grown}
use Rattle.cms_tree.proofs.Exits.{counts_err, counts_none, counts_ok, counts_on}
use Rattle.cms_tree.proofs.Sums.{same_most}
use Rattle.cms_tree.proofs.climb.+rise.Goals as goal

pub returns-in_default-clause-rises : goal.returns-in_default-clause-rises
returns-in_default-clause-rises g t c = λ leaves marks numbers node tier es fresh_is is_tier stand is_child.
    let a = c.args in
    let none : a.levels.now ≡ [] = empty a.levels.now c.in_default.ensures.cases in
    subst (λ (l : List Level). Rises (g.W.World.told a.world.now) (g.W.World.told a.world.now) a.unit a.bsize a.psize leaves marks numbers node tier es a.child.now l l (Ok tt)) (sym none)
    (rises_nothing (g.W.World.told a.world.now) a.unit a.bsize a.psize leaves marks numbers node tier es a.child.now)
  where
    empty : (l : List Level) → length l ≡ 0 → l ≡ []
    empty [] is = refl
    empty (x ∷ l) is = absurd (omega arith)

pub returns-in_default-clause-own : goal.returns-in_default-clause-own
returns-in_default-clause-own g t c = λ kept low.
    own_none (g.W.World.told c.args.world.now) c.args.unit c.args.bsize
    (numbers_behind (c.args.bsize / c.args.psize) (length c.args.levels.now) c.args.child.now.count kept c.args.fresh.now)

-- what a level writes is written of it and those above
lifted_own : (old new : Told) (u bsize fan : ℕ) (level : Level) (above levels : List Level) (child : Child) (fresh : List ℕ) → levels ≡ level ∷ above
    → ((kept : ℕ) → kept ≤ child.nth → AddsOwn old new u bsize (drop (kept / fan) (take (up child.count fan) fresh)))
    → (kept : ℕ) → kept ≤ child.nth → AddsOwn old new u bsize (numbers_behind fan (length levels) child.count kept fresh)
unfolding numbers_behind
lifted_own old new u bsize fan level above levels child fresh whole own kept low =
    let here = drop (kept / fan) (take (up child.count fan) fresh) in
    let more = numbers_behind fan (length above) (up child.count fan) (kept / fan) (drop (up child.count fan) fresh) in
    subst (λ (l : List Level). AddsOwn old new u bsize (numbers_behind fan (length l) child.count kept fresh)) (sym whole)
    (own_some old new u bsize here (here ++ more) (λ n is_in. In-left n here more is_in) (own kept low))

pub returns-in_err-parent-clause-own : goal.returns-in_err-parent-clause-own
returns-in_err-parent-clause-own g t c =
    let a = c.args in
    lifted_own (g.W.World.told a.world.now) (g.W.World.told c.lift.new.world) a.unit a.bsize (a.bsize / a.psize) c.in-Some.level.now c.in-Some.above.now a.levels.now a.child.now a.fresh.now
    c.in-Some.ensures.cases.0 c.lift.ensures.own

pub returns-in-None-clause-own : goal.returns-in-None-clause-own
returns-in-None-clause-own g t c =
    let a = c.args in
    lifted_own (g.W.World.told a.world.now) (g.W.World.told c.lift.new.world) a.unit a.bsize (a.bsize / a.psize) c.in-Some.level.now c.in-Some.above.now a.levels.now a.child.now a.fresh.now
    c.in-Some.ensures.cases.0 c.lift.ensures.own

pub lift-requires-clause-level : goal.lift-requires-clause-level
lift-requires-clause-level g t c = All-head (HasSize c.args.bsize) c.in-Some.level.now c.in-Some.above.now (subst (All (HasSize c.args.bsize)) c.in-Some.ensures.cases.0 c.requires.levels)

pub returns-in_err-parent-clause-rises : goal.returns-in_err-parent-clause-rises
returns-in_err-parent-clause-rises g t c = λ leaves marks numbers node tier es fresh_is is_tier stand is_child.
    let a = c.args in
    let p = err_from_is_err_and c.from_residual.result c.from_residual.ensures.1 in
    let whole = c.in-Some.ensures.cases.0 in
    let above = c.in-Some.above.now in
    let tier' = subst (λ (l : List Level). IsTier a.bsize a.psize leaves marks numbers node tier es (length l)) whole is_tier in
    let stand' = subst (λ (l : List Level). Stand a.bsize a.psize marks (length leaves) numbers tier es a.child.now.nth l) whole stand in
    let lifted = c.in_err-parent.ensures.lifts leaves marks numbers node tier es (length above) fresh_is tier' stand'.0 is_child in
    rw p.1 (subst (λ (l : List Level). Rises (g.W.World.told a.world.now) (g.W.World.told c.lift.new.world) a.unit a.bsize a.psize leaves marks numbers node tier es a.child.now l (c.lift.new.level ∷ above)
    (Err p.0)) (sym whole)
    (rises_failed (g.W.World.told a.world.now) (g.W.World.told c.lift.new.world) a.unit a.bsize a.psize leaves marks numbers node tier es a.child.now c.in-Some.level.now c.lift.new.level above
    (c.lift.new.level ∷ above) p.0 lifted))

pub returns-in_err-parent-clause-sizes : goal.returns-in_err-parent-clause-sizes
returns-in_err-parent-clause-sizes g t c =
    All-cons (HasSize c.args.bsize) c.lift.new.level c.in-Some.above.now c.lift.ensures.size
    (All-tail (HasSize c.args.bsize) c.in-Some.level.now c.in-Some.above.now (subst (All (HasSize c.args.bsize)) c.in-Some.ensures.cases.0 c.requires.levels))

pub returns-in-None-clause-sizes : goal.returns-in-None-clause-sizes
returns-in-None-clause-sizes g t c =
    All-cons (HasSize c.args.bsize) c.lift.new.level c.in-Some.above.now c.lift.ensures.size
    (All-tail (HasSize c.args.bsize) c.in-Some.level.now c.in-Some.above.now (subst (All (HasSize c.args.bsize)) c.in-Some.ensures.cases.0 c.requires.levels))

pub rise-requires : goal.rise-requires
rise-requires g t c κs within =
    let a = c.args in
    let whole = c.in-Some.ensures.cases.0 in
    let less = c.in-Some.ensures.cases.1 in
    let above = c.in-Some.above.now in
    let fan = a.bsize / a.psize in
    let parent = c.in-Some-2.parent in
    let p : IsParent fan a.child.now parent = subst (λ (o : Option Child). IfSome o (IsParent fan a.child.now)) c.in-Some-2.is c.in_ok-parent.ensures.parent in
    let count = p.count in
    let all : over_count fan (suc (length above)) a.child.now.count ≤ length a.fresh.now =
    subst (λ (l : List Level). over_count fan (length l) a.child.now.count ≤ length a.fresh.now) whole c.requires.fresh in
    let same : over_count fan (length above) parent.count ≡ over_count fan (length above) (up a.child.now.count fan) = ap (over_count fan (length above)) p.count in
    let rest = drop parent.count a.fresh.now in
    let grown = own_grown (g.W.World.told a.world.now) (g.W.World.told c.lift.new.world) a.unit a.bsize
    (drop (0 / (a.bsize / a.psize)) (take (up a.child.now.count (a.bsize / a.psize)) a.fresh.now)) (c.lift.ensures.own 0 (omega arith)) in
    let kept = units_kept (λ units. HasEach units a.unit a.bsize a.fresh.now) (g.W.World.told a.world.now) (g.W.World.told c.lift.new.world) grown c.requires.blocks in (
      omega arith,
      (
        within,
        (
          c.requires.size,
          (
            c.requires.psize,
            (
              All-tail (HasSize a.bsize) c.in-Some.level.now above (subst (All (HasSize a.bsize)) whole c.requires.levels),
              (
                p.within,
                (
                  (let long = length-take (length a.fresh.now - parent.count) rest in let long' = length-drop parent.count a.fresh.now in omega arith),
                  (
                    (λ j told. All-take (λ n. HasBlock j.units a.unit n a.bsize) (length a.fresh.now - parent.count) rest
                        (All-drop (λ n. HasBlock j.units a.unit n a.bsize) parent.count a.fresh.now (kept j told))),
                    (λ j told. units_kept (λ units. IsWritable units a.unit) (g.W.World.told a.world.now) (g.W.World.told c.lift.new.world) grown c.requires.writable j told),
                  ),
                ),
              ),
            ),
          ),
        ),
      ),
    )

-- and those above write behind it
risen_own : (old mid new : Told) (u bsize fan : ℕ) (level : Level) (above levels : List Level) (child parent : Child) (fresh : List ℕ) → levels ≡ level ∷ above
    → parent.count ≡ up child.count fan
    → ((kept : ℕ) → kept ≤ child.nth → AddsOwn old mid u bsize (drop (kept / fan) (take (up child.count fan) fresh)))
    → ((kept : ℕ) → kept ≤ child.nth → kept / fan ≤ parent.nth)
    → ((kept : ℕ) → kept ≤ parent.nth
    → AddsOwn mid new u bsize (numbers_behind fan (length above) parent.count kept (take (length fresh - parent.count) (drop parent.count fresh))))
    → (kept : ℕ) → kept ≤ child.nth → AddsOwn old new u bsize (numbers_behind fan (length levels) child.count kept fresh)
unfolding numbers_behind
risen_own old mid new u bsize fan level above levels child parent fresh whole count own low_above own' kept low =
    let here = drop (kept / fan) (take (up child.count fan) fresh) in
    let more = numbers_behind fan (length above) (up child.count fan) (kept / fan) (drop (up child.count fan) fresh) in
    let rest : take (length fresh - parent.count) (drop parent.count fresh) ≡ drop parent.count fresh =
    take_all (length fresh - parent.count) (drop parent.count fresh) (let long = length-drop parent.count fresh in omega arith) in
    let above_own : AddsOwn mid new u bsize more =
    subst (λ (n : ℕ). AddsOwn mid new u bsize (numbers_behind fan (length above) n (kept / fan) (drop n fresh))) count
    (subst (λ (l : List ℕ). AddsOwn mid new u bsize (numbers_behind fan (length above) parent.count (kept / fan) l)) rest (own' (kept / fan) (low_above kept low))) in
    subst (λ (l : List Level). AddsOwn old new u bsize (numbers_behind fan (length l) child.count kept fresh)) (sym whole)
    (own_twice old mid new u bsize more (here ++ more) (λ n is_in. In-right n here more is_in)
    (own_some old mid u bsize here (here ++ more) (λ n is_in. In-left n here more is_in) (own kept low)) above_own)

pub returns-in-Some-2-clause-own : goal.returns-in-Some-2-clause-own
returns-in-Some-2-clause-own g t c =
    let a = c.args in
    let fan = a.bsize / a.psize in
    let parent = c.in-Some-2.parent in
    let some = some_fan a.bsize a.psize c.requires.size c.requires.psize in
    let p : IsParent fan a.child.now parent = subst (λ (o : Option Child). IfSome o (IsParent fan a.child.now)) c.in-Some-2.is c.in_ok-parent.ensures.parent in
    risen_own (g.W.World.told a.world.now) (g.W.World.told c.lift.new.world) (g.W.World.told c.rise.new.world) a.unit a.bsize fan c.in-Some.level.now c.in-Some.above.now a.levels.now a.child.now
    parent a.fresh.now c.in-Some.ensures.cases.0 p.count c.lift.ensures.own
    (λ kept low. subst (λ (n : ℕ). kept / fan ≤ n) (sym p.nth) (div_mono fan kept a.child.now.nth some low)) c.rise.ensures.own

pub returns-in-Some-2-clause-rises : goal.returns-in-Some-2-clause-rises
returns-in-Some-2-clause-rises g t c = λ leaves marks numbers node tier es fresh_is is_tier stand is_child.
    let a = c.args in
    let whole = c.in-Some.ensures.cases.0 in
    let above = c.in-Some.above.now in
    let fan = a.bsize / a.psize in
    let parent = c.in-Some-2.parent in
    let old = g.W.World.told a.world.now in
    let mid = g.W.World.told c.lift.new.world in
    let some = some_fan a.bsize a.psize c.requires.size c.requires.psize in
    let tier' = subst (λ (l : List Level). IsTier a.bsize a.psize leaves marks numbers node tier es (length l)) whole is_tier in
    let stand' = subst (λ (l : List Level). Stand a.bsize a.psize marks (length leaves) numbers tier es a.child.now.nth l) whole stand in
    let p : IsParent fan a.child.now parent = subst (λ (o : Option Child). IfSome o (IsParent fan a.child.now)) c.in-Some-2.is c.in_ok-parent.ensures.parent in
    let lifted : Lifts old mid a.unit a.bsize a.psize leaves marks numbers node tier (kept_here es) a.child.now c.lift.new.level (Ok (Some parent)) =
    subst (λ (o : Option Child). Lifts old mid a.unit a.bsize a.psize leaves marks numbers node tier (kept_here es) a.child.now c.lift.new.level (Ok o)) c.in-Some-2.is
    (c.in_ok-parent.ensures.lifts leaves marks numbers node tier es (length above) fresh_is tier' stand'.0 is_child) in
    let count : parent.count ≡ up (length tier.blocks) fan = p.count ∙ ap (λ (n : ℕ). up n fan) is_child.count in
    let rest : take (length a.fresh.now - parent.count) (drop parent.count a.fresh.now) ≡ drop (tier.first + up (length tier.blocks) fan) numbers =
    take_all (length a.fresh.now - parent.count) (drop parent.count a.fresh.now) (let long = length-drop parent.count a.fresh.now in omega arith)
    ∙ ap (drop parent.count) fresh_is ∙ drop-drop parent.count tier.first numbers ∙ ap (λ (n : ℕ). drop (tier.first + n) numbers) count in
    let stand'' : Stand a.bsize a.psize marks (length leaves) numbers (tier_above fan numbers tier (kept_here es)) (kept_above es) parent.nth above =
    subst (λ (n : ℕ). Stand a.bsize a.psize marks (length leaves) numbers (tier_above fan numbers tier (kept_here es)) (kept_above es) n above) (sym p.nth) stand'.1 in
    let risen = c.rise.ensures.rises leaves marks numbers node (tier_above fan numbers tier (kept_here es)) (kept_above es) rest (tier_next a.bsize a.psize leaves marks numbers node tier es (length above) some tier') stand'' lifted.2 in
    subst (λ (l : List Level). Rises old (g.W.World.told c.rise.new.world) a.unit a.bsize a.psize leaves marks numbers node tier es a.child.now l (c.lift.new.level ∷ c.rise.new.levels) c.rise.result)
    (sym whole)
    (rises_on old mid (g.W.World.told c.rise.new.world) a.unit a.bsize a.psize leaves marks numbers node tier es a.child.now parent c.in-Some.level.now c.lift.new.level above c.rise.new.levels c.rise.result
    some c.requires.within is_child.count p lifted risen)

pub returns-in-None-clause-rises : goal.returns-in-None-clause-rises
returns-in-None-clause-rises g t c = λ leaves marks numbers node tier es fresh_is is_tier stand is_child.
    let a = c.args in
    let whole = c.in-Some.ensures.cases.0 in
    let above = c.in-Some.above.now in
    let fan = a.bsize / a.psize in
    let old = g.W.World.told a.world.now in
    let new = g.W.World.told c.lift.new.world in
    let tier' = subst (λ (l : List Level). IsTier a.bsize a.psize leaves marks numbers node tier es (length l)) whole is_tier in
    let stand' = subst (λ (l : List Level). Stand a.bsize a.psize marks (length leaves) numbers tier es a.child.now.nth l) whole stand in
    let lifted : Lifts old new a.unit a.bsize a.psize leaves marks numbers node tier (kept_here es) a.child.now c.lift.new.level (Ok None) =
    subst (λ (o : Option Child). Lifts old new a.unit a.bsize a.psize leaves marks numbers node tier (kept_here es) a.child.now c.lift.new.level (Ok o)) c.in-None.is
    (c.in_ok-parent.ensures.lifts leaves marks numbers node tier es (length above) fresh_is tier' stand'.0 is_child) in
    subst (λ (l : List Level). Rises old new a.unit a.bsize a.psize leaves marks numbers node tier es a.child.now l (c.lift.new.level ∷ above) (Ok tt)) (sym whole)
    (rises_no_more old new a.unit a.bsize a.psize leaves marks numbers node tier es a.child.now c.in-Some.level.now c.lift.new.level above
    (some_fan a.bsize a.psize c.requires.size c.requires.psize) stand' lifted)

pub returns-in_default-clause-sizes : goal.returns-in_default-clause-sizes
returns-in_default-clause-sizes g t c = c.requires.levels

pub returns-in_default-clause-counts : goal.returns-in_default-clause-counts
returns-in_default-clause-counts g t c = counts_none _

pub lift-requires-clause-size : goal.lift-requires-clause-size
lift-requires-clause-size g t c = c.requires.size

pub lift-requires-clause-psize : goal.lift-requires-clause-psize
lift-requires-clause-psize g t c = c.requires.psize

pub lift-requires-clause-within : goal.lift-requires-clause-within
lift-requires-clause-within g t c = c.requires.within

pub lift-requires-clause-blocks : goal.lift-requires-clause-blocks
lift-requires-clause-blocks g t c = c.requires.blocks

pub lift-requires-clause-writable : goal.lift-requires-clause-writable
lift-requires-clause-writable g t c = c.requires.writable

pub returns-in_err-parent-clause-counts : goal.returns-in_err-parent-clause-counts
returns-in_err-parent-clause-counts g t c = counts_err c.from_residual.result c.in_err-parent.ensures.counts

pub returns-in-Some-2-clause-sizes : goal.returns-in-Some-2-clause-sizes
returns-in-Some-2-clause-sizes g t c = All-cons (HasSize c.args.bsize) c.lift.new.level c.rise.new.levels c.in_ok-parent.ensures.size c.rise.ensures.sizes

pub returns-in-Some-2-clause-counts : goal.returns-in-Some-2-clause-counts
returns-in-Some-2-clause-counts g t c = counts_on c.in_ok-parent.ensures.counts c.rise.ensures.counts

pub returns-in-None-clause-counts : goal.returns-in-None-clause-counts
returns-in-None-clause-counts g t c = counts_ok c.in_ok-parent.ensures.counts

-- there is a fresh number for each block of the first level
first_fresh : (fan count n : ℕ) (level : Level) (above levels : List Level) → levels ≡ level ∷ above → over_count fan (length levels) count ≤ n → up count fan ≤ n
first_fresh fan count n level above levels whole room = let all : up count fan + over_count fan (length above) (up count fan) ≤ n = subst (λ (l : List Level). over_count fan (length l) count ≤ n) whole room in omega arith

pub lift-requires-clause-fresh : goal.lift-requires-clause-fresh
lift-requires-clause-fresh g t c =
    first_fresh (c.args.bsize / c.args.psize) c.args.child.now.count (length c.args.fresh.now) c.in-Some.level.now c.in-Some.above.now c.args.levels.now c.in-Some.ensures.cases.0 c.requires.fresh

pub slice_bounds-higher-count : goal.slice_bounds-higher-count
slice_bounds-higher-count g t c =
    let a = c.args in
    let fan = a.bsize / a.psize in
    let p : IsParent fan a.child.now c.in-Some-2.parent = subst (λ (o : Option Child). IfSome o (IsParent fan a.child.now)) c.in-Some-2.is c.in_ok-parent.ensures.parent in
    subst (λ (n : ℕ). n ≤ length a.fresh.now) (sym p.count) (first_fresh fan a.child.now.count (length a.fresh.now) c.in-Some.level.now c.in-Some.above.now a.levels.now c.in-Some.ensures.cases.0 c.requires.fresh)

pub slice_bounds-higher-start : goal.slice_bounds-higher-start
slice_bounds-higher-start g t c =
    let a = c.args in
    let fan = a.bsize / a.psize in
    let p : IsParent fan a.child.now c.in-Some-2.parent = subst (λ (o : Option Child). IfSome o (IsParent fan a.child.now)) c.in-Some-2.is c.in_ok-parent.ensures.parent in
    subst (λ (n : ℕ). n ≤ length a.fresh.now) (sym p.count) (first_fresh fan a.child.now.count (length a.fresh.now) c.in-Some.level.now c.in-Some.above.now a.levels.now c.in-Some.ensures.cases.0 c.requires.fresh)

pub slice_bounds-higher-end : goal.slice_bounds-higher-end
slice_bounds-higher-end g t c = same_most _
