use Rattle.std.proofs.Common.{◌≡◌, ℕ, ◌*◌, ◌/◌, ◌^◌, ◌≤◌, List, [], ◌∷◌, length, All, mul-pos, refl, sym, ◌∙◌, ap, subst, arith}
use Rattle.std.proofs.Math.Nat.{pow-zero}
use Rattle.std.proofs.lemmas.Result.{IfOk-weaker}
use Rattle.std.proofs.lemmas.List.Elements.{All-head, All-tail}
use Rattle.cms_journal.specs.Journal.{HasBlock}
use Rattle.cms_journal.specs.Told.{Told}
use Rattle.cms_fields.specs.Numbers.{up}
use Rattle.cms_model.proofs.Quotients.{up_up}
use Rattle.cms_tree.specs.declared.climb.Level.{Level}
use Rattle.cms_tree.specs.Levels.{over_count}
use Rattle.cms_tree.specs.Paths.{levels_of}
use Rattle.cms_tree.specs.Resumes.{IsClear, tiers_above, ResumesOne, ResumesAll}
use Rattle.cms_tree.proofs.BuiltTrees.{fan_wide}
use Rattle.cms_tree.proofs.Resumes.{IsAbove, length-levels_of, above_pointers, above_each, kept_within, kept_low, partly_within, resumes_nothing, resumes_more, tiers_next}
use Rattle.cms_tree.proofs.ClimbBlocks.{some_pointer}
use Rattle.cms_tree.proofs.Exits.{counts_err, counts_none, counts_on, ok_at_err}
use Rattle.cms_tree.proofs.climb.+resume_levels.Goals as goal

pub returns-in_default-clause-resumes : goal.returns-in_default-clause-resumes
returns-in_default-clause-resumes g t c = λ size leaves one count_is.
    let a = c.args in
    let b = a.before.now in
    let fan = a.bsize / a.psize in
    let none : a.levels.now ≡ [] = empty a.levels.now c.in_default.ensures.cases in
    let long = length-levels_of fan size leaves b.levels b.pointers.now in
    let few : b.levels ≤ length a.levels.now = c.requires.fewer in
    let zero' : length a.levels.now ≡ 0 = c.in_default.ensures.cases in
    subst (λ (l : List Level). ResumesAll (g.W.World.told a.world.now) a.unit a.bsize a.psize (levels_of fan size leaves b.levels b.pointers.now) b l 0) (sym none)
    (resumes_nothing (g.W.World.told a.world.now) a.unit a.bsize a.psize (levels_of fan size leaves b.levels b.pointers.now) b (omega arith))
  where
    empty : (l : List Level) → length l ≡ 0 → l ≡ []
    empty [] is = refl
    empty (x ∷ l) is = absurd (omega arith)

pub above-requires : goal.above-requires
above-requires g t c =
    let a = c.args in
    let b = a.before.now in
    let fan = c.bytes.result / c.from.result in
    let fan_is : fan ≡ a.bsize / a.psize = rw (c.bytes.ensures.value, c.from.ensures) refl in
    let wide : 2 ≤ fan = rw fan_is (fan_wide a.bsize a.psize c.requires.size c.requires.psize) in
    record { wide = omega arith; pointers = subst (λ (n : ℕ). over_count n b.levels b.count ≤ length b.pointers.now) (sym fan_is) c.requires.pointers }

pub resume_levels-requires : goal.resume_levels-requires
resume_levels-requires g t c κs within =
    let a = c.args in
    let b = a.before.now in
    let b' = c.above.result in
    let fan = a.bsize / a.psize in
    let fan_is : c.bytes.result / c.from.result ≡ fan = rw (c.bytes.ensures.value, c.from.ensures) refl in
    let is_above = subst (λ (n : ℕ). IsAbove n b b') fan_is (record {
      pointers = c.above.ensures.pointers;
      few = c.above.ensures.few;
      levels = c.above.ensures.levels;
      count = c.above.ensures.count;
      kept = c.above.ensures.kept;
      partly = c.above.ensures.partly;
      root = c.above.ensures.root;
    }) in
    let wide : 2 ≤ fan = fan_wide a.bsize a.psize c.requires.size c.requires.psize in
    let some : 1 ≤ fan = omega arith in
    let whole = c.in-Some.ensures.cases.0 in
    let less = c.in-Some.ensures.cases.1 in
    let above = c.in-Some.above.now in
    let count = is_above.count in
    let kept = is_above.kept in
    let fewer = c.requires.fewer in
    let levels = is_above.levels in
    let low = kept_low fan b.kept b.levels wide c.requires.low in
    let inside = kept_within fan b.kept b.count some c.requires.kept in (
      omega arith,
      (
        within,
        (
          c.requires.size,
          (
            c.requires.psize,
            (
              All-tail (IsClear a.bsize) c.in-Some.level.now above (subst (All (IsClear a.bsize)) whole c.requires.clear),
              (
                omega arith,
                (
                  above_pointers fan b b' is_above c.requires.pointers,
                  (
                    omega arith,
                    (
                      (λ partly. let inner = partly_within fan b.kept b.count b.partly some c.requires.kept c.requires.partly (sym is_above.partly ∙ partly) in omega arith),
                      (
                        subst (λ (n : ℕ). b'.kept ≤ fan ^ n) (sym levels) (omega arith),
                        (λ j told. above_each (λ n. HasBlock j.units a.unit n a.bsize) fan b b' is_above (c.requires.blocks j told)),
                      ),
                    ),
                  ),
                ),
              ),
            ),
          ),
        ),
      ),
    )

pub resume_level-requires-clause-clear : goal.resume_level-requires-clause-clear
resume_level-requires-clause-clear g t c =
    All-head (IsClear c.args.bsize) c.in-Some.level.now c.in-Some.above.now (subst (All (IsClear c.args.bsize)) c.in-Some.ensures.cases.0 c.requires.clear)

pub resume_level-requires-clause-low : goal.resume_level-requires-clause-low
resume_level-requires-clause-low g t c = λ none.
    let a = c.args in
    let b = a.before.now in
    let fan = a.bsize / a.psize in
    let one : fan ^ b.levels ≡ 1 = ap (λ (n : ℕ). fan ^ n) none ∙ pow-zero fan in
    let low = c.requires.low in
    omega arith

pub resume_level-requires-clause-blocks : goal.resume_level-requires-clause-blocks
resume_level-requires-clause-blocks g t c = λ j told. c.requires.blocks j (sym c.resume_levels.ensures.told ∙ told)

pub returns-clause-resumes : goal.returns-clause-resumes
returns-clause-resumes g t c =
    let a = c.args in
    let b = a.before.now in
    let b' = c.above.result in
    let told = g.W.World.told a.world.now in
    let mid = g.W.World.told c.resume_levels.new.world in
    let fan = a.bsize / a.psize in
    let fan_is : c.bytes.result / c.from.result ≡ fan = rw (c.bytes.ensures.value, c.from.ensures) refl in
    let is_above = subst (λ (n : ℕ). IsAbove n b b') fan_is (record {
      pointers = c.above.ensures.pointers;
      few = c.above.ensures.few;
      levels = c.above.ensures.levels;
      count = c.above.ensures.count;
      kept = c.above.ensures.kept;
      partly = c.above.ensures.partly;
      root = c.above.ensures.root;
    }) in
    let wide : 2 ≤ fan = fan_wide a.bsize a.psize c.requires.size c.requires.psize in
    let some : 1 ≤ fan = omega arith in
    let level : Level = c.resume_level.new.level in
    let above : List Level = c.resume_levels.new.levels in
    let own : ℕ = c.in_ok-own.own in
    IfOk-weaker c.resume_level.result
    (λ place. (size leaves : ℕ) → 1 ≤ size → b.count ≡ up leaves size
    → ResumesOne mid a.unit a.bsize a.psize (levels_of fan size leaves b.levels b.pointers.now) b own level place)
    (λ place. (size leaves : ℕ) → 1 ≤ size → b.count ≡ up leaves size
    → ResumesAll told a.unit a.bsize a.psize (levels_of fan size leaves b.levels b.pointers.now) b (level ∷ above) place)
    (λ place here size leaves one count_is.
    let tiers = levels_of fan size leaves b.levels b.pointers.now in
    let tiers' = levels_of fan (size * fan) leaves b'.levels b'.pointers.now in
    let count : b'.count ≡ up leaves (size * fan) = is_above.count ∙ ap (λ (n : ℕ). up n fan) count_is ∙ up_up leaves size fan one some in
    let wider : 1 ≤ size * fan = mul-pos one some in
    let all : ResumesAll told a.unit a.bsize a.psize tiers' b' above own = c.in_ok-own.ensures.resumes (size * fan) leaves wider count in
    let next : tiers' ≡ tiers_above tiers = ap (λ (n : ℕ). levels_of fan (size * fan) leaves n b'.pointers.now) is_above.levels
    ∙ tiers_next fan size leaves b.levels b.count b.pointers.now b'.pointers.now some one count_is is_above.pointers in
    resumes_more told a.unit a.bsize a.psize tiers tiers' b b' level above own place is_above next all
    (subst (λ (t : Told). ResumesOne t a.unit a.bsize a.psize tiers b own level place) c.resume_levels.ensures.told (here size leaves one count_is)))
    c.resume_level.ensures.resumes

pub returns-in_default-clause-told : goal.returns-in_default-clause-told
returns-in_default-clause-told g t c = refl

pub returns-in_default-clause-counts : goal.returns-in_default-clause-counts
returns-in_default-clause-counts g t c = counts_none _

pub nonzero_div-fan : goal.nonzero_div-fan
nonzero_div-fan g t c = rw c.from.ensures (some_pointer c.args.psize c.requires.psize)

pub returns-in_err-own-clause-resumes : goal.returns-in_err-own-clause-resumes
returns-in_err-own-clause-resumes g t c = ok_at_err _ c.from_residual.result _ c.from_residual.ensures.1

pub returns-in_err-own-clause-told : goal.returns-in_err-own-clause-told
returns-in_err-own-clause-told g t c = c.in_err-own.ensures.told

pub returns-in_err-own-clause-counts : goal.returns-in_err-own-clause-counts
returns-in_err-own-clause-counts g t c = counts_err c.from_residual.result c.in_err-own.ensures.counts

pub resume_level-requires-clause-size : goal.resume_level-requires-clause-size
resume_level-requires-clause-size g t c = c.requires.size

pub resume_level-requires-clause-psize : goal.resume_level-requires-clause-psize
resume_level-requires-clause-psize g t c = c.requires.psize

pub resume_level-requires-clause-pointers : goal.resume_level-requires-clause-pointers
resume_level-requires-clause-pointers g t c = c.requires.pointers

pub resume_level-requires-clause-kept : goal.resume_level-requires-clause-kept
resume_level-requires-clause-kept g t c = c.requires.kept

pub resume_level-requires-clause-partly : goal.resume_level-requires-clause-partly
resume_level-requires-clause-partly g t c = c.requires.partly

pub returns-clause-told : goal.returns-clause-told
returns-clause-told g t c = c.resume_level.ensures.told ∙ c.in_ok-own.ensures.told

pub returns-clause-counts : goal.returns-clause-counts
returns-clause-counts g t c = counts_on c.in_ok-own.ensures.counts c.resume_level.ensures.counts
