-- The pointer blocks that are complete with leaves behind the kept ones.
use Rattle.std.proofs.Common.{◌≡◌, ◌⊎◌, inl, inr, ⊎_elim, ℕ, zero, suc, ◌+◌, ◌-◌, ◌*◌, ◌/◌, ◌%◌, ◌<◌, ◌≤◌, min, true, false, cond, ltb, List, [], ◌∷◌, ◌++◌, length, take, drop, get_or, map, None, refl, sym, ◌∙◌, ap, subst, arith, div-add-mod', mod-lt, length-append, mul-le-mul_right}
use Rattle.std.specs.Prelude.{replicate}
use Rattle.std.proofs.lemmas.Bool.{cases_Bool, cond-true, cond-false, lt-ltb, le-ltb}
use Rattle.std.proofs.lemmas.List.{drop-drop, get_or-drop, length-drop, length-replicate, length-take-le, take-append-drop}
use Rattle.std.proofs.Math.Nat.{zero-div, zero-mod}
use Rattle.std.proofs.lemmas.Nat.{div_below}
use Rattle.cms_fields.specs.Numbers.{up}
use Rattle.cms_model.specs.Lists.{In}
use Rattle.cms_model.specs.Sizes.{levels}
use Rattle.cms_model.specs.Settled.{Write}
use Rattle.cms_model.proofs.Members.{In-either, In-left, In-right}
use Rattle.cms_tree.specs.declared.types.Mark.{Mark}
use Rattle.cms_tree.specs.declared.climb.Level.{Level}
use Rattle.cms_tree.specs.Builds.{IsBuildable, node_at}
use Rattle.cms_tree.specs.Levels.{over_count}
use Rattle.cms_tree.specs.Kept.{Kept, kept_here, kept_above, nothing}
use Rattle.cms_tree.specs.Tiers.{AllKeep, Keeps, Stand, Tier, behind_kept, cells_from, complete_from, ends_group, node_in, node_on, node_write, pointing, put_node, tier_above}
use Rattle.cms_tree.specs.Climbs.{climb_writes, climb_writes_on, numbers_behind}
use Rattle.cms_tree.proofs.ClimbBlocks.{before_is, div_mono, front_at, group_within, length-cells_from}
use Rattle.cms_tree.proofs.ClimbSteps.{over_all, tier_lowest}
use Rattle.cms_tree.proofs.Own.{in_behind, in_drop, in_take}

-- ---- where they stand among all

-- they have places of these levels
pub complete_within : (fan n first count k nth : ℕ) → 1 ≤ fan → k < count → In nth (complete_from fan n first count k) → (first ≤ nth) × (nth < first + over_count fan n count)
unfolding complete_from
complete_within fan zero first count k nth some less there = elim there [ ]
complete_within fan (suc n) first count k nth some less there = ⊎_elim
    (λ (is : ends_group fan count k ≡ true). ⊎_elim
    (λ (here : nth ≡ first + k / fan). let l = low in (omega arith, omega arith))
    (λ (more : In nth (complete_from fan n (first + up count fan) (up count fan) (k / fan))).
    let above = complete_within fan n (first + up count fan) (up count fan) (k / fan) nth some low more in
    let a = above.0 in
    let b = above.1 in
    (omega arith, omega arith))
    (subst (λ (l : List ℕ). In nth l) (cond-true (ends_group fan count k) _ [] is) there))
    (λ (is : ends_group fan count k ≡ false). absurd (subst (λ (l : List ℕ). In nth l)
    (cond-false (ends_group fan count k) ((first + k / fan) ∷ complete_from fan n (first + up count fan) (up count fan) (k / fan)) [] is) there))
    (cases_Bool (ends_group fan count k))
  where
    low : k / fan < up count fan
    low = group_within fan count k some less

-- and their numbers are among those of the blocks that end behind the kept ones
pub complete_behind : (fan n first count kept k nth : ℕ) (fresh : List ℕ) → 1 ≤ fan → kept ≤ k → k < count → first + over_count fan n count ≤ length fresh
    → In nth (complete_from fan n first count k) → In (get_or fresh nth 0) (numbers_behind fan n count kept (drop first fresh))
unfolding complete_from numbers_behind
complete_behind fan zero first count kept k nth fresh some low less room there = elim there [ ]
complete_behind fan (suc n) first count kept k nth fresh some low less room there = ⊎_elim
    (λ (is : ends_group fan count k ≡ true). ⊎_elim
    (λ (here : nth ≡ first + k / fan).
    In-left (get_or fresh nth 0) own more (subst (λ (x : ℕ). In x own) (get_or-drop first fresh (k / fan) 0 ∙ ap (λ (x : ℕ). get_or fresh x 0) (sym here))
    (in_behind (drop first fresh) (kept / fan) (up count fan) (k / fan) (div_mono fan kept k some low) within (let w = within in omega (arith, length-drop first fresh)))))
    (λ (above : In nth (complete_from fan n (first + up count fan) (up count fan) (k / fan))).
    In-right (get_or fresh nth 0) own more (subst (λ (l : List ℕ). In (get_or fresh nth 0) (numbers_behind fan n (up count fan) (kept / fan) l)) (sym (drop-drop (up count fan) first fresh))
    (complete_behind fan n (first + up count fan) (up count fan) (kept / fan) (k / fan) nth fresh some (div_mono fan kept k some low) within (omega arith) above)))
    (subst (λ (l : List ℕ). In nth l) (cond-true (ends_group fan count k) _ [] is) there))
    (λ (is : ends_group fan count k ≡ false). absurd (subst (λ (l : List ℕ). In nth l)
    (cond-false (ends_group fan count k) ((first + k / fan) ∷ complete_from fan n (first + up count fan) (up count fan) (k / fan)) [] is) there))
    (cases_Bool (ends_group fan count k))
  where
    within : k / fan < up count fan
    within = group_within fan count k some less

    own : List ℕ
    own = drop (kept / fan) (take (up count fan) (drop first fresh))

    more : List ℕ
    more = numbers_behind fan n (up count fan) (kept / fan) (drop (up count fan) (drop first fresh))

-- they are among all
pub behind_among : (fan n count kept m : ℕ) (fresh : List ℕ) → In m (numbers_behind fan n count kept fresh) → In m fresh
unfolding numbers_behind
behind_among fan zero count kept m fresh there = elim there [ ]
behind_among fan (suc n) count kept m fresh there = ⊎_elim
    (λ (here : In m (drop (kept / fan) (take (up count fan) fresh))). in_take m (up count fan) fresh (in_drop m (kept / fan) (take (up count fan) fresh) here))
    (λ (above : In m (numbers_behind fan n (up count fan) (kept / fan) (drop (up count fan) fresh))).
    in_drop m (up count fan) fresh (behind_among fan n (up count fan) (kept / fan) m (drop (up count fan) fresh) above))
    (In-either m (drop (kept / fan) (take (up count fan) fresh)) (numbers_behind fan n (up count fan) (kept / fan) (drop (up count fan) fresh)) there)

-- where nothing is kept these are all
pub none_kept : (fan n count : ℕ) (fresh : List ℕ) → length fresh ≡ over_count fan n count → numbers_behind fan n count 0 fresh ≡ fresh
unfolding numbers_behind
none_kept fan zero count [] is = refl
none_kept fan zero count (x ∷ fresh) is = absurd (omega arith)
none_kept fan (suc n) count fresh is =
    let m = up count fan in
    let zero' = zero-div fan in
    let rest = none_kept fan n m (drop m fresh) (length-drop m fresh ∙ (omega arith)) in
    rw (zero', rest) (take-append-drop m fresh)

-- ---- their bytes

-- a pointer block with all of its pointers has a block's length
whole_long : (bsize psize : ℕ) (marks : List Mark) (count : ℕ) (t : Tier) (e : Kept) (k : ℕ) → (psize ≡ 4) ⊎ (psize ≡ 12) → 1 ≤ bsize / psize → bsize / psize * psize ≤ bsize
    → Keeps psize (bsize / psize) t e → t.kept ≤ k → k < length t.blocks
    → length (pointing bsize psize marks count t e (k / (bsize / psize)) (min ((k / (bsize / psize) + 1) * (bsize / psize)) (length t.blocks))) ≡ bsize
whole_long bsize psize marks count t e k kind some fits keeps low less = answer
  where
    fan : ℕ
    fan = bsize / psize

    j : ℕ
    j = k / fan

    upto : ℕ
    upto = min ((j + 1) * fan) (length t.blocks)

    in_group : (j * fan ≤ k) × (k < (j + 1) * fan)
    in_group = let w = div-add-mod' k fan in let r : k % fan < fan = mod-lt k some in (omega arith, omega arith)

    -- its last pointer
    at : ℕ
    at = upto - 1

    high : (k ≤ at) × (at + 1 ≡ upto) × (at < (j + 1) * fan) × (upto ≤ length t.blocks)
    high = let g = in_group.1 in (omega arith, omega arith, omega arith, omega arith)

    same : at / fan ≡ j
    same = let a = div_mono fan k at some high.0 in let b : at / fan < j + 1 = div_below at fan (j + 1) some high.2 in omega arith

    answer : length (pointing bsize psize marks count t e j upto) ≡ bsize
    answer =
        let b = before_is psize fan t e at some keeps (let h = high.0 in omega arith) in
        let within : behind_kept fan t j ≤ at = subst (λ (n : ℕ). behind_kept fan t n ≤ at) same b.within in
        let long : length (front_at fan t e j) + (at - behind_kept fan t j) * psize ≡ at % fan * psize =
        subst (λ (n : ℕ). length (front_at fan t e n) + (at - behind_kept fan t n) * psize ≡ at % fan * psize) same b.long in
        let w : j * fan + at % fan ≡ at = ap (λ (n : ℕ). n * fan + at % fan) (sym same) ∙ div-add-mod' at fan in
        let r : at % fan < fan = mod-lt at some in
        let most : (at % fan + 1) * psize ≤ fan * psize = mul-le-mul_right psize (let x = r in omega arith) in
        let from = behind_kept fan t j in
        let behind = take (upto - from) (drop from t.blocks) in
        let h1 = high.1 in
        let h3 = high.3 in
        let own : length behind ≡ upto - from = length-take-le (upto - from) (drop from t.blocks) (let d = length-drop from t.blocks in omega arith) in
        let cells : length (cells_from psize marks count t from behind) ≡ (upto - from) * psize = length-cells_from psize marks count t from behind kind ∙ ap (λ (n : ℕ). n * psize) own in
        let more : (upto - from) * psize ≡ (at - from) * psize + psize = ap (λ (n : ℕ). n * psize) (let e : upto - from ≡ (at - from) + 1 = omega arith in e) ∙ next (at - from) psize in
        let last : (upto - j * fan) * psize ≡ at % fan * psize + psize = ap (λ (n : ℕ). n * psize) (let e : upto - j * fan ≡ at % fan + 1 = omega arith in e) ∙ next (at % fan) psize in
        let last' : (at % fan + 1) * psize ≡ at % fan * psize + psize = next (at % fan) psize in
        let zeros = length-replicate {A = ℕ} (bsize - (upto - j * fan) * psize) 0 in
        length-append (front_at fan t e j ++ cells_from psize marks count t from behind) (replicate (bsize - (upto - j * fan) * psize) 0)
        ∙ (let both = length-append (front_at fan t e j) (cells_from psize marks count t from behind) in omega arith)
      where
        next : (a b : ℕ) → (a + 1) * b ≡ a * b + b
        next a b = grind arith

pub completed_long : (bsize psize : ℕ) (marks : List Mark) (count : ℕ) (fresh : List ℕ) (n : ℕ) (t : Tier) (es : List Kept) (k nth : ℕ) → (psize ≡ 4) ⊎ (psize ≡ 12) → 1 ≤ bsize / psize
    → bsize / psize * psize ≤ bsize → AllKeep psize (bsize / psize) fresh t es n → t.kept ≤ k → k < length t.blocks
    → t.first + over_count (bsize / psize) n (length t.blocks) ≤ length fresh → In nth (complete_from (bsize / psize) n t.first (length t.blocks) k)
    → length (node_in bsize psize marks count fresh n t es (nth - t.first)) ≡ bsize
unfolding complete_from node_in
completed_long bsize psize marks count fresh zero t es k nth kind some fits keep low less room there = elim there [ ]
completed_long bsize psize marks count fresh (suc n) t es k nth kind some fits keep low less room there = ⊎_elim
    (λ (is : ends_group fan (length t.blocks) k ≡ true). ⊎_elim here (above (completed_long bsize psize marks count fresh n up_t (kept_above es) (k / fan) nth kind some fits keep.1))
    (subst (λ (l : List ℕ). In nth l) (cond-true (ends_group fan (length t.blocks) k) _ [] is) there))
    (λ (is : ends_group fan (length t.blocks) k ≡ false). absurd (subst (λ (l : List ℕ). In nth l)
    (cond-false (ends_group fan (length t.blocks) k) ((t.first + k / fan) ∷ complete_from fan n (t.first + m) m (k / fan)) [] is) there))
    (cases_Bool (ends_group fan (length t.blocks) k))
  where
    fan : ℕ
    fan = bsize / psize

    m : ℕ
    m = up (length t.blocks) fan

    within : k / fan < m
    within = group_within fan (length t.blocks) k some less

    up_t : Tier
    up_t = tier_above fan fresh t (kept_here es)

    own : ℕ → List ℕ
    own i = pointing bsize psize marks count t (kept_here es) i (min ((i + 1) * fan) (length t.blocks))

    further : ℕ → List ℕ
    further i = node_in bsize psize marks count fresh n up_t (kept_above es) (i - m)

    here : nth ≡ t.first + k / fan → length (cond (ltb (nth - t.first) m) (own (nth - t.first)) (further (nth - t.first))) ≡ bsize
    here is =
        let at : nth - t.first ≡ k / fan = omega arith in
        rw at (ap (λ (l : List ℕ). length l) (cond-true (ltb (k / fan) m) (own (k / fan)) (further (k / fan)) (lt-ltb (k / fan) m within))
        ∙ whole_long bsize psize marks count t (kept_here es) k kind some fits keep.0 low less)

    above : (up_t.kept ≤ k / fan → k / fan < length up_t.blocks → up_t.first + over_count fan n (length up_t.blocks) ≤ length fresh
        → In nth (complete_from fan n up_t.first (length up_t.blocks) (k / fan)) → length (node_in bsize psize marks count fresh n up_t (kept_above es) (nth - up_t.first)) ≡ bsize)
        → In nth (complete_from fan n (t.first + m) m (k / fan)) → length (cond (ltb (nth - t.first) m) (own (nth - t.first)) (further (nth - t.first))) ≡ bsize
    above all more =
        let w = within in
        let long : length up_t.blocks ≡ m = length-take-le m (drop t.first fresh) (let d = length-drop t.first fresh in omega arith) in
        let past : m ≤ nth - t.first = (let w = (complete_within fan n (t.first + m) m (k / fan) nth some within more).0 in omega arith) in
        let at : nth - t.first - m ≡ nth - (t.first + m) = omega arith in
        let same : over_count fan n (length up_t.blocks) ≡ over_count fan n m = ap (over_count fan n) long in
        let more' : In nth (complete_from fan n up_t.first (length up_t.blocks) (k / fan)) = subst (λ (c : ℕ). In nth (complete_from fan n (t.first + m) c (k / fan))) (sym long) more in
        ap (λ (l : List ℕ). length l) (cond-false (ltb (nth - t.first) m) (own (nth - t.first)) (further (nth - t.first)) (le-ltb (nth - t.first) m past))
        ∙ ap (λ (i : ℕ). length (node_in bsize psize marks count fresh n up_t (kept_above es) i)) at
        ∙ all (div_mono fan t.kept k some low) (omega arith) (omega arith) more'

-- ---- what is kept

pub stand_keeps : (bsize psize : ℕ) (marks : List Mark) (count : ℕ) (fresh : List ℕ) (t : Tier) (es : List Kept) (k : ℕ) (ls : List Level) → Stand bsize psize marks count fresh t es k ls
    → AllKeep psize (bsize / psize) fresh t es (length ls)
stand_keeps bsize psize marks count fresh t es k [] stand = tt
stand_keeps bsize psize marks count fresh t es k (l ∷ ls) stand =
    (stand.0.keeps, stand_keeps bsize psize marks count fresh (tier_above (bsize / psize) fresh t (kept_here es)) (kept_above es) (k / (bsize / psize)) ls stand.1)

pub nothing_keeps : (psize fan : ℕ) (fresh : List ℕ) (t : Tier) (n : ℕ) → t.kept ≡ 0 → t.place ≡ None → AllKeep psize fan fresh t [] n
nothing_keeps psize fan fresh t zero zero' none = tt
nothing_keeps psize fan fresh t (suc n) zero' none = (
  record {
    front = let r : t.kept % fan ≡ 0 = ap (λ (k : ℕ). k % fan) zero' ∙ zero-mod fan in rw r (omega arith);
    partly = λ is. (none, ap (λ (k : ℕ). k % fan) zero' ∙ zero-mod fan);
  },
  nothing_keeps psize fan fresh (tier_above fan fresh t nothing) n (ap (λ (k : ℕ). k / fan) zero' ∙ zero-div fan) refl,
)

-- ---- where nothing is kept

pub plain_on : (bsize psize : ℕ) (leaves : List ℕ) (marks : List Mark) (fresh : List ℕ) (nth : ℕ) → 1 ≤ bsize / psize → IsBuildable bsize psize leaves marks fresh → nth < length fresh
    → node_on bsize psize leaves marks fresh 0 [] nth ≡ node_at bsize psize leaves marks fresh nth
plain_on bsize psize leaves marks fresh nth some plan less =
    let fan = bsize / psize in
    let all = over_all fan (length leaves) some in
    let numbers = plan.numbers in
    (tier_lowest bsize psize leaves marks fresh some plan).nodes nth (omega arith) ∙ ap (node_at bsize psize leaves marks fresh) (let e : 0 + nth ≡ nth = omega arith in e)

pub plain_writes : (bsize psize : ℕ) (leaves : List ℕ) (marks : List Mark) (fresh : List ℕ) (k : ℕ) → 1 ≤ bsize / psize → IsBuildable bsize psize leaves marks fresh → k < length leaves
    → climb_writes_on bsize psize leaves marks fresh 0 [] k ≡ climb_writes bsize psize leaves marks fresh k
plain_writes bsize psize leaves marks fresh k some plan less =
    each (complete_from fan (levels fan (length leaves)) 0 (length leaves) k) (λ nth there.
    let w = (complete_within fan (levels fan (length leaves)) 0 (length leaves) k nth some less there).1 in
    let all = over_all fan (length leaves) some in
    let numbers = plan.numbers in omega arith)
  where
    fan : ℕ
    fan = bsize / psize

    each : (places : List ℕ) → ((nth : ℕ) → In nth places → nth < length fresh)
        → map (put_node fresh (node_on bsize psize leaves marks fresh 0 [])) places ≡ map (node_write bsize psize leaves marks fresh) places
    each [] within = refl
    each (p ∷ ps) within =
        let here = plain_on bsize psize leaves marks fresh p some plan (within p (inl refl)) in
        let first : put_node fresh (node_on bsize psize leaves marks fresh 0 []) p ≡ node_write bsize psize leaves marks fresh p = ap (λ (b : List ℕ). record { block = get_or fresh p 0; bytes = b }) here in
        ap (λ (w : Write). w ∷ map (put_node fresh (node_on bsize psize leaves marks fresh 0 [])) ps) first
        ∙ ap (λ (ws : List Write). node_write bsize psize leaves marks fresh p ∷ ws) (each ps (λ nth there. within nth (inr there)))
