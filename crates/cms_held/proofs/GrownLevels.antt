-- A tree that grows behind data blocks that it keeps points to its groups on each level, where what it writes stands.
use Rattle.std.proofs.Common.{◌≡◌, ◌⊎◌, inl, inr, ⊎_elim, ℕ, zero, suc, ◌+◌, ◌-◌, ◌*◌, ◌/◌, ◌%◌, ◌^◌, ◌<◌, ◌≤◌, min, Bool, true, false, eqb, ltb, List, [], ◌∷◌, ◌++◌, length, take, drop, get_or, All, refl, sym, ◌∙◌, ap, subst, arith, div-add-mod', mod-lt, mul-le-mul_right}
use Rattle.std.proofs.lemmas.Bool.{cases_eq, cases_lt, cond-true, cond-false, eq-eqb, ne_eqb, le-ltb, lt-ltb}
use Rattle.std.proofs.lemmas.List.{drop-drop, get_or-drop, get_or-take, length-drop, length-take, length-take-le, take-append-le}
use Rattle.std.proofs.lemmas.List.Elements.{All-drop, All-take}
use Rattle.std.proofs.lemmas.Nat.{mod-mul-add}
use Rattle.std.proofs.Math.Nat.{div-div-eq-div-mul, div-mul-le_self, mul-pos, pow-suc, pow-zero}
use Rattle.cms_fields.specs.Numbers.{up}
use Rattle.cms_model.specs.LawsTrees.{cell_bytes}
use Rattle.cms_model.specs.Lists.{In}
use Rattle.cms_model.specs.ByLevels.{Heaped}
use Rattle.cms_model.specs.SharedTrees.{fresh_on, is_kept}
use Rattle.cms_model.specs.SharedTiers.{Names, group}
use Rattle.cms_model.specs.Trees.{Image, pointers}
use Rattle.cms_model.proofs.Quotients.{up_spec, up_up}
use Rattle.cms_model.proofs.SharedTiers.{points_tier}
use Rattle.cms_model.proofs.SharedTrees.{behind_is_written}
use Rattle.cms_tree.specs.declared.types.Mark.{Mark}
use Rattle.cms_tree.specs.Builds.{Child, cell_of}
use Rattle.cms_tree.specs.Levels.{over_count}
use Rattle.cms_tree.specs.Kept.{Kept, kept_here, kept_above}
use Rattle.cms_tree.specs.Paths.{PointFresh, levels_of, numbered, paths}
use Rattle.cms_tree.specs.Resumes.{kept_front, kept_levels, partly_above, tiers_above}
use Rattle.cms_tree.specs.Tiers.{AllKeep, Tier, complete_from, ends_group, node_in, pointing, tier_above}
use Rattle.cms_tree.proofs.Behind.{complete_within}
use Rattle.cms_tree.proofs.BuiltTrees.{fits_cell}
use Rattle.cms_tree.proofs.ClimbBlocks.{front_at, group_within}
use Rattle.cms_tree.proofs.Paths.{get-numbered, length-numbered}
use Rattle.cms_tree.proofs.Resumes.{kept_low, kept_within}
use Rattle.cms_held.specs.Growths.{form_on}
use Rattle.cms_held.proofs.GrownTrees.{LastOf, Word, below_up, group_front, last_in, last_of, names_whole, one_cell, pointers_front, same_front}

-- what is known of the whole: the data blocks from a place on are written, those before it are kept
pub record Growing (bsize psize before count kept : ℕ) (written : List ℕ) : Type 0 where
  pub kind : (psize ≡ 4) ⊎ (psize ≡ 12)
  pub wide : 2 ≤ bsize / psize
  pub fits : bsize / psize * psize ≤ bsize
  pub kept_old : kept ≤ before
  pub less : kept < count
  pub more : before ≤ count
  pub behind : (n : ℕ) → In n written → kept ≤ n
  pub all : (n : ℕ) → kept ≤ n → n < count → In n written

-- ---- which pointer blocks of a level are kept

-- those that end within the kept data blocks
pub front_kept : (bsize psize before count kept : ℕ) (written : List ℕ) (size i j : ℕ) → Growing bsize psize before count kept written → size ≡ (bsize / psize) ^ i
    → j < kept / size / (bsize / psize) → is_kept true (size * (bsize / psize)) before count written j ≡ true
front_kept bsize psize before count kept written size i j g power less =
    let fan = bsize / psize in
    let wide = size * fan in
    let same : kept / size / fan ≡ kept / wide = div-div-eq-div-mul kept size fan in
    let whole : kept / wide * wide ≤ kept = div-mul-le_self kept wide in
    let ends : (j + 1) * wide ≤ kept / wide * wide = mul-le-mul_right wide (let l = less in omega arith) in
    let begins : j * wide ≤ (j + 1) * wide = mul-le-mul_right wide (omega arith) in
    let short = g.less in
    let next : fan ^ suc i ≡ wide = pow-suc fan i ∙ ap (λ (n : ℕ). n * fan) (sym power) in
    let w = g.wide in
    subst (λ (n : ℕ). is_kept true n before count written j ≡ true) next
    ((behind_is_written fan (suc i) before count kept j written g.wide g.kept_old (omega arith) g.more (subst (λ (n : ℕ). j * n < count) (sym next) (omega arith)) g.behind g.all).1
    (subst (λ (n : ℕ). min ((j + 1) * n) count ≤ kept) (sym next) (omega arith)))

pub fresh_behind : (bsize psize before count kept : ℕ) (written : List ℕ) (size i j : ℕ) → Growing bsize psize before count kept written → size ≡ (bsize / psize) ^ i
    → is_kept true (size * (bsize / psize)) before count written j ≡ false → kept / size / (bsize / psize) ≤ j
fresh_behind bsize psize before count kept written size i j g power off = ⊎_elim
    (λ (less : j < kept / size / (bsize / psize)). absurd (clash (sym (front_kept bsize psize before count kept written size i j g power less) ∙ off)))
    (λ (ge : kept / size / (bsize / psize) ≤ j). ge)
    (cases_lt j (kept / size / (bsize / psize)))
  where
    clash : true ≡ false → ⊥
    clash e = cc

-- ---- a level

-- a level of the tree, with so many above it, and the same level of the tree before with the pointer blocks over it
pub record GrowsAt (bsize psize last before count kept : ℕ) (marks : List Mark) (earlier later : Image) (numbers : List ℕ) (n : ℕ) (t : Tier) (es : List Kept) (root : Child) (partly : Bool)
    (olds : List (List ℕ)) (old_below : List ℕ) (size : ℕ) :
    Type 0 where
  pub height : ℕ
  pub power : size ≡ (bsize / psize) ^ height
  pub some : 1 ≤ size
  pub kept_is : t.kept ≡ kept / size
  pub less : t.kept < length t.blocks
  pub count_is : length t.blocks ≡ up count size
  pub within : t.kept ≤ length old_below
  pub same : (j : ℕ) → j < t.kept → get_or t.blocks j 0 ≡ get_or old_below j 0
  pub heaped : Heaped (form_on bsize psize last) earlier old_below olds (root.block ∷ [])
  pub low : t.kept ≤ (bsize / psize) ^ length olds
  pub es_is : es ≡ kept_levels (bsize / psize) psize earlier root olds t.kept partly n
  pub keeps : AllKeep psize (bsize / psize) numbers t es n
  pub words : All Word t.blocks
  pub room : t.first + over_count (bsize / psize) n (length t.blocks) ≤ length numbers
  pub has : (k nth : ℕ) → t.kept ≤ k → k < length t.blocks → In nth (complete_from (bsize / psize) n t.first (length t.blocks) k)
      → later (get_or numbers nth 0) ≡ node_in bsize psize marks count numbers n t es (nth - t.first)

-- the pointer blocks over it
abbrev over_it : ℕ → ℕ → List ℕ → Tier → List Kept → List ℕ
over_it bsize psize numbers t es = (tier_above (bsize / psize) numbers t (kept_here es)).blocks

-- ---- the kept pointers

-- those of the pointer block over the first block that isn't kept name the first of its group
front_names : (bsize psize last before count kept : ℕ) (written : List ℕ) (marks : List Mark) (earlier later : Image) (numbers : List ℕ) (n : ℕ) (t : Tier) (es : List Kept) (root : Child) (partly : Bool)
    (olds : List (List ℕ)) (old_below : List ℕ) (size : ℕ) → Growing bsize psize before count kept written → root.block < 2 ^ 32
    → GrowsAt bsize psize last before count kept marks earlier later numbers (suc n) t es root partly olds old_below size
    → pointers (t.kept % (bsize / psize)) psize (kept_here es).front ≡ take (t.kept % (bsize / psize)) (group (bsize / psize) t.blocks (t.kept / (bsize / psize)))
unfolding kept_levels pointers
front_names bsize psize last before count kept written marks earlier later numbers n t es root partly olds old_below size c root_word g = ⊎_elim
    (λ (none : m < 1). let zero' : m ≡ 0 = omega arith in rw zero' refl)
    (λ (any : 1 ≤ m). by_olds olds any g.heaped g.low front_is)
    (cases_lt m 1)
  where
    fan : ℕ
    fan = bsize / psize

    m : ℕ
    m = t.kept % fan

    j : ℕ
    j = t.kept / fan

    front_is : (kept_here es).front ≡ kept_front fan psize earlier root olds t.kept
    front_is = ap (λ (l : List Kept). (kept_here l).front) g.es_is

    at : j * fan + m ≡ t.kept
    at = div-add-mod' t.kept fan

    few : m < fan
    few = let w = c.wide in mod-lt t.kept (omega arith)

    wide_of : (p : ℕ) → (p ≡ 4) ⊎ (p ≡ 12) → 4 ≤ p
    wide_of p kind = omega (arith, kind)

    by_olds : (os : List (List ℕ)) → 1 ≤ m → Heaped (form_on bsize psize last) earlier old_below os (root.block ∷ []) → t.kept ≤ fan ^ length os
        → (kept_here es).front ≡ kept_front fan psize earlier root os t.kept → pointers m psize (kept_here es).front ≡ take m (group fan t.blocks j)
    by_olds [] any heaped low is =
        let one = pow-zero fan in
        let a = at in
        let w = c.wide in
        let kept_one : t.kept ≡ 1 = one_kept t.kept m low (omega arith) in
        let m_one : m ≡ 1 = small fan t.kept w kept_one in
        let first : get_or t.blocks 0 0 ≡ root.block = g.same 0 (omega arith) ∙ ap (λ (l : List ℕ). get_or l 0 0) heaped in
        let zero' : j * fan ≡ 0 = omega arith in
        let own : (kept_here es).front ≡ cell_bytes (cell_of psize root) = is ∙ cond-true (ltb 0 t.kept) (cell_bytes (cell_of psize root)) [] (lt-ltb 0 t.kept (omega arith)) in
        let fits = fits_cell psize root c.kind root_word in
        let less = g.less in
        ap (λ (k : ℕ). pointers k psize (kept_here es).front) m_one ∙ ap (pointers 1 psize) own ∙ one_cell psize (cell_of psize root) fits
        ∙ ap (λ (b : ℕ). b ∷ []) (sym first) ∙ sym (first_of t.blocks (omega arith)) ∙ ap (λ (k : ℕ). take 1 (drop k t.blocks)) (sym zero')
        ∙ ap (λ (k : ℕ). take k (drop (j * fan) t.blocks)) (sym m_one) ∙ sym (group_front fan j m t.blocks (omega (arith, few)))
      where
        one_kept : (k r : ℕ) → k ≤ fan ^ 0 → 1 ≤ k → k ≡ 1
        one_kept k r low some = let e = pow-zero fan in omega arith

        small : (f k : ℕ) → 2 ≤ f → k ≡ 1 → k % f ≡ 1
        small f k wide is = let z : 0 * f + 1 ≡ k = omega arith in ap (λ (x : ℕ). x % f) (sym z) ∙ mod-mul-add 0 f 1 (omega arith)

        first_of : (xs : List ℕ) → 1 ≤ length xs → take 1 (drop 0 xs) ≡ get_or xs 0 0 ∷ []
        first_of [] long = absurd (omega arith)
        first_of (x ∷ xs) long = refl
    by_olds (old ∷ more) any heaped low is =
        let bytes = earlier (get_or old j 0) in
        let tier = points_tier (form_on bsize psize last) earlier (let w = c.wide in omega arith) old old_below heaped.0 in
        let a = at in
        let f = few in
        let inside : j < length old = subst (λ (k : ℕ). j < k) (sym tier.long) (below_group fan j m (length old_below) (omega (arith, c.wide)) any (omega (arith, g.within, at))) in
        let names = tier.each j inside in
        let own : List ℕ = group fan old_below j in
        let long : m ≤ length own = (let d = length-drop (j * fan) old_below in let e = length-take fan (drop (j * fan) old_below) in let w = g.within in omega arith) in
        let enough : m * psize ≤ length bytes = (let e = g.keeps.0.front in let x = ap (λ (l : List ℕ). length l) is in let y = length-take (m * psize) bytes in omega arith) in
        let whole : m + (fan - m) ≡ fan = omega arith in
        let read : pointers m psize (take (m * psize) bytes) ≡ take m (pointers (m + (fan - m)) psize bytes) = pointers_front m (fan - m) psize bytes (wide_of psize c.kind) enough in
        ap (pointers m psize) is ∙ read ∙ ap (λ (k : ℕ). take m (pointers k psize bytes)) whole ∙ ap (take m) names.1 ∙ take-append-le m own names.0 long
        ∙ group_front fan j m old_below (omega (arith, few))
        ∙ same_front m (j * fan) old_below t.blocks (omega (arith, g.within, at)) (omega (arith, g.less, at)) (λ k lower. sym (g.same k (omega (arith, at))))
        ∙ sym (group_front fan j m t.blocks (omega (arith, few)))
      where
        below_group : (f j m len : ℕ) → 1 ≤ f → 1 ≤ m → j * f + m ≤ len → j < up len f
        below_group f j m len room some low = ⊎_elim
            (λ (less : j < up len f). less)
            (λ (past : up len f ≤ j). absurd (let s = (up_spec len f room).0 in let wide = mul-le-mul_right f past in omega arith))
            (cases_lt j (up len f))

-- no pointers name nothing
nothing_names : (psize fan j : ℕ) (xs below : List ℕ) → pointers 0 psize xs ≡ take 0 (group fan below j)
unfolding pointers
nothing_names psize fan j xs below = refl

-- a pointer block that isn't kept points to its group
level_names : (bsize psize last before count kept : ℕ) (written : List ℕ) (marks : List Mark) (earlier later : Image) (numbers : List ℕ) (n : ℕ) (t : Tier) (es : List Kept) (root : Child) (partly : Bool)
    (olds : List (List ℕ)) (old_below : List ℕ) (size j : ℕ) → Growing bsize psize before count kept written → root.block < 2 ^ 32
    → GrowsAt bsize psize last before count kept marks earlier later numbers (suc n) t es root partly olds old_below size → j < up (length t.blocks) (bsize / psize) → t.kept / (bsize / psize) ≤ j
    → Names (form_on bsize psize last) later (get_or (over_it bsize psize numbers t es) j 0) (group (bsize / psize) t.blocks j)
unfolding complete_from node_in
level_names bsize psize last before count kept written marks earlier later numbers n t es root partly olds old_below size j c root_word g less low =
    (whole.0, ap (pointers fan psize) (ap later number ∙ node) ∙ whole.1)
  where
    fan : ℕ
    fan = bsize / psize

    len : ℕ
    len = length t.blocks

    q : ℕ
    q = up len fan

    k : ℕ
    k = last_in fan len j

    upto : ℕ
    upto = min ((j + 1) * fan) len

    l : LastOf fan len j k
    l = let w = c.wide in last_of fan len j (omega arith) less

    number : get_or (over_it bsize psize numbers t es) j 0 ≡ get_or numbers (t.first + j) 0
    number = get_or-take q (drop t.first numbers) j 0 less ∙ get_or-drop t.first numbers j 0

    rest : List ℕ
    rest = complete_from fan n (t.first + q) q (k / fan)

    there : In (t.first + j) (complete_from fan (suc n) t.first len k)
    there = subst (λ (xs : List ℕ). In (t.first + j) xs) (sym (cond-true (ends_group fan len k) ((t.first + k / fan) ∷ rest) [] l.ends)) (inl (ap (λ (x : ℕ). t.first + x) (sym l.over)))

    own : List ℕ
    own = pointing bsize psize marks count t (kept_here es) j upto

    behind : t.kept ≤ k
    behind =
        let w = div-add-mod' t.kept fan in
        let r : t.kept % fan < fan = (let x = c.wide in mod-lt t.kept (omega arith)) in
        let up' : (t.kept / fan + 1) * fan ≤ (j + 1) * fan = mul-le-mul_right fan (omega arith) in
        let e : (t.kept / fan + 1) * fan ≡ t.kept / fan * fan + fan = next (t.kept / fan) fan in
        let u = l.upto in
        let s = g.less in
        omega arith
      where
        next : (a b : ℕ) → (a + 1) * b ≡ a * b + b
        next a b = grind arith

    node : later (get_or numbers (t.first + j) 0) ≡ own
    node =
        let at : t.first + j - t.first ≡ j = omega arith in
        g.has k (t.first + j) behind l.within there
        ∙ ap (λ (x : ℕ). node_in bsize psize marks count numbers (suc n) t es x) at
        ∙ cond-true (ltb j q) own (node_in bsize psize marks count numbers n (tier_above fan numbers t (kept_here es)) (kept_above es) (j - q)) (lt-ltb j q less)

    kept_at : t.kept / fan * fan + t.kept % fan ≡ t.kept
    kept_at = div-add-mod' t.kept fan

    short : t.kept % fan < fan
    short = let w = c.wide in mod-lt t.kept (omega arith)

    next : (a b : ℕ) → (a + 1) * b ≡ a * b + b
    next a b = grind arith

    first_low : j * fan < len
    first_low = let w = c.wide in below_up len fan j (omega arith) less

    whole : (unused : List ℕ) × (pointers fan psize own ≡ group fan t.blocks j ++ unused)
    whole = ⊎_elim
        (λ (here : j ≡ t.kept / fan).
        let m = t.kept % fan in
        let all : j * fan ≡ t.kept / fan * fan = ap (λ (x : ℕ). x * fan) here in
        let front : front_at fan t (kept_here es) j ≡ (kept_here es).front = cond-true (eqb j (t.kept / fan)) (kept_here es).front [] (eq-eqb j (t.kept / fan) here) in
        let names = front_names bsize psize last before count kept written marks earlier later numbers n t es root partly olds old_below size c root_word g in
        names_whole bsize psize marks count t (kept_here es) j m upto c.kind (omega (arith, short)) refl (omega (arith, kept_at, all))
        (let e = next j fan in omega (arith, kept_at, all, short, g.less, e))
        (ap (λ (xs : List ℕ). length xs) front ∙ g.keeps.0.front)
        (ap (pointers m psize) front ∙ names ∙ ap (λ (x : ℕ). take m (group fan t.blocks x)) (sym here)) g.words)
        (λ (other : j ≡ t.kept / fan → ⊥).
        let more : t.kept / fan + 1 ≤ j = past other in
        let high : (t.kept / fan + 1) * fan ≤ j * fan = mul-le-mul_right fan more in
        let e = next (t.kept / fan) fan in
        let front : front_at fan t (kept_here es) j ≡ [] = cond-false (eqb j (t.kept / fan)) (kept_here es).front [] (ne_eqb j (t.kept / fan) other) in
        let e' = next j fan in
        names_whole bsize psize marks count t (kept_here es) j 0 upto c.kind (omega arith) refl (omega (arith, kept_at, high, short, e)) (omega (arith, first_low, e'))
        (ap (λ (xs : List ℕ). length xs) front ∙ (omega arith)) (nothing_names psize fan j (front_at fan t (kept_here es) j) t.blocks) g.words)
        (cases_eq j (t.kept / fan))
      where
        past : (j ≡ t.kept / fan → ⊥) → t.kept / fan + 1 ≤ j
        past other = omega arith

-- ---- the level above

pub above_has : (bsize psize last before count kept : ℕ) (written : List ℕ) (marks : List Mark) (earlier later : Image) (numbers : List ℕ) (n : ℕ) (t : Tier) (es : List Kept) (root : Child) (partly : Bool)
    (olds : List (List ℕ)) (old_below old_tier : List ℕ) (size : ℕ) → Growing bsize psize before count kept written → All Word numbers
    → GrowsAt bsize psize last before count kept marks earlier later numbers (suc n) t es root partly olds old_below size
    → t.kept / (bsize / psize) ≤ length old_tier → t.kept / (bsize / psize) ≤ (bsize / psize) ^ length (tiers_above olds)
    → Heaped (form_on bsize psize last) earlier old_tier (tiers_above olds) (root.block ∷ [])
    → ((j : ℕ) → j < t.kept / (bsize / psize) → get_or (over_it bsize psize numbers t es) j 0 ≡ get_or old_tier j 0)
    → GrowsAt bsize psize last before count kept marks earlier later numbers n (tier_above (bsize / psize) numbers t (kept_here es)) (kept_above es) root (partly_above (bsize / psize) t.kept partly)
    (tiers_above olds) old_tier (size * (bsize / psize))
unfolding complete_from node_in kept_levels
above_has bsize psize last before count kept written marks earlier later numbers n t es root partly olds old_below old_tier size c words g within low heaped same = record {
  height = suc g.height;
  power = ap (λ (x : ℕ). x * fan) g.power ∙ sym (pow-suc fan g.height);
  some = mul-pos g.some (let w = c.wide in omega arith);
  kept_is = ap (λ (x : ℕ). x / fan) g.kept_is ∙ div-div-eq-div-mul kept size fan;
  less = subst (λ (x : ℕ). t.kept / fan < x) (sym long) (group_within fan len t.kept some g.less);
  count_is = long ∙ ap (λ (x : ℕ). up x fan) g.count_is ∙ up_up count size fan g.some some;
  within = within;
  same = same;
  heaped = heaped;
  low = low;
  es_is = ap kept_above g.es_is;
  keeps = g.keeps.1;
  words = All-take Word q (drop t.first numbers) (All-drop Word t.first numbers words);
  room = let e = ap (over_count fan n) long in let r = g.room in omega arith;
  has = has;
}
  where
    fan : ℕ
    fan = bsize / psize

    some : 1 ≤ fan
    some = let w = c.wide in omega arith

    len : ℕ
    len = length t.blocks

    q : ℕ
    q = up len fan

    up_t : Tier
    up_t = tier_above fan numbers t (kept_here es)

    long : length up_t.blocks ≡ q
    long = length-take-le q (drop t.first numbers) (let d = length-drop t.first numbers in let r = g.room in omega arith)

    has : (k nth : ℕ) → t.kept / fan ≤ k → k < length up_t.blocks → In nth (complete_from fan n (t.first + q) (length up_t.blocks) k)
        → later (get_or numbers nth 0) ≡ node_in bsize psize marks count numbers n up_t (kept_above es) (nth - (t.first + q))
    has k nth low' less there =
        let less' : k < q = subst (λ (x : ℕ). k < x) long less in
        let l = last_of fan len k some less' in
        let i = last_in fan len k in
        let tail : In nth (complete_from fan n (t.first + q) q (i / fan)) =
        subst (λ (x : ℕ). In nth (complete_from fan n (t.first + q) q x)) (sym l.over) (subst (λ (x : ℕ). In nth (complete_from fan n (t.first + q) x k)) long there) in
        let all : In nth (complete_from fan (suc n) t.first len i) =
        subst (λ (xs : List ℕ). In nth xs) (sym (cond-true (ends_group fan len i) ((t.first + i / fan) ∷ complete_from fan n (t.first + q) q (i / fan)) [] l.ends)) (inr tail) in
        let past : q ≤ nth - t.first = (let w = (complete_within fan n (t.first + q) q (i / fan) nth some (subst (λ (x : ℕ). x < q) (sym l.over) less') tail).0 in omega arith) in
        let at : nth - t.first - q ≡ nth - (t.first + q) = omega arith in
        let own = pointing bsize psize marks count t (kept_here es) (nth - t.first) (min ((nth - t.first + 1) * fan) len) in
        g.has i nth (behind k i l low') l.within all
        ∙ cond-false (ltb (nth - t.first) q) own (node_in bsize psize marks count numbers n up_t (kept_above es) (nth - t.first - q)) (le-ltb (nth - t.first) q past)
        ∙ ap (λ (x : ℕ). node_in bsize psize marks count numbers n up_t (kept_above es) x) at
      where
        next : (a b : ℕ) → (a + 1) * b ≡ a * b + b
        next a b = grind arith

        behind : (k i : ℕ) → LastOf fan len k i → t.kept / fan ≤ k → t.kept ≤ i
        behind k i l low' =
            let w = div-add-mod' t.kept fan in
            let r : t.kept % fan < fan = mod-lt t.kept some in
            let up' : (t.kept / fan + 1) * fan ≤ (k + 1) * fan = mul-le-mul_right fan (omega arith) in
            let e : (t.kept / fan + 1) * fan ≡ t.kept / fan * fan + fan = next (t.kept / fan) fan in
            let u = l.upto in
            let s = g.less in
            omega arith

-- ---- all levels

pub grown_points : (bsize psize last before count kept : ℕ) (written : List ℕ) (marks : List Mark) (earlier later : Image) (numbers : List ℕ) (n : ℕ) (t : Tier) (es : List Kept) (root : Child) (partly : Bool)
    (olds : List (List ℕ)) (old_below : List ℕ) (size : ℕ) (fresh : List ℕ) → Growing bsize psize before count kept written → root.block < 2 ^ 32 → All Word numbers
    → GrowsAt bsize psize last before count kept marks earlier later numbers n t es root partly olds old_below size
    → levels_of (bsize / psize) size count n (drop t.first numbers) ≡ paths (bsize / psize) size before count written olds n fresh
    → PointFresh (form_on bsize psize last) later size before count written olds t.blocks (paths (bsize / psize) size before count written olds n fresh)
unfolding paths levels_of
grown_points bsize psize last before count kept written marks earlier later numbers zero t es root partly [] old_below size fresh c root_word words g is = tt
grown_points bsize psize last before count kept written marks earlier later numbers zero t es root partly (old ∷ olds) old_below size fresh c root_word words g is = tt
grown_points bsize psize last before count kept written marks earlier later numbers (suc n) t es root partly [] old_below size fresh c root_word words g is = (
  λ j less. subst (λ (xs : List ℕ). Names (form_on bsize psize last) later (get_or xs j 0) (group fan t.blocks j)) tier_is
      (level_names bsize psize last before count kept written marks earlier later numbers n t es root partly [] old_below size j c root_word g
      (subst (λ (x : ℕ). j < x) (length-numbered false wide before count written [] fresh m ∙ sym q_is) less) (let z = none_above in omega arith)),
  subst (λ (xs : List ℕ). PointFresh (form_on bsize psize last) later wide before count written [] xs more) tier_is
      (grown_points bsize psize last before count kept written marks earlier later numbers n up_t (kept_above es) root (partly_above fan t.kept partly) [] old_below wide
      (drop (fresh_on false wide before count written m) fresh) c root_word words
      (above_has bsize psize last before count kept written marks earlier later numbers n t es root partly [] old_below old_below size c words g (let z = none_above in omega arith)
      (let z = none_above in omega arith) g.heaped (λ j less. absurd (let z = none_above in omega arith)))
      rest_is),
)
  where
    fan : ℕ
    fan = bsize / psize

    some : 1 ≤ fan
    some = let w = c.wide in omega arith

    wide : ℕ
    wide = size * fan

    m : ℕ
    m = up count wide

    q_is : up (length t.blocks) fan ≡ m
    q_is = ap (λ (x : ℕ). up x fan) g.count_is ∙ up_up count size fan g.some some

    up_t : Tier
    up_t = tier_above fan numbers t (kept_here es)

    tier : List ℕ
    tier = numbered false wide before count written [] fresh m

    more : List (List ℕ)
    more = paths fan wide before count written [] n (drop (fresh_on false wide before count written m) fresh)

    heads : (xs ys : List ℕ) (xss yss : List (List ℕ)) → xs ∷ xss ≡ ys ∷ yss → (xs ≡ ys) × (xss ≡ yss)
    heads xs ys xss yss e = (cc, cc)

    both : (take m (drop t.first numbers) ≡ tier) × (levels_of fan wide count n (drop m (drop t.first numbers)) ≡ more)
    both = heads (take m (drop t.first numbers)) tier (levels_of fan wide count n (drop m (drop t.first numbers))) more is

    tier_is : up_t.blocks ≡ tier
    tier_is = ap (λ (x : ℕ). take x (drop t.first numbers)) q_is ∙ both.0

    rest_is : levels_of fan wide count n (drop (t.first + up (length t.blocks) fan) numbers) ≡ more
    rest_is = ap (λ (x : ℕ). levels_of fan wide count n (drop (t.first + x) numbers)) q_is
        ∙ ap (levels_of fan wide count n) (sym (drop-drop m t.first numbers)) ∙ both.1

    none_above : t.kept / fan ≡ 0
    none_above = let l = kept_low fan t.kept 0 c.wide g.low in no_more fan t.kept c.wide g.low
      where
        no_more : (f k : ℕ) → 2 ≤ f → k ≤ f ^ 0 → k / f ≡ 0
        no_more f k w low =
            let one = pow-zero f in
            let whole = div-mul-le_self k f in
            ⊎_elim (λ (none : k / f < 1). omega arith) (λ (some : 1 ≤ k / f). absurd (let x : 1 * f ≤ k / f * f = mul-le-mul_right f some in omega arith)) (cases_lt (k / f) 1)
grown_points bsize psize last before count kept written marks earlier later numbers (suc n) t es root partly (old ∷ olds) old_below size fresh c root_word words g is = (
  λ j less off. subst (λ (xs : List ℕ). Names (form_on bsize psize last) later (get_or xs j 0) (group fan t.blocks j)) tier_is
      (level_names bsize psize last before count kept written marks earlier later numbers n t es root partly (old ∷ olds) old_below size j c root_word g
      (subst (λ (x : ℕ). j < x) (length-numbered true wide before count written old fresh m ∙ sym q_is) less)
      (subst (λ (x : ℕ). x / fan ≤ j) (sym g.kept_is) (fresh_behind bsize psize before count kept written size g.height j c g.power off))),
  subst (λ (xs : List ℕ). PointFresh (form_on bsize psize last) later wide before count written olds xs more) tier_is
      (grown_points bsize psize last before count kept written marks earlier later numbers n up_t (kept_above es) root (partly_above fan t.kept partly) olds old wide
      (drop (fresh_on true wide before count written m) fresh) c root_word words
      (above_has bsize psize last before count kept written marks earlier later numbers n t es root partly (old ∷ olds) old_below old size c words g
      (subst (λ (x : ℕ). t.kept / fan ≤ x) (sym old_long) (kept_within fan t.kept (length old_below) some g.within))
      (subst (λ (x : ℕ). t.kept / fan ≤ fan ^ x) (let e : suc (length olds) - 1 ≡ length olds = omega arith in e) (kept_low fan t.kept (suc (length olds)) c.wide g.low)) g.heaped.1 same)
      rest_is),
)
  where
    fan : ℕ
    fan = bsize / psize

    some : 1 ≤ fan
    some = let w = c.wide in omega arith

    wide : ℕ
    wide = size * fan

    m : ℕ
    m = up count wide

    q_is : up (length t.blocks) fan ≡ m
    q_is = ap (λ (x : ℕ). up x fan) g.count_is ∙ up_up count size fan g.some some

    up_t : Tier
    up_t = tier_above fan numbers t (kept_here es)

    tier : List ℕ
    tier = numbered true wide before count written old fresh m

    more : List (List ℕ)
    more = paths fan wide before count written olds n (drop (fresh_on true wide before count written m) fresh)

    heads : (xs ys : List ℕ) (xss yss : List (List ℕ)) → xs ∷ xss ≡ ys ∷ yss → (xs ≡ ys) × (xss ≡ yss)
    heads xs ys xss yss e = (cc, cc)

    both : (take m (drop t.first numbers) ≡ tier) × (levels_of fan wide count n (drop m (drop t.first numbers)) ≡ more)
    both = heads (take m (drop t.first numbers)) tier (levels_of fan wide count n (drop m (drop t.first numbers))) more is

    tier_is : up_t.blocks ≡ tier
    tier_is = ap (λ (x : ℕ). take x (drop t.first numbers)) q_is ∙ both.0

    rest_is : levels_of fan wide count n (drop (t.first + up (length t.blocks) fan) numbers) ≡ more
    rest_is = ap (λ (x : ℕ). levels_of fan wide count n (drop (t.first + x) numbers)) q_is
        ∙ ap (levels_of fan wide count n) (sym (drop-drop m t.first numbers)) ∙ both.1

    old_long : length old ≡ up (length old_below) fan
    old_long = (points_tier (form_on bsize psize last) earlier some old old_below g.heaped.0).long

    same : (j : ℕ) → j < t.kept / fan → get_or up_t.blocks j 0 ≡ get_or old j 0
    same j less =
        let at : is_kept true wide before count written j ≡ true = front_kept bsize psize before count kept written size g.height j c g.power (subst (λ (x : ℕ). j < x / fan) g.kept_is less) in
        let inside : j < m = subst (λ (x : ℕ). j < x) q_is (let a = group_within fan (length t.blocks) t.kept some g.less in omega arith) in
        ap (λ (xs : List ℕ). get_or xs j 0) tier_is ∙ get-numbered true wide before count written old fresh m j inside ∙ (rw at refl)
