-- A tree that shares blocks with one that stood before stands.
use Rattle.std.proofs.Common.{◌≡◌, inl, inr, ⊎_elim, ℕ, zero, suc, ◌+◌, ◌-◌, ◌*◌, ◌<◌, ◌≤◌, min, true, false, not, List, [], ◌∷◌, ◌++◌, length, take, drop, slice_index, refl, sym, ◌∙◌, ap, subst, arith, length-append, mul-le-mul_right, mul_comm, mul_assoc}
use Rattle.std.specs.Prelude.{◌==◌, ◌&&◌}
use Rattle.std.proofs.lemmas.Bool.{cases_Bool, cases_lt, and_parts, eqb-true, eq-eqb}
use Rattle.std.proofs.lemmas.List.{take-append-drop, length-drop, length-take, drop-drop, drop_all}
use Rattle.cms_fields.specs.Numbers.{up}
use Rattle.cms_model.specs.Trees.{Image, Form, pointers}
use Rattle.cms_model.specs.Built.{Points}
use Rattle.cms_model.specs.ByLevels.{Heaped}
use Rattle.cms_model.specs.SharedTrees.{any_within, is_kept}
use Rattle.cms_model.specs.SharedTiers.{group, Names, SharedTier, Shared, top_of, SharedStands}
use Rattle.cms_model.proofs.Quotients.{up_spec, up_zero, up_some, up_more, up_up}
use Rattle.cms_model.proofs.SharedTrees.{within_has, within_met}
use Rattle.cms_model.proofs.TreeSizes.{length-pointers}

clash : true ≡ false → ⊥
clash e = cc

-- ---- a level, block by block

pub record Tier (form : Form) (image : Image) (tier below : List ℕ) : Type 0 where
  pub long : length tier ≡ up (length below) form.fan
  pub each : (j : ℕ) → j < length tier → Names form image (slice_index tier j) (group form.fan below j)

next_group : (fan j : ℕ) (below : List ℕ) → group fan below (suc j) ≡ group fan (drop fan below) j
next_group fan j below = let e : suc j * fan ≡ fan + j * fan = omega arith in ap (λ (n : ℕ). take fan (drop n below)) e ∙ ap (take fan) (sym (drop-drop (j * fan) fan below))

fewer_up : (n fan : ℕ) → 1 ≤ fan → 1 ≤ n → up n fan ≡ suc (up (n - fan) fan)
fewer_up n fan some more = ⊎_elim
    (λ (less : n < fan).
    let e : n - fan ≡ 0 = omega arith in
    let z = up_zero fan some in
    let one = up_spec n fan some in
    let low = one.0 in let high = one.1 in
    let pos = up_some n fan some more in
    let is : up n fan ≡ 1 = ⊎_elim (λ (two : 1 < up n fan). let wide : 2 * fan ≤ up n fan * fan = mul-le-mul_right fan two in absurd (omega arith)) (λ (le : up n fan ≤ 1). omega arith) (cases_lt 1 (up n fan)) in
    is ∙ ap suc (sym (ap (λ (m : ℕ). up m fan) e ∙ z)))
    (λ (ge : fan ≤ n).
    let e : n ≡ 1 * fan + (n - fan) = omega arith in
    let more' : up n fan ≡ 1 + up (n - fan) fan = ap (λ (m : ℕ). up m fan) e ∙ up_more 1 (n - fan) fan some in
    omega arith)
    (cases_lt n fan)

pub points_tier : (form : Form) (image : Image) → 1 ≤ form.fan → (ns ps : List ℕ) → Points form image ns ps → Tier form image ns ps
points_tier form image some [] ps none = record { long = sym (ap (λ (l : List ℕ). up (length l) form.fan) none ∙ up_zero form.fan some); each = λ j less. absurd (omega arith) }
points_tier form image some (n ∷ ns) ps (rest, p, more) =
    let fit : length p.own ≤ form.fan = omega (arith, length-pointers form.fan form.stride (image n), ap length p.bytes, length-append p.own p.unused) in
    let long : length ps ≡ length p.own + length rest = ap length p.split ∙ length-append p.own rest in
    let any = p.some in
    let front : take form.fan ps ≡ p.own = ⊎_elim
    (λ (full : length p.own ≡ form.fan). ap (take form.fan) p.split ∙ taken p.own rest full)
    (λ (last : rest ≡ []). let same : ps ≡ p.own = p.split ∙ ap (λ (l : List ℕ). p.own ++ l) last ∙ nil p.own in ap (take form.fan) same ∙ whole form.fan p.own fit)
    p.full in
    let behind : drop form.fan ps ≡ rest = ⊎_elim
    (λ (full : length p.own ≡ form.fan). ap (drop form.fan) p.split ∙ dropped p.own rest full)
    (λ (last : rest ≡ []). let same : ps ≡ p.own = p.split ∙ ap (λ (l : List ℕ). p.own ++ l) last ∙ nil p.own in ap (drop form.fan) same ∙ drop_all form.fan p.own fit ∙ sym last)
    p.full in
    let t = points_tier form image some ns rest more in
    let less = length-drop form.fan ps in
    record {
      long = ap suc (t.long ∙ ap (λ (l : List ℕ). up (length l) form.fan) (sym behind) ∙ ap (λ (m : ℕ). up m form.fan) less) ∙ sym (fewer_up (length ps) form.fan some (omega arith));
      each = go front behind t;
    }
  where
    nil : (xs : List ℕ) → xs ++ [] ≡ xs
    nil [] = refl
    nil (x ∷ xs) = ap (λ (l : List ℕ). x ∷ l) (nil xs)

    whole : (k : ℕ) (xs : List ℕ) → length xs ≤ k → take k xs ≡ xs
    whole k [] le = empty k
      where
        empty : (k : ℕ) → take {A = ℕ} k [] ≡ []
        empty zero = refl
        empty (suc k) = refl
    whole zero (x ∷ xs) le = absurd (omega arith)
    whole (suc k) (x ∷ xs) le = ap (λ (l : List ℕ). x ∷ l) (whole k xs (omega arith))

    taken : (own rest : List ℕ) → length own ≡ form.fan → take form.fan (own ++ rest) ≡ own
    taken own rest is = subst (λ (k : ℕ). take k (own ++ rest) ≡ own) is (seam own)
      where
        seam : (xs : List ℕ) → take (length xs) (xs ++ rest) ≡ xs
        seam [] = refl
        seam (x ∷ xs) = ap (λ (l : List ℕ). x ∷ l) (seam xs)

    dropped : (own rest : List ℕ) → length own ≡ form.fan → drop form.fan (own ++ rest) ≡ rest
    dropped own rest is = subst (λ (k : ℕ). drop k (own ++ rest) ≡ rest) is (seam own)
      where
        seam : (xs : List ℕ) → drop (length xs) (xs ++ rest) ≡ rest
        seam [] = refl
        seam (x ∷ xs) = seam xs

    go : take form.fan ps ≡ p.own → drop form.fan ps ≡ rest → Tier form image ns rest → (j : ℕ) → j < suc (length ns) → Names form image (slice_index (n ∷ ns) j) (group form.fan ps j)
    go front behind t zero less = let z : 0 * form.fan ≡ 0 = omega arith in (p.unused, p.bytes ∙ ap (λ (l : List ℕ). l ++ p.unused) (sym front ∙ ap (λ (m : ℕ). take form.fan (drop m ps)) (sym z)))
    go front behind t (suc j) less =
        let deeper = t.each j (omega arith) in
        (deeper.0, deeper.1 ∙ ap (λ (l : List ℕ). l ++ deeper.0) (ap (λ (l : List ℕ). group form.fan l j) (sym behind) ∙ sym (next_group form.fan j ps)))

tier_points : (form : Form) (image : Image) → 1 ≤ form.fan → (ns ps : List ℕ) → Tier form image ns ps → Points form image ns ps
tier_points form image some [] ps t = none ps (t.long)
  where
    none : (qs : List ℕ) → 0 ≡ up (length qs) form.fan → qs ≡ []
    none [] is = refl
    none (q ∷ qs) is = let more = up_some (suc (length qs)) form.fan some (omega arith) in absurd (omega arith)
tier_points form image some (n ∷ ns) ps t =
    let long = t.long in
    let any : 1 ≤ length ps = ⊎_elim (λ (none : length ps < 1). let e : length ps ≡ 0 = omega arith in let z : up (length ps) form.fan ≡ 0 = ap (λ (m : ℕ). up m form.fan) e ∙ up_zero form.fan some in absurd (omega arith)) (λ (le : 1 ≤ length ps). le) (cases_lt (length ps) 1) in
    let fewer = fewer_up (length ps) form.fan some any in
    let here = t.each 0 (omega arith) in
    let less = length-drop form.fan ps in
    let few = length-take form.fan ps in
    let none : 0 * form.fan ≡ 0 = omega arith in
    let e : up (length (drop form.fan ps)) form.fan ≡ up (length ps - form.fan) form.fan = ap (λ (m : ℕ). up m form.fan) less in (
      drop form.fan ps,
      record {
        own = take form.fan ps;
        unused = here.0;
        split = sym (take-append-drop form.fan ps);
        bytes = here.1 ∙ ap (λ (l : List ℕ). l ++ here.0) (ap (λ (m : ℕ). take form.fan (drop m ps)) none);
        some = omega arith;
        full = ⊎_elim (λ (short : length ps < form.fan). inr (drop_all form.fan ps (omega arith))) (λ (ge : form.fan ≤ length ps). inl (omega arith)) (cases_lt (length ps) form.fan);
      },
      tier_points form image some ns (drop form.fan ps) (record {
        long = omega arith;
        each = λ j low. (let deeper = t.each (suc j) (omega arith) in (deeper.0, deeper.1 ∙ ap (λ (l : List ℕ). l ++ deeper.0) (next_group form.fan j ps)));
      }),
    )

-- ---- groups that are the same

same_front : (k a : ℕ) (xs ys : List ℕ)
    → ((r : ℕ) → r < k → (a + r < length xs → a + r < length ys) × (a + r < length ys → a + r < length xs))
    → ((r : ℕ) → r < k → a + r < length xs → slice_index xs (a + r) ≡ slice_index ys (a + r)) → take k (drop a xs) ≡ take k (drop a ys)
same_front zero a xs ys both same = refl
same_front (suc k) a xs ys both same = ⊎_elim
    (λ (in' : a < length xs).
    let there = (both 0 (omega arith)).0 (omega arith) in
    let z : a + 0 ≡ a = omega arith in
    let e : slice_index xs a ≡ slice_index ys a = subst (λ (n : ℕ). slice_index xs n ≡ slice_index ys n) z (same 0 (omega arith) (omega arith)) in
    let rest = same_front k (a + 1) xs ys
    (λ r less. (let s : a + 1 + r ≡ a + suc r = omega arith in rw s (both (suc r) (omega arith))))
    (λ r less in''. (let s : a + 1 + r ≡ a + suc r = omega arith in rw s (same (suc r) (omega arith) (omega arith)))) in
    ap (take (suc k)) (at a xs in') ∙ (ap (λ (x : ℕ). x ∷ take k (drop (a + 1) xs)) e ∙ ap (λ (l : List ℕ). slice_index ys a ∷ l) rest) ∙ sym (ap (take (suc k)) (at a ys (omega arith))))
    (λ (out : length xs ≤ a).
    let out' : length ys ≤ a = ⊎_elim (λ (in'' : a < length ys). let back = (both 0 (omega arith)).1 (omega arith) in absurd (omega arith)) (λ (le : length ys ≤ a). le) (cases_lt a (length ys)) in
    ap (take (suc k)) (drop_all a xs out ∙ sym (drop_all a ys out')))
    (cases_lt a (length xs))
  where
    at : (n : ℕ) (zs : List ℕ) → n < length zs → drop n zs ≡ slice_index zs n ∷ drop (n + 1) zs
    at n [] less = absurd (omega arith)
    at zero (z ∷ zs) less = refl
    at (suc n) (z ∷ zs) less = let e : suc n + 1 ≡ suc (n + 1) = omega arith in at n zs (omega arith) ∙ ap (λ (m : ℕ). slice_index zs n ∷ drop {A = ℕ} m (z ∷ zs)) (sym e)

-- a block that is kept has kept ones below it
kept_down : (size fan old count j r : ℕ) (written : List ℕ) → r < fan → (j * fan + r) * size < count → is_kept true (size * fan) old count written j ≡ true
    → is_kept true size old count written (j * fan + r) ≡ true
unfolding is_kept
kept_down size fan old count j r written less within is =
    let x = j * fan + r in
    let a = and_parts (true && (min ((j + 1) * (size * fan)) old == min ((j + 1) * (size * fan)) count)) (not (any_within (j * (size * fan)) (min ((j + 1) * (size * fan)) count) written)) is in
    let same = eqb-true (min ((j + 1) * (size * fan)) old) (min ((j + 1) * (size * fan)) count) a.0 in
    let low : j * fan * size ≤ x * size = mul-le-mul_right size (omega arith) in
    let high : suc x * size ≤ (j + 1) * fan * size = mul-le-mul_right size (omega arith) in
    let e : j * (size * fan) ≡ j * fan * size = ap (λ (n : ℕ). j * n) (mul_comm size fan) ∙ sym (mul_assoc j fan size) in
    let f : (j + 1) * (size * fan) ≡ (j + 1) * fan * size = ap (λ (n : ℕ). (j + 1) * n) (mul_comm size fan) ∙ sym (mul_assoc (j + 1) fan size) in
    let g : (x + 1) * size ≡ suc x * size = omega arith in
    let mins : min ((x + 1) * size) old ≡ min ((x + 1) * size) count = omega arith in
    let none : any_within (x * size) (min ((x + 1) * size) count) written ≡ false = ⊎_elim
    (λ (some : any_within (x * size) (min ((x + 1) * size) count) written ≡ true).
    let m = within_met (x * size) (min ((x + 1) * size) count) written some in
    let ml = m.low in let mh = m.high in
    let wide = within_has (j * (size * fan)) (min ((j + 1) * (size * fan)) count) m.n written m.there (omega arith) (omega arith) in
    let turned : not (any_within (j * (size * fan)) (min ((j + 1) * (size * fan)) count) written) ≡ false = ap not wide in
    absurd (clash (sym a.1 ∙ turned)))
    (λ (none : any_within (x * size) (min ((x + 1) * size) count) written ≡ false). none)
    (cases_Bool (any_within (x * size) (min ((x + 1) * size) count) written)) in
    let both = eq-eqb (min ((x + 1) * size) old) (min ((x + 1) * size) count) mins in
    rw (both, none) refl

-- a number of a level
pub lies : (n count size : ℕ) → 1 ≤ size → n < up count size → n * size < count
lies n count size some less = let s = (up_spec count size some).1 in let wide : suc n * size ≤ up count size * size = mul-le-mul_right size less in omega arith

pub lies_back : (n count size : ℕ) → 1 ≤ size → n * size < count → n < up count size
lies_back n count size some less = ⊎_elim (λ (is : n < up count size). is) (λ (ge : up count size ≤ n). let s = (up_spec count size some).0 in let under : up count size * size ≤ n * size = mul-le-mul_right size ge in absurd (omega arith)) (cases_lt n (up count size))

-- ---- level by level

pub never_kept : (size old count : ℕ) (written : List ℕ) (j : ℕ) → is_kept false size old count written j ≡ false
unfolding is_kept
never_kept size old count written j = refl

-- a block that is kept is one of the level before, and the data blocks or pointer blocks below it lie as they lay
pub kept_parts : (wide old count j : ℕ) (written : List ℕ) → is_kept true wide old count written j ≡ true → min ((j + 1) * wide) old ≡ min ((j + 1) * wide) count
unfolding is_kept
kept_parts wide old count j written is =
    let a = and_parts (true && (min ((j + 1) * wide) old == min ((j + 1) * wide) count)) (not (any_within (j * wide) (min ((j + 1) * wide) count) written)) is in
    eqb-true (min ((j + 1) * wide) old) (min ((j + 1) * wide) count) a.0

group_stands : (form : Form) (before later : Image) (size old count : ℕ) (written : List ℕ) (old_tier old_below below tier : List ℕ) → 1 ≤ form.fan → 1 ≤ size → 1 ≤ size * form.fan
    → length old_below ≡ up old size → length below ≡ up count size → length old_tier ≡ up old (size * form.fan) → length tier ≡ up count (size * form.fan)
    → Tier form before old_tier old_below
    → ((x : ℕ) → x < length below → is_kept true size old count written x ≡ true → slice_index below x ≡ slice_index old_below x)
    → SharedTier form before later (size * form.fan) old count written true old_tier below tier
    → (j : ℕ) → j < length tier → Names form later (slice_index tier j) (group form.fan below j)
group_stands form before later size old count written old_tier old_below below tier some pos wide old_long long old_more new_more old_tiers agree here j less = ⊎_elim
    (λ (is : is_kept true (size * form.fan) old count written j ≡ true).
    let there = here.kept j less is in
    let mins = kept_parts (size * form.fan) old count j written is in
    let in' = lies j count (size * form.fan) wide (omega arith) in
    let at : (j + 1) * (size * form.fan) ≡ j * (size * form.fan) + size * form.fan = omega arith in
    let old_in = lies_back j old (size * form.fan) wide (omega arith) in
    let names = old_tiers.each j (omega arith) in
    let fits : (r : ℕ) → r < form.fan → (j * form.fan + r) * size + size ≤ (j + 1) * (size * form.fan) = λ r low. (
    let high : suc (j * form.fan + r) * size ≤ (j + 1) * form.fan * size = mul-le-mul_right size (omega arith) in
    let f : (j + 1) * (size * form.fan) ≡ (j + 1) * form.fan * size = ap (λ (n : ℕ). (j + 1) * n) (mul_comm size form.fan) ∙ sym (mul_assoc (j + 1) form.fan size) in
    omega arith) in
    let same : group form.fan below j ≡ group form.fan old_below j = same_front form.fan (j * form.fan) below old_below
    (λ r low. (
    let f = fits r low in (
      λ b. (let l = lies (j * form.fan + r) count size pos (omega arith) in let k = lies_back (j * form.fan + r) old size pos (omega arith) in omega arith),
      λ b. (let l = lies (j * form.fan + r) old size pos (omega arith) in let k = lies_back (j * form.fan + r) count size pos (omega arith) in omega arith),
    )))
    (λ r low b. (
    let l = lies (j * form.fan + r) count size pos (omega arith) in
    agree (j * form.fan + r) b (kept_down size form.fan old count j r written low l is))) in
    (names.0, ap (pointers form.fan form.stride) (ap later there.0 ∙ sym there.1) ∙ names.1 ∙ ap (λ (l : List ℕ). l ++ names.0) (sym same)))
    (λ (no : is_kept true (size * form.fan) old count written j ≡ false). here.fresh j less no)
    (cases_Bool (is_kept true (size * form.fan) old count written j))

pub up_one : (n : ℕ) → n ≡ up n 1
up_one n = let s = up_spec n 1 (omega arith) in let a = s.0 in let b = s.1 in omega arith

stands_on : (form : Form) (before later : Image) (size old count : ℕ) (written : List ℕ) (olds : List (List ℕ)) (old_below below : List ℕ) (tiers : List (List ℕ)) (old_tops : List ℕ) → 1 ≤ form.fan → 1 ≤ size
    → length old_below ≡ up old size → length below ≡ up count size → Heaped form before old_below olds old_tops
    → ((x : ℕ) → x < length below → is_kept true size old count written x ≡ true → slice_index below x ≡ slice_index old_below x)
    → Shared form before later size old count written olds below tiers → Heaped form later below tiers (top_of below tiers)
stands_on form before later size old count written olds old_below below [] old_tops some pos old_long long heaped agree s = refl
stands_on form before later size old count written [] old_below below (tier ∷ more) old_tops some pos old_long long heaped agree s =
    (tier_points form later some tier below (record { long = s.0.long; each = λ j less. s.0.fresh j less (never_kept (size * form.fan) old count written j) }), alone tier more (size * form.fan) s.1)
  where
    alone : (t : List ℕ) (ts : List (List ℕ)) (wide : ℕ) → Shared form before later wide old count written [] t ts → Heaped form later t ts (top_of t ts)
    alone t [] wide s' = refl
    alone t (u ∷ us) wide s' = (tier_points form later some u t (record { long = s'.0.long; each = λ j less. s'.0.fresh j less (never_kept (wide * form.fan) old count written j) }), alone u us (wide * form.fan) s'.1)
stands_on form before later size old count written (old_tier ∷ olds) old_below below (tier ∷ more) old_tops some pos old_long long heaped agree s =
    let wide : 1 ≤ size * form.fan = omega (arith, mul-le-mul_right form.fan pos) in
    let old_tiers = points_tier form before some old_tier old_below heaped.0 in
    let old_more = old_tiers.long ∙ ap (λ (n : ℕ). up n form.fan) old_long ∙ up_up old size form.fan pos some in
    let here = s.0 in
    let new_more = here.long ∙ ap (λ (n : ℕ). up n form.fan) long ∙ up_up count size form.fan pos some in (
      tier_points form later some tier below (record {
        long = here.long;
        each = λ j less. group_stands form before later size old count written old_tier old_below below tier some pos wide old_long long old_more new_more old_tiers agree here j less;
      }),
      stands_on form before later (size * form.fan) old count written olds old_tier tier more old_tops some wide old_more new_more heaped.1 (λ x less is. (here.kept x less is).0) s.1,
    )

pub shared_stands : SharedStands
shared_stands form before later old_leaves leaves written olds tiers old_tops some heaped same s =
    stands_on form before later 1 (length old_leaves) (length leaves) written olds old_leaves leaves tiers old_tops some (omega arith) (up_one (length old_leaves)) (up_one (length leaves)) heaped same s
