-- What is kept of a tree's open pointer blocks is the same as long as its pointer blocks are.
use Rattle.std.proofs.Common.{◌≡◌, ◌⊎◌, inl, inr, ⊎_elim, ℕ, zero, suc, ◌*◌, ◌/◌, ◌%◌, ◌<◌, ◌≤◌, min, Bool, true, false, List, [], ◌∷◌, length, take, drop, get_or, Option, None, Some, refl, sym, ◌∙◌, ap, subst, arith, div-add-mod', mul-le-mul_right}
use Rattle.std.specs.Prelude.{⊤, ◌||◌, if◌then◌else◌, nat_lt}
use Rattle.std.proofs.lemmas.Bool.{cases_Bool, cases_lt, cond-false}
use Rattle.std.proofs.lemmas.Bool.Decides.{nat_tests}
use Rattle.std.proofs.lemmas.List.{length-drop, length-take-le}
use Rattle.cms_fields.specs.Numbers.{up}
use Rattle.cms_model.specs.Lists.{In}
use Rattle.cms_model.specs.Sizes.{levels}
use Rattle.cms_model.specs.Trees.{Image}
use Rattle.cms_model.proofs.Quotients.{up_spec, up_up}
use Rattle.cms_model.proofs.SharedTiers.{up_one}
use Rattle.cms_tree.specs.Builds.{Child}
use Rattle.cms_tree.specs.Kept.{Kept}
use Rattle.cms_tree.specs.Levels.{over_count}
use Rattle.cms_tree.specs.Paths.{levels_of}
use Rattle.cms_tree.specs.Resumes.{kept_front, kept_levels, partly_above, place_in, place_of, root_child}
use Rattle.cms_tree.proofs.ClimbBlocks.{group_within}
use Rattle.cms_tree.proofs.ClimbSteps.{over_all}
use Rattle.cms_tree.proofs.Own.{in_at, in_drop, in_take}
use Rattle.cms_tree.proofs.Resumes.{kept_within}
use Rattle.cms_held.specs.Growths.{FrontStays, last_leaf}

-- ---- levels that two images have alike

-- each level has as many pointer blocks as the one below it needs
abbrev AreTiers : ℕ → ℕ → List (List ℕ) → Type 0
AreTiers fan below [] = ⊤
AreTiers fan below (tier ∷ above) = (length tier ≡ up below fan) × AreTiers fan (length tier) above

abbrev Agree : Image → Image → List (List ℕ) → Type 0
Agree earlier later [] = ⊤
Agree earlier later (tier ∷ above) = ((n : ℕ) → In n tier → earlier n ≡ later n) × Agree earlier later above

tiers_are : (fan size count n : ℕ) (numbers : List ℕ) → 1 ≤ fan → 1 ≤ size → over_count fan n (up count size) ≤ length numbers → AreTiers fan (up count size) (levels_of fan size count n numbers)
unfolding levels_of
tiers_are fan size count zero numbers some wide room = tt
tiers_are fan size count (suc n) numbers some wide room =
    let q = up count (size * fan) in
    let same : up (up count size) fan ≡ q = up_up count size fan wide some in
    let both = ap (over_count fan n) same in
    let long : length (take q numbers) ≡ q = length-take-le q numbers (omega arith) in
    let wider = mul-le-mul_right fan wide in (
      long ∙ sym same,
      subst (λ (c : ℕ). AreTiers fan c (levels_of fan (size * fan) count n (drop q numbers))) (sym long)
          (tiers_are fan (size * fan) count n (drop q numbers) some (omega arith) (omega (arith, length-drop q numbers))),
    )

agree_on : (earlier later : Image) (fan size count n : ℕ) (numbers : List ℕ) → ((x : ℕ) → In x numbers → earlier x ≡ later x) → Agree earlier later (levels_of fan size count n numbers)
unfolding levels_of
agree_on earlier later fan size count zero numbers same = tt
agree_on earlier later fan size count (suc n) numbers same = (
  λ x there. same x (in_take x (up count (size * fan)) numbers there),
  agree_on earlier later fan (size * fan) count n (drop (up count (size * fan)) numbers) (λ x there. same x (in_drop x (up count (size * fan)) numbers there)),
)

-- ---- level by level

-- of a level of which a part is kept
part_low : (fan below kept : ℕ) → 1 ≤ fan → kept ≤ below → (kept < below) ⊎ (1 ≤ kept % fan) → kept / fan < up below fan
part_low fan below kept some low (inl less) = group_within fan below kept some less
part_low fan below kept some low (inr part) =
    let all = (up_spec below fan some).0 in
    let whole = div-add-mod' kept fan in
    ⊎_elim
    (λ (less : kept / fan < up below fan). less)
    (λ (more : up below fan ≤ kept / fan). let past : up below fan * fan ≤ kept / fan * fan = mul-le-mul_right fan more in absurd (omega arith))
    (cases_lt (kept / fan) (up below fan))

either : (a b : Bool) → (a || b) ≡ true → (a ≡ true) ⊎ (b ≡ true)
either true b is = inl refl
either false b is = inr is

partly_low : (fan below kept : ℕ) (partly : Bool) → 1 ≤ fan → kept ≤ below → (partly ≡ true → kept < below) → partly_above fan kept partly ≡ true → kept / fan < up below fan
partly_low fan below kept partly some low part is = part_low fan below kept some low (⊎_elim
    (λ (yes' : partly ≡ true). inl (part yes'))
    (λ (more : nat_lt 0 (kept % fan) ≡ true). inr (some_of more))
    (either partly (nat_lt 0 (kept % fan)) is))
  where
    some_of : nat_lt 0 (kept % fan) ≡ true → 1 ≤ kept % fan
    some_of more = grind (arith, nat_tests)

place_same : (fan psize : ℕ) (earlier later : Image) (above : List (List ℕ)) (below k : ℕ) → 1 ≤ fan → k < below → AreTiers fan below above → Agree earlier later above
    → place_of fan psize earlier above k ≡ place_of fan psize later above k
place_same fan psize earlier later [] below k some less tiers agree = refl
place_same fan psize earlier later (tier ∷ above) below k some less tiers agree =
    let there : k / fan < length tier = subst (λ (n : ℕ). k / fan < n) (sym tiers.0) (group_within fan below k some less) in
    ap (λ (bytes : List ℕ). place_in psize bytes (k % fan)) (agree.0 (get_or tier (k / fan) 0) (in_at tier (k / fan) there))

front_same : (fan psize : ℕ) (earlier later : Image) (root : Child) (tier : List ℕ) (above : List (List ℕ)) (below kept : ℕ) → 1 ≤ fan → kept ≤ below → length tier ≡ up below fan
    → ((n : ℕ) → In n tier → earlier n ≡ later n) → kept_front fan psize earlier root (tier ∷ above) kept ≡ kept_front fan psize later root (tier ∷ above) kept
front_same fan psize earlier later root tier above below kept some low long same = ⊎_elim
    (λ (none : kept % fan < 1).
    let zero' : kept % fan ≡ 0 = omega arith in
    let nothing : kept % fan * psize ≡ 0 = ap (λ (r : ℕ). r * psize) zero' ∙ (omega arith) in
    ap (λ (r : ℕ). take r (earlier b)) nothing ∙ sym (ap (λ (r : ℕ). take r (later b)) nothing))
    (λ (part : 1 ≤ kept % fan).
    let there : kept / fan < length tier = subst (λ (n : ℕ). kept / fan < n) (sym long) (part_low fan below kept some low (inr part)) in
    ap (λ (bytes : List ℕ). take (kept % fan * psize) bytes) (same b (in_at tier (kept / fan) there)))
    (cases_lt (kept % fan) 1)
  where
    b : ℕ
    b = get_or tier (kept / fan) 0

-- where no level of the tree is there
none_same : (fan psize : ℕ) (earlier later : Image) (root : Child) (n kept : ℕ) (partly : Bool) → kept_levels fan psize earlier root [] kept partly n ≡ kept_levels fan psize later root [] kept partly n
unfolding kept_levels
none_same fan psize earlier later root zero kept partly = refl
none_same fan psize earlier later root (suc n) kept partly =
    ap (λ (l : List Kept). record {
      front = kept_front fan psize earlier root [] kept;
      place = if partly_above fan kept partly then Some 0 else None;
    } ∷ l) (none_same fan psize earlier later root n (kept / fan) (partly_above fan kept partly))

levels_same : (fan psize : ℕ) (earlier later : Image) (root : Child) (n : ℕ) (tiers : List (List ℕ)) (below kept : ℕ) (partly : Bool) → 1 ≤ fan → kept ≤ below → (partly ≡ true → kept < below)
    → AreTiers fan below tiers → Agree earlier later tiers → kept_levels fan psize earlier root tiers kept partly n ≡ kept_levels fan psize later root tiers kept partly n
unfolding kept_levels
levels_same fan psize earlier later root zero tiers below kept partly some low part tiers_are' agree = refl
levels_same fan psize earlier later root (suc n) [] below kept partly some low part tiers_are' agree =
    ap (λ (l : List Kept). record {
      front = kept_front fan psize earlier root [] kept;
      place = if partly_above fan kept partly then Some 0 else None;
    } ∷ l) (none_same fan psize earlier later root n (kept / fan) (partly_above fan kept partly))
levels_same fan psize earlier later root (suc n) (tier ∷ above) below kept partly some low part tiers_are' agree =
    ap (λ (front : List ℕ). record { front = front; place = place_by earlier } ∷ rest_by earlier) front
    ∙ ap (λ (place : Option ℕ). record { front = kept_front fan psize later root (tier ∷ above) kept; place = place } ∷ rest_by earlier) place
    ∙ ap (λ (l : List Kept). record { front = kept_front fan psize later root (tier ∷ above) kept; place = place_by later } ∷ l)
    (levels_same fan psize earlier later root n above (length tier) (kept / fan) (partly_above fan kept partly) some within within_part tiers_are'.1 agree.1)
  where
    p : Bool
    p = partly_above fan kept partly

    place_by : Image → Option ℕ
    place_by image = if p then Some (place_of fan psize image above (kept / fan)) else None

    rest_by : Image → List Kept
    rest_by image = kept_levels fan psize image root above (kept / fan) p n

    front : kept_front fan psize earlier root (tier ∷ above) kept ≡ kept_front fan psize later root (tier ∷ above) kept
    front = front_same fan psize earlier later root tier above below kept some low tiers_are'.0 agree.0

    within : kept / fan ≤ length tier
    within = subst (λ (x : ℕ). kept / fan ≤ x) (sym tiers_are'.0) (kept_within fan kept below some low)

    within_part : p ≡ true → kept / fan < length tier
    within_part is = subst (λ (x : ℕ). kept / fan < x) (sym tiers_are'.0) (partly_low fan below kept partly some low part is)

    place : place_by earlier ≡ place_by later
    place = ⊎_elim
        (λ (yes' : p ≡ true). ap (λ (x : ℕ). if p then Some x else None)
        (place_same fan psize earlier later above (length tier) (kept / fan) some (within_part yes') tiers_are'.1 agree.1))
        (λ (no' : p ≡ false). cond-false p (Some (place_of fan psize earlier above (kept / fan))) None no'
        ∙ sym (cond-false p (Some (place_of fan psize later above (kept / fan))) None no'))
        (cases_Bool p)

-- ---- of a tree

over_less : (fan a b m : ℕ) → a ≤ b → over_count fan a m ≤ over_count fan b m
over_less fan zero b m low = omega arith
over_less fan (suc a) zero m low = absurd (omega arith)
over_less fan (suc a) (suc b) m low = let more = over_less fan a b (up m fan) (omega arith) in omega arith

pub front_stays : FrontStays
front_stays fan psize earlier later old mark kept leaves wide shape low same =
    levels_same fan psize earlier later (root_child old.pointers (last_leaf old) mark) (levels fan leaves) (levels_of fan 1 o m old.pointers) o kept false (omega arith) low
    (λ is. absurd (clash is)) tiers (agree_on earlier later fan 1 o m old.pointers same)
  where
    o : ℕ
    o = length old.leaves

    m : ℕ
    m = min (levels fan o) (levels fan leaves)

    clash : false ≡ true → ⊥
    clash e = cc

    room : over_count fan m (up o 1) ≤ length old.pointers
    room =
        let all = over_all fan o (omega arith) in
        let nodes = shape.nodes in
        let less = over_less fan m (levels fan o) o (omega arith) in
        subst (λ (x : ℕ). over_count fan m x ≤ length old.pointers) (up_one o) (omega arith)

    tiers : AreTiers fan o (levels_of fan 1 o m old.pointers)
    tiers = subst (λ (x : ℕ). AreTiers fan x (levels_of fan 1 o m old.pointers)) (sym (up_one o)) (tiers_are fan 1 o m old.pointers (omega arith) (omega arith) room)
