-- Trees that stand level by level are read, and stay where they share blocks.
use Rattle.std.proofs.Common.{◌≡◌, ⊎_elim, ℕ, zero, suc, ◌-◌, ◌*◌, ◌^◌, ◌<◌, ◌≤◌, max, min, List, [], ◌∷◌, ◌++◌, length, take, drop, get_or, None, refl, sym, ◌∙◌, ap, subst, arith, length-append, length-drop, mul-le-mul_right, mul_assoc, mul_comm, pow-suc, mul-pos}
use Rattle.std.specs.List.{concat}
use Rattle.std.proofs.lemmas.Bool.{cases_lt}
use Rattle.std.proofs.lemmas.List.{length-take, take-append-drop, get_or-append_right}
use Rattle.std.proofs.Math.Nat.{pow-zero, one-le-pow}
use Rattle.std.proofs.Math.Seq.{drop-append_seam, take-append_seam}
use Rattle.cms_fields.specs.Numbers.{up}
use Rattle.cms_model.specs.Built.{AllAllowed, Built}
use Rattle.cms_model.specs.ByLevels.{Heaped, beside, tiers, tiers_below}
use Rattle.cms_model.specs.SharedTiers.{top_of}
use Rattle.cms_model.specs.Sizes.{levels, pointer_count, pointers_to}
use Rattle.cms_model.specs.Trees.{Form, Image, pointers}
use Rattle.cms_model.proofs.BuiltTrees.{built_reads}
use Rattle.cms_model.proofs.ByLevels.{read_is_heaped}
use Rattle.cms_model.proofs.Quotients.{up_spec, up_some, up_unique, up_up}
use Rattle.cms_model.proofs.Shapes.{levels_needs, shape_least, shape_needs}
use Rattle.cms_model.proofs.SharedTiers.{points_tier, shared_stands, up_one}
use Rattle.cms_model.proofs.TreeSizes.{tree_has_size}
use Rattle.cms_tree.specs.Builds.{root_of}
use Rattle.cms_tree.specs.Paths.{levels_of}
use Rattle.cms_tree.proofs.Paths.{count_first, left_count}
use Rattle.cms_tree.proofs.Resumes.{length-levels_of as levels_count}
use Rattle.cms_tree.proofs.Rest.{tiers_deep}
use Rattle.cms_held.specs.HeldVolumes.{HeldTree}
use Rattle.cms_held.specs.SharedBlocks.{levels_in}
use Rattle.cms_held.specs.SharedTrees.{HasShape, IsStanding, LevelsAreRead, ReadStandsByLevels, SharedTreeStands}

-- ---- levels in one list

levels_joined : (fan size count k : ℕ) (numbers : List ℕ) → length numbers ≡ left_count fan size count k → concat (levels_of fan size count k numbers) ≡ numbers
unfolding levels_of left_count
levels_joined fan size count zero [] long = refl
levels_joined fan size count zero (x ∷ xs) long = absurd (omega arith)
levels_joined fan size count (suc k) numbers long =
    let m = up count (size * fan) in
    ap (λ (l : List ℕ). take m numbers ++ l) (levels_joined fan (size * fan) count k (drop m numbers) (omega (arith, length-drop m numbers))) ∙ take-append-drop m numbers

-- the levels of what stands level by level
levels_back : (form : Form) (image : Image) (size count : ℕ) (below tops : List ℕ) (ts : List (List ℕ)) → 1 ≤ form.fan → 1 ≤ size → length below ≡ up count size → Heaped form image below ts tops
    → levels_of form.fan size count (length ts) (concat ts) ≡ ts
unfolding levels_of
levels_back form image size count below tops [] some room long heaped = refl
levels_back form image size count below tops (t ∷ ts) some room long heaped =
    let wide = size * form.fan in
    let here : length t ≡ up count wide = (points_tier form image some t below heaped.0).long ∙ (ap (λ (n : ℕ). up n form.fan) long ∙ up_up count size form.fan room some) in
    let front : take (up count wide) (t ++ concat ts) ≡ t = subst (λ (n : ℕ). take n (t ++ concat ts) ≡ t) here (take-append_seam t (concat ts)) in
    let behind : drop (up count wide) (t ++ concat ts) ≡ concat ts = subst (λ (n : ℕ). drop n (t ++ concat ts) ≡ concat ts) here (drop-append_seam t (concat ts)) in
    rw (front, behind) (ap (λ (l : List (List ℕ)). t ∷ l) (levels_back form image wide count t tops ts some (mul-pos room some) here heaped.1))

-- ---- the root

alone : (xs : List ℕ) → length xs ≡ 1 → xs ≡ get_or xs (length xs - 1) 0 ∷ []
alone [] one = absurd (omega arith)
alone (x ∷ []) one = refl
alone (x ∷ y ∷ xs) one = absurd (omega arith)

nothing : (xs : List ℕ) → length xs ≡ 0 → xs ≡ []
nothing [] none = refl
nothing (x ∷ xs) none = absurd (omega arith)

nothing_behind : (xs : List ℕ) → xs ++ [] ≡ xs
nothing_behind [] = refl
nothing_behind (x ∷ xs) = ap (λ (l : List ℕ). x ∷ l) (nothing_behind xs)

top_is_root : (fan size count k : ℕ) (below numbers : List ℕ) → 1 ≤ fan → 1 ≤ size → 1 ≤ count → length below ≡ up count size → length numbers ≡ left_count fan size count k
    → up count (size * fan ^ k) ≡ 1 → top_of below (levels_of fan size count k numbers) ≡ root_of below numbers ∷ []
unfolding levels_of left_count
top_is_root fan size count zero below numbers some room any long enough one =
    let unit : size * fan ^ 0 ≡ size = ap (λ (n : ℕ). size * n) (pow-zero fan) ∙ (omega arith) in
    let single : length below ≡ 1 = long ∙ (ap (up count) (sym unit) ∙ one) in
    let none : below ++ numbers ≡ below = ap (λ (l : List ℕ). below ++ l) (nothing numbers enough) ∙ nothing_behind below in
    alone below single ∙ ap (λ (l : List ℕ). get_or l (length l - 1) 0 ∷ []) (sym none)
top_is_root fan size count (suc k) below numbers some room any long enough one =
    let wide = size * fan in
    let m = up count wide in
    let here = mul-pos room some in
    let rest = drop m numbers in
    let tier = take m numbers in
    let m_some = up_some count wide here any in
    let fits : length tier ≡ m = omega (arith, length-take m numbers) in
    let e : fan * fan ^ k ≡ fan ^ suc k = mul_comm fan (fan ^ k) ∙ sym (pow-suc fan k) in
    let power : wide * fan ^ k ≡ size * fan ^ suc k = mul_assoc size fan (fan ^ k) ∙ ap (λ (n : ℕ). size * n) e in
    let deeper = top_is_root fan wide count k tier rest some here any fits (omega (arith, length-drop m numbers)) (ap (up count) power ∙ one) in
    let joined : tier ++ rest ≡ numbers = take-append-drop m numbers in
    let all = length-append below numbers in
    let at : length (below ++ numbers) - 1 - length below ≡ length numbers - 1 = omega arith in
    let last : get_or (below ++ numbers) (length (below ++ numbers) - 1) 0 ≡ get_or numbers (length numbers - 1) 0 =
    get_or-append_right below numbers (length below) (length (below ++ numbers) - 1) 0 refl (omega arith) ∙ ap (λ (n : ℕ). get_or numbers n 0) at in
    deeper ∙ (ap (λ (l : List ℕ). get_or l (length l - 1) 0 ∷ []) joined ∙ ap (λ (n : ℕ). n ∷ []) (sym last))

one_root : (fan count : ℕ) → 2 ≤ fan → 1 ≤ count → count < 2 ^ 32 → up count (1 * fan ^ levels fan count) ≡ 1
one_root fan count wide some few =
    let needs = levels_needs fan count wide few in
    let fits = needs.fits in
    let room = one-le-pow (levels fan count) fan (omega arith) in
    let unit : 1 * fan ^ levels fan count ≡ fan ^ levels fan count = omega arith in
    ap (up count) unit ∙ sym (up_unique count (fan ^ levels fan count) 1 room (omega arith) (omega arith))

-- ---- what stands level by level is read

allowed_left : (last : ℕ) (xs ys : List ℕ) → AllAllowed last None (xs ++ ys) → AllAllowed last None xs
allowed_left last [] ys all = tt
allowed_left last (x ∷ xs) ys all = (all.0, allowed_left last xs ys all.1)

allowed_right : (last : ℕ) (xs ys : List ℕ) → AllAllowed last None (xs ++ ys) → AllAllowed last None ys
allowed_right last [] ys all = all
allowed_right last (x ∷ xs) ys all = allowed_right last xs ys all.1

built_up : (form : Form) (image : Image) (below : List ℕ) (ts : List (List ℕ)) (root : ℕ) → 1 ≤ form.fan → Heaped form image below ts (root ∷ []) → AllAllowed form.last None (concat ts)
    → ((j : ℕ) → j < length ts → form.fan ^ j < length below) → Built form image (length ts) below root (concat ts)
built_up form image below [] root some heaped allowed needs = (heaped, refl)
built_up form image below (t ∷ ts) root some heaped allowed needs =
    let long = (points_tier form image some t below heaped.0).long in
    let room = (up_spec (length below) form.fan some).0 in
    let held : length below ≤ length t * form.fan = subst (λ (n : ℕ). length below ≤ n * form.fan) (sym long) room in
    let high = needs (length ts) (omega arith) in
    let one = one-le-pow (length ts) form.fan some in (
      t,
      concat ts,
      omega arith,
      heaped.0,
      allowed_left form.last t (concat ts) allowed,
      refl,
      built_up form image t ts root some heaped.1 (allowed_right form.last t (concat ts) allowed) (λ j less.
          let more = needs (suc j) (omega arith) in
          let power = pow-suc form.fan j in
          ⊎_elim
          (λ (lt : form.fan ^ j < length t). lt)
          (λ (ge : length t ≤ form.fan ^ j). let wide : length t * form.fan ≤ form.fan ^ j * form.fan = mul-le-mul_right form.fan ge in absurd (omega arith))
          (cases_lt (form.fan ^ j) (length t))),
    )

pub nodes_joined : (fan : ℕ) (t : HeldTree) → HasShape fan t → concat (levels_in fan t) ≡ t.pointers
unfolding pointer_count
nodes_joined fan t shape =
    levels_joined fan 1 (length t.leaves) (levels fan (length t.leaves)) t.pointers (shape.nodes ∙ sym (count_first fan (length t.leaves) (levels fan (length t.leaves))))

pub levels_are_read : LevelsAreRead
levels_are_read form image first holder t wide shape allowed nodes_allowed stands =
    let fan = form.fan in
    let count = length t.leaves in
    let k = levels fan count in
    let ts = levels_in fan t in
    let deep : length ts ≡ k = levels_count fan 1 count k t.pointers in
    let joined = nodes_joined fan t shape in
    let needs = levels_needs fan count wide shape.few in
    let root = root_of t.leaves t.pointers in
    let built : Built form image (length ts) t.leaves root (concat ts) = built_up form image t.leaves ts root (omega arith) stands (subst (AllAllowed form.last None) (sym joined) nodes_allowed)
    (λ j less. needs.fewer j (omega arith)) in
    built_reads form image k first holder root t.leaves t.pointers (omega arith)
    (subst (λ (l : List ℕ). Built form image k t.leaves root l) joined (subst (λ (n : ℕ). Built form image n t.leaves root (concat ts)) deep built)) allowed

-- ---- what is read stands level by level

-- the last level of what stands is its top
top_stands : (form : Form) (image : Image) (below : List ℕ) (ts : List (List ℕ)) (tops : List ℕ) → Heaped form image below ts tops → top_of below ts ≡ tops
top_stands form image below [] tops heaped = heaped
top_stands form image below (t ∷ ts) tops heaped = top_stands form image t ts tops heaped.1

heaped_long : (form : Form) (image : Image) (size count : ℕ) (below tops : List ℕ) (ts : List (List ℕ)) → 1 ≤ form.fan → 1 ≤ size → length below ≡ up count size → Heaped form image below ts tops
    → length (concat ts) ≡ left_count form.fan size count (length ts)
unfolding left_count
heaped_long form image size count below tops [] some room long heaped = refl
heaped_long form image size count below tops (t ∷ ts) some room long heaped =
    let wide = size * form.fan in
    let here : length t ≡ up count wide = (points_tier form image some t below heaped.0).long ∙ (ap (λ (n : ℕ). up n form.fan) long ∙ up_up count size form.fan room some) in
    let rest = heaped_long form image wide count t tops ts some (mul-pos room some) here heaped.1 in
    length-append t (concat ts) ∙ (omega arith)

-- as many levels as the tree has

beside_long : (xs ys : List (List ℕ)) → length (beside xs ys) ≡ max (length xs) (length ys)
beside_long [] ys = omega arith
beside_long (x ∷ xs) [] = omega arith
beside_long (x ∷ xs) (y ∷ ys) = let rest = beside_long xs ys in omega arith

below_deep : (k size : ℕ) (below : ℕ → ℕ → List (List ℕ)) → 1 ≤ size → ((p c : ℕ) → 1 ≤ c → length (below p c) ≡ k) → (ps : List ℕ) (count : ℕ)
    → (length (tiers_below below size ps count) ≤ k) × (1 ≤ length ps → 1 ≤ count → length (tiers_below below size ps count) ≡ k)
below_deep k size below room each [] count = (omega arith, λ some any. absurd (omega arith))
below_deep k size below room each (p ∷ ps) zero = (omega arith, λ some any. absurd (omega arith))
below_deep k size below room each (p ∷ ps) (suc n) =
    let rest = (below_deep k size below room each ps (suc n - size)).0 in
    let here = each p (min (suc n) size) (omega arith) in
    let long = beside_long (below p (min (suc n) size)) (tiers_below below size ps (suc n - size)) in
    (omega arith, λ some any. omega arith)

-- the levels of a tree, whose pointer blocks are these in one list, up to its root
pub standing_from : (form : Form) (image : Image) (leaves fresh : List ℕ) (ts : List (List ℕ)) → 2 ≤ form.fan → HasShape form.fan (record { leaves = leaves; pointers = fresh })
    → length ts ≡ levels form.fan (length leaves) → fresh ≡ concat ts → Heaped form image leaves ts (root_of leaves fresh ∷ []) → IsStanding form image (record { leaves = leaves; pointers = fresh })
standing_from form image leaves fresh ts wide shape deep are heaped =
    let fan = form.fan in
    let count = length leaves in
    let some = shape.some in
    let back : levels_of fan 1 count (levels fan count) fresh ≡ ts = ap (levels_of fan 1 count (levels fan count)) are
    ∙ (ap (λ (n : ℕ). levels_of fan 1 count n (concat ts)) (sym deep) ∙ levels_back form image 1 count leaves (root_of leaves fresh ∷ []) ts (omega arith) (omega arith) (up_one count) heaped) in
    record {
      shape = shape;
      stands = subst (λ (l : List (List ℕ)). Heaped form image leaves l (root_of leaves fresh ∷ [])) (sym back) heaped;
    }

pub read_stands : ReadStandsByLevels
unfolding pointer_count
read_stands form image k first holder root count met wide some few shape is =
    let fan = form.fan in
    let ts = tiers form image k root count in
    let needs = shape_needs fan count k (omega arith) shape in
    let heaped = read_is_heaped form image k first holder root count met (omega arith) some needs.fits is in
    let size : length met.leaves ≡ count = (tree_has_size form image k first holder root count met wide some few shape is).0 in
    let least : k ≡ levels fan count = (shape_least fan count k wide few).0 shape in
    let deep : length ts ≡ k = tiers_deep form image (omega arith) k root count some in
    let depth : length ts ≡ levels fan (length met.leaves) = deep ∙ (least ∙ ap (levels fan) (sym size)) in
    let unit : length met.leaves ≡ up (length met.leaves) 1 = up_one (length met.leaves) in
    let back : levels_of fan 1 (length met.leaves) (length ts) (concat ts) ≡ ts = levels_back form image 1 (length met.leaves) met.leaves (root ∷ []) ts (omega arith) (omega arith) unit heaped in
    let long = heaped_long form image 1 (length met.leaves) met.leaves (root ∷ []) ts (omega arith) (omega arith) unit heaped in
    let one : up (length met.leaves) (1 * fan ^ length ts) ≡ 1 = ap (λ (n : ℕ). up (length met.leaves) (1 * fan ^ n)) depth ∙ one_root fan (length met.leaves) wide (omega arith) (omega arith) in
    let top : top_of met.leaves (levels_of fan 1 (length met.leaves) (length ts) (concat ts)) ≡ root_of met.leaves (concat ts) ∷ [] =
    top_is_root fan 1 (length met.leaves) (length ts) met.leaves (concat ts) (omega arith) (omega arith) (omega arith) unit long one in
    let same : root_of met.leaves (concat ts) ∷ [] ≡ root ∷ [] = sym top ∙ (ap (top_of met.leaves) back ∙ top_stands form image met.leaves ts (root ∷ []) heaped) in
    let nodes : length (concat ts) ≡ pointers_to fan (length met.leaves) (levels fan (length met.leaves)) =
    long ∙ (ap (left_count fan 1 (length met.leaves)) depth ∙ count_first fan (length met.leaves) (levels fan (length met.leaves))) in
    standing_from form image met.leaves (concat ts) ts wide (record { some = omega arith; few = omega arith; nodes = nodes }) depth refl
    (subst (Heaped form image met.leaves ts) (sym same) heaped)

-- ---- what shares blocks stands

pub shared_tree_stands : SharedTreeStands
unfolding pointer_count
shared_tree_stands form before later written old new wide shape stands shares =
    let fan = form.fan in
    let count = length new.leaves in
    let k = levels fan count in
    let stays = shared_stands form before later old.leaves new.leaves written (levels_in fan old) (levels_in fan new) (root_of old.leaves old.pointers ∷ []) (omega arith) stands shares.leaves shares.pointers in
    let top = top_is_root fan 1 count k new.leaves new.pointers (omega arith) (omega arith) shape.some (up_one count) (shape.nodes ∙ sym (count_first fan count k)) (one_root fan count wide shape.some shape.few) in
    subst (Heaped form later new.leaves (levels_in fan new)) top stays
