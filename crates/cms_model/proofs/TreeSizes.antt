-- How many data blocks and blocks a tree has.
use Rattle.std.proofs.Common.{◌≡◌, ◌⊎◌, inl, inr, ⊎_elim, ℕ, zero, suc, ◌+◌, ◌-◌, ◌*◌, ◌^◌, ◌<◌, ◌≤◌, min, List, [], ◌∷◌, ◌++◌, length, drop, Option, Some, None, Ok, true, refl, sym, ◌∙◌, ap, subst, arith, length-append, mul_comm, pow-suc, pow-add}
use Rattle.std.proofs.Math.Nat.{pow-zero, one-le-pow}
use Rattle.std.proofs.lemmas.Bool.{cases_lt, eqb-true}
use Rattle.cms_fields.specs.Numbers.{up, is_shape}
use Rattle.cms_model.specs.Trees.{Image, Form, Met, none_met, joined, tree, children, pointers, is_allowed}
use Rattle.cms_model.specs.Sizes.{levels, pointers_to, pointer_count, tree_size}
use Rattle.cms_model.proofs.Results.{ok_same, bind_then}
use Rattle.cms_model.proofs.Quotients.{up_unique, up_zero, up_more}
use Rattle.cms_model.proofs.Shapes.{shape_needs, shape_least}
use Rattle.cms_model.proofs.TreeFrame.{Walk, under, leaf_then, node_then}

-- taking a full child off takes its share of pointer blocks off
pub pointers_split : (fan j d count : ℕ) → 0 < fan → pointers_to fan (min count (fan ^ (d + j))) j + pointers_to fan (count - fan ^ (d + j)) j ≡ pointers_to fan count j
unfolding pointers_to
pointers_split fan zero d count some = omega arith
pointers_split fan (suc j) d count some =
    let room : 0 < fan ^ suc j = one-le-pow (suc j) fan some in
    let size = fan ^ (d + suc j) in
    let split : size ≡ fan ^ d * fan ^ suc j = pow-add fan d (suc j) in
    let shift : d + suc j ≡ suc d + j = omega arith in
    let deeper : pointers_to fan (min count size) j + pointers_to fan (count - size) j ≡ pointers_to fan count j =
    subst (λ (e : ℕ). pointers_to fan (min count (fan ^ e)) j + pointers_to fan (count - fan ^ e) j ≡ pointers_to fan count j) (sym shift) (pointers_split fan j (suc d) count some) in
    ⊎_elim
    (λ (le : count ≤ size).
    let a : min count size ≡ count = omega arith in
    let b : count - size ≡ 0 = omega arith in
    let z : up (count - size) (fan ^ suc j) ≡ 0 = rw b (up_zero (fan ^ suc j) room) in
    let e : up (min count size) (fan ^ suc j) ≡ up count (fan ^ suc j) = ap (λ (c : ℕ). up c (fan ^ suc j)) a in
    omega arith)
    (λ (ge : size ≤ count).
    let a : min count size ≡ fan ^ d * fan ^ suc j + 0 = omega arith in
    let b : count ≡ fan ^ d * fan ^ suc j + (count - size) = omega arith in
    let e : up (min count size) (fan ^ suc j) ≡ fan ^ d + up 0 (fan ^ suc j) = ap (λ (c : ℕ). up c (fan ^ suc j)) a ∙ up_more (fan ^ d) 0 (fan ^ suc j) room in
    let z = up_zero (fan ^ suc j) room in
    let w : up count (fan ^ suc j) ≡ fan ^ d + up (count - size) (fan ^ suc j) = ap (λ (c : ℕ). up c (fan ^ suc j)) b ∙ up_more (fan ^ d) (count - size) (fan ^ suc j) room in
    omega arith)
    (either count size)
  where
    either : (m n : ℕ) → (m ≤ n) ⊎ (n ≤ m)
    either m n = ⊎_elim (λ less. inl (omega arith)) (λ le. inr le) (cases_lt m n)

pub pointers_none : (fan k : ℕ) → 0 < fan → pointers_to fan 0 k ≡ 0
unfolding pointers_to
pointers_none fan zero some = refl
pointers_none fan (suc k) some = rw (up_zero (fan ^ suc k) (one-le-pow (suc k) fan some), pointers_none fan k some) refl

-- as many data blocks, and so many blocks more
abbrev pub Counts : (ℕ → ℕ) → ℕ → Met → Type 0
Counts more count m = (length m.leaves ≡ count) × (length m.blocks ≡ count + more count)

children_count : (f : Walk) (more : ℕ → ℕ) (size : ℕ) → 0 < size → more 0 ≡ 0 → ((count : ℕ) → more (min count size) + more (count - size) ≡ more count)
    → ((first : Option ℕ) (holder root count : ℕ) (m : Met) → 0 < count → count ≤ size → f first holder root count ≡ Ok m → Counts more count m)
    → (holder : ℕ) (ps : List ℕ) (count : ℕ) (first : Option ℕ) (m : Met) → count ≤ length ps * size → children f size holder ps count first ≡ Ok m → Counts more count m
children_count f more size room none adds each holder [] count first m fits e =
    let nothing : count ≡ 0 = omega arith in
    subst (λ (c : ℕ). Counts more c m) (sym nothing) (subst (Counts more 0) (ok_same none_met m e) (refl, sym (ap (λ (x : ℕ). 0 + x) none)))
children_count f more size room none adds each holder (p ∷ ps) zero first m fits e = subst (Counts more 0) (ok_same none_met m e) (refl, sym (ap (λ (x : ℕ). 0 + x) none))
children_count f more size room none adds each holder (p ∷ ps) (suc n) first m fits e =
    bind_then (f first holder p (min (suc n) size)) _ m e (λ a is_a e1.
    bind_then (children f size holder ps (suc n - size) None) _ m e1 (λ b is_b e2.
    both a b (each first holder p (min (suc n) size) a (omega arith) (omega arith) is_a) (children_count f more size room none adds each holder ps (suc n - size) None b (omega arith) is_b)
    (ok_same (joined a b) m e2)))
  where
    both : (a b : Met) → Counts more (min (suc n) size) a → Counts more (suc n - size) b → joined a b ≡ m → Counts more (suc n) m
    both a b ca cb is =
        let a0 = ca.0 in let a1 = ca.1 in let b0 = cb.0 in let b1 = cb.1 in
        let sum = adds (suc n) in
        let leaves : length m.leaves ≡ length a.leaves + length b.leaves = sym (ap (λ (l : Met). length l.leaves) is) ∙ length-append a.leaves b.leaves in
        let blocks : length m.blocks ≡ length a.blocks + length b.blocks = sym (ap (λ (l : Met). length l.blocks) is) ∙ length-append a.blocks b.blocks in
        (omega arith, omega arith)

pub length-pointers : (n stride : ℕ) (bytes : List ℕ) → length (pointers n stride bytes) ≡ n
unfolding pointers
length-pointers zero stride bytes = refl
length-pointers (suc n) stride bytes = ap suc (length-pointers n stride (drop stride bytes))

-- any tree that reads well has its data blocks, and as many blocks as the formula says
pub tree_counts : (form : Form) (image : Image) → 0 < form.fan → (k : ℕ) (first : Option ℕ) (holder root count : ℕ) (m : Met) → 0 < count → count ≤ form.fan ^ k
    → tree form image k first holder root count ≡ Ok m → Counts (λ n. pointers_to form.fan n k) count m
unfolding pointers_to
tree_counts form image some zero first holder root count m pos fits e =
    let one : form.fan ^ 0 ≡ 1 = pow-zero form.fan in
    let is : count ≡ 1 = omega arith in
    leaf_then form image first holder root count m e (λ allowed done.
    subst (λ (c : ℕ). Counts (λ _. 0) c m) (sym is) (subst (Counts (λ _. 0) 1) done (refl, refl)))
tree_counts form image some (suc k) first holder root count m pos fits e =
    let room : 0 < form.fan ^ k = one-le-pow k form.fan some in
    let room' : 0 < form.fan ^ suc k = one-le-pow (suc k) form.fan some in
    let big : form.fan ^ suc k ≡ form.fan * form.fan ^ k = pow-suc form.fan k ∙ mul_comm (form.fan ^ k) form.fan in
    let long = length-pointers form.fan form.stride (image root) in
    let wide : length (pointers form.fan form.stride (image root)) * form.fan ^ k ≡ form.fan * form.fan ^ k = ap (λ (l : ℕ). l * form.fan ^ k) long in
    let top : 1 ≡ up count (form.fan ^ suc k) = up_unique count (form.fan ^ suc k) 1 room' (omega arith) (omega arith) in
    node_then form image k first holder root count m e (λ allowed a is_a is.
    let c = children_count (tree form image k) (λ n. pointers_to form.fan n k) (form.fan ^ k) room (pointers_none form.fan k some)
    (λ n. subst (λ (x : ℕ). pointers_to form.fan (min n (form.fan ^ x)) k + pointers_to form.fan (n - form.fan ^ x) k ≡ pointers_to form.fan n k) zero_add (pointers_split form.fan k 0 n some))
    (λ f h p n x. tree_counts form image some k f h p n x) root (pointers form.fan form.stride (image root)) count first a (omega arith) is_a in
    finish a c top is)
  where
    zero_add : 0 + k ≡ k
    zero_add = omega arith

    finish : (a : Met) → Counts (λ n. pointers_to form.fan n k) count a → 1 ≡ up count (form.fan ^ suc k) → under root a ≡ m → Counts (λ n. pointers_to form.fan n (suc k)) count m
    finish a c top is =
        let c0 = c.0 in let c1 = c.1 in
        (sym (ap (λ (l : Met). length l.leaves) is) ∙ c0, sym (ap (λ (l : Met). length l.blocks) is) ∙ (omega arith))

pub tree_has_size : (form : Form) (image : Image) (k : ℕ) (first : Option ℕ) (holder root count : ℕ) (m : Met) → 2 ≤ form.fan → 1 ≤ count → count < 2 ^ 32 → is_shape form.fan count k ≡ true
    → tree form image k first holder root count ≡ Ok m → (length m.leaves ≡ count) × (length m.blocks ≡ tree_size form.fan count)
unfolding tree_size pointer_count
tree_has_size form image k first holder root count m wide some small shape e =
    let needs = shape_needs form.fan count k (omega arith) shape in
    let is : k ≡ levels form.fan count = (shape_least form.fan count k wide small).0 shape in
    let c = tree_counts form image (omega arith) k first holder root count m some needs.fits e in
    (c.0, c.1 ∙ ap (λ (x : ℕ). count + pointers_to form.fan count x) is)

-- a fixed first data block stands first
abbrev Begins : ℕ → Met → Type 0
Begins fixed m = (more : List ℕ) × (m.leaves ≡ fixed ∷ more)

first_child : (f : Walk) (fixed size holder : ℕ) (ps : List ℕ) (count : ℕ) (m : Met) → 1 ≤ length ps → 1 ≤ size → 1 ≤ count
    → ((holder root count : ℕ) (m : Met) → 1 ≤ count → f (Some fixed) holder root count ≡ Ok m → Begins fixed m) → children f size holder ps count (Some fixed) ≡ Ok m → Begins fixed m
first_child f fixed size holder [] count m some room pos each e = absurd (omega arith)
first_child f fixed size holder (p ∷ ps) zero m some room pos each e = absurd (omega arith)
first_child f fixed size holder (p ∷ ps) (suc n) m some room pos each e =
    bind_then (f (Some fixed) holder p (min (suc n) size)) _ m e (λ a is_a e1.
    bind_then (children f size holder ps (suc n - size) None) _ m e1 (λ b is_b e2.
    let begins = each holder p (min (suc n) size) a (omega arith) is_a in
    let is : joined a b ≡ m = ok_same (joined a b) m e2 in
    (begins.0 ++ b.leaves, sym (ap (λ (l : Met). l.leaves) is) ∙ ap (λ (l : List ℕ). l ++ b.leaves) begins.1)))

pub tree_first : (form : Form) (image : Image) (k fixed holder root count : ℕ) (m : Met) → 1 ≤ form.fan → 1 ≤ count → tree form image k (Some fixed) holder root count ≡ Ok m → Begins fixed m
unfolding is_allowed
tree_first form image zero fixed holder root count m some pos e =
    leaf_then form image (Some fixed) holder root count m e (λ allowed is. let at : root ≡ fixed = eqb-true root fixed allowed in ([], sym (ap (λ (l : Met). l.leaves) is) ∙ ap (λ (n : ℕ). n ∷ []) at))
tree_first form image (suc k) fixed holder root count m some pos e =
    node_then form image k (Some fixed) holder root count m e (λ allowed a is_a is.
    let begins = first_child (tree form image k) fixed (form.fan ^ k) root (pointers form.fan form.stride (image root)) count a (omega (arith, length-pointers form.fan form.stride (image root)))
    (one-le-pow k form.fan some) pos (λ h r c x. tree_first form image k fixed h r c x some) is_a in
    (begins.0, sym (ap (λ (l : Met). l.leaves) is) ∙ begins.1))
