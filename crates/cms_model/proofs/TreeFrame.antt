-- A tree rests on its blocks, and lies where they may.
use Rattle.std.proofs.Common.{◌≡◌, ◌⊎◌, inl, inr, ⊎_elim, ℕ, zero, suc, ◌-◌, ◌^◌, ◌≤◌, min, List, [], ◌∷◌, ◌++◌, Option, Some, None, Result, Ok, true, refl, sym, ◌∙◌, ap, subst}
use Rattle.std.specs.Prelude.{nat_le}
use Rattle.std.proofs.lemmas.Bool.{and_parts, leb-true, eqb-true}
use Rattle.cms_names.specs.Names.{is_between}
use Rattle.cms_fields.specs.Steps.{◌>>=◌}
use Rattle.cms_model.specs.Lists.{In}
use Rattle.cms_model.specs.Trees.{Image, Form, Met, none_met, joined, tree, children, pointers, is_allowed}
use Rattle.cms_model.specs.Settled.{Agree}
use Rattle.cms_model.specs.declared.fault.OpenFault.{OpenFault}
use Rattle.cms_model.specs.declared.fault.OpenFault.TheVariants.{Pointer}
use Rattle.cms_model.proofs.Results.{ok_same, want_ok, bind_then}
use Rattle.cms_model.proofs.Members.{In-left, In-right, In-either}

-- what reads a tree at a root: first, holder, root, count
abbrev pub Walk : Type 0
Walk = Option ℕ → ℕ → ℕ → ℕ → Result Met OpenFault

-- a pointer block, and what stands below it
abbrev pub under : ℕ → Met → Met
under root below = record { blocks = root ∷ below.blocks; leaves = below.leaves }

abbrev pub leaf_met : ℕ → Met
leaf_met root = record { blocks = root ∷ []; leaves = root ∷ [] }

-- what stands below the pointer block at a root
abbrev pub below : Form → Image → ℕ → ℕ → ℕ → Option ℕ → Result Met OpenFault
below form image k root count first = children (tree form image k) (form.fan ^ k) root (pointers form.fan form.stride (image root)) count first

-- a tree of one block
pub leaf_then : (form : Form) (image : Image) (first : Option ℕ) (holder root count : ℕ) (m : Met) {C : Type 0} → tree form image 0 first holder root count ≡ Ok m
    → (is_allowed form.last first root ≡ true → leaf_met root ≡ m → C) → C
unfolding tree
leaf_then form image first holder root count m e go =
    let r = want_ok (is_allowed form.last first root) (Pointer holder root) (Ok (leaf_met root)) m e in go r.0 (ok_same (leaf_met root) m r.1)

-- a tree of levels
pub node_then : (form : Form) (image : Image) (k : ℕ) (first : Option ℕ) (holder root count : ℕ) (m : Met) {C : Type 0} → tree form image (suc k) first holder root count ≡ Ok m
    → (is_allowed form.last None root ≡ true → (a : Met) → below form image k root count first ≡ Ok a → under root a ≡ m → C) → C
unfolding tree
node_then form image k first holder root count m e go =
    let r = want_ok (is_allowed form.last None root) (Pointer holder root) (below form image k root count first >>= λ a. Ok (under root a)) m e in
    bind_then (below form image k root count first) _ m r.1 (λ a is_a done. go r.0 a is_a (ok_same (under root a) m done))

pub leaf_from : (form : Form) (image : Image) (first : Option ℕ) (holder root count : ℕ) → is_allowed form.last first root ≡ true → tree form image 0 first holder root count ≡ Ok (leaf_met root)
unfolding tree
leaf_from form image first holder root count allowed = rw allowed refl

pub node_from : (form : Form) (image : Image) (k : ℕ) (first : Option ℕ) (holder root count : ℕ) (a : Met) → is_allowed form.last None root ≡ true → below form image k root count first ≡ Ok a
    → tree form image (suc k) first holder root count ≡ Ok (under root a)
unfolding tree
node_from form image k first holder root count a allowed is_a = rw (allowed, is_a) refl

-- ---- two images that agree

-- what one walk finds, the other finds on an image that agrees
abbrev pub Keeps : Image → Image → Walk → Walk → Type 0
Keeps before later f g = (first : Option ℕ) (holder other root count : ℕ) (m : Met) → f first holder root count ≡ Ok m → Agree m.blocks before later → g first other root count ≡ Ok m

pub children_keep : (before later : Image) (f g : Walk) → Keeps before later f g → (size holder other : ℕ) (ps : List ℕ) (count : ℕ) (first : Option ℕ) (m : Met)
    → children f size holder ps count first ≡ Ok m → Agree m.blocks before later → children g size other ps count first ≡ Ok m
children_keep before later f g keeps size holder other [] count first m e agree = e
children_keep before later f g keeps size holder other (p ∷ ps) zero first m e agree = e
children_keep before later f g keeps size holder other (p ∷ ps) (suc n) first m e agree =
    bind_then (f first holder p (min (suc n) size)) _ m e (λ a is_a e1.
    bind_then (children f size holder ps (suc n - size) None) _ m e1 (λ b is_b e2.
    let is : joined a b ≡ m = ok_same (joined a b) m e2 in
    let all : Agree (a.blocks ++ b.blocks) before later = subst (λ (l : Met). Agree l.blocks before later) (sym is) agree in
    let one : g first other p (min (suc n) size) ≡ Ok a = keeps first holder other p (min (suc n) size) a is_a (λ x in'. all x (In-left x a.blocks b.blocks in')) in
    let rest : children g size other ps (suc n - size) None ≡ Ok b =
    children_keep before later f g keeps size holder other ps (suc n - size) None b is_b (λ x in'. all x (In-right x a.blocks b.blocks in')) in
    rw (one, rest) (ap Ok is)))

pub tree_keeps : (form : Form) (before later : Image) (k : ℕ) → Keeps before later (tree form before k) (tree form later k)
tree_keeps form before later zero first holder other root count m e agree =
    leaf_then form before first holder root count m e (λ allowed is. leaf_from form later first other root count allowed ∙ ap Ok is)
tree_keeps form before later (suc k) first holder other root count m e agree =
    node_then form before k first holder root count m e (λ allowed a is_a is.
    let all : Agree (root ∷ a.blocks) before later = subst (λ (l : Met). Agree l.blocks before later) (sym is) agree in
    let deeper : children (tree form later k) (form.fan ^ k) root (pointers form.fan form.stride (before root)) count first ≡ Ok a =
    children_keep before later (tree form before k) (tree form later k) (tree_keeps form before later k) (form.fan ^ k) root root (pointers form.fan form.stride (before root)) count first a is_a
    (λ x in'. all x (inr in')) in
    let deeper' : below form later k root count first ≡ Ok a = subst (λ (bytes : List ℕ). children (tree form later k) (form.fan ^ k) root (pointers form.fan form.stride bytes) count first ≡ Ok a)
    (all root (inl refl)) deeper in
    node_from form later k first other root count a allowed deeper' ∙ ap Ok is)

-- ---- what holds of the met of a tree, from its parts

-- a property of leaves, of pointer blocks over a part, of parts side by side, and of nothing
abbrev AllMet : (Option ℕ → Met → Type 0) → Walk → Type 0
AllMet P f = (first : Option ℕ) (holder root count : ℕ) (m : Met) → f first holder root count ≡ Ok m → P first m

record Parts (form : Form) (P : Option ℕ → Met → Type 0) : Type 0 where
  leaf : (first : Option ℕ) (root : ℕ) → is_allowed form.last first root ≡ true → P first (leaf_met root)
  node : (first : Option ℕ) (root : ℕ) (a : Met) → is_allowed form.last None root ≡ true → P first a → P first (under root a)
  join : (first : Option ℕ) (a b : Met) → P first a → P None b → P first (joined a b)
  none : (first : Option ℕ) → P first none_met

children_have : (form : Form) (P : Option ℕ → Met → Type 0) → Parts form P → (f : Walk) → AllMet P f → (size holder : ℕ) (ps : List ℕ) (count : ℕ) (first : Option ℕ) (m : Met)
    → children f size holder ps count first ≡ Ok m → P first m
children_have form P parts f each size holder [] count first m e = subst (P first) (ok_same none_met m e) (parts.none first)
children_have form P parts f each size holder (p ∷ ps) zero first m e = subst (P first) (ok_same none_met m e) (parts.none first)
children_have form P parts f each size holder (p ∷ ps) (suc k) first m e =
    bind_then (f first holder p (min (suc k) size)) _ m e (λ a is_a e1.
    bind_then (children f size holder ps (suc k - size) None) _ m e1 (λ b is_b e2.
    subst (P first) (ok_same (joined a b) m e2)
    (parts.join first a b (each first holder p (min (suc k) size) a is_a) (children_have form P parts f each size holder ps (suc k - size) None b is_b))))

tree_has : (form : Form) (image : Image) (P : Option ℕ → Met → Type 0) → Parts form P → (k : ℕ) → AllMet P (tree form image k)
tree_has form image P parts zero first holder root count m e =
    leaf_then form image first holder root count m e (λ allowed is. subst (P first) is (parts.leaf first root allowed))
tree_has form image P parts (suc k) first holder root count m e =
    node_then form image k first holder root count m e (λ allowed a is_a is.
    let deeper = children_have form P parts (tree form image k) (tree_has form image P parts k) (form.fan ^ k) root (pointers form.fan form.stride (image root)) count first a is_a in
    subst (P first) is (parts.node first root a allowed deeper))

-- ---- the data blocks are among the blocks

abbrev pub Inside : Met → Type 0
Inside m = (n : ℕ) → In n m.leaves → In n m.blocks

pub tree_inside : (form : Form) (image : Image) (k : ℕ) (first : Option ℕ) (holder root count : ℕ) (m : Met) → tree form image k first holder root count ≡ Ok m → Inside m
tree_inside form image = tree_has form image (λ first m. Inside m) (record {
  leaf = λ first root allowed n in'. in';
  node = λ first root a allowed inside n in'. inr (inside n in');
  join = λ first a b left right n in'. ⊎_elim (λ h. In-left n a.blocks b.blocks (left n h)) (λ h. In-right n a.blocks b.blocks (right n h)) (In-either n a.leaves b.leaves in');
  none = λ first n in'. in';
})

-- ---- where the blocks lie

abbrev pub Place : ℕ → Option ℕ → ℕ → Type 0
Place last first n = ((6 ≤ n) × (n ≤ last)) ⊎ (first ≡ Some n)

abbrev pub AllPlaced : ℕ → Option ℕ → Met → Type 0
AllPlaced last first m = (n : ℕ) → In n m.blocks → Place last first n

pub between : (low high n : ℕ) → is_between low high n ≡ true → (low ≤ n) × (n ≤ high)
between low high n is = let both = and_parts (nat_le low n) (nat_le n high) is in (leb-true low n both.0, leb-true n high both.1)

pub allowed_free : (last n : ℕ) → is_allowed last None n ≡ true → (6 ≤ n) × (n ≤ last)
unfolding is_allowed
allowed_free last n is = between 6 last n is

allowed_place : (last : ℕ) (first : Option ℕ) (n : ℕ) → is_allowed last first n ≡ true → Place last first n
unfolding is_allowed
allowed_place last None n is = inl (between 6 last n is)
allowed_place last (Some o) n is = inr (ap Some (sym (eqb-true n o is)))

weaker : (last : ℕ) (first : Option ℕ) (n : ℕ) → Place last None n → Place last first n
weaker last first n (inl free) = inl free
weaker last first n (inr e) = absurd (cc)

pub tree_places : (form : Form) (image : Image) (k : ℕ) (first : Option ℕ) (holder root count : ℕ) (m : Met) → tree form image k first holder root count ≡ Ok m → AllPlaced form.last first m
tree_places form image = tree_has form image (AllPlaced form.last) (record {
  leaf = λ first root allowed n in'. ⊎_elim (λ is. subst (Place form.last first) (sym is) (allowed_place form.last first root allowed)) (λ none. absurd none) in';
  node = λ first root a allowed placed n in'. ⊎_elim (λ is. inl (subst (λ (x : ℕ). (6 ≤ x) × (x ≤ form.last)) (sym is) (allowed_free form.last root allowed))) (λ deeper. placed n deeper) in';
  join = λ first a b left right n in'. ⊎_elim (λ l. left n l) (λ r. weaker form.last first n (right n r)) (In-either n a.blocks b.blocks in');
  none = λ first n in'. absurd in';
})
