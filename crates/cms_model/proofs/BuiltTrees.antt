-- A tree that was built from its data blocks upward is the tree read from its root downward.
use Rattle.std.proofs.Common.{◌≡◌, ◌⊎◌, inl, inr, ⊎_elim, ℕ, zero, suc, ◌+◌, ◌-◌, ◌*◌, ◌^◌, ◌≤◌, ◌<◌, min, List, [], ◌∷◌, ◌++◌, length, Option, None, Ok, true, refl, sym, ◌∙◌, ap, subst, arith, append_assoc, append-nil, length-append, mul-le-mul_right, mul-pos, mul_comm, pow-suc}
use Rattle.std.proofs.Math.Nat.{pow-zero}
use Rattle.std.specs.Prelude.{nat_le, nat_lt}
use Rattle.std.proofs.lemmas.Bool.{and_from, le-leb, lt-ltb}
use Rattle.cms_fields.specs.Steps.{◌>>=◌}
use Rattle.cms_fields.specs.Numbers.{is_shape}
use Rattle.cms_model.specs.Lists.{times}
use Rattle.cms_model.specs.Trees.{Image, Form, Met, none_met, joined, tree, children, pointers, is_allowed}
use Rattle.cms_model.specs.Built.{Points, AllAllowed, Built, ReadsAs}
use Rattle.cms_model.proofs.Results.{ok_same, bind_then}
use Rattle.cms_model.proofs.Repeats.{times_append}
use Rattle.cms_model.proofs.TreeFrame.{Walk, under, leaf_from, node_from, children_keep, tree_keeps}
use Rattle.cms_model.proofs.TreeSizes.{length-pointers}

children_zero : (f : Walk) (size holder : ℕ) (ps : List ℕ) (first : Option ℕ) → children f size holder ps 0 first ≡ Ok none_met
children_zero f size holder [] first = refl
children_zero f size holder (p ∷ ps) first = refl

cons_children : (f : Walk) (size holder p : ℕ) (ps : List ℕ) (count : ℕ) (first : Option ℕ) → 0 < count
    → children f size holder (p ∷ ps) count first ≡ (f first holder p (min count size) >>= λ a. children f size holder ps (count - size) None >>= λ b. Ok (joined a b))
cons_children f size holder p ps zero first h = absurd (omega arith)
cons_children f size holder p ps (suc n) first h = refl

-- what is left of a fixed first place behind these
abbrev next : Option ℕ → List ℕ → Option ℕ
next first [] = first
next first (q ∷ qs) = None

next_none : (qs : List ℕ) → next None qs ≡ None
next_none [] = refl
next_none (q ∷ qs) = refl

next_some : (first : Option ℕ) (qs : List ℕ) → 1 ≤ length qs → next first qs ≡ None
next_some first [] some = absurd (omega arith)
next_some first (q ∷ qs) some = refl

-- the front of a walk over children, and the rest
record Split (f : Walk) (size holder : ℕ) (qs rest : List ℕ) (count : ℕ) (first : Option ℕ) (m : Met) : Type 0 where
  a : Met
  b : Met
  front : children f size holder qs (min count (length qs * size)) first ≡ Ok a
  back : children f size holder rest (count - length qs * size) (next first qs) ≡ Ok b
  is : joined a b ≡ m

joined_assoc : (a b c : Met) → joined a (joined b c) ≡ joined (joined a b) c
joined_assoc a b c = λ i. record { blocks = sym (append_assoc a.blocks b.blocks c.blocks) i; leaves = sym (append_assoc a.leaves b.leaves c.leaves) i }

split_children : (f : Walk) (size holder : ℕ) → 0 < size → (qs rest : List ℕ) (count : ℕ) (first : Option ℕ) (m : Met) → children f size holder (qs ++ rest) count first ≡ Ok m
    → Split f size holder qs rest count first m
split_children f size holder room [] rest count first m e =
    let same : count - 0 * size ≡ count = omega arith in
    record { a = none_met; b = m; front = refl; back = rw same e; is = refl }
split_children f size holder room (q ∷ qs) rest zero first m e =
    let none : min 0 (suc (length qs) * size) ≡ 0 = omega arith in
    let none' : 0 - suc (length qs) * size ≡ 0 = omega arith in
    record { a = none_met; b = none_met; front = rw none refl; back = rw none' (children_zero f size holder rest None); is = ok_same none_met m e }
split_children f size holder room (q ∷ qs) rest (suc n) first m e =
    bind_then (f first holder q (min (suc n) size)) _ m e (λ x is_x e1.
    bind_then (children f size holder (qs ++ rest) (suc n - size) None) _ m e1 (λ y is_y e2.
    with_rest x y is_x (ok_same (joined x y) m e2) (split_children f size holder room qs rest (suc n - size) None y is_y)))
  where
    with_rest : (x y : Met) → f first holder q (min (suc n) size) ≡ Ok x → joined x y ≡ m → Split f size holder qs rest (suc n - size) None y → Split f size holder (q ∷ qs) rest (suc n) first m
    with_rest x y is_x is s =
        let part = min (suc n) (suc (length qs) * size) in
        let same_min : min part size ≡ min (suc n) size = omega arith in
        let same_sub : part - size ≡ min (suc n - size) (length qs * size) = omega arith in
        let same_rest : suc n - suc (length qs) * size ≡ suc n - size - length qs * size = omega arith in
        record {
          a = joined x s.a;
          b = s.b;
          front = cons_children f size holder q qs part first (omega arith) ∙ rw (same_min, is_x, same_sub, s.front) refl;
          back = rw same_rest (subst (λ (o : Option ℕ). children f size holder rest (suc n - size - length qs * size) o ≡ Ok s.b) (next_none qs) s.back);
          is = sym (joined_assoc x s.a s.b) ∙ ap (λ (l : Met). joined x l) s.is ∙ is;
        }

-- more pointers behind what is asked for change nothing
extend_children : (f : Walk) (size holder : ℕ) (qs unused : List ℕ) (count : ℕ) (first : Option ℕ) (m : Met) → 0 < size → count ≤ length qs * size → children f size holder qs count first ≡ Ok m
    → children f size holder (qs ++ unused) count first ≡ Ok m
extend_children f size holder [] unused count first m room fits e =
    let none : count ≡ 0 = omega arith in
    rw none (children_zero f size holder unused first ∙ subst (λ (c : ℕ). children f size holder [] c first ≡ Ok m) none e)
extend_children f size holder (q ∷ qs) unused zero first m room fits e = e
extend_children f size holder (q ∷ qs) unused (suc n) first m room fits e =
    bind_then (f first holder q (min (suc n) size)) _ m e (λ x is_x e1.
    bind_then (children f size holder qs (suc n - size) None) _ m e1 (λ y is_y e2.
    rw (is_x, extend_children f size holder qs unused (suc n - size) None y room (omega arith) is_y) e2))

-- the sizes of a front of l children and a rest of r, where the front is full or all
record Sizes (l r fan size count : ℕ) : Type 0 where
  pos : 0 < count
  same_min : min count (l * size) ≡ min count (fan * size)
  same_sub : count - l * size ≡ count - fan * size
  fits : count - fan * size ≤ r * size
  tight : r * size < count - fan * size + size
  below : min count (fan * size) ≤ l * size

sizes : (l r fan size count : ℕ) → 0 < l → 0 < size → l ≤ fan → (l ≡ fan) ⊎ (r ≡ 0) → count ≤ (l + r) * size → (l + r) * size < count + size → Sizes l r fan size count
sizes l r fan size count some room fit full fits tight =
    let under : l * size ≤ fan * size = mul-le-mul_right size fit in
    let whole : 1 * size ≤ l * size = mul-le-mul_right size some in
    ⊎_elim
    (λ (is : l ≡ fan). let e : l * size ≡ fan * size = ap (λ (x : ℕ). x * size) is in
    record { pos = omega arith; same_min = omega arith; same_sub = omega arith; fits = omega arith; tight = omega arith; below = omega arith })
    (λ (is : r ≡ 0). let e : r * size ≡ 0 = rw is (omega arith) in
    record { pos = omega arith; same_min = omega arith; same_sub = omega arith; fits = omega arith; tight = omega arith; below = omega arith })
    full

-- the walk at the next level
record Up (form : Form) (image : Image) (k holder : ℕ) (ns : List ℕ) (count : ℕ) (first : Option ℕ) (m : Met) : Type 0 where
  met : Met
  is : children (tree form image (suc k)) (form.fan ^ suc k) holder ns count first ≡ Ok met
  leaves : met.leaves ≡ m.leaves
  counted : (n : ℕ) → times n met.blocks ≡ times n ns + times n m.blocks

-- a pointer block over the children that it points to
node : (form : Form) (image : Image) (k holder n : ℕ) (qs unused : List ℕ) (part : ℕ) (first : Option ℕ) (a : Met) → is_allowed form.last None n ≡ true
    → pointers form.fan form.stride (image n) ≡ qs ++ unused → 0 < form.fan ^ k → part ≤ length qs * form.fan ^ k → children (tree form image k) (form.fan ^ k) holder qs part first ≡ Ok a
    → tree form image (suc k) first holder n part ≡ Ok (under n a)
node form image k holder n qs unused part first a allowed is_block room fits is_a =
    let kept = children_keep image image (tree form image k) (tree form image k) (tree_keeps form image image k) (form.fan ^ k) holder n qs part first a is_a (λ x in'. refl) in
    let inner = extend_children (tree form image k) (form.fan ^ k) n qs unused part first a room fits kept in
    node_from form image k first holder n part a allowed (ap (λ (l : List ℕ). children (tree form image k) (form.fan ^ k) n l part first) is_block ∙ inner)

level_up : (form : Form) (image : Image) (k holder : ℕ) → 0 < form.fan → 0 < form.fan ^ k → (ns ps : List ℕ) (count : ℕ) (first : Option ℕ) (m : Met) → Points form image ns ps
    → AllAllowed form.last None ns → count ≤ length ps * form.fan ^ k → length ps * form.fan ^ k < count + form.fan ^ k
    → children (tree form image k) (form.fan ^ k) holder ps count first ≡ Ok m → Up form image k holder ns count first m
unfolding times
level_up form image k holder some room [] ps count first m points free fits tight e =
    let empty : length ps ≡ 0 = ap length points in
    let nothing : length ps * form.fan ^ k ≡ 0 = rw empty (omega arith) in
    let none : count ≡ 0 = omega arith in
    let is_none : none_met ≡ m = ok_same none_met m (sym (ap (λ (c : ℕ). children (tree form image k) (form.fan ^ k) holder ps c first) none
    ∙ children_zero (tree form image k) (form.fan ^ k) holder ps first) ∙ e) in
    record { met = none_met; is = refl; leaves = ap (λ (l : Met). l.leaves) is_none; counted = λ n. omega (arith, ap (λ (l : Met). times n l.blocks) is_none) }
level_up form image k holder some room (n ∷ ns) ps count first m (rest, p, more) free fits tight e =
    let size = form.fan ^ k in
    let own : List ℕ = p.own in
    let big : form.fan ^ suc k ≡ form.fan * size = pow-suc form.fan k ∙ mul_comm size form.fan in
    let long : length ps ≡ length own + length rest = ap length p.split ∙ length-append own rest in
    let fit : length own ≤ form.fan = omega (arith, length-pointers form.fan form.stride (image n), ap length p.bytes, length-append own p.unused) in
    let fits' : count ≤ (length own + length rest) * size = subst (λ (l : ℕ). count ≤ l * size) long fits in
    let tight' : (length own + length rest) * size < count + size = subst (λ (l : ℕ). l * size < count + size) long tight in
    let full' : (length own ≡ form.fan) ⊎ (length rest ≡ 0) = ⊎_elim (λ is. inl is) (λ is. inr (ap length is)) p.full in
    let z = sizes (length own) (length rest) form.fan size count p.some room fit full' fits' tight' in
    let s = split_children (tree form image k) size holder room own rest count first m (subst (λ (l : List ℕ). children (tree form image k) size holder l count first ≡ Ok m) p.split e) in
    let back = subst (λ (o : Option ℕ). children (tree form image k) size holder rest (count - length own * size) o ≡ Ok s.b) (next_some first own p.some) s.back in
    join s z big (level_up form image k holder some room ns rest (count - form.fan * size) None s.b more free.1 z.fits z.tight
    (subst (λ (c : ℕ). children (tree form image k) size holder rest c None ≡ Ok s.b) z.same_sub back))
  where
    join : (s : Split (tree form image k) (form.fan ^ k) holder p.own rest count first m) → Sizes (length p.own) (length rest) form.fan (form.fan ^ k) count
        → form.fan ^ suc k ≡ form.fan * form.fan ^ k → Up form image k holder ns (count - form.fan * form.fan ^ k) None s.b → Up form image k holder (n ∷ ns) count first m
    join s z big u =
        let front = subst (λ (c : ℕ). children (tree form image k) (form.fan ^ k) holder p.own c first ≡ Ok s.a) z.same_min s.front in
        let whole = node form image k holder n p.own p.unused (min count (form.fan * form.fan ^ k)) first s.a free.0 p.bytes room z.below front in
        let same_min = ap (λ (x : ℕ). min count x) big in
        let same_sub = ap (λ (x : ℕ). count - x) big in
        record {
          met = joined (under n s.a) u.met;
          is = cons_children (tree form image (suc k)) (form.fan ^ suc k) holder n ns count first z.pos
              ∙ rw (same_min, whole, same_sub, u.is) refl;
          leaves = ap (λ (l : List ℕ). s.a.leaves ++ l) u.leaves ∙ ap (λ (l : Met). l.leaves) s.is;
          counted = λ x. omega (arith, u.counted x, times_append x s.a.blocks u.met.blocks, times_append x s.a.blocks s.b.blocks, ap (λ (l : Met). times x l.blocks) s.is);
        }

leaves_met : (form : Form) (image : Image) (holder : ℕ) (ns : List ℕ) (first : Option ℕ) → AllAllowed form.last first ns
    → children (tree form image 0) 1 holder ns (length ns) first ≡ Ok (record { blocks = ns; leaves = ns })
leaves_met form image holder [] first allowed = refl
leaves_met form image holder (n ∷ ns) first allowed =
    let one : suc (length ns) - 1 ≡ length ns = omega arith in
    rw (leaf_from form image first holder n (min (suc (length ns)) 1) allowed.0, one, leaves_met form image holder ns None allowed.1) refl

points_none : (form : Form) (image : Image) (ns ps : List ℕ) → Points form image ns ps → length ps ≡ 0 → ns ≡ []
points_none form image [] ps points none = refl
points_none form image (n ∷ ns) ps (rest, p, more) none = let some = p.some in absurd (omega (arith, ap length p.split, length-append p.own rest))

pub length_points : (form : Form) (image : Image) → 0 < form.fan → (ns ps : List ℕ) → Points form image ns ps → (length ps ≤ length ns * form.fan) × (length ns * form.fan < length ps + form.fan)
length_points form image some [] ps points = let none : length ps ≡ 0 = ap length points in (omega arith, omega arith)
length_points form image some (n ∷ ns) ps (rest, p, more) =
    let long : length ps ≡ length p.own + length rest = ap length p.split ∙ length-append p.own rest in
    let fit : length p.own ≤ form.fan = omega (arith, length-pointers form.fan form.stride (image n), ap length p.bytes, length-append p.own p.unused) in
    let deeper = length_points form image some ns rest more in
    let low = deeper.0 in let high = deeper.1 in
    let one = p.some in
    ⊎_elim
    (λ (is : length p.own ≡ form.fan). (omega arith, omega arith))
    (λ (is : rest ≡ []).
    let none : length rest ≡ 0 = ap length is in
    let none' : length ns ≡ 0 = ap length (points_none form image ns rest more none) in
    let product : length ns * form.fan ≡ 0 = rw none' (omega arith) in (omega arith, omega arith))
    p.full

next_sizes : (l m fan size count : ℕ) → 0 < fan → l ≤ m * fan → m * fan < l + fan → count ≤ l * size → l * size < count + size → (count ≤ m * (fan * size)) × (m * (fan * size) < count + fan * size)
next_sizes l m fan size count some low high fits tight =
    let a : l * size ≤ m * fan * size = mul-le-mul_right size low in
    let b : suc (m * fan) * size ≤ (l + fan) * size = mul-le-mul_right size high in
    (omega arith, omega arith)

abbrev Higher : ℕ → ℕ → ℕ → Type 0
Higher fan count zero = Unit {0}
Higher fan count (suc k) = fan ^ k < count

shape : (fan count k : ℕ) → Higher fan count k → count ≤ fan ^ k → is_shape fan count k ≡ true
shape fan count zero higher fits = let unit : fan ^ 0 ≡ 1 = pow-zero fan in le-leb count 1 (omega arith)
shape fan count (suc k) higher fits = and_from (nat_lt (fan ^ k) count) (nat_le count (fan ^ suc k)) (lt-ltb (fan ^ k) count higher) (le-leb count (fan ^ suc k) fits)

-- a tree that was read
record Read (form : Form) (image : Image) (levels : ℕ) (first : Option ℕ) (holder root count : ℕ) (nodes : List ℕ) (m : Met) : Type 0 where
  met : Met
  is : tree form image levels first holder root count ≡ Ok met
  leaves : met.leaves ≡ m.leaves
  counted : (n : ℕ) → times n met.blocks ≡ times n nodes + times n m.blocks
  shape_is : is_shape form.fan count levels ≡ true

-- from one level to the root
climb : (form : Form) (image : Image) (holder : ℕ) → 0 < form.fan → (k j levels : ℕ) → levels ≡ k + j → 0 < form.fan ^ j → (ps : List ℕ) (root count : ℕ) (nodes : List ℕ) (first : Option ℕ) (m : Met)
    → Built form image k ps root nodes → Higher form.fan count j → count ≤ length ps * form.fan ^ j → length ps * form.fan ^ j < count + form.fan ^ j
    → children (tree form image j) (form.fan ^ j) holder ps count first ≡ Ok m → Read form image levels first holder root count nodes m
unfolding times
climb form image holder some zero j levels is_levels room ps root count nodes first m (is_ps, is_nodes) higher fits tight e =
    let here : levels ≡ j = omega arith in
    let one : length ps ≡ 1 = ap length is_ps in
    let size = form.fan ^ j in
    let whole : length ps * size ≡ size = rw one (omega arith) in
    let whole_min : min count size ≡ count = omega arith in
    let f = tree form image j in
    let e1 = sym (cons_children f size holder root [] count first (omega arith)) ∙ subst (λ (l : List ℕ). children f size holder l count first ≡ Ok m) is_ps e in
    bind_then (f first holder root (min count size)) _ m e1 (λ a is_a e2.
    let same = ok_same (joined a none_met) m e2 in
    let left : a.leaves ≡ m.leaves = sym (append-nil a.leaves) ∙ ap (λ (l : Met). l.leaves) same in
    record {
      met = a;
      is = rw here (subst (λ (c : ℕ). f first holder root c ≡ Ok a) whole_min is_a);
      leaves = left;
      counted = λ n. omega (arith, ap (times n) is_nodes, times_append n a.blocks [], ap (λ (l : Met). times n l.blocks) same);
      shape_is = rw here (shape form.fan count j higher (omega arith));
    })
climb form image holder some (suc k) j levels is_levels room ps root count nodes first m (ns, more, two, points, free, is_nodes, built) higher fits tight e =
    let size = form.fan ^ j in
    let big : form.fan ^ suc j ≡ form.fan * size = pow-suc form.fan j ∙ mul_comm size form.fan in
    let lengths = length_points form image some ns ps points in
    let wider = next_sizes (length ps) (length ns) form.fan size count some lengths.0 lengths.1 fits tight in
    let u = level_up form image j holder some room ns ps count first m points free fits tight e in
    let room' : 0 < form.fan ^ suc j = rw big (mul-pos some room) in
    let pair : 2 * size ≤ length ps * size = mul-le-mul_right size two in
    let r = climb form image holder some k (suc j) levels (omega arith) room' ns root count more first u.met built (omega arith) (rw big wider.0) (rw big wider.1) u.is in
    record {
      met = r.met;
      is = r.is;
      leaves = r.leaves ∙ u.leaves;
      counted = λ n. omega (arith, r.counted n, u.counted n, times_append n ns more, ap (times n) is_nodes);
      shape_is = r.shape_is;
    }

-- reading a tree that was built gives its data blocks, and its blocks are these and the pointer blocks
pub built_reads : (form : Form) (image : Image) (k : ℕ) (first : Option ℕ) (holder root : ℕ) (leaves nodes : List ℕ) → 1 ≤ form.fan → Built form image k leaves root nodes
    → AllAllowed form.last first leaves → ReadsAs form image k first holder root leaves nodes
built_reads form image k first holder root leaves nodes some built allowed =
    let unit : form.fan ^ 0 ≡ 1 = pow-zero form.fan in
    let same : length leaves * form.fan ^ 0 ≡ length leaves = rw unit (omega arith) in
    let r = climb form image holder some k 0 k (omega arith) (omega arith) leaves root (length leaves) nodes first _ built tt (omega arith) (omega arith)
    (subst (λ (size : ℕ). children (tree form image 0) size holder leaves (length leaves) first ≡ Ok (record { blocks = leaves; leaves = leaves })) (sym unit)
    (leaves_met form image holder leaves first allowed)) in
    record { met = r.met; is = r.is; leaves_are = r.leaves; blocks_are = r.counted; shape = r.shape_is }
