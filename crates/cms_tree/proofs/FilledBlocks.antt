-- A pointer block while it is filled.
use Rattle.std.proofs.Common.{◌≡◌, ◌⊎◌, ⊎_elim, ℕ, suc, ◌+◌, ◌-◌, ◌*◌, ◌<◌, ◌≤◌, List, [], ◌∷◌, ◌++◌, length, take, drop, map, refl, sym, ◌∙◌, ap, subst, arith, length-append, mul-le-mul_right}
use Rattle.std.specs.Prelude.{replicate}
use Rattle.std.specs.List.{concat}
use Rattle.std.proofs.lemmas.List.{append-nil, append_assoc, take_at, drop_at, drop-replicate, drop-drop}
use Rattle.cms_text.specs.Bytes.{overwritten}
use Rattle.cms_fields.specs.Numbers.{up}
use Rattle.cms_model.proofs.Quotients.{up_spec}
use Rattle.cms_model.specs.LawsTrees.{cell_bytes}
use Rattle.cms_tree.specs.declared.types.Mark.{Mark}
use Rattle.cms_tree.specs.Builds.{Child, cell_of, node_bytes}
use Rattle.cms_tree.specs.Levels.{wide_mark, children_from}

-- the bytes of pointers
abbrev pub cells : ℕ → List Child → List ℕ
cells psize group = concat (map (λ child. cell_bytes (cell_of psize child)) group)

pub length-cell : (psize : ℕ) (child : Child) → (psize ≡ 4) ⊎ (psize ≡ 12) → length (cell_bytes (cell_of psize child)) ≡ psize
length-cell psize child kind = ⊎_elim (λ (is : psize ≡ 4). rw is refl) (λ (is : psize ≡ 12). rw is refl) kind

pub cells-push : (psize : ℕ) (group : List Child) (child : Child) → cells psize (group ++ child ∷ []) ≡ cells psize group ++ cell_bytes (cell_of psize child)
cells-push psize [] child = append-nil (cell_bytes (cell_of psize child))
cells-push psize (c ∷ cs) child = ap (λ (l : List ℕ). cell_bytes (cell_of psize c) ++ l) (cells-push psize cs child)
    ∙ sym (append_assoc (cell_bytes (cell_of psize c)) (cells psize cs) (cell_bytes (cell_of psize child)))

pub length-cells : (psize : ℕ) (group : List Child) → (psize ≡ 4) ⊎ (psize ≡ 12) → length (cells psize group) ≡ length group * psize
length-cells psize [] kind = omega arith
length-cells psize (c ∷ cs) kind = omega (arith, length-append (cell_bytes (cell_of psize c)) (cells psize cs), length-cell psize c kind, length-cells psize cs kind)

-- a field written behind a front, over zeros
pub overwrite-zeros : (front field : List ℕ) (at room : ℕ) → length front ≡ at → length field ≤ room
    → overwritten at field (front ++ replicate room 0) ≡ (front ++ field) ++ replicate (room - length field) 0
overwrite-zeros front field at room is fits =
    let zeros = replicate room 0 in
    let before : take at (front ++ zeros) ≡ front = take_at front zeros at is in
    let behind : drop (at + length field) (front ++ zeros) ≡ replicate (room - length field) 0 =
    sym (drop-drop (length field) at (front ++ zeros)) ∙ ap (drop (length field)) (drop_at front zeros at is) ∙ drop-replicate (length field) room 0 in
    rw (before, behind) (sym (append_assoc front field (replicate (room - length field) 0)))

pub length-children : (marks : List Mark) (count size i : ℕ) (ns : List ℕ) → length (children_from marks count size i ns) ≡ length ns
unfolding children_from
length-children marks count size i [] = refl
length-children marks count size i (n ∷ ns) = ap suc (length-children marks count size (i + 1) ns)

pub children-push : (marks : List Mark) (count size i : ℕ) (ns : List ℕ) (n at : ℕ) → i + length ns ≡ at
    → children_from marks count size i (ns ++ n ∷ []) ≡ children_from marks count size i ns ++ (record { block = n; mark = wide_mark marks count size at }) ∷ []
unfolding children_from
children-push marks count size i [] n at is = let e : i ≡ at = omega arith in rw e refl
children-push marks count size i (m ∷ ns) n at is = ap (λ (l : List Child). (record { block = m; mark = wide_mark marks count size i }) ∷ l)
    (children-push marks count size (i + 1) ns n at (omega arith))

-- so many pointers are there, and zeros
abbrev pub Filled : ℕ → ℕ → List Mark → ℕ → ℕ → ℕ → List ℕ → ℕ → List ℕ → Type 0
Filled bsize psize marks count size first blocks done into =
    into ≡ cells psize (children_from marks count size first (take done blocks)) ++ replicate (bsize - done * psize) 0

pub none_filled : (bsize psize : ℕ) (marks : List Mark) (count size first : ℕ) (blocks into : List ℕ) → into ≡ replicate bsize 0 → Filled bsize psize marks count size first blocks 0 into
unfolding children_from
none_filled bsize psize marks count size first blocks into is = let none : bsize - 0 * psize ≡ bsize = omega arith in rw none is

-- without marks every mark is stored alike
pub same_cell : (psize block : ℕ) (a b : Mark) → (psize ≡ 4) ⊎ (psize ≡ 12) → (psize ≡ 12 → a ≡ b)
    → cell_bytes (cell_of psize (record { block = block; mark = a })) ≡ cell_bytes (cell_of psize (record { block = block; mark = b }))
same_cell psize block a b kind same = ⊎_elim
    (λ (is : psize ≡ 4). rw is refl)
    (λ (is : psize ≡ 12). ap (λ (m : Mark). cell_bytes (cell_of psize (record { block = block; mark = m }))) (same is))
    kind

pub one_filled : (bsize psize : ℕ) (marks : List Mark) (count size first : ℕ) (blocks : List ℕ) (done block : ℕ) (mark : Mark) (into new : List ℕ) → (psize ≡ 4) ⊎ (psize ≡ 12) → done < length blocks
    → length blocks * psize ≤ bsize
    → take (done + 1) blocks ≡ take done blocks ++ block ∷ [] → length (take done blocks) ≡ done → Filled bsize psize marks count size first blocks done into
    → (psize ≡ 12 → mark ≡ wide_mark marks count size (first + done)) → new ≡ overwritten (done * psize) (cell_bytes (cell_of psize (record { block = block; mark = mark }))) into
    → Filled bsize psize marks count size first blocks (done + 1) new
one_filled bsize psize marks count size first blocks done block mark into new kind within room next long filled same is =
    let front = children_from marks count size first (take done blocks) in
    let child : Child = record { block = block; mark = wide_mark marks count size (first + done) } in
    let field = cell_bytes (cell_of psize child) in
    let wide = length-cell psize child kind in
    let at : length (cells psize front) ≡ done * psize = length-cells psize front kind ∙ ap (λ (n : ℕ). n * psize) (length-children marks count size first (take done blocks) ∙ long) in
    let fits : suc done * psize ≤ length blocks * psize = mul-le-mul_right psize within in
    let whole : cells psize (children_from marks count size first (take (done + 1) blocks)) ≡ cells psize front ++ field =
    ap (λ (l : List ℕ). cells psize (children_from marks count size first l)) next
    ∙ ap (cells psize) (children-push marks count size first (take done blocks) block (first + done) (ap (λ (n : ℕ). first + n) long)) ∙ cells-push psize front child in
    let left : bsize - done * psize - length field ≡ bsize - (done + 1) * psize = omega arith in
    let over = overwrite-zeros (cells psize front) field (done * psize) (bsize - done * psize) at (omega arith) in
    is ∙ ap (λ (f : List ℕ). overwritten (done * psize) f into) (same_cell psize block mark (wide_mark marks count size (first + done)) kind same) ∙ ap (overwritten (done * psize) field) filled ∙ over
    ∙ (rw (whole, ← left) refl)

pub all_filled : (bsize psize : ℕ) (marks : List Mark) (count size first : ℕ) (blocks : List ℕ) (done : ℕ) (into : List ℕ) → take done blocks ≡ blocks → done ≡ length blocks
    → Filled bsize psize marks count size first blocks done into
    → into ≡ node_bytes bsize psize (children_from marks count size first blocks)
unfolding node_bytes
all_filled bsize psize marks count size first blocks done into whole is filled =
    let long : length (children_from marks count size first blocks) ≡ done = length-children marks count size first blocks ∙ sym is in
    let there : into ≡ cells psize (children_from marks count size first blocks) ++ replicate (bsize - done * psize) 0 =
    subst (λ (l : List ℕ). into ≡ cells psize (children_from marks count size first l) ++ replicate (bsize - done * psize) 0) whole filled in
    rw long there

-- a block of a level has data blocks below it
pub below_some : (place count size : ℕ) → 1 ≤ size → place < up count size → place * size < count
below_some place count size some less =
    let tight = (up_spec count size some).1 in
    let wide : suc place * size ≤ up count size * size = mul-le-mul_right size less in
    omega arith
