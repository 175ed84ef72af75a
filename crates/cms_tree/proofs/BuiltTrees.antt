-- An image that has the pointer blocks of a tree has the tree.
use Rattle.std.proofs.Common.{◌≡◌, ◌⊎◌, inl, inr, ⊎_elim, ℕ, zero, suc, ◌+◌, ◌-◌, ◌*◌, ◌/◌, ◌^◌, ◌<◌, ◌≤◌, List, [], ◌∷◌, ◌++◌, length, take, drop, get_or, map, All, None, refl, sym, ◌∙◌, ap, subst, arith, mul-le-mul_right, length-append, pow-suc}
use Rattle.std.proofs.Math.Nat.{pow-zero, one-le-pow}
use Rattle.std.specs.Prelude.{replicate}
use Rattle.std.specs.List.{concat}
use Rattle.std.proofs.lemmas.Bool.{cases_lt}
use Rattle.std.proofs.lemmas.List.{take-append-drop, get_or-drop, get_or_append_left, get_or-append_right, length-take, length-drop, drop_all}
use Rattle.std.proofs.lemmas.List.Elements.{All-nil, All-cons, All-head, All-tail, All-take, All-drop}
use Rattle.cms_journal.specs.Journal.{IsBlockSize}
use Rattle.cms_fields.specs.Numbers.{up}
use Rattle.cms_model.specs.Lists.{cut}
use Rattle.cms_model.specs.Trees.{Image, Form, pointers}
use Rattle.cms_model.specs.Sizes.{levels, pointer_count}
use Rattle.cms_model.specs.Built.{Node, Points, AllAllowed, Built}
use Rattle.cms_model.specs.LawsTrees.{cell_bytes, FitsCell}
use Rattle.cms_model.proofs.BuiltTrees.{built_reads}
use Rattle.cms_model.proofs.Cuts.{length_cut}
use Rattle.cms_model.proofs.Pointers.{pointers_read, up_less}
use Rattle.cms_model.proofs.Quotients.{up_spec, up_some, up_zero}
use Rattle.cms_model.proofs.Shapes.{levels_needs}
use Rattle.cms_model.proofs.TreeFrame.{allowed_free as allowed_lies}
use Rattle.cms_tree.specs.declared.types.Mark.{Mark}
use Rattle.cms_tree.specs.Builds.{Child, marked, level_over, parents, all_over, cell_of, node_bytes, root_of, BuiltIsTree, HasNodes, IsBuildable}
use Rattle.cms_tree.proofs.FilledBlocks.{length-cell}
use Rattle.cms_tree.specs.Levels.{over_count}
use Rattle.cms_tree.proofs.LevelsBuilt.{all_count}

abbrev pub blocks_of : List Child → List ℕ
blocks_of cs = map (λ c. c.block) cs

-- the numbers fit in a word
abbrev pub Words : List ℕ → Type 0
Words ns = All (λ n. n < 2 ^ 32) ns

pub length-blocks : (cs : List Child) → length (blocks_of cs) ≡ length cs
length-blocks [] = refl
length-blocks (c ∷ cs) = ap suc (length-blocks cs)

-- ---- a pointer block

same_cells : (psize : ℕ) (group : List Child) → concat (map cell_bytes (map (cell_of psize) group)) ≡ concat (map (λ child. cell_bytes (cell_of psize child)) group)
same_cells psize [] = refl
same_cells psize (c ∷ cs) = ap (λ (l : List ℕ). cell_bytes (cell_of psize c) ++ l) (same_cells psize cs)

same_blocks : (psize : ℕ) (group : List Child) → map (λ c. c.block) (map (cell_of psize) group) ≡ blocks_of group
same_blocks psize [] = refl
same_blocks psize (c ∷ cs) = ap (λ (l : List ℕ). c.block ∷ l) (same_blocks psize cs)

length-cells_of : (psize : ℕ) (group : List Child) → length (map (cell_of psize) group) ≡ length group
length-cells_of psize [] = refl
length-cells_of psize (c ∷ cs) = ap suc (length-cells_of psize cs)

pub fits_cell : (psize : ℕ) (c : Child) → (psize ≡ 4) ⊎ (psize ≡ 12) → c.block < 2 ^ 32 → FitsCell psize (cell_of psize c)
fits_cell psize c kind word = record { word = word; wide = (let e = length-cell psize c kind in omega arith) }

all_fit : (psize : ℕ) (group : List Child) → (psize ≡ 4) ⊎ (psize ≡ 12) → Words (blocks_of group) → All (FitsCell psize) (map (cell_of psize) group)
all_fit psize [] kind words = All-nil (FitsCell psize)
all_fit psize (c ∷ cs) kind words =
    All-cons (FitsCell psize) (cell_of psize c) (map (cell_of psize) cs) (fits_cell psize c kind (All-head (λ n. n < 2 ^ 32) c.block (blocks_of cs) words))
    (all_fit psize cs kind (All-tail (λ n. n < 2 ^ 32) c.block (blocks_of cs) words))

-- the pointers in the bytes of a block over these children
node_points : (bsize psize fan : ℕ) (group : List Child) → (psize ≡ 4) ⊎ (psize ≡ 12) → length group ≤ fan → Words (blocks_of group)
    → pointers fan psize (node_bytes bsize psize group) ≡ blocks_of group ++ pointers (fan - length group) psize (replicate (bsize - length group * psize) 0)
unfolding node_bytes
node_points bsize psize fan group kind fits words =
    let zeros = replicate (bsize - length group * psize) 0 in
    let read = pointers_read psize (fan - length group) (map (cell_of psize) group) zeros (all_fit psize group kind words) in
    let all : length (map (cell_of psize) group) + (fan - length group) ≡ fan = (let e = length-cells_of psize group in omega arith) in
    subst (λ (n : ℕ). pointers n psize (concat (map (λ child. cell_bytes (cell_of psize child)) group) ++ zeros) ≡ blocks_of group ++ pointers (fan - length group) psize zeros) all
    (rw (← same_cells psize group, ← same_blocks psize group) read)

-- ---- a level

-- parents have the numbers of their blocks
pub blocks-parents : (numbers : List ℕ) (groups : List (List Child)) → length groups ≤ length numbers → blocks_of (parents numbers groups) ≡ take (length groups) numbers
unfolding parents
blocks-parents numbers [] enough = refl
blocks-parents [] (g ∷ gs) enough = absurd (omega arith)
blocks-parents (n ∷ ns) (g ∷ gs) enough = ap (λ (l : List ℕ). n ∷ l) (blocks-parents ns gs (omega arith))

pub take-blocks : (k : ℕ) (cs : List Child) → take k (blocks_of cs) ≡ blocks_of (take k cs)
take-blocks zero cs = refl
take-blocks (suc k) [] = refl
take-blocks (suc k) (c ∷ cs) = ap (λ (l : List ℕ). c.block ∷ l) (take-blocks k cs)

pub drop-blocks : (k : ℕ) (cs : List Child) → drop k (blocks_of cs) ≡ blocks_of (drop k cs)
drop-blocks zero cs = refl
drop-blocks (suc k) [] = refl
drop-blocks (suc k) (c ∷ cs) = drop-blocks k cs

nothing_over : (fan : ℕ) (below : List Child) → 1 ≤ fan → 0 ≡ up (length below) fan → blocks_of below ≡ []
nothing_over fan [] some is = refl
nothing_over fan (c ∷ cs) some is = let more = up_some (suc (length cs)) fan some (omega arith) in absurd (omega arith)

full_or_last : (fan : ℕ) (below : List Child) → 1 ≤ fan → (length (blocks_of (take fan below)) ≡ fan) ⊎ (blocks_of (drop fan below) ≡ [])
full_or_last fan below some = ⊎_elim
    (λ (less : length below < fan). inr (ap blocks_of (drop_all fan below (omega arith))))
    (λ (le : fan ≤ length below). inl (let e = length-blocks (take fan below) in let f = length-take fan below in omega arith))
    (cases_lt (length below) fan)

points_level : (form : Form) (image : Image) (bsize : ℕ) → (form.stride ≡ 4) ⊎ (form.stride ≡ 12) → 1 ≤ form.fan → (m : ℕ) (below : List Child) (numbers : List ℕ) → m ≡ up (length below) form.fan
    → m ≤ length numbers → Words (blocks_of below)
    → ((k : ℕ) → k < m → image (get_or numbers k 0) ≡ node_bytes bsize form.stride (get_or (cut m form.fan below) k [])) → Points form image (take m numbers) (blocks_of below)
unfolding cut
points_level form image bsize kind some zero below numbers is enough words has = nothing_over form.fan below some is
points_level form image bsize kind some (suc m) below [] is enough words has = absurd (omega arith)
points_level form image bsize kind some (suc m) below (x ∷ xs) is enough words has =
    let fan = form.fan in
    let own = take fan below in
    let behind = drop fan below in
    let any : 1 ≤ length below = ⊎_elim (λ (none : length below < 1). let zero' : length below ≡ 0 = omega arith in let z : up (length below) fan ≡ 0 =
    ap (λ (c : ℕ). up c fan) zero' ∙ up_zero fan some in absurd (omega arith)) (λ (le : 1 ≤ length below). le) (cases_lt (length below) 1) in
    let less = up_less (length below) fan some any in
    let long = length-drop fan below in
    let few = length-take fan below in
    let m_is : m ≡ up (length behind) fan = (let e : m ≡ up (length below - fan) fan = omega arith in e ∙ ap (λ (c : ℕ). up c fan) (sym long)) in
    let own_words : Words (blocks_of own) = subst Words (take-blocks fan below) (All-take (λ n. n < 2 ^ 32) fan (blocks_of below) words) in
    let behind_words : Words (blocks_of behind) = subst Words (drop-blocks fan below) (All-drop (λ n. n < 2 ^ 32) fan (blocks_of below) words) in
    let here : image x ≡ node_bytes bsize form.stride own = has 0 (omega arith) in
    let unused = pointers (fan - length own) form.stride (replicate (bsize - length own * form.stride) 0) in
    let bytes : pointers fan form.stride (image x) ≡ blocks_of own ++ unused = ap (pointers fan form.stride) here ∙ node_points bsize form.stride fan own kind (omega arith) own_words in
    let split : blocks_of below ≡ blocks_of own ++ blocks_of behind =
    sym (take-append-drop fan (blocks_of below)) ∙ ap (λ (l : List ℕ). l ++ drop fan (blocks_of below)) (take-blocks fan below) ∙ ap (λ (l : List ℕ). blocks_of own ++ l) (drop-blocks fan below) in
    let node : Node form image x (blocks_of below) (blocks_of behind) =
    record { own = blocks_of own; unused = unused; split = split; bytes = bytes; some = (let e = length-blocks own in omega arith); full = full_or_last fan below some } in
    (blocks_of behind, node, points_level form image bsize kind some m behind xs m_is (omega arith) behind_words (λ k lower. has (suc k) (omega arith)))

-- ---- the whole

allowed_take : (last k : ℕ) (ns : List ℕ) → AllAllowed last None ns → AllAllowed last None (take k ns)
allowed_take last zero ns all = tt
allowed_take last (suc k) [] all = tt
allowed_take last (suc k) (n ∷ ns) all = (all.0, allowed_take last k ns all.1)

allowed_drop : (last k : ℕ) (ns : List ℕ) → AllAllowed last None ns → AllAllowed last None (drop k ns)
allowed_drop last zero ns all = all
allowed_drop last (suc k) [] all = tt
allowed_drop last (suc k) (n ∷ ns) all = allowed_drop last k ns all.1

allowed_words : (last : ℕ) (ns : List ℕ) → last < 2 ^ 32 → AllAllowed last None ns → Words ns
allowed_words last [] small all = All-nil (λ n. n < 2 ^ 32)
allowed_words last (n ∷ ns) small all = All-cons (λ m. m < 2 ^ 32) n ns (let lies = allowed_lies last n all.0 in omega (arith, lies.1)) (allowed_words last ns small all.1)

-- the last of the numbers
root_last : (ps numbers : List ℕ) → 1 ≤ length numbers → root_of ps numbers ≡ get_or numbers (length numbers - 1) 0
root_last ps numbers some =
    let long = length-append ps numbers in
    let e : length ps + length numbers - 1 - length ps ≡ length numbers - 1 = omega arith in
    let f : length (ps ++ numbers) - 1 ≡ length ps + length numbers - 1 = omega arith in
    ap (λ (i : ℕ). get_or (ps ++ numbers) i 0) f ∙ get_or-append_right ps numbers (length ps) (length ps + length numbers - 1) 0 refl (omega arith) ∙ ap (λ (i : ℕ). get_or numbers i 0) e

root_same : (ps numbers : List ℕ) (m : ℕ) → 1 ≤ length numbers → root_of (take m numbers) (drop m numbers) ≡ root_of ps numbers
root_same ps numbers m some = ap (λ (l : List ℕ). get_or l (length l - 1) 0) (take-append-drop m numbers) ∙ sym (root_last ps numbers some)

one_block : (cs : List Child) → length cs ≡ 1 → blocks_of cs ≡ root_of (blocks_of cs) [] ∷ []
one_block [] is = absurd (omega arith)
one_block (c ∷ []) is = refl
one_block (c ∷ d ∷ cs) is = absurd (omega arith)

-- so many levels are needed over so many blocks, and have room
pub record Fits (fan k m : ℕ) : Type 0 where
  pub some : 1 ≤ m
  pub room : m ≤ fan ^ k
  pub fewer : (j : ℕ) → j < k → fan ^ j < m

pub fits_above : (fan k m : ℕ) → 1 ≤ fan → Fits fan (suc k) m → Fits fan k (up m fan)
fits_above fan k m some f =
    let s = up_spec m fan some in
    let low = s.0 in let high = s.1 in
    let whole : fan ^ suc k ≡ fan ^ k * fan = pow-suc fan k in
    let room' = f.room in
    record {
      some = up_some m fan some f.some;
      room = ⊎_elim (λ (more : fan ^ k < up m fan). let over : suc (fan ^ k) * fan ≤ up m fan * fan = mul-le-mul_right fan more in absurd (omega arith)) (λ (le : up m fan ≤ fan ^ k). le)
          (cases_lt (fan ^ k) (up m fan));
      fewer = λ j less.
          let below = f.fewer (suc j) (omega arith) in
          let power : fan ^ suc j ≡ fan ^ j * fan = pow-suc fan j in
          ⊎_elim (λ (lower : fan ^ j < up m fan). lower) (λ (ge : up m fan ≤ fan ^ j). let under : up m fan * fan ≤ fan ^ j * fan = mul-le-mul_right fan ge in absurd (omega arith))
          (cases_lt (fan ^ j) (up m fan));
    }

built : (form : Form) (image : Image) (bsize : ℕ) → (form.stride ≡ 4) ⊎ (form.stride ≡ 12) → 1 ≤ form.fan → form.last < 2 ^ 32 → (k : ℕ) (below : List Child) (numbers : List ℕ)
    → Fits form.fan k (length below) → length numbers ≡ over_count form.fan k (length below) → Words (blocks_of below) → AllAllowed form.last None numbers
    → ((nth : ℕ) → nth < length numbers → image (get_or numbers nth 0) ≡ node_bytes bsize form.stride (get_or (all_over form.fan k below numbers) nth []))
    → Built form image k (blocks_of below) (root_of (blocks_of below) numbers) numbers
unfolding all_over
built form image bsize kind some small zero below [] fits count words allowed has = (one_block below (let a = fits.some in let b = fits.room in let one = pow-zero form.fan in omega arith), refl)
built form image bsize kind some small zero below (x ∷ xs) fits count words allowed has = absurd (omega arith)
built form image bsize kind some small (suc k) below numbers fits count words allowed has =
    let fan = form.fan in
    let m = up (length below) fan in
    let level = level_over fan below in
    let long : length level ≡ m = length_cut m fan below in
    let above = fits_above fan k (length below) some fits in
    let any = above.some in
    let parents' = parents numbers level in
    let named : blocks_of parents' ≡ take m numbers = blocks-parents numbers level (omega arith) ∙ ap (λ (n : ℕ). take n numbers) long in
    let wide : length parents' ≡ m = sym (length-blocks parents') ∙ ap length named ∙ length-take m numbers ∙ (omega arith) in
    let power = one-le-pow k fan some in
    let two = fits.fewer k (omega arith) in
    let rest = length-drop m numbers in
    let more : Built form image k (blocks_of parents') (root_of (blocks_of parents') (drop m numbers)) (drop m numbers) =
    built form image bsize kind some small k parents' (drop m numbers) (subst (Fits fan k) (sym wide) above)
    (rest ∙ (let e : over_count fan k (length parents') ≡ over_count fan k m = ap (over_count fan k) wide in omega arith))
    (subst Words (sym named) (All-take (λ n. n < 2 ^ 32) m numbers (allowed_words form.last numbers small allowed))) (allowed_drop form.last m numbers allowed)
    (λ nth less.
    let there : get_or numbers (m + nth) 0 ≡ get_or (drop m numbers) nth 0 = sym (get_or-drop m numbers nth 0) in
    let back : m + nth - m ≡ nth = omega arith in
    let same : get_or (level ++ all_over fan k parents' (drop (length level) numbers)) (m + nth) [] ≡ get_or (all_over fan k parents' (drop m numbers)) nth [] =
    get_or-append_right level (all_over fan k parents' (drop (length level) numbers)) m (m + nth) [] long (omega arith) ∙ (rw (back, long) refl) in
    sym (ap image there) ∙ has (m + nth) (omega arith) ∙ ap (node_bytes bsize form.stride) same) in
    let more' : Built form image k (take m numbers) (root_of (blocks_of below) numbers) (drop m numbers) =
    subst (λ (root : ℕ). Built form image k (take m numbers) root (drop m numbers)) (root_same (blocks_of below) numbers m (omega arith))
    (subst (λ (l : List ℕ). Built form image k l (root_of l (drop m numbers)) (drop m numbers)) named more) in
    let points = points_level form image bsize kind some m below numbers refl (omega arith) words
    (λ i less. has i (omega arith) ∙ ap (node_bytes bsize form.stride) (get_or_append_left level (all_over fan k parents' (drop (length level) numbers)) [] i (omega arith))) in
    (take m numbers, drop m numbers, (let e = length-blocks below in omega arith), points, allowed_take form.last m numbers allowed, sym (take-append-drop m numbers), more')

blocks-marked : (leaves : List ℕ) (marks : List Mark) → blocks_of (marked leaves marks) ≡ leaves
unfolding marked
blocks-marked [] marks = refl
blocks-marked (n ∷ ns) marks = ap (λ (l : List ℕ). n ∷ l) (blocks-marked ns (drop 1 marks))

pub fan_wide : (bsize psize : ℕ) → IsBlockSize bsize → (psize ≡ 4) ⊎ (psize ≡ 12) → 2 ≤ bsize / psize
fan_wide bsize psize size kind = ⊎_elim (λ (is : psize ≡ 4). rw is (omega (arith, size))) (λ (is : psize ≡ 12). rw is (omega (arith, size))) kind

-- the levels of a tree whose pointer blocks an image has
pub built_whole : (bsize psize last : ℕ) (leaves : List ℕ) (marks : List Mark) (fresh : List ℕ) (image : Image) → IsBuildable bsize psize leaves marks fresh → last < 2 ^ 32 → All (λ n. n < 2 ^ 32) leaves
    → AllAllowed last None fresh → HasNodes image bsize psize leaves marks fresh
    → Built (record { fan = bsize / psize; stride = psize; last = last }) image (levels (bsize / psize) (length leaves)) leaves (root_of leaves fresh) fresh
unfolding pointer_count
built_whole bsize psize last leaves marks fresh image b small words allowed has =
    let fan = bsize / psize in
    let form : Form = record { fan = fan; stride = psize; last = last } in
    let wide = fan_wide bsize psize b.size b.pointer in
    let n = length leaves in
    let k = levels fan n in
    let below = marked leaves marks in
    let named = blocks-marked leaves marks in
    let long : length below ≡ n = sym (length-blocks below) ∙ ap length named in
    let needs = levels_needs fan n wide b.few in
    let fits : Fits fan k (length below) = subst (Fits fan k) (sym long) (record { some = b.some; room = needs.fits; fewer = needs.fewer }) in
    let count : length fresh ≡ over_count fan k (length below) = b.numbers ∙ sym (all_count fan n k (omega arith)) ∙ ap (over_count fan k) (sym long) in
    let whole = built form image bsize b.pointer (omega arith) small k below fresh fits count (subst Words (sym named) words) allowed has in
    subst (λ (l : List ℕ). Built form image k l (root_of l fresh) fresh) named whole

pub built_is_tree : BuiltIsTree
built_is_tree bsize psize last first holder leaves marks fresh image b small words allowed allowed' has =
    let fan = bsize / psize in
    let form : Form = record { fan = fan; stride = psize; last = last } in
    let wide = fan_wide bsize psize b.size b.pointer in
    built_reads form image (levels fan (length leaves)) first holder (root_of leaves fresh) leaves fresh (omega arith)
    (built_whole bsize psize last leaves marks fresh image b small words allowed' has) allowed
