-- A tree that grows behind data blocks that it keeps: its new pointer blocks point to their groups.
use Rattle.std.proofs.Common.{◌≡◌, ◌⊎◌, ⊎_elim, ℕ, zero, suc, ◌+◌, ◌-◌, ◌*◌, ◌/◌, ◌%◌, ◌^◌, ◌<◌, ◌≤◌, min, true, eqb, List, [], ◌∷◌, ◌++◌, length, take, drop, get_or, All, refl, sym, ◌∙◌, ap, arith, append_assoc, append-nil, take-add, div-add-mod', mul-le-mul_right}
use Rattle.std.specs.Prelude.{replicate}
use Rattle.std.proofs.lemmas.Bool.{cases_eq, cond-true, cond-false, eq-eqb, ne_eqb}
use Rattle.std.proofs.lemmas.List.{drop-append-le, drop-drop, length-drop, length-take-le, take-append-drop, take-append-le, take-take, take_min}
use Rattle.std.proofs.lemmas.List.Elements.{All-cons, All-drop, All-head, All-nil, All-tail, All-take}
use Rattle.std.proofs.Math.Seq.{take-append_seam}
use Rattle.byteorder.specs.Endian.{big_from}
use Rattle.byteorder.specs.Numbers.{big_from-take}
use Rattle.cms_text.specs.Bytes.{word}
use Rattle.cms_fields.specs.Numbers.{up}
use Rattle.cms_model.specs.LawsTrees.{Cell, FitsCell, cell_bytes}
use Rattle.cms_model.specs.SharedTiers.{group}
use Rattle.cms_model.specs.Trees.{pointers}
use Rattle.std.proofs.lemmas.Nat.{div-mul-add, div_below, mod-mul-add}
use Rattle.cms_model.proofs.Pointers.{pointers_read}
use Rattle.cms_model.proofs.Quotients.{up_spec}
use Rattle.cms_model.proofs.TreeSizes.{length-pointers}
use Rattle.cms_tree.specs.declared.types.Mark.{Mark}
use Rattle.cms_tree.specs.Builds.{Child, cell_of}
use Rattle.cms_tree.specs.Kept.{Kept}
use Rattle.cms_tree.specs.Tiers.{Tier, behind_kept, cells_from, ends_group, pointing, tier_mark}
use Rattle.cms_tree.proofs.BuiltTrees.{fits_cell}
use Rattle.cms_tree.proofs.ClimbBlocks.{div_mono, front_at}
use Rattle.cms_tree.proofs.FilledBlocks.{length-cell}

abbrev pub Word : ℕ → Type 0
Word n = n < 2 ^ 32

-- ---- the pointers in bytes

word_front : (xs ys : List ℕ) → 4 ≤ length xs → word (xs ++ ys) 0 ≡ word xs 0
unfolding word
word_front xs ys long =
    sym (big_from-take 0 4 4 (xs ++ ys) (omega arith)) ∙ ap (big_from 0 4) (take-append-le 4 xs ys long) ∙ big_from-take 0 4 4 xs (omega arith)

-- those of bytes one behind the other
pub pointers_both : (m n stride : ℕ) (xs ys : List ℕ) → 4 ≤ stride → length xs ≡ m * stride → pointers (m + n) stride (xs ++ ys) ≡ pointers m stride xs ++ pointers n stride ys
unfolding pointers
pointers_both zero n stride [] ys wide long = let e : 0 + n ≡ n = omega arith in ap (λ (k : ℕ). pointers k stride ys) e
pointers_both zero n stride (x ∷ xs) ys wide long = absurd (omega arith)
pointers_both (suc m) n stride xs ys wide long =
    let e : suc m + n ≡ suc (m + n) = omega arith in
    let whole : suc m * stride ≡ stride + m * stride = omega arith in
    let first : word (xs ++ ys) 0 ≡ word xs 0 = word_front xs ys (omega arith) in
    let behind : drop stride (xs ++ ys) ≡ drop stride xs ++ ys = drop-append-le stride xs ys (omega arith) in
    let rest : length (drop stride xs) ≡ m * stride = length-drop stride xs ∙ (omega arith) in
    ap (λ (k : ℕ). pointers k stride (xs ++ ys)) e
    ∙ ap (λ (w : ℕ). w ∷ pointers (m + n) stride (drop stride (xs ++ ys))) first
    ∙ ap (λ (l : List ℕ). word xs 0 ∷ pointers (m + n) stride l) behind
    ∙ ap (λ (l : List ℕ). word xs 0 ∷ l) (pointers_both m n stride (drop stride xs) ys wide rest)

-- those of the first bytes of a block
pub pointers_front : (m more stride : ℕ) (bytes : List ℕ) → 4 ≤ stride → m * stride ≤ length bytes → pointers m stride (take (m * stride) bytes) ≡ take m (pointers (m + more) stride bytes)
pointers_front m more stride bytes wide long =
    let front = take (m * stride) bytes in
    let behind = drop (m * stride) bytes in
    let both = pointers_both m more stride front behind wide (length-take-le (m * stride) bytes long) in
    let own = pointers m stride front in
    let count : length own ≡ m = length-pointers m stride front in
    sym (ap (take m) (ap (pointers (m + more) stride) (sym (take-append-drop (m * stride) bytes)) ∙ both)
    ∙ ap (λ (k : ℕ). take k (own ++ pointers more stride behind)) (sym count) ∙ take-append_seam own (pointers more stride behind))

pub one_cell : (p : ℕ) (c : Cell) → FitsCell p c → pointers 1 p (cell_bytes c) ≡ c.block ∷ []
unfolding pointers
one_cell p c fits =
    ap (pointers 1 p) (sym (append-nil (cell_bytes c ++ []) ∙ append-nil (cell_bytes c)))
    ∙ pointers_read p 0 (c ∷ []) [] (All-cons (FitsCell p) c [] fits (All-nil (FitsCell p)))

-- those of new pointers
pub pointers_cells : (psize : ℕ) (marks : List Mark) (count : ℕ) (t : Tier) (i : ℕ) (ns : List ℕ) (more : ℕ) (rest : List ℕ) → (psize ≡ 4) ⊎ (psize ≡ 12) → All Word ns
    → pointers (length ns + more) psize (cells_from psize marks count t i ns ++ rest) ≡ ns ++ pointers more psize rest
unfolding cells_from
pointers_cells psize marks count t i [] more rest kind words = let e : 0 + more ≡ more = omega arith in ap (λ (k : ℕ). pointers k psize rest) e
pointers_cells psize marks count t i (n ∷ ns) more rest kind words =
    let child : Child = record { block = n; mark = tier_mark marks count t i } in
    let cell = cell_of psize child in
    let behind = cells_from psize marks count t (i + 1) ns in
    let fits = fits_cell psize child kind (All-head Word n ns words) in
    let long : length (cell_bytes cell) ≡ 1 * psize = length-cell psize child kind ∙ (omega arith) in
    let e : suc (length ns) + more ≡ 1 + (length ns + more) = omega arith in
    let one : pointers 1 psize (cell_bytes cell) ≡ n ∷ [] = one_cell psize cell fits in
    ap (λ (k : ℕ). pointers k psize ((cell_bytes cell ++ behind) ++ rest)) e
    ∙ ap (pointers (1 + (length ns + more)) psize) (append_assoc (cell_bytes cell) behind rest)
    ∙ pointers_both 1 (length ns + more) psize (cell_bytes cell) (behind ++ rest) (wide_of psize kind) long
    ∙ ap (λ (l : List ℕ). l ++ pointers (length ns + more) psize (behind ++ rest)) one
    ∙ ap (λ (l : List ℕ). n ∷ l) (pointers_cells psize marks count t (i + 1) ns more rest kind (All-tail Word n ns words))
  where
    wide_of : (p : ℕ) → (p ≡ 4) ⊎ (p ≡ 12) → 4 ≤ p
    wide_of p kind = omega (arith, kind)

-- ---- a pointer block

-- the group of a block in two parts
group_parts : (fan j m upto : ℕ) (below : List ℕ) → m ≤ fan → upto ≡ min ((j + 1) * fan) (length below) → j * fan + m ≤ upto
    → take m (group fan below j) ++ take (upto - (j * fan + m)) (drop (j * fan + m) below) ≡ group fan below j
group_parts fan j m upto below few upto_is low =
    let at = j * fan in
    let behind = drop at below in
    let long = length-drop at below in
    let front : take m (take fan behind) ≡ take m behind = take-take m fan behind few in
    let rest : drop (at + m) below ≡ drop m behind = sym (drop-drop m at below) in
    let next : (j + 1) * fan ≡ at + fan = next_multiple j fan in
    let both : m + (upto - (at + m)) ≡ min fan (length behind) = omega arith in
    ap (λ (l : List ℕ). l ++ take (upto - (at + m)) (drop (at + m) below)) front
    ∙ ap (λ (l : List ℕ). take m behind ++ take (upto - (at + m)) l) rest
    ∙ sym (take-add m (upto - (at + m)) behind) ∙ ap (λ (n : ℕ). take n behind) both ∙ take_min fan behind
  where
    next_multiple : (a b : ℕ) → (a + 1) * b ≡ a * b + b
    next_multiple a b = grind arith

-- a block with kept pointers and new ones names its group, where the kept ones name the first of it
pub names_whole : (bsize psize : ℕ) (marks : List Mark) (count : ℕ) (t : Tier) (e : Kept) (j m upto : ℕ) → (psize ≡ 4) ⊎ (psize ≡ 12) → m ≤ bsize / psize
    → upto ≡ min ((j + 1) * (bsize / psize)) (length t.blocks) → behind_kept (bsize / psize) t j ≡ j * (bsize / psize) + m → j * (bsize / psize) + m ≤ upto
    → length (front_at (bsize / psize) t e j) ≡ m * psize → pointers m psize (front_at (bsize / psize) t e j) ≡ take m (group (bsize / psize) t.blocks j) → All Word t.blocks
    → (unused : List ℕ) × (pointers (bsize / psize) psize (pointing bsize psize marks count t e j upto) ≡ group (bsize / psize) t.blocks j ++ unused)
names_whole bsize psize marks count t e j m upto kind few upto_is from_is low front_long front_names words = (
  pointers more psize zeros,
  ap (λ (n : ℕ). pointers n psize ((front ++ cells) ++ zeros)) (sym counts) ∙ ap (pointers (m + (length ns + more)) psize) (append_assoc front cells zeros)
      ∙ pointers_both m (length ns + more) psize front (cells ++ zeros) (wide_of psize kind) front_long
      ∙ ap (λ (l : List ℕ). l ++ pointers (length ns + more) psize (cells ++ zeros)) front_names
      ∙ ap (λ (l : List ℕ). take m (group fan t.blocks j) ++ l) (pointers_cells psize marks count t from ns more zeros kind own_words)
      ∙ sym (append_assoc (take m (group fan t.blocks j)) ns (pointers more psize zeros))
      ∙ ap (λ (l : List ℕ). l ++ pointers more psize zeros)
      (ap (λ (n : ℕ). take m (group fan t.blocks j) ++ take (upto - n) (drop n t.blocks)) from_is ∙ group_parts fan j m upto t.blocks few upto_is low),
)
  where
    fan : ℕ
    fan = bsize / psize

    from : ℕ
    from = behind_kept fan t j

    front : List ℕ
    front = front_at fan t e j

    ns : List ℕ
    ns = take (upto - from) (drop from t.blocks)

    cells : List ℕ
    cells = cells_from psize marks count t from ns

    zeros : List ℕ
    zeros = replicate (bsize - (upto - j * fan) * psize) 0

    more : ℕ
    more = fan - (upto - j * fan)

    wide_of : (p : ℕ) → (p ≡ 4) ⊎ (p ≡ 12) → 4 ≤ p
    wide_of p kind = omega (arith, kind)

    own_words : All Word ns
    own_words = All-take Word (upto - from) (drop from t.blocks) (All-drop Word from t.blocks words)

    counts : m + (length ns + more) ≡ fan
    counts =
        let long : length ns ≡ upto - from = length-take-le (upto - from) (drop from t.blocks) (let d = length-drop from t.blocks in omega arith) in
        let next : (j + 1) * fan ≡ j * fan + fan = next_multiple j fan in
        omega arith
      where
        next_multiple : (a b : ℕ) → (a + 1) * b ≡ a * b + b
        next_multiple a b = grind arith

-- ---- the last of a group

-- the last block to which pointer block j over a level points
pub record LastOf (fan count j : ℕ) (k : ℕ) : Type 0 where
  pub within : k < count
  pub over : k / fan ≡ j
  pub ends : ends_group fan count k ≡ true
  pub upto : k + 1 ≡ min ((j + 1) * fan) count

pub last_in : ℕ → ℕ → ℕ → ℕ
last_in fan count j = min ((j + 1) * fan) count - 1

pub next_multiple : (a b : ℕ) → (a + 1) * b ≡ a * b + b
next_multiple a b = grind arith

pub below_up : (count fan j : ℕ) → 1 ≤ fan → j < up count fan → j * fan < count
below_up count fan j some less =
    let s = (up_spec count fan some).1 in
    let wide : (j + 1) * fan ≤ up count fan * fan = mul-le-mul_right fan (let l = less in omega arith) in
    let n = next_multiple j fan in
    omega arith

pub last_of : (fan count j : ℕ) → 1 ≤ fan → j < up count fan → LastOf fan count j (last_in fan count j)
unfolding last_in
last_of fan count j some less =
    let k = last_in fan count j in
    let low = below_up count fan j some less in
    let n = next_multiple j fan in
    let k_is : k + 1 ≡ min ((j + 1) * fan) count = omega arith in
    let high : k < (j + 1) * fan = omega arith in
    let bottom : j * fan ≤ k = omega arith in
    let w = div-add-mod' k fan in
    let a = div_mono fan (j * fan) k some bottom in
    let b : k / fan < j + 1 = div_below k fan (j + 1) some high in
    let own : j * fan / fan ≡ j = (let z : j * fan + 0 ≡ j * fan = omega arith in ap (λ (x : ℕ). x / fan) (sym z) ∙ div-mul-add j fan 0 (omega arith)) in
    record {
      within = omega arith;
      over = omega arith;
      upto = k_is;
      ends = ⊎_elim
          (λ (last : k + 1 ≡ count). cond-true (eqb (k + 1) count) true (eqb ((k + 1) % fan) 0) (eq-eqb (k + 1) count last))
          (λ (other : k + 1 ≡ count → ⊥).
          let full : k + 1 ≡ (j + 1) * fan + 0 = full_of k k_is other in
          let rest : (k + 1) % fan ≡ 0 = ap (λ (x : ℕ). x % fan) full ∙ mod-mul-add (j + 1) fan 0 (omega arith) in
          cond-false (eqb (k + 1) count) true (eqb ((k + 1) % fan) 0) (ne_eqb (k + 1) count other) ∙ eq-eqb ((k + 1) % fan) 0 rest)
          (cases_eq (k + 1) count);
    }
  where
    full_of : (k : ℕ) → k + 1 ≡ min ((j + 1) * fan) count → (k + 1 ≡ count → ⊥) → k + 1 ≡ (j + 1) * fan + 0
    full_of k is other = omega arith

-- ---- two lists with the same first items

pub same_front : (m at : ℕ) (xs ys : List ℕ) → at + m ≤ length xs → at + m ≤ length ys → ((j : ℕ) → j < at + m → get_or xs j 0 ≡ get_or ys j 0) → take m (drop at xs) ≡ take m (drop at ys)
same_front zero at xs ys long long' same = refl
same_front (suc m) zero [] ys long long' same = absurd (omega arith)
same_front (suc m) zero (x ∷ xs) [] long long' same = absurd (omega arith)
same_front (suc m) zero (x ∷ xs) (y ∷ ys) long long' same =
    let first : x ≡ y = same 0 (omega arith) in
    ap (λ (n : ℕ). n ∷ take m xs) first
    ∙ ap (λ (l : List ℕ). y ∷ l) (same_front m 0 xs ys (omega arith) (omega arith) (λ j less. same (suc j) (omega arith)))
same_front (suc m) (suc at) [] ys long long' same = absurd (omega arith)
same_front (suc m) (suc at) (x ∷ xs) [] long long' same = absurd (omega arith)
same_front (suc m) (suc at) (x ∷ xs) (y ∷ ys) long long' same = same_front (suc m) at xs ys (omega arith) (omega arith) (λ j less. same (suc j) (omega arith))

pub group_front : (fan j m : ℕ) (below : List ℕ) → m ≤ fan → take m (group fan below j) ≡ take m (drop (j * fan) below)
group_front fan j m below few = take-take m fan (drop (j * fan) below) few
