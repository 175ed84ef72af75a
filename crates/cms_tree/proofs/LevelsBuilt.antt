-- The levels of a tree, one after another from the bottom.
use Rattle.std.proofs.Common.{◌≡◌, ⊎_elim, ℕ, zero, suc, ◌+◌, ◌-◌, ◌*◌, ◌^◌, ◌<◌, ◌≤◌, min, List, [], ◌∷◌, length, take, drop, get_or, refl, sym, ◌∙◌, ap, subst, arith, mul-le-mul_right, mul-le-mul_left, pow-suc}
use Rattle.std.proofs.Math.Nat.{pow-zero, one-le-pow}
use Rattle.std.proofs.lemmas.List.{get_or-drop, drop-drop, length-take, length-drop, get_or_append_left, get_or-append_right, take_min}
use Rattle.std.proofs.lemmas.Bool.{cases_lt}
use Rattle.cms_fields.specs.Numbers.{up}
use Rattle.cms_model.specs.Lists.{cut}
use Rattle.cms_model.specs.Sizes.{levels, pointers_to, pointer_count}
use Rattle.cms_model.proofs.Cuts.{get_or_cut, length_cut}
use Rattle.cms_model.proofs.Quotients.{up_spec, up_unique, up_up, up_zero, up_some, up_below}
use Rattle.cms_model.proofs.Pointers.{up_less}
use Rattle.cms_tree.specs.declared.types.Mark.{Mark}
use Rattle.cms_tree.specs.Builds.{Child, no_mark, no_child, marked, level_over, parent, parents, all_over, nodes_over}
use Rattle.cms_tree.specs.Levels.{mark_at, wide_mark, children_from, over_count}
use Rattle.cms_tree.proofs.FilledBlocks.{length-children, below_some}
use Rattle.cms_tree.proofs.Sums.{levels_room}

-- ---- numbers

same_count : (fan n k j : ℕ) → 1 ≤ fan → over_count fan k (up n (fan ^ j)) + pointers_to fan n j ≡ pointers_to fan n (j + k)
unfolding pointers_to
same_count fan n zero j some = let e : j + 0 ≡ j = omega arith in rw e (omega arith)
same_count fan n (suc k) j some =
    let room : 0 < fan ^ j = one-le-pow j fan some in
    let next : up (up n (fan ^ j)) fan ≡ up n (fan ^ suc j) = up_up n (fan ^ j) fan room some ∙ ap (up n) (sym (pow-suc fan j)) in
    let e : j + suc k ≡ suc j + k = omega arith in
    let deeper = same_count fan n k (suc j) some in
    rw (next, e) (omega arith)

pub up_one : (n : ℕ) → up n 1 ≡ n
up_one n = sym (up_unique n 1 n (omega arith) (omega arith) (omega arith))

pub all_count : (fan n k : ℕ) → 1 ≤ fan → over_count fan k n ≡ pointers_to fan n k
unfolding pointers_to
all_count fan n k some =
    let unit : up n (fan ^ 0) ≡ n = ap (up n) (pow-zero fan) ∙ up_one n in
    let e : 0 + k ≡ k = omega arith in
    let whole = same_count fan n k 0 some in
    sym (ap (over_count fan k) unit) ∙ (let w : over_count fan k (up n (fan ^ 0)) + 0 ≡ pointers_to fan n (0 + k) = whole in omega (arith, w, ap (pointers_to fan n) e))

-- ---- children

pub take-children : (marks : List Mark) (n size i k : ℕ) (bs : List ℕ) → take k (children_from marks n size i bs) ≡ children_from marks n size i (take k bs)
unfolding children_from
take-children marks n size i zero bs = refl
take-children marks n size i (suc k) [] = refl
take-children marks n size i (suc k) (b ∷ bs) = ap (λ (l : List Child). (record { block = b; mark = wide_mark marks n size i }) ∷ l) (take-children marks n size (i + 1) k bs)

pub drop-children : (marks : List Mark) (n size i k : ℕ) (bs : List ℕ) → drop k (children_from marks n size i bs) ≡ children_from marks n size (i + k) (drop k bs)
unfolding children_from
drop-children marks n size i zero bs = let e : i + 0 ≡ i = omega arith in rw e refl
drop-children marks n size i (suc k) [] = refl
drop-children marks n size i (suc k) (b ∷ bs) = let e : i + 1 + k ≡ i + suc k = omega arith in drop-children marks n size (i + 1) k bs ∙ ap (λ (j : ℕ). children_from marks n size j (drop k bs)) e

pub get-children : (marks : List Mark) (n size i k : ℕ) (bs : List ℕ) → k < length bs
    → get_or (children_from marks n size i bs) k no_child ≡ record { block = get_or bs k 0; mark = wide_mark marks n size (i + k) }
unfolding children_from
get-children marks n size i k [] less = absurd (omega arith)
get-children marks n size i zero (b ∷ bs) less = let e : i + 0 ≡ i = omega arith in rw e refl
get-children marks n size i (suc k) (b ∷ bs) less =
    let e : i + 1 + k ≡ i + suc k = omega arith in
    get-children marks n size (i + 1) k bs (omega arith) ∙ ap (λ (j : ℕ). record { block = get_or bs k 0; mark = wide_mark marks n size j }) e

-- the data blocks
marked-children : (marks : List Mark) (n i : ℕ) (bs : List ℕ) → i + length bs ≡ n → marked bs (drop i marks) ≡ children_from marks n 1 i bs
unfolding marked children_from
marked-children marks n i [] is = refl
marked-children marks n i (b ∷ bs) is =
    let here : i + 0 ≡ i = omega arith in
    let mark : get_or (drop i marks) 0 no_mark ≡ mark_at marks i = get_or-drop i marks 0 no_mark ∙ ap (λ (j : ℕ). get_or marks j no_mark) here in
    let last : min ((i + 1) * 1) n - 1 ≡ i = omega arith in
    let first : i * 1 ≡ i = omega arith in
    let rest : marked bs (drop 1 (drop i marks)) ≡ children_from marks n 1 (i + 1) bs = ap (marked bs) (drop-drop 1 i marks) ∙ marked-children marks n (i + 1) bs (omega arith) in
    rw (mark, rest, last, first) refl

pub marked-is : (marks : List Mark) (leaves : List ℕ) → marked leaves marks ≡ children_from marks (length leaves) 1 0 leaves
marked-is marks leaves = marked-children marks (length leaves) 0 leaves (omega arith)

-- ---- groups

-- the data blocks below a group end where those below its parent do
group_end : (j fan size n len own : ℕ) → 1 ≤ size → 1 ≤ own → own ≡ min fan len → j * fan + len ≡ up n size → min ((j * fan + (own - 1) + 1) * size) n ≡ min ((j + 1) * (size * fan)) n
group_end j fan size n len own room some is sum = ⊎_elim
    (λ (few : len < fan).
    let s = (up_spec n size room).0 in
    let all : j * fan + (own - 1) + 1 ≡ up n size = omega arith in
    let whole : (j * fan + (own - 1) + 1) * size ≡ up n size * size = ap (λ (x : ℕ). x * size) all in
    let wider : (j * fan + (own - 1) + 1) * size ≤ (j * fan + fan) * size = mul-le-mul_right size (omega arith) in
    let same : (j * fan + fan) * size ≡ (j + 1) * (size * fan) = omega arith in
    omega arith)
    (λ (full : fan ≤ len).
    let all : j * fan + (own - 1) + 1 ≡ j * fan + fan = omega arith in
    let same : (j * fan + fan) * size ≡ (j + 1) * (size * fan) = omega arith in
    ap (λ (x : ℕ). min x n) (ap (λ (x : ℕ). x * size) all ∙ same))
    (cases_lt len fan)

-- a parent is a block of the next level
parent_rises : (marks : List Mark) (n size fan j number : ℕ) (bs : List ℕ) → 1 ≤ fan → 1 ≤ size → 1 ≤ length bs → j * fan + length bs ≡ up n size
    → parent number (take fan (children_from marks n size (j * fan) bs)) ≡ record { block = number; mark = wide_mark marks n (size * fan) j }
parent_rises marks n size fan j number bs wide room some sum =
    let own = length (take fan bs) in
    let own_is : own ≡ min fan (length bs) = length-take fan bs in
    let group = children_from marks n size (j * fan) (take fan bs) in
    let split : take fan (children_from marks n size (j * fan) bs) ≡ group = take-children marks n size (j * fan) fan bs in
    let long : length group ≡ own = length-children marks n size (j * fan) (take fan bs) in
    let last = get-children marks n size (j * fan) (own - 1) (take fan bs) (omega arith) in
    let first = get-children marks n size (j * fan) 0 (take fan bs) (omega arith) in
    let end : min ((j * fan + (own - 1) + 1) * size) n ≡ min ((j + 1) * (size * fan)) n = group_end j fan size n (length bs) own room (omega arith) own_is sum in
    let start : (j * fan + 0) * size ≡ j * (size * fan) = omega arith in
    rw (split, long, last, first, end, start) refl

pub parents_rise : (marks : List Mark) (n size fan m j : ℕ) (bs numbers : List ℕ) → 1 ≤ fan → 1 ≤ size → m ≡ up (length bs) fan → m ≤ length numbers → (1 ≤ length bs → j * fan + length bs ≡ up n size)
    → parents numbers (cut m fan (children_from marks n size (j * fan) bs)) ≡ children_from marks n (size * fan) j (take m numbers)
unfolding cut parents children_from
parents_rise marks n size fan zero j bs numbers wide room is enough sum = refl
parents_rise marks n size fan (suc m) j bs [] wide room is enough sum = absurd (omega arith)
parents_rise marks n size fan (suc m) j bs (x ∷ xs) wide room is enough sum =
    let some : 1 ≤ length bs = ⊎_elim
    (λ (none : length bs < 1). let zero' : length bs ≡ 0 = omega arith in let z : up (length bs) fan ≡ 0 = ap (λ (c : ℕ). up c fan) zero' ∙ up_zero fan wide in absurd (omega arith))
    (λ (le : 1 ≤ length bs). le)
    (cases_lt (length bs) 1) in
    let less = up_less (length bs) fan wide some in
    let long = length-drop fan bs in
    let m_is : m ≡ up (length (drop fan bs)) fan = (let e : m ≡ up (length bs - fan) fan = omega arith in e ∙ ap (λ (c : ℕ). up c fan) (sym long)) in
    let next : j * fan + fan ≡ (j + 1) * fan = omega arith in
    let whole = sum some in
    let tail : parents xs (cut m fan (drop fan (children_from marks n size (j * fan) bs))) ≡ children_from marks n (size * fan) (j + 1) (take m xs) =
    ap (λ (l : List Child). parents xs (cut m fan l)) (drop-children marks n size (j * fan) fan bs ∙ ap (λ (i : ℕ). children_from marks n size i (drop fan bs)) next)
    ∙ parents_rise marks n size fan m (j + 1) (drop fan bs) xs wide room m_is (omega arith) (λ more. omega arith) in
    let head = parent_rises marks n size fan j x bs wide room some whole in
    ap (λ (c : Child). c ∷ parents xs (cut m fan (drop fan (children_from marks n size (j * fan) bs)))) head
    ∙ ap (λ (l : List Child). (record { block = x; mark = wide_mark marks n (size * fan) j }) ∷ l) tail

-- ---- the search for a pointer block

-- the block is among those of so many levels over these, at this place
pub record Rises (fan : ℕ) (leaves fresh : List ℕ) (nth : ℕ) (blocks numbers : List ℕ) (size place : ℕ) : Type 0 where
  pub k : ℕ
  pub same : (marks : List Mark) → get_or (all_over fan k (children_from marks (length leaves) size 0 blocks) numbers) place [] ≡ get_or (nodes_over fan leaves marks fresh) nth []
  pub within : place < over_count fan k (length blocks)
  pub enough : over_count fan k (length blocks) ≤ length numbers
  pub wide : length blocks ≡ up (length leaves) size
  pub power : size * fan ^ k ≡ fan ^ levels fan (length leaves)
  pub room : 1 ≤ size
  pub lower : place ≤ nth

pub rises_first : (fan : ℕ) (leaves fresh : List ℕ) (nth : ℕ) → 1 ≤ fan → pointer_count fan (length leaves) ≤ length fresh
    → nth < pointer_count fan (length leaves) → Rises fan leaves fresh nth leaves fresh 1 nth
unfolding pointer_count
rises_first fan leaves fresh nth some enough within =
    let count = all_count fan (length leaves) (levels fan (length leaves)) some in
    record {
      k = levels fan (length leaves);
      same = λ marks. ap (λ (l : List Child). get_or (all_over fan (levels fan (length leaves)) l fresh) nth []) (sym (marked-is marks leaves));
      within = omega arith;
      enough = omega arith;
      wide = sym (up_one (length leaves));
      power = omega arith;
      room = omega arith;
      lower = omega arith;
    }

-- the level over these
pub level_long : (marks : List Mark) (n size fan : ℕ) (blocks : List ℕ) → length (level_over fan (children_from marks n size 0 blocks)) ≡ up (length blocks) fan
level_long marks n size fan blocks =
    length_cut (up (length (children_from marks n size 0 blocks)) fan) fan (children_from marks n size 0 blocks) ∙ ap (λ (c : ℕ). up c fan) (length-children marks n size 0 blocks)

-- it is no block of the lowest level: it is one of the levels above
pub higher : (fan l : ℕ) (blocks numbers : List ℕ) (size place n : ℕ) → 1 ≤ fan → 1 ≤ size → length blocks ≡ up n size
    → place < over_count fan (suc l) (length blocks) → over_count fan (suc l) (length blocks) ≤ length numbers → up (length blocks) fan ≤ place
    → (marks : List Mark) → get_or (all_over fan (suc l) (children_from marks n size 0 blocks) numbers) place []
    ≡ get_or (all_over fan l (children_from marks n (size * fan) 0 (take (up (length blocks) fan) numbers)) (drop (up (length blocks) fan) numbers)) (place - up (length blocks) fan) []
unfolding all_over
higher fan l blocks numbers size place n some room wide within enough past marks =
    let m = up (length blocks) fan in
    let below = children_from marks n size 0 blocks in
    let level = level_over fan below in
    let long = level_long marks n size fan blocks in
    let groups : level ≡ cut m fan below = ap (λ (c : ℕ). cut (up c fan) fan below) (length-children marks n size 0 blocks) in
    let zero' : 0 * fan ≡ 0 = omega arith in
    let rise : parents numbers (cut m fan below) ≡ children_from marks n (size * fan) 0 (take m numbers) =
    ap (λ (i : ℕ). parents numbers (cut m fan (children_from marks n size i blocks))) (sym zero')
    ∙ parents_rise marks n size fan m 0 blocks numbers some room refl (omega arith) (λ more. omega arith) in
    let rise' : parents numbers level ≡ children_from marks n (size * fan) 0 (take m numbers) = ap (parents numbers) groups ∙ rise in
    let past' : length level ≤ place = omega arith in
    get_or-append_right level (all_over fan l (parents numbers level) (drop (length level) numbers)) (length level) place [] refl past'
    ∙ (rw (long, rise') refl)

-- of the levels above there is one
record Higher (fan k : ℕ) (blocks numbers : List ℕ) (size place : ℕ) (n : ℕ) : Type 0 where
  l : ℕ
  k_is : k ≡ suc l
  within : place - up (length blocks) fan < over_count fan l (up (length blocks) fan)
  enough : over_count fan l (up (length blocks) fan) + up (length blocks) fan ≤ length numbers
  same : (marks : List Mark) → get_or (all_over fan k (children_from marks n size 0 blocks) numbers) place []
      ≡ get_or (all_over fan l (children_from marks n (size * fan) 0 (take (up (length blocks) fan) numbers)) (drop (up (length blocks) fan) numbers)) (place - up (length blocks) fan) []

has_higher : (fan k : ℕ) (blocks numbers : List ℕ) (size place n : ℕ) → 1 ≤ fan → 1 ≤ size → length blocks ≡ up n size
    → place < over_count fan k (length blocks) → over_count fan k (length blocks) ≤ length numbers → up (length blocks) fan ≤ place
    → Higher fan k blocks numbers size place n
has_higher fan zero blocks numbers size place n some room wide within enough past = absurd (omega arith)
has_higher fan (suc l) blocks numbers size place n some room wide within enough past = record {
  l = l;
  k_is = refl;
  within = omega arith;
  enough = omega arith;
  same = higher fan l blocks numbers size place n some room wide within enough past;
}

pub rises_next : (fan : ℕ) (leaves fresh : List ℕ) (nth : ℕ) (blocks numbers : List ℕ) (size place count : ℕ) → 1 ≤ fan
    → Rises fan leaves fresh nth blocks numbers size place → count ≡ up (length blocks) fan → count ≤ place
    → Rises fan leaves fresh nth (take count numbers) (drop count numbers) (size * fan) (place - count)
rises_next fan leaves fresh nth blocks numbers size place count some r is past =
    let n = length leaves in
    let h = has_higher fan r.k blocks numbers size place n some r.room r.wide r.within r.enough (omega arith) in
    let enough = h.enough in
    let within = h.within in
    let long : length (take count numbers) ≡ count = length-take count numbers ∙ (omega arith) in
    let rest = length-drop count numbers in
    let wide : count ≡ up n (size * fan) = is ∙ ap (λ (c : ℕ). up c fan) r.wide ∙ up_up n size fan r.room some in
    let same_count' : over_count fan h.l (length (take count numbers)) ≡ over_count fan h.l (up (length blocks) fan) = ap (over_count fan h.l) (long ∙ is) in
    let power : size * fan * fan ^ h.l ≡ size * fan ^ r.k =
    (let p : fan ^ r.k ≡ fan ^ h.l * fan = ap (λ (e : ℕ). fan ^ e) h.k_is ∙ pow-suc fan h.l in let q : size * fan ^ r.k ≡ size * (fan ^ h.l * fan) = ap (λ (x : ℕ). size * x) p in omega arith) in
    record {
      k = h.l;
      same = λ marks. subst
          (λ (c : ℕ). get_or (all_over fan h.l (children_from marks n (size * fan) 0 (take c numbers)) (drop c numbers)) (place - c) []
          ≡ get_or (nodes_over fan leaves marks fresh) nth []) (sym is) (sym (h.same marks) ∙ r.same marks);
      within = omega arith;
      enough = omega arith;
      wide = long ∙ wide;
      power = power ∙ r.power;
      room = (let x = mul-le-mul_right fan r.room in omega arith);
      lower = (let y = r.lower in omega arith);
    }

-- it is a block of the lowest level
pub found : (marks : List Mark) (fan k : ℕ) (blocks numbers : List ℕ) (size place n : ℕ) → place < over_count fan k (length blocks) → place < up (length blocks) fan
    → get_or (all_over fan k (children_from marks n size 0 blocks) numbers) place [] ≡ children_from marks n size (place * fan) (take fan (drop (place * fan) blocks))
unfolding all_over
found marks fan zero blocks numbers size place n within low = absurd (omega arith)
found marks fan (suc l) blocks numbers size place n within low =
    let below = children_from marks n size 0 blocks in
    let level = level_over fan below in
    let long = level_long marks n size fan blocks in
    let less : place < up (length below) fan = subst (λ (c : ℕ). place < up c fan) (sym (length-children marks n size 0 blocks)) low in
    let from : 0 + place * fan ≡ place * fan = omega arith in
    get_or_append_left level (all_over fan l (parents numbers level) (drop (length level) numbers)) [] place (omega arith)
    ∙ get_or_cut (up (length below) fan) fan place below less
    ∙ ap (take fan) (drop-children marks n size 0 (place * fan) blocks ∙ ap (λ (i : ℕ). children_from marks n size i (drop (place * fan) blocks)) from)
    ∙ take-children marks n size (place * fan) fan (drop (place * fan) blocks)

-- where the place is below the level's count, the children are these
pub record Found (fan : ℕ) (leaves fresh : List ℕ) (nth : ℕ) (blocks : List ℕ) (size place : ℕ) : Type 0 where
  pub children : (marks : List Mark) → children_from marks (length leaves) size (place * fan) (take fan (drop (place * fan) blocks)) ≡ get_or (nodes_over fan leaves marks fresh) nth []
  pub short : size ≤ 2 ^ 42
  pub some : place * fan < length blocks
  pub few : length blocks < 2 ^ 32

pub rises_found : (fan : ℕ) (leaves fresh : List ℕ) (nth : ℕ) (blocks numbers : List ℕ) (size place : ℕ) → 2 ≤ fan → fan ≤ 1024
    → length leaves < 2 ^ 32 → Rises fan leaves fresh nth blocks numbers size place → place < up (length blocks) fan → Found fan leaves fresh nth blocks size place
rises_found fan leaves fresh nth blocks numbers size place wide narrow small r low =
    let n = length leaves in
    let power : 1 ≤ fan ^ r.k = one-le-pow r.k fan (omega arith) in
    let most = levels_room fan n wide narrow small in
    let more : size * 1 ≤ size * fan ^ r.k = mul-le-mul_left size power in
    let all = r.power in
    let below = up_below n size r.room in
    let wide' = r.wide in
    record {
      children = λ marks. sym (found marks fan r.k blocks numbers size place n r.within low) ∙ r.same marks;
      short = omega arith;
      some = below_some place (length blocks) fan (omega arith) low;
      few = omega arith;
    }

-- bounds while it is searched for
pub record Bounds (fan : ℕ) (blocks numbers : List ℕ) (size count : ℕ) : Type 0 where
  pub some : 1 ≤ count
  pub enough : count ≤ length numbers
  pub short : size * fan ≤ 2 ^ 42

pub rises_bounds : (fan : ℕ) (leaves fresh : List ℕ) (nth : ℕ) (blocks numbers : List ℕ) (size place count : ℕ) → 2 ≤ fan → fan ≤ 1024
    → 1 ≤ length leaves → length leaves < 2 ^ 32 → Rises fan leaves fresh nth blocks numbers size place → count ≡ up (length blocks) fan → count ≤ place → Bounds fan blocks numbers size count
rises_bounds fan leaves fresh nth blocks numbers size place count wide narrow some small r is past =
    let n = length leaves in
    let next = rises_next fan leaves fresh nth blocks numbers size place count (omega arith) r is past in
    let power : 1 ≤ fan ^ next.k = one-le-pow next.k fan (omega arith) in
    let more : size * fan * 1 ≤ size * fan * fan ^ next.k = mul-le-mul_left (size * fan) power in
    let most = levels_room fan n wide narrow small in
    let all = next.power in
    let h = has_higher fan r.k blocks numbers size place n (omega arith) r.room r.wide r.within r.enough (omega arith) in
    let enough = h.enough in
    let some' : 1 ≤ length blocks = subst (λ (c : ℕ). 1 ≤ c) (sym r.wide) (up_some n size r.room some) in
    record {
      some = subst (λ (c : ℕ). 1 ≤ c) (sym is) (up_some (length blocks) fan (omega arith) some');
      enough = omega arith;
      short = omega arith;
    }

-- a part of a list up to a limit
pub part_is : (fan first end : ℕ) (blocks : List ℕ) → first ≤ length blocks → end ≡ min (first + fan) (length blocks) → take (end - first) (drop first blocks) ≡ take fan (drop first blocks)
part_is fan first end blocks within is =
    let rest = length-drop first blocks in
    let e : end - first ≡ min fan (length (drop first blocks)) = omega arith in
    ap (λ (n : ℕ). take n (drop first blocks)) e ∙ take_min fan (drop first blocks)
