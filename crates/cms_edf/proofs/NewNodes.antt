-- The pointer blocks of a directory that an update leaves, one by one.
use Rattle.std.proofs.Common.{◌≡◌, ⊎_elim, ℕ, zero, suc, ◌+◌, ◌-◌, ◌*◌, ◌/◌, ◌^◌, ◌<◌, ◌≤◌, List, [], ◌∷◌, length, take, drop, get_or, refl, sym, ◌∙◌, ap, subst, arith, pow-suc, mul-le-mul_right, length-drop, append-nil, get_or-drop, get_or-take}
use Rattle.std.proofs.lemmas.Bool.{cases_lt}
use Rattle.std.proofs.lemmas.List.{length-take-le}
use Rattle.byteorder.specs.Endian.{big_bytes}
use Rattle.cms_text.specs.Bytes.{overwritten}
use Rattle.cms_fields.specs.Numbers.{up}
use Rattle.cms_model.specs.LawsTrees.{cell_bytes}
use Rattle.cms_model.specs.Sizes.{levels, pointer_count}
use Rattle.cms_model.proofs.Quotients.{up_below, up_some, up_spec}
use Rattle.cms_model.proofs.Shapes.{Needs, levels_needs, needs_shape, shape_least}
use Rattle.cms_tree.specs.Builds.{Child, all_over, cell_of, marked, no_mark, node_at, node_bytes, nodes_over}
use Rattle.cms_tree.specs.Levels.{children_from, over_count}
use Rattle.cms_tree.proofs.ClimbSteps.{over_all}
use Rattle.cms_tree.proofs.LevelsBuilt.{higher, marked-is, rises_first, rises_found, up_one}

-- ---- of the bottom level

pub bottom_node : (fan : ℕ) (leaves fresh : List ℕ) (nth : ℕ) → 2 ≤ fan → fan ≤ 1024 → length leaves < 2 ^ 32 → pointer_count fan (length leaves) ≤ length fresh
    → nth < pointer_count fan (length leaves) → nth < up (length leaves) fan
    → children_from [] (length leaves) 1 (nth * fan) (take fan (drop (nth * fan) leaves)) ≡ get_or (nodes_over fan leaves [] fresh) nth []
bottom_node fan leaves fresh nth wide narrow few enough within low =
    (rises_found fan leaves fresh nth leaves fresh 1 nth wide narrow few (rises_first fan leaves fresh nth (omega arith) enough within) low).children []

-- ---- of the levels above

-- a tree over the pointer blocks of the bottom level has one level less
levels_up : (fan n l : ℕ) → 2 ≤ fan → n < 2 ^ 32 → levels fan n ≡ suc l → l ≡ levels fan (up n fan)
levels_up fan n l wide few is =
    let b = up n fan in
    let needs : Needs fan n (suc l) = subst (Needs fan n) is (levels_needs fan n wide few) in
    let spec = up_spec n fan (omega arith) in
    let above = spec.0 in
    let below = spec.1 in
    let most = up_below n fan (omega arith) in
    let fits = needs.fits in
    let power = pow-suc fan l in
    let up_needs : Needs fan b l = record {
      fits = ⊎_elim
          (λ (past : fan ^ l < b). let more : suc (fan ^ l) * fan ≤ b * fan = mul-le-mul_right fan past in absurd (omega (arith, more, below, fits, power)))
          (λ (le : b ≤ fan ^ l). le)
          (cases_lt (fan ^ l) b);
      fewer = λ j less. ⊎_elim
          (λ (lt : fan ^ j < b). lt)
          (λ (ge : b ≤ fan ^ j).
          let more : b * fan ≤ fan ^ j * fan = mul-le-mul_right fan ge in
          let next = needs.fewer (suc j) (omega arith) in
          let power' = pow-suc fan j in
          absurd (omega (arith, more, next, power', above)))
          (cases_lt (fan ^ j) b);
    } in
    (shape_least fan b l wide (omega arith)).0 (needs_shape fan b l up_needs)

-- without marks it is the same where a level begins
no_marks : (n size i n' size' i' : ℕ) (bs : List ℕ) → children_from [] n size i bs ≡ children_from [] n' size' i' bs
unfolding children_from
no_marks n size i n' size' i' [] = refl
no_marks n size i n' size' i' (b ∷ bs) = ap (λ (l : List Child). record { block = b; mark = record { last = 0; place = 0 } } ∷ l) (no_marks n size (i + 1) n' size' (i' + 1) bs)

-- it is one of a tree over those of the bottom level
pub record Upper (fan : ℕ) (leaves fresh : List ℕ) (nth : ℕ) : Type 0 where
  pub some : 1 ≤ up (length leaves) fan
  pub count : pointer_count fan (length leaves) ≡ up (length leaves) fan + pointer_count fan (up (length leaves) fan)
  pub same : get_or (nodes_over fan leaves [] fresh) nth []
      ≡ get_or (nodes_over fan (take (up (length leaves) fan) fresh) [] (drop (up (length leaves) fan) fresh)) (nth - up (length leaves) fan) []

pub upper_node : (fan : ℕ) (leaves fresh : List ℕ) (nth : ℕ) → 2 ≤ fan → length leaves < 2 ^ 32 → pointer_count fan (length leaves) ≤ length fresh
    → nth < pointer_count fan (length leaves) → up (length leaves) fan ≤ nth → Upper fan leaves fresh nth
upper_node fan leaves fresh nth wide few enough within past = by_levels (levels fan (length leaves)) refl
  where
    by_levels : (k : ℕ) → levels fan (length leaves) ≡ k → Upper fan leaves fresh nth
    by_levels zero is =
        let none : over_count fan 0 (length leaves) ≡ pointer_count fan (length leaves) = ap (λ (k : ℕ). over_count fan k (length leaves)) (sym is) ∙ over_all fan (length leaves) (omega arith) in
        absurd (omega arith)
    by_levels (suc l) is =
        let n = length leaves in
        let b = up n fan in
        let all : over_count fan (suc l) n ≡ pointer_count fan n = ap (λ (k : ℕ). over_count fan k n) (sym is) ∙ over_all fan n (omega arith) in
        let less = levels_up fan n l wide few is in
        let above : over_count fan l b ≡ pointer_count fan b = ap (λ (k : ℕ). over_count fan k b) less ∙ over_all fan b (omega arith) in
        let own = (subst (Needs fan n) is (levels_needs fan n wide few)).fewer l (omega arith) in
        let long : length (take b fresh) ≡ b = length-take-le b fresh (omega arith) in
        let below : marked leaves [] ≡ children_from [] n 1 0 leaves = marked-is [] leaves in
        let level : children_from [] n (1 * fan) 0 (take b fresh) ≡ marked (take b fresh) [] = no_marks n (1 * fan) 0 (length (take b fresh)) 1 0 (take b fresh) ∙ sym (marked-is [] (take b fresh)) in
        let up_is : l ≡ levels fan (length (take b fresh)) = less ∙ ap (levels fan) (sym long) in
        record {
          some = up_some n fan (omega arith) (omega arith);
          count = sym all ∙ ap (λ (c : ℕ). b + c) above;
          same = (λ i. get_or (all_over fan (is i) (below i) fresh) nth [])
              ∙ (higher fan l leaves fresh 1 nth n (omega arith) (omega arith) (sym (up_one n)) (omega arith) (omega arith) past []
              ∙ (λ i. get_or (all_over fan (up_is i) (level i) (drop b fresh)) (nth - b) []));
        }

-- ---- as they are filled

-- a number is a pointer without a mark
pub cell_put : (leaves into new : List ℕ) (fan first at n : ℕ) → at < fan → n ≡ get_or leaves (first + at) 0 → new ≡ overwritten (4 * at) (big_bytes 4 n) into
    → new ≡ overwritten (at * 4) (cell_bytes (cell_of 4 (record { block = get_or (take fan (drop first leaves)) at 0; mark = no_mark }))) into
cell_put leaves into new fan first at n less is put =
    let here : n ≡ get_or (take fan (drop first leaves)) at 0 = is ∙ sym (get_or-take fan (drop first leaves) at 0 less ∙ get_or-drop first leaves at 0) in
    let place : 4 * at ≡ at * 4 = omega arith in
    put ∙ ((λ i. overwritten (place i) (big_bytes 4 (here i)) into) ∙ ap (λ (l : List ℕ). overwritten (at * 4) l into) (sym (append-nil (big_bytes 4 (get_or (take fan (drop first leaves)) at 0)))))

-- a pointer block of the bottom level was filled
pub bottom_done : (bsize bytes long place : ℕ) (leaves pointers new : List ℕ) → bytes ≡ bsize → long ≡ bsize → 512 ≤ bytes → bytes ≤ 4096 → length leaves < 2 ^ 32
    → length pointers ≡ pointer_count (bsize / 4) (length leaves) → place < length pointers → place < up (length leaves) (bytes / 4)
    → new ≡ node_bytes long 4 (children_from [] (length leaves) 1 (place * (bytes / 4)) (take (bytes / 4) (drop (place * (bytes / 4)) leaves))) → new ≡ node_at bsize 4 leaves [] pointers place
bottom_done bsize bytes long place leaves pointers new size whole low high few count within bottom is =
    let fan = bsize / 4 in
    let below : place < up (length leaves) fan = subst (λ (n : ℕ). place < up (length leaves) (n / 4)) size bottom in
    is ∙ ((λ i. node_bytes (whole i) 4 (children_from [] (length leaves) 1 (place * (size i / 4)) (take (size i / 4) (drop (place * (size i / 4)) leaves))))
    ∙ ap (node_bytes bsize 4) (bottom_node fan leaves pointers place (omega (arith, size, low)) (omega (arith, size, high)) few (omega (arith, count)) (omega (arith, count, within)) below))

-- one of a level above is built over those of the bottom level
pub record IsAbove (bsize place b : ℕ) (leaves pointers level above : List ℕ) : Type 0 where
  pub some : 1 ≤ length level
  pub few : length level < 2 ^ 32
  pub fresh : pointer_count (bsize / 4) (length level) ≤ length above
  pub nth : place - b < pointer_count (bsize / 4) (length level)
  pub same : node_at bsize 4 level [] above (place - b) ≡ node_at bsize 4 leaves [] pointers place

pub above_so : (bsize place b : ℕ) (leaves pointers ps level above : List ℕ) → 512 ≤ bsize → length leaves < 2 ^ 32 → length pointers ≡ pointer_count (bsize / 4) (length leaves) → place < length pointers
    → b ≡ up (length leaves) (bsize / 4) → b ≤ place → ps ≡ pointers → level ≡ take b ps → above ≡ drop b ps → IsAbove bsize place b leaves pointers level above
above_so bsize place b leaves pointers ps level above low few count within is past same front back =
    let fan = bsize / 4 in
    let own = up (length leaves) fan in
    let u = upper_node fan leaves pointers place (omega (arith, low)) few (omega (arith, count)) (omega (arith, count, within)) (omega (arith, is, past)) in
    let some = u.some in
    let all = u.count in
    let most = up_below (length leaves) fan (omega (arith, low)) in
    let level_is : level ≡ take own pointers = front ∙ (λ i. take (is i) (same i)) in
    let above_is : above ≡ drop own pointers = back ∙ (λ i. drop (is i) (same i)) in
    let long : length level ≡ own = ap (λ (l : List ℕ). length l) level_is ∙ length-take-le own pointers (omega (arith, count, all)) in
    let rest : length above ≡ length pointers - own = ap (λ (l : List ℕ). length l) above_is ∙ length-drop own pointers in
    let sum : pointer_count fan (length level) ≡ pointer_count fan own = ap (pointer_count fan) long in
    record {
      some = omega (arith, long, some);
      few = omega (arith, long, most, few);
      fresh = omega (arith, sum, rest, count, all);
      nth = omega (arith, sum, count, all, within, is, past);
      same = (λ i. node_at bsize 4 (level_is i) [] (above_is i) (place - is i)) ∙ ap (node_bytes bsize 4) (sym u.same);
    }
