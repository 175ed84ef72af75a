-- The blocks that a draft of a file that grows writes are those that it takes.
use Rattle.std.proofs.Common.{◌≡◌, ⊎_elim, ℕ, zero, suc, ◌+◌, ◌-◌, ◌*◌, ◌/◌, ◌%◌, ◌^◌, ◌<◌, ◌≤◌, min, Bool, true, false, List, [], ◌∷◌, ◌++◌, length, take, drop, refl, sym, ◌∙◌, ap, subst, arith, div-add-mod', mod-lt, mul-le-mul_right}
use Rattle.std.proofs.lemmas.Bool.{cases_Bool, cases_lt}
use Rattle.std.proofs.lemmas.List.{length-drop, length-take-le}
use Rattle.std.proofs.Math.Nat.{div-div-eq-div-mul, div-mul-le_self, div-one, one-le-pow, pow-suc, pow-zero}
use Rattle.cms_fields.specs.Numbers.{up}
use Rattle.cms_model.specs.Lists.{In}
use Rattle.cms_model.specs.SharedTrees.{is_kept}
use Rattle.cms_model.specs.SharedTimes.{came, without}
use Rattle.cms_model.specs.Sizes.{levels}
use Rattle.cms_model.proofs.Quotients.{up_spec, up_up}
use Rattle.cms_model.proofs.Shapes.{levels_needs}
use Rattle.cms_model.proofs.SharedTrees.{behind_is_written}
use Rattle.cms_model.proofs.SharedTiers.{never_kept, up_one}
use Rattle.cms_tree.specs.Climbs.{numbers_behind}
use Rattle.cms_tree.specs.Levels.{over_count}
use Rattle.cms_tree.specs.Paths.{levels_of}
use Rattle.cms_tree.proofs.ClimbSteps.{over_all}
use Rattle.cms_tree.proofs.Resumes.{kept_low, length-levels_of}
use Rattle.cms_held.specs.Growths.{OwnIsFresh, places_behind}
use Rattle.cms_held.specs.SharedBlocks.{levels_in}
use Rattle.cms_held.proofs.Grown.{behind_all, behind_low}
use Rattle.cms_held.proofs.GrownTrees.{below_up}

-- of a list whose first items pass a test and whose others don't the others are left
left_behind : (test : ℕ → Bool) (k n : ℕ) (xs : List ℕ) → ((j : ℕ) → j < n → test (k + j) ≡ true) → ((j : ℕ) → n ≤ j → j < length xs → test (k + j) ≡ false) → without test k xs ≡ drop n xs
unfolding without
left_behind test k zero [] on off = refl
left_behind test k (suc n) [] on off = refl
left_behind test k zero (x ∷ xs) on off =
    let z : k + 0 ≡ k = omega arith in
    let here : test k ≡ false = ap test (sym z) ∙ off 0 (omega arith) (omega arith) in
    rw here (ap (λ (l : List ℕ). x ∷ l) (left_behind test (suc k) 0 xs (λ j less. absurd (omega arith)) (λ j low less. let e : suc k + j ≡ k + suc j = omega arith in ap test e ∙ off (suc j) (omega arith) (omega arith))))
left_behind test k (suc n) (x ∷ xs) on off =
    let z : k + 0 ≡ k = omega arith in
    let here : test k ≡ true = ap test (sym z) ∙ on 0 (omega arith) in
    rw here (left_behind test (suc k) n xs (λ j less. let e : suc k + j ≡ k + suc j = omega arith in ap test e ∙ on (suc j) (omega arith))
    (λ j low less. let e : suc k + j ≡ k + suc j = omega arith in ap test e ∙ off (suc j) (omega arith) (omega arith)))

-- what is known of the whole
record Behind (fan before count kept : ℕ) (written : List ℕ) : Type 0 where
  wide : 2 ≤ fan
  kept_old : kept ≤ before
  less : kept < count
  more : before ≤ count
  behind : (n : ℕ) → In n written → kept ≤ n
  all : (n : ℕ) → kept ≤ n → n < count → In n written

size_some : (fan size i : ℕ) → 2 ≤ fan → size ≡ fan ^ i → 1 ≤ size
size_some fan size i wide power = subst (λ (x : ℕ). 1 ≤ x) (sym power) (one-le-pow i fan (omega arith))

-- of a level that the tree before has, those that end within the kept data blocks are kept
had_tier : (fan before count kept : ℕ) (written : List ℕ) (size i : ℕ) (tier : List ℕ) → Behind fan before count kept written → size ≡ fan ^ i → length tier ≡ up count size
    → without (is_kept true size before count written) 0 tier ≡ drop (kept / size) tier
had_tier fan before count kept written size i tier b power long = left_behind (is_kept true size before count written) 0 (kept / size) tier on off
  where
    some : 1 ≤ size
    some = subst (λ (x : ℕ). 1 ≤ x) (sym power) (one-le-pow i fan (let w = b.wide in omega arith))

    next : (a c : ℕ) → (a + 1) * c ≡ a * c + c
    next a c = grind arith

    both : (j : ℕ) → j < up count size → ((is_kept true size before count written j ≡ true) → min ((j + 1) * size) count ≤ kept)
        × (min ((j + 1) * size) count ≤ kept → is_kept true size before count written j ≡ true)
    both j less =
        let l = b.less in
        subst (λ (x : ℕ). j * x < count → ((is_kept true x before count written j ≡ true) → min ((j + 1) * x) count ≤ kept) × (min ((j + 1) * x) count ≤ kept → is_kept true x before count written j ≡ true)) (sym power)
        (λ low. behind_is_written fan i before count kept j written b.wide b.kept_old (omega arith) b.more low b.behind b.all) (below_up count size j some less)

    on : (j : ℕ) → j < kept / size → is_kept true size before count written (0 + j) ≡ true
    on j less =
        let whole : kept / size * size ≤ kept = div-mul-le_self kept size in
        let ends : (j + 1) * size ≤ kept / size * size = mul-le-mul_right size (let l = less in omega arith) in
        let e : 0 + j ≡ j = omega arith in
        let begins : j * size ≤ (j + 1) * size = mul-le-mul_right size (omega arith) in
        let l = b.less in
        let n = next j size in
        let inside : j < up count size = within j (omega arith) in
        ap (is_kept true size before count written) e ∙ (both j inside).1 (omega arith)
      where
        within : (j : ℕ) → j * size < count → j < up count size
        within j low = ⊎_elim
            (λ (less : j < up count size). less)
            (λ (ge : up count size ≤ j). absurd (let wide : up count size * size ≤ j * size = mul-le-mul_right size ge in let s = (up_spec count size some).0 in omega arith))
            (cases_lt j (up count size))

    off : (j : ℕ) → kept / size ≤ j → j < length tier → is_kept true size before count written (0 + j) ≡ false
    off j low less =
        let e : 0 + j ≡ j = omega arith in
        ap (is_kept true size before count written) e ∙ ⊎_elim
        (λ (is : is_kept true size before count written j ≡ true). absurd
        (let fits = (both j (omega arith)).0 is in
        let w = div-add-mod' kept size in
        let r : kept % size < size = mod-lt kept some in
        let high : (kept / size + 1) * size ≤ (j + 1) * size = mul-le-mul_right size (omega arith) in
        let n = next (kept / size) size in
        let l = b.less in omega arith))
        (λ (is : is_kept true size before count written j ≡ false). is)
        (cases_Bool (is_kept true size before count written j))

-- of one that it hasn't none is
new_tier : (before count : ℕ) (written : List ℕ) (size : ℕ) (tier : List ℕ) → without (is_kept false size before count written) 0 tier ≡ drop 0 tier
new_tier before count written size tier =
    left_behind (is_kept false size before count written) 0 0 tier (λ j less. absurd (omega arith)) (λ j low less. never_kept size before count written (0 + j))

-- the levels
came_is : (fan before count kept : ℕ) (written : List ℕ) (size i n : ℕ) (olds : List (List ℕ)) (numbers : List ℕ) → Behind fan before count kept written → size ≡ fan ^ i
    → kept / size ≤ fan ^ length olds
    → over_count fan n (up count size) ≤ length numbers
    → came fan size before count written olds (levels_of fan size count n numbers) ≡ numbers_behind fan n (up count size) (kept / size) numbers
unfolding came levels_of numbers_behind
came_is fan before count kept written size i zero [] numbers b power low room = refl
came_is fan before count kept written size i zero (old ∷ olds) numbers b power low room = refl
came_is fan before count kept written size i (suc n) [] numbers b power low room =
    let wide = size * fan in
    let some = size_some fan size i b.wide power in
    let m : up (up count size) fan ≡ up count wide = up_up count size fan some (let w = b.wide in omega arith) in
    let same : kept / size / fan ≡ kept / wide = div-div-eq-div-mul kept size fan in
    let none : kept / size / fan ≡ 0 = no_more fan (kept / size) b.wide low in
    let first : without (is_kept false wide before count written) 0 (take (up count wide) numbers) ≡ drop (kept / size / fan) (take (up (up count size) fan) numbers) =
    new_tier before count written wide (take (up count wide) numbers) ∙ ap (λ (x : ℕ). drop x (take (up count wide) numbers)) (sym none) ∙ ap (λ (x : ℕ). drop (kept / size / fan) (take x numbers)) (sym m) in
    let rest = came_is fan before count kept written wide (suc i) n [] (drop (up count wide) numbers) b (ap (λ (x : ℕ). x * fan) power ∙ sym (pow-suc fan i))
    (let one = pow-zero fan in omega arith) (let e = length-drop (up count wide) numbers in let f = ap (over_count fan n) m in omega arith) in
    ap (λ (l : List ℕ). l ++ came fan wide before count written [] (levels_of fan wide count n (drop (up count wide) numbers))) first
    ∙ ap (λ (l : List ℕ). drop (kept / size / fan) (take (up (up count size) fan) numbers) ++ l)
    (rest ∙ ap (λ (x : ℕ). numbers_behind fan n x (kept / wide) (drop x numbers)) (sym m) ∙ ap (λ (x : ℕ). numbers_behind fan n (up (up count size) fan) x (drop (up (up count size) fan) numbers)) (sym same))
  where
    no_more : (f k : ℕ) → 2 ≤ f → k ≤ f ^ 0 → k / f ≡ 0
    no_more f k w low =
        let one = pow-zero f in
        let whole = div-mul-le_self k f in
        ⊎_elim (λ (none : k / f < 1). omega arith) (λ (some : 1 ≤ k / f). absurd (let x : 1 * f ≤ k / f * f = mul-le-mul_right f some in omega arith)) (cases_lt (k / f) 1)
came_is fan before count kept written size i (suc n) (old ∷ olds) numbers b power low room =
    let wide = size * fan in
    let some = size_some fan size i b.wide power in
    let power' : wide ≡ fan ^ suc i = ap (λ (x : ℕ). x * fan) power ∙ sym (pow-suc fan i) in
    let m : up (up count size) fan ≡ up count wide = up_up count size fan some (let w = b.wide in omega arith) in
    let same : kept / size / fan ≡ kept / wide = div-div-eq-div-mul kept size fan in
    let f = ap (over_count fan n) m in
    let long : length (take (up count wide) numbers) ≡ up count wide = length-take-le (up count wide) numbers (omega arith) in
    let first : without (is_kept true wide before count written) 0 (take (up count wide) numbers) ≡ drop (kept / size / fan) (take (up (up count size) fan) numbers) =
    had_tier fan before count kept written wide (suc i) (take (up count wide) numbers) b power' long
    ∙ ap (λ (x : ℕ). drop x (take (up count wide) numbers)) (sym same) ∙ ap (λ (x : ℕ). drop (kept / size / fan) (take x numbers)) (sym m) in
    let lower = kept_low fan (kept / size) (suc (length olds)) b.wide low in
    let down : suc (length olds) - 1 ≡ length olds = omega arith in
    let rest = came_is fan before count kept written wide (suc i) n olds (drop (up count wide) numbers) b power'
    (subst (λ (x : ℕ). x ≤ fan ^ length olds) same (subst (λ (x : ℕ). kept / size / fan ≤ fan ^ x) down lower)) (let e = length-drop (up count wide) numbers in omega arith) in
    ap (λ (l : List ℕ). l ++ came fan wide before count written olds (levels_of fan wide count n (drop (up count wide) numbers))) first
    ∙ ap (λ (l : List ℕ). drop (kept / size / fan) (take (up (up count size) fan) numbers) ++ l)
    (rest ∙ ap (λ (x : ℕ). numbers_behind fan n x (kept / wide) (drop x numbers)) (sym m) ∙ ap (λ (x : ℕ). numbers_behind fan n (up (up count size) fan) x (drop (up (up count size) fan) numbers)) (sym same))

pub own_is_fresh : OwnIsFresh
own_is_fresh fan kept old new wide shape numbers k =
    ap (λ (l : List ℕ). l ++ numbers_behind fan (levels fan c) c kept new.pointers) (sym leaves) ∙ ap (λ (l : List ℕ). without (is_kept true 1 o c written) 0 new.leaves ++ l) (sym nodes)
  where
    o : ℕ
    o = length old.leaves

    c : ℕ
    c = length new.leaves

    written : List ℕ
    written = places_behind kept c

    b : Behind fan o c kept written
    b = record { wide = wide; kept_old = k.kept_old; less = k.less; more = k.more; behind = behind_low kept c; all = behind_all kept c }

    one : 1 ≡ fan ^ 0
    one = sym (pow-zero fan)

    leaves : without (is_kept true 1 o c written) 0 new.leaves ≡ drop kept new.leaves
    leaves = had_tier fan o c kept written 1 0 new.leaves b one (up_one c) ∙ ap (λ (x : ℕ). drop x new.leaves) (div-one kept)

    nodes : came fan 1 o c written (levels_in fan old) (levels_in fan new) ≡ numbers_behind fan (levels fan c) c kept new.pointers
    nodes = came_is fan o c kept written 1 0 (levels fan c) (levels_in fan old) new.pointers b one
        (let e = length-levels_of fan 1 o (levels fan o) old.pointers in let fits = (levels_needs fan o wide shape.few).fits in let l = k.kept_old in let d = div-one kept in
        subst (λ (n : ℕ). kept / 1 ≤ fan ^ n) (sym e) (omega arith))
        (let all = over_all fan c (omega arith) in let u = ap (over_count fan (levels fan c)) (sym (up_one c)) in omega arith)
        ∙ ap (λ (x : ℕ). numbers_behind fan (levels fan c) x (kept / 1) new.pointers) (sym (up_one c)) ∙ ap (λ (x : ℕ). numbers_behind fan (levels fan c) c x new.pointers) (div-one kept)
