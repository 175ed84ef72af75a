-- All leaves of a climb: each pointer block is complete with one of them.
use Rattle.std.proofs.Common.{Bool, ◌≡◌, ◌⊎◌, inl, inr, ⊎_elim, ℕ, zero, suc, ◌+◌, ◌/◌, ◌%◌, ◌<◌, ◌≤◌, cond, eqb, true, false, List, [], ◌∷◌, ◌++◌, length, get_or, map, All, refl, sym, ◌∙◌, ap, subst, arith, div-add-mod', mod-lt}
use Rattle.std.proofs.Math.Nat.{zero-div}
use Rattle.std.proofs.lemmas.Bool.{cases_eq, cases_Bool, cond-true, cond-false, eq-eqb, ne_eqb}
use Rattle.std.proofs.lemmas.List.{map-append}
use Rattle.std.proofs.lemmas.List.Elements.{All-nil, All-cons, All-append, All-head, All-tail, All-weaker}
use Rattle.cms_fields.specs.Numbers.{up}
use Rattle.cms_model.specs.Lists.{times}
use Rattle.cms_model.specs.Trees.{Image}
use Rattle.cms_model.specs.Sizes.{levels}
use Rattle.cms_model.specs.Settled.{Write}
use Rattle.cms_model.specs.LawsUpdates.{put_block, put_blocks}
use Rattle.cms_model.proofs.Quotients.{up_unique, up_some}
use Rattle.cms_model.proofs.Repeats.{times_append}
use Rattle.cms_tree.specs.declared.types.Mark.{Mark}
use Rattle.cms_tree.specs.Levels.{over_count}
use Rattle.cms_tree.specs.Tiers.{complete_from, ends_group, node_write}
use Rattle.cms_tree.specs.Climbs.{climb_writes, climbed, ClimbsAll}
use Rattle.cms_tree.proofs.ClimbBlocks.{Ends, ends_is, ends_begins, Goes, goes_is, next_within, group_within, some_fan}
use Rattle.cms_tree.proofs.ClimbSteps.{over_all}

-- ---- ranges of places

range : ℕ → ℕ → List ℕ
range first zero = []
range first (suc n) = range first n ++ (first + n) ∷ []

times_nil : (x : ℕ) → times x [] ≡ 0
unfolding times
times_nil x = refl

times_one : (x y : ℕ) → x ≡ y → times x (y ∷ []) ≡ 1
unfolding times
times_one x y is = ap (λ (b : Bool). (cond b 1 0) + 0) (eq-eqb x y is)

times_none : (x y : ℕ) → (x ≡ y → ⊥) → times x (y ∷ []) ≡ 0
unfolding times
times_none x y other = ap (λ (b : Bool). (cond b 1 0) + 0) (ne_eqb x y other)

out_of_range : (x first n : ℕ) → first + n ≤ x → times x (range first n) ≡ 0
unfolding range times
out_of_range x first zero past = refl
out_of_range x first (suc n) past =
    let both = times_append x (range first n) ((first + n) ∷ []) in
    let none = times_none x (first + n) (λ is. absurd (omega arith)) in
    let rest = out_of_range x first n (omega arith) in omega arith

times_range : (x first n : ℕ) → first ≤ x → x < first + n → times x (range first n) ≡ 1
unfolding range times
times_range x first zero low high = absurd (omega arith)
times_range x first (suc n) low high =
    let both = times_append x (range first n) ((first + n) ∷ []) in
    ⊎_elim
    (λ (here : x ≡ first + n). let one = times_one x (first + n) here in let none = out_of_range x first n (omega arith) in omega arith)
    (λ (other : x ≡ first + n → ⊥). let none = times_none x (first + n) other in let one = times_range x first n low (omega arith) in omega arith)
    (cases_eq x (first + n))

range_splits : (x first a b : ℕ) → times x (range first (a + b)) ≡ times x (range first a) + times x (range (first + a) b)
unfolding range
range_splits x first a zero = let e : a + 0 ≡ a = omega arith in let none : times x [] ≡ 0 = times_nil x in rw e (omega arith)
range_splits x first a (suc b) =
    let e : a + suc b ≡ suc (a + b) = omega arith in
    let same : first + (a + b) ≡ first + a + b = omega arith in
    let left : times x (range first (a + suc b)) ≡ times x (range first (a + b)) + times x ((first + a + b) ∷ []) =
    ap (λ (n : ℕ). times x (range first n)) e ∙ times_append x (range first (a + b)) ((first + (a + b)) ∷ []) ∙ ap (λ (n : ℕ). times x (range first (a + b)) + times x (n ∷ [])) same in
    let right : times x (range (first + a) (suc b)) ≡ times x (range (first + a) b) + times x ((first + a + b) ∷ []) = times_append x (range (first + a) b) ((first + a + b) ∷ []) in
    let rest = range_splits x first a b in
    left ∙ (let r : times x (range first (a + b)) ≡ times x (range first a) + times x (range (first + a) b) = rest in ap (λ (n : ℕ). n + times x ((first + a + b) ∷ [])) r) ∙ (omega arith)
    ∙ ap (λ (n : ℕ). times x (range first a) + n) (sym right)

-- ---- the places that are complete with the blocks of a level

unfoldable pub places : ℕ → ℕ → ℕ → ℕ → ℕ → List ℕ
places fan j first count zero = []
places fan j first count (suc k) = places fan j first count k ++ complete_from fan j first count k

none_above : (x fan first count m : ℕ) → times x (places fan 0 first count m) ≡ 0
unfolding places complete_from times
none_above x fan first count zero = refl
none_above x fan first count (suc m) = times_append x (places fan 0 first count m) [] ∙ (let e = none_above x fan first count m in omega arith)

-- so many groups of a level end within its first blocks
abbrev pub Ended : ℕ → ℕ → ℕ → ℕ → Type 0
Ended fan count m e = ((m < count) × (e ≡ m / fan)) ⊎ ((m ≡ count) × (e ≡ up count fan))

up_next : (fan m : ℕ) → 1 ≤ fan → up (m + 1) fan ≡ m / fan + 1
up_next fan m some =
    let whole = div-add-mod' m fan in
    let rest : m % fan < fan = mod-lt m some in
    sym (up_unique (m + 1) fan (m / fan + 1) some (omega arith) (omega arith))

-- how many have ended with one block more
pub ended_more : (fan count k e : ℕ) → 1 ≤ fan → k < count → Ended fan count (k + 1) e → Ends fan count k → e ≡ k / fan + 1
ended_more fan count k e some less (inl h) ends = h.1 ∙ (ends_begins fan count k some ends h.0).0
ended_more fan count k e some less (inr h) ends = h.1 ∙ ap (λ (n : ℕ). up n fan) (sym h.0) ∙ up_next fan k some

pub ended_same : (fan count k e : ℕ) → Ended fan count (k + 1) e → Goes fan count k → e ≡ k / fan
ended_same fan count k e (inl h) goes = h.1 ∙ (next_within fan k goes.more).0
ended_same fan count k e (inr h) goes = absurd (goes.less h.0)

-- each group's place, and then the places of the level above
level_places : (x fan j first count m e : ℕ) → 1 ≤ fan → m ≤ count → 1 ≤ count → Ended fan count m e
    → times x (places fan (suc j) first count m) ≡ times x (range first e) + times x (places fan j (first + up count fan) (up count fan) e)
unfolding places complete_from range times
level_places x fan j first count zero e some within any ended =
    let none : e ≡ 0 = ⊎_elim (λ (h : (0 < count) × (e ≡ 0 / fan)). h.1 ∙ zero-div fan) (λ (h : (0 ≡ count) × (e ≡ up count fan)). let z = h.0 in absurd (omega arith)) ended in
    rw none refl
level_places x fan j first count (suc k) e some within any ended =
    let k' = k / fan in
    let ended' : Ended fan count (k + 1) e = (let s : suc k ≡ k + 1 = omega arith in subst (λ (n : ℕ). Ended fan count n e) s ended) in
    let before = level_places x fan j first count k k' some (omega arith) any (inl ((omega arith), refl)) in
    let more = times_append x (places fan (suc j) first count k) (complete_from fan (suc j) first count k) in
    ⊎_elim
    (λ (is : ends_group fan count k ≡ true).
    let e_is : e ≡ suc k' = ended_more fan count k e some (omega arith) ended' (ends_is fan count k some is) ∙ (omega arith) in
    let step : complete_from fan (suc j) first count k ≡ (first + k') ∷ complete_from fan j (first + up count fan) (up count fan) k' = cond-true (ends_group fan count k) _ _ is in
    let one = times_append x ((first + k') ∷ []) (complete_from fan j (first + up count fan) (up count fan) k') in
    let one' = times_append x (range first k') ((first + k') ∷ []) in
    let above = times_append x (places fan j (first + up count fan) (up count fan) k') (complete_from fan j (first + up count fan) (up count fan) k') in
    let here : times x (complete_from fan (suc j) first count k) ≡ times x ((first + k') ∷ []) + times x (complete_from fan j (first + up count fan) (up count fan) k') = ap (times x) step ∙ one in
    rw e_is (omega arith))
    (λ (is : ends_group fan count k ≡ false).
    let e_is : e ≡ k' = ended_same fan count k e ended' (goes_is fan count k some is) in
    let step : complete_from fan (suc j) first count k ≡ [] = cond-false (ends_group fan count k) _ _ is in
    let here : times x (complete_from fan (suc j) first count k) ≡ 0 = ap (times x) step in
    rw e_is (omega arith))
    (cases_Bool (ends_group fan count k))

all_places : (x fan j first count : ℕ) → 1 ≤ fan → 1 ≤ count → times x (places fan j first count count) ≡ times x (range first (over_count fan j count))
unfolding range times
all_places x fan zero first count some any = none_above x fan first count count
all_places x fan (suc j) first count some any =
    let m = up count fan in
    let any' : 1 ≤ m = up_some count fan some any in
    level_places x fan j first count count m some (omega arith) any (inr (refl, refl))
    ∙ ap (λ (n : ℕ). times x (range first m) + n) (all_places x fan j (first + m) m some any')
    ∙ sym (range_splits x first m (over_count fan j m))

-- each place is one of the levels above
complete_within : (fan j first count k : ℕ) → 1 ≤ fan → k < count → All (λ nth. nth < first + over_count fan j count) (complete_from fan j first count k)
unfolding complete_from
complete_within fan zero first count k some less = All-nil (λ nth. nth < first + 0)
complete_within fan (suc j) first count k some less =
    let m = up count fan in
    let bound = first + (m + over_count fan j m) in
    let low = group_within fan count k some less in
    ⊎_elim
    (λ (is : ends_group fan count k ≡ true).
    let step : complete_from fan (suc j) first count k ≡ (first + k / fan) ∷ complete_from fan j (first + m) m (k / fan) = cond-true (ends_group fan count k) _ _ is in
    let rest = complete_within fan j (first + m) m (k / fan) some low in
    let same : first + m + over_count fan j m ≡ bound = omega arith in
    subst (All (λ nth. nth < bound)) (sym step) (All-cons (λ nth. nth < bound) (first + k / fan) (complete_from fan j (first + m) m (k / fan)) (omega arith)
    (subst (λ (b : ℕ). All (λ nth. nth < b) (complete_from fan j (first + m) m (k / fan))) same rest)))
    (λ (is : ends_group fan count k ≡ false).
    let step : complete_from fan (suc j) first count k ≡ [] = cond-false (ends_group fan count k) _ _ is in
    subst (All (λ nth. nth < bound)) (sym step) (All-nil (λ nth. nth < bound)))
    (cases_Bool (ends_group fan count k))

places_within : (fan j first count m : ℕ) → 1 ≤ fan → m ≤ count → All (λ nth. nth < first + over_count fan j count) (places fan j first count m)
unfolding places
places_within fan j first count zero some within = All-nil (λ nth. nth < first + over_count fan j count)
places_within fan j first count (suc k) some within = All-append (λ nth. nth < first + over_count fan j count) (places fan j first count k) (complete_from fan j first count k)
    (places_within fan j first count k some (omega arith)) (complete_within fan j first count k some (omega arith))

-- ---- the writes

climbed_places : (bsize psize : ℕ) (leaves : List ℕ) (marks : List Mark) (fresh : List ℕ) (m : ℕ)
    → climbed bsize psize leaves marks fresh m ≡ map (node_write bsize psize leaves marks fresh) (places (bsize / psize) (levels (bsize / psize) (length leaves)) 0 (length leaves) m)
unfolding climbed places
climbed_places bsize psize leaves marks fresh zero = refl
climbed_places bsize psize leaves marks fresh (suc k) =
    let fan = bsize / psize in
    let j = levels fan (length leaves) in
    ap (λ (ws : List Write). ws ++ climb_writes bsize psize leaves marks fresh k) (climbed_places bsize psize leaves marks fresh k)
    ∙ sym (map-append (node_write bsize psize leaves marks fresh) (places fan j 0 (length leaves) k) (complete_from fan j 0 (length leaves) k))

-- ---- the image

pub times_here : (n x : ℕ) (xs : List ℕ) → n ≡ x → times n (x ∷ xs) ≡ suc (times n xs)
unfolding times
times_here n x xs is = ap (λ (b : Bool). cond b 1 0 + times n xs) (eq-eqb n x is) ∙ (omega arith)

pub times_there : (n x : ℕ) (xs : List ℕ) → (n ≡ x → ⊥) → times n (x ∷ xs) ≡ times n xs
unfolding times
times_there n x xs other = ap (λ (b : Bool). cond b 1 0 + times n xs) (ne_eqb n x other) ∙ (omega arith)

pub times_more : (n x : ℕ) (xs : List ℕ) → times n xs ≤ times n (x ∷ xs)
times_more n x xs = ⊎_elim (λ (is : n ≡ x). let e = times_here n x xs is in omega arith) (λ (other : n ≡ x → ⊥). let e = times_there n x xs other in omega arith) (cases_eq n x)

pub in_times : (xs : List ℕ) (i : ℕ) → i < length xs → 1 ≤ times (get_or xs i 0) xs
in_times [] i less = absurd (omega arith)
in_times (x ∷ xs) zero less = let e = times_here x x xs refl in let some : 1 ≤ times x (x ∷ xs) = omega arith in some
in_times (x ∷ xs) (suc i) less =
    let rest = in_times xs i (omega arith) in
    let more = times_more (get_or xs i 0) x xs in
    let some : 1 ≤ times (get_or xs i 0) (x ∷ xs) = omega arith in some

twice : (x : ℕ) (xs : List ℕ) (k : ℕ) → ((n : ℕ) → times n (x ∷ xs) ≤ 1) → k < length xs → x ≡ get_or xs k 0 → ⊥
twice x xs k once less same =
    let more = in_times xs k less in
    let there : 1 ≤ times x xs = subst (λ (n : ℕ). 1 ≤ times n xs) (sym same) more in
    let one = times_here x x xs refl in
    let most = once x in omega arith

-- numbers that don't repeat stand at one place
pub one_place : (xs : List ℕ) → ((n : ℕ) → times n xs ≤ 1) → (i k : ℕ) → i < length xs → k < length xs → get_or xs i 0 ≡ get_or xs k 0 → i ≡ k
one_place [] once i k less less' same = absurd (omega arith)
one_place (x ∷ xs) once zero zero less less' same = refl
one_place (x ∷ xs) once zero (suc k) less less' same = absurd (twice x xs k once (omega arith) same)
one_place (x ∷ xs) once (suc i) zero less less' same = absurd (twice x xs i once (omega arith) (sym same))
one_place (x ∷ xs) once (suc i) (suc k) less less' same =
    ap suc (one_place xs (λ n. let most = once n in let more = times_more n x xs in omega arith) i k (omega arith) (omega arith) same)

-- a block that has the bytes of a place keeps them where only these are written there
stays : (f : ℕ → Write) (image : Image) (ns : List ℕ) (n : ℕ) (bytes : List ℕ) → All (λ p. (f p).block ≡ n → (f p).bytes ≡ bytes) ns → image n ≡ bytes → put_blocks image (map f ns) n ≡ bytes
stays f image [] n bytes all is = is
stays f image (p ∷ ns) n bytes all is =
    let P : ℕ → Type 0 = λ p. (f p).block ≡ n → (f p).bytes ≡ bytes in
    stays f (put_block image (f p)) ns n bytes (All-tail P p ns all)
    (⊎_elim
    (λ (here : n ≡ (f p).block). cond-true (eqb n (f p).block) (f p).bytes (image n) (eq-eqb n (f p).block here) ∙ All-head P p ns all (sym here))
    (λ (other : n ≡ (f p).block → ⊥). cond-false (eqb n (f p).block) (f p).bytes (image n) (ne_eqb n (f p).block other) ∙ is)
    (cases_eq n (f p).block))

arrives : (f : ℕ → Write) (image : Image) (ns : List ℕ) (nth : ℕ) → 1 ≤ times nth ns → All (λ p. (f p).block ≡ (f nth).block → (f p).bytes ≡ (f nth).bytes) ns
    → put_blocks image (map f ns) (f nth).block ≡ (f nth).bytes
arrives f image [] nth some all = let none = times_nil nth in absurd (omega arith)
arrives f image (p ∷ ns) nth some all =
    let P : ℕ → Type 0 = λ p. (f p).block ≡ (f nth).block → (f p).bytes ≡ (f nth).bytes in
    ⊎_elim
    (λ (here : nth ≡ p).
    stays f (put_block image (f p)) ns (f nth).block (f nth).bytes (All-tail P p ns all)
    (cond-true (eqb (f nth).block (f p).block) (f p).bytes (image (f nth).block) (eq-eqb (f nth).block (f p).block (ap (λ (q : ℕ). (f q).block) here)) ∙ ap (λ (q : ℕ). (f q).bytes) (sym here)))
    (λ (other : nth ≡ p → ⊥).
    let none = times_there nth p ns other in
    arrives f (put_block image (f p)) ns nth (omega arith) (All-tail P p ns all))
    (cases_eq nth p)

-- ---- together

pub climbs_all : ClimbsAll
climbs_all bsize psize leaves marks fresh plan =
    let fan = bsize / psize in
    let n = length leaves in
    let j = levels fan n in
    let some = some_fan bsize psize plan.size plan.pointer in
    let any : 1 ≤ n = plan.some in
    let all : over_count fan j n ≡ length fresh = over_all fan n some ∙ sym plan.numbers in
    let ns = places fan j 0 n n in
    let f = node_write bsize psize leaves marks fresh in
    let bound : 0 + over_count fan j n ≡ length fresh = omega arith in
    let within : All (λ nth. nth < length fresh) ns = subst (λ (b : ℕ). All (λ nth. nth < b) ns) bound (places_within fan j 0 n n some (omega arith)) in
    let once : (nth : ℕ) → nth < length fresh → times nth ns ≡ 1 =
    (λ nth less. all_places nth fan j 0 n some any ∙ ap (λ (m : ℕ). times nth (range 0 m)) all ∙ times_range nth 0 (length fresh) (omega arith) (omega arith)) in
    let writes_are = climbed_places bsize psize leaves marks fresh n in
    record {
      places = ns;
      writes_are = writes_are;
      within = within;
      once = once;
      nodes = λ distinct image nth less.
          let there = once nth less in
          ap (λ (ws : List Write). put_blocks image ws (get_or fresh nth 0)) writes_are
          ∙ arrives f image ns nth (omega arith)
          (All-weaker (λ p. p < length fresh) (λ p. (f p).block ≡ (f nth).block → (f p).bytes ≡ (f nth).bytes)
          (λ p low same. ap (λ (q : ℕ). (f q).bytes) (one_place fresh distinct p nth low less same)) ns within);
    }
