-- How often a block stands in a tree that shares blocks with the tree before.
use Rattle.std.proofs.Common.{◌≡◌, ⊎_elim, ℕ, suc, ◌+◌, ◌*◌, ◌<◌, ◌≤◌, Bool, true, false, if◌then◌else◌, List, [], ◌∷◌, ◌++◌, length, slice_index, refl, sym, ◌∙◌, ap, arith, mul-le-mul_right}
use Rattle.std.specs.List.{concat}
use Rattle.std.proofs.lemmas.Bool.{cases_Bool}
use Rattle.cms_fields.specs.Numbers.{up}
use Rattle.cms_model.specs.Lists.{times}
use Rattle.cms_model.specs.Trees.{Image, Form}
use Rattle.cms_model.specs.ByLevels.{Heaped}
use Rattle.cms_model.specs.SharedTrees.{is_kept, fresh_on}
use Rattle.cms_model.specs.SharedTiers.{Shared}
use Rattle.cms_model.specs.SharedTimes.{without, came, gone, SharedTimes, LeavesTimes, CameIsFresh}
use Rattle.cms_model.proofs.Quotients.{up_up}
use Rattle.cms_model.proofs.Repeats.{times_append}
use Rattle.cms_model.proofs.SharedTiers.{points_tier, kept_parts, lies, lies_back, up_one, never_kept}

-- ---- the rest of a list

unfoldable chosen : (ℕ → Bool) → ℕ → List ℕ → List ℕ
chosen test k [] = []
chosen test k (x ∷ xs) = if test k then x ∷ chosen test (suc k) xs else chosen test (suc k) xs

parted : (test : ℕ → Bool) (k n : ℕ) (xs : List ℕ) → times n xs ≡ times n (chosen test k xs) + times n (without test k xs)
unfolding times chosen without
parted test k n [] = refl
parted test k n (x ∷ xs) = ⊎_elim
    (λ (is : test k ≡ true). let rest = parted test (suc k) n xs in rw is (omega arith))
    (λ (no : test k ≡ false). let rest = parted test (suc k) n xs in rw no (omega arith))
    (cases_Bool (test k))

none_chosen : (test : ℕ → Bool) (k : ℕ) (xs : List ℕ) → ((r : ℕ) → r < length xs → test (k + r) ≡ false) → chosen test k xs ≡ []
unfolding chosen
none_chosen test k [] none = refl
none_chosen test k (x ∷ xs) none =
    let z : k + 0 ≡ k = omega arith in
    let here : test k ≡ false = ap test (sym z) ∙ none 0 (omega arith) in
    let rest = none_chosen test (suc k) xs (λ r less. (let e : suc k + r ≡ k + suc r = omega arith in ap test e ∙ none (suc r) (omega arith))) in
    rw here rest

refuted : (b : Bool) → (b ≡ true → ⊥) → b ≡ false
refuted true never = absurd (never refl)
refuted false never = refl

same_chosen : (test : ℕ → Bool) (k : ℕ) (xs ys : List ℕ)
    → ((r : ℕ) → test (k + r) ≡ true → (r < length xs → r < length ys) × (r < length ys → r < length xs))
    → ((r : ℕ) → test (k + r) ≡ true → r < length xs → slice_index xs r ≡ slice_index ys r) → chosen test k xs ≡ chosen test k ys
unfolding chosen
same_chosen test k [] ys both agree = sym (none_chosen test k ys (λ r less. refuted (test (k + r)) (λ is. (let b = (both r is).1 less in absurd (omega arith)))))
same_chosen test k (x ∷ xs) [] both agree = none_chosen test k (x ∷ xs) (λ r less. refuted (test (k + r)) (λ is. (let b = (both r is).0 less in absurd (omega arith))))
same_chosen test k (x ∷ xs) (y ∷ ys) both agree =
    let rest = same_chosen test (suc k) xs ys
    (λ r is. (
    let e : k + suc r ≡ suc k + r = omega arith in
    let b = both (suc r) (ap test e ∙ is) in
    (λ less. (let c = b.0 (omega arith) in omega arith), λ less. (let c = b.1 (omega arith) in omega arith))))
    (λ r is less. (let e : k + suc r ≡ suc k + r = omega arith in agree (suc r) (ap test e ∙ is) (omega arith))) in
    ⊎_elim
    (λ (is : test k ≡ true). let z : k + 0 ≡ k = omega arith in let same : x ≡ y = agree 0 (ap test z ∙ is) (omega arith) in rw (is, same, rest) refl)
    (λ (no : test k ≡ false). rw (no, rest) refl)
    (cases_Bool (test k))

same_from_first : (test : ℕ → Bool) (xs ys : List ℕ)
    → ((r : ℕ) → test r ≡ true → (r < length xs → r < length ys) × (r < length ys → r < length xs))
    → ((r : ℕ) → test r ≡ true → r < length xs → slice_index xs r ≡ slice_index ys r) → chosen test 0 xs ≡ chosen test 0 ys
same_from_first test xs ys both agree = same_chosen test 0 xs ys
    (λ r is. (let z : r ≡ 0 + r = omega arith in both r (ap test z ∙ is)))
    (λ r is less. (let z : r ≡ 0 + r = omega arith in agree r (ap test z ∙ is) less))

-- the same are chosen, so that what one list has besides makes the difference
exchange : (test : ℕ → Bool) (n : ℕ) (xs ys : List ℕ) → chosen test 0 xs ≡ chosen test 0 ys
    → times n xs + times n (without test 0 ys) ≡ times n ys + times n (without test 0 xs)
exchange test n xs ys same = omega (arith, parted test 0 n xs, parted test 0 n ys, ap (times n) same)

all_without : (test : ℕ → Bool) (k : ℕ) (xs : List ℕ) → ((j : ℕ) → test j ≡ false) → without test k xs ≡ xs
unfolding without
all_without test k [] none = refl
all_without test k (x ∷ xs) none = rw (none k) (ap (λ (l : List ℕ). x ∷ l) (all_without test (suc k) xs none))

-- ---- what is kept lies in both

both_lie : (wide old count : ℕ) (written : List ℕ) (xs ys : List ℕ) → 1 ≤ wide → length xs ≡ up count wide → length ys ≡ up old wide → (j : ℕ) → is_kept true wide old count written j ≡ true
    → (j < length xs → j < length ys) × (j < length ys → j < length xs)
both_lie wide old count written xs ys pos x_long y_long j is =
    let mins = kept_parts wide old count j written is in
    let at : (j + 1) * wide ≡ j * wide + wide = omega arith in (
      λ less. (let l = lies j count wide pos (omega arith) in let k = lies_back j old wide pos (omega arith) in omega arith),
      λ less. (let l = lies j old wide pos (omega arith) in let k = lies_back j count wide pos (omega arith) in omega arith),
    )

-- ---- the tiers

left_out : (fan size old count : ℕ) (written : List ℕ) (olds : List (List ℕ)) → gone fan size old count written olds [] ≡ concat olds
unfolding gone
left_out fan size old count written [] = refl
left_out fan size old count written (o ∷ olds) = ap (λ (l : List ℕ). o ++ l) (left_out fan size old count written olds)

none_gone : (fan size old count : ℕ) (written : List ℕ) (tiers : List (List ℕ)) → gone fan size old count written [] tiers ≡ []
unfolding gone
none_gone fan size old count written [] = refl
none_gone fan size old count written (t ∷ ts) = refl

all_came : (fan size old count : ℕ) (written : List ℕ) (tiers : List (List ℕ)) → came fan size old count written [] tiers ≡ concat tiers
unfolding came
all_came fan size old count written [] = refl
all_came fan size old count written (t ∷ ts) =
    let here = all_without (is_kept false (size * fan) old count written) 0 t (never_kept (size * fan) old count written) in
    let rest = all_came fan (size * fan) old count written ts in
    rw (here, rest) refl

none_came : (fan size old count : ℕ) (written : List ℕ) (olds : List (List ℕ)) → came fan size old count written olds [] ≡ []
unfolding came
none_came fan size old count written [] = refl
none_came fan size old count written (o ∷ olds) = refl

tiers_times : (form : Form) (before later : Image) (size old count : ℕ) (written : List ℕ) (olds : List (List ℕ)) (old_below below : List ℕ) (tiers : List (List ℕ)) (old_tops : List ℕ) (n : ℕ) → 1 ≤ form.fan → 1 ≤ size
    → length old_below ≡ up old size → length below ≡ up count size → Heaped form before old_below olds old_tops → Shared form before later size old count written olds below tiers
    → times n (concat tiers) + times n (gone form.fan size old count written olds tiers) ≡ times n (concat olds) + times n (came form.fan size old count written olds tiers)
unfolding came gone times
tiers_times form before later size old count written olds old_below below [] old_tops n some pos old_long long heaped s =
    let a = ap (times n) (left_out form.fan size old count written olds) in
    let b = ap (times n) (none_came form.fan size old count written olds) in
    omega (arith, a, b)
tiers_times form before later size old count written [] old_below below (tier ∷ more) old_tops n some pos old_long long heaped s =
    let b = ap (times n) (all_came form.fan size old count written (tier ∷ more)) in
    omega (arith, b)
tiers_times form before later size old count written (old_tier ∷ olds) old_below below (tier ∷ more) old_tops n some pos old_long long heaped s =
    let wide : 1 ≤ size * form.fan = omega (arith, mul-le-mul_right form.fan pos) in
    let old_tiers = points_tier form before some old_tier old_below heaped.0 in
    let old_more = old_tiers.long ∙ ap (λ (k : ℕ). up k form.fan) old_long ∙ up_up old size form.fan pos some in
    let here = s.0 in
    let new_more = here.long ∙ ap (λ (k : ℕ). up k form.fan) long ∙ up_up count size form.fan pos some in
    let test = is_kept true (size * form.fan) old count written in
    let both = both_lie (size * form.fan) old count written tier old_tier wide new_more old_more in
    let same : chosen test 0 tier ≡ chosen test 0 old_tier = same_from_first test tier old_tier both (λ r is less. (here.kept r less is).0) in
    let this = exchange test n tier old_tier same in
    let rest = tiers_times form before later (size * form.fan) old count written olds old_tier tier more old_tops n some wide old_more new_more heaped.1 s.1 in
    omega (
      arith,
      this,
      rest,
      times_append n tier (concat more),
      times_append n old_tier (concat olds),
      times_append n (without test 0 tier) (came form.fan (size * form.fan) old count written olds more),
      times_append n (without test 0 old_tier) (gone form.fan (size * form.fan) old count written olds more),
    )

pub shared_times : SharedTimes
shared_times form before later old_leaves leaves written olds tiers old_tops n some heaped s =
    tiers_times form before later 1 (length old_leaves) (length leaves) written olds old_leaves leaves tiers old_tops n some (omega arith) (up_one (length old_leaves)) (up_one (length leaves)) heaped s

pub leaves_times : LeavesTimes
leaves_times old_leaves leaves written n same =
    let test = is_kept true 1 (length old_leaves) (length leaves) written in
    exchange test n leaves old_leaves (same_from_first test leaves old_leaves
    (λ r is. both_lie 1 (length old_leaves) (length leaves) written leaves old_leaves (omega arith) (up_one (length leaves)) (up_one (length old_leaves)) r is)
    (λ r is less. same r less is))

-- ---- how many come

one_kept : (had : Bool) (size old count : ℕ) (written : List ℕ) (k : ℕ) → is_kept had size old count written k ≡ true → fresh_on had size old count written (suc k) ≡ fresh_on had size old count written k
unfolding fresh_on
one_kept had size old count written k is = rw is (omega arith)

one_fresh : (had : Bool) (size old count : ℕ) (written : List ℕ) (k : ℕ) → is_kept had size old count written k ≡ false → fresh_on had size old count written (suc k) ≡ suc (fresh_on had size old count written k)
unfolding fresh_on
one_fresh had size old count written k isnt = rw isnt (omega arith)

nothing_fresh : (had : Bool) (size old count : ℕ) (written : List ℕ) → fresh_on had size old count written 0 ≡ 0
unfolding fresh_on
nothing_fresh had size old count written = refl

counted : (had : Bool) (size old count : ℕ) (written : List ℕ) (k : ℕ) (xs : List ℕ)
    → length (without (is_kept had size old count written) k xs) + fresh_on had size old count written k ≡ fresh_on had size old count written (k + length xs)
unfolding without
counted had size old count written k [] = let z : k + 0 ≡ k = omega arith in let e = ap (fresh_on had size old count written) z in omega (arith, e)
counted had size old count written k (x ∷ xs) =
    let rest = counted had size old count written (suc k) xs in
    let e : suc k + length xs ≡ k + suc (length xs) = omega arith in
    let e' = ap (fresh_on had size old count written) e in
    ⊎_elim
    (λ (is : is_kept had size old count written k ≡ true). let one = one_kept had size old count written k is in rw is (omega (arith, rest, e', one)))
    (λ (no : is_kept had size old count written k ≡ false). let one = one_fresh had size old count written k no in rw no (omega (arith, rest, e', one)))
    (cases_Bool (is_kept had size old count written k))

pub came_is_fresh : CameIsFresh
came_is_fresh had size old count written tier = let c = counted had size old count written 0 tier in let z = nothing_fresh had size old count written in let e : 0 + length tier ≡ length tier = omega arith in let f = ap (fresh_on had size old count written) e in omega (arith, c, z, f)
