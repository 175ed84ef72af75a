-- The levels and the pointer blocks of a shape, counted upward.
use Rattle.std.proofs.Common.{◌≡◌, ⊎_elim, ℕ, zero, suc, ◌+◌, ◌-◌, ◌*◌, ◌/◌, ◌%◌, ◌^◌, ◌<◌, ◌≤◌, min, refl, sym, ◌∙◌, ap, subst, arith, Fits, w32, w64}
use Rattle.std.proofs.Math.Nat.{pow-zero, pow-suc, pow-le-pow_left, pow-le-pow_right, mul-le-mul_left, mul-le-mul_right, one-le-pow}
use Rattle.std.proofs.Common.{pow-add, mul_comm}
use Rattle.std.proofs.lemmas.Bool.{cases_lt}
use Rattle.std.proofs.lemmas.Grind.{div_ceil_times}
use Rattle.cms_fields.specs.Numbers.{up}
use Rattle.cms_model.specs.Sizes.{levels, pointers_to, pointer_count}
use Rattle.cms_model.proofs.Quotients.{up_below, up_spec, up_unique}
use Rattle.cms_model.proofs.SharedTiers.{lies}
use Rattle.cms_model.proofs.Shapes.{Needs, needs_shape, shape_least, levels_needs}

-- so many levels are counted: they have room, one fewer has none, and they have so many pointer blocks
pub record Counted (fan blocks room k pointers : ℕ) : Type 0 where
  pub power : room ≡ fan ^ k
  pub fewer : (j : ℕ) → j < k → fan ^ j < blocks
  pub sum : pointers ≡ pointers_to fan blocks k

pub none_counted : (fan blocks : ℕ) → Counted fan blocks 1 0 0
unfolding pointers_to
none_counted fan blocks = record { power = sym (pow-zero fan); fewer = λ j low. absurd (omega arith); sum = refl }

pub div_ceil_is : (a b : ℕ) → 0 < b → a / b + min 1 (a % b) ≡ up a b
div_ceil_is a b some = let both = div_ceil_times a b some in up_unique a b (a / b + min 1 (a % b)) some both.0 both.1

pub power_next : (fan k : ℕ) → fan ^ k * fan ≡ fan ^ (k + 1)
power_next fan k = let next : k + 1 ≡ suc k = omega arith in rw (next, pow-suc fan k) refl

pub one_counted : (fan blocks room k pointers ceil : ℕ) → 2 ≤ fan → Counted fan blocks room k pointers → room < blocks → ceil ≡ blocks / (room * fan) + min 1 (blocks % (room * fan))
    → Counted fan blocks (room * fan) (k + 1) (pointers + ceil)
unfolding pointers_to
one_counted fan blocks room k pointers ceil wide c low is =
    let next : k + 1 ≡ suc k = omega arith in
    let power : room * fan ≡ fan ^ (k + 1) = ap (λ (r : ℕ). r * fan) c.power ∙ power_next fan k in
    let power' : room * fan ≡ fan ^ suc k = rw next at power in
    let some : 0 < fan ^ suc k = one-le-pow (suc k) fan (omega arith) in
    let some' : 0 < room * fan = subst (λ (n : ℕ). 0 < n) (sym power') some in
    let ceil_is : ceil ≡ up blocks (fan ^ suc k) = is ∙ div_ceil_is blocks (room * fan) some' ∙ ap (up blocks) power' in
    record {
      power = power;
      fewer = λ j less. ⊎_elim (λ (below : j < k). c.fewer j below)
          (λ (above : k ≤ j). let at : j ≡ k = omega arith in subst (λ (e : ℕ). fan ^ e < blocks) (sym at) (subst (λ (r : ℕ). r < blocks) c.power low)) (cases_lt j k);
      sum = rw next (let s = c.sum in omega arith);
    }

pub all_counted : (fan blocks room k pointers : ℕ) → 2 ≤ fan → blocks < 2 ^ 32 → Counted fan blocks room k pointers → blocks ≤ room → (k ≡ levels fan blocks) × (pointers ≡ pointer_count fan blocks)
unfolding pointer_count
all_counted fan blocks room k pointers wide small c fits =
    let needs : Needs fan blocks k = record { fits = subst (λ (r : ℕ). blocks ≤ r) c.power fits; fewer = c.fewer } in
    let least : k ≡ levels fan blocks = (shape_least fan blocks k wide small).0 (needs_shape fan blocks k needs) in
    (least, c.sum ∙ ap (pointers_to fan blocks) least)

-- fewer than 33 levels are counted
pub few : (fan blocks room k pointers : ℕ) → 2 ≤ fan → blocks < 2 ^ 32 → Counted fan blocks room k pointers → room < blocks → k < 32
few fan blocks room k pointers wide small c low = ⊎_elim (λ (less : k < 32). less)
    (λ (more : 32 ≤ k).
    let big : 2 ^ 32 ≤ 2 ^ k = pow-le-pow_right (omega arith) more in
    let bigger : 2 ^ k ≤ fan ^ k = pow-le-pow_left wide k in
    let is = c.power in absurd (omega arith))
    (cases_lt k 32)

-- the pointer blocks of so many levels are fewer than 2^32
pub pointers_small : (fan blocks k : ℕ) → 2 ≤ fan → blocks ≤ 2 ^ 32 → k ≤ 32 → pointers_to fan blocks k + 2 ^ (32 - k) ≤ 2 ^ 32
unfolding pointers_to
pointers_small fan blocks zero wide small few = omega arith
pointers_small fan blocks (suc k) wide small few =
    let below = pointers_small fan blocks k wide small (omega arith) in
    let e = 32 - suc k in
    let next : 32 - k ≡ suc e = omega arith in
    let double : 2 ^ (32 - k) ≡ 2 ^ e * 2 = rw next (pow-suc 2 e) in
    let whole : 2 ^ 32 ≡ 2 ^ e * 2 ^ suc k = (let sum : 32 ≡ e + suc k = omega arith in subst (λ (n : ℕ). 2 ^ n ≡ 2 ^ e * 2 ^ suc k) (sym sum) (pow-add 2 e (suc k))) in
    let power : 2 ^ suc k ≤ fan ^ suc k = pow-le-pow_left wide (suc k) in
    let wider : 2 ^ e * 2 ^ suc k ≤ 2 ^ e * fan ^ suc k = mul-le-mul_left (2 ^ e) power in
    let some : 0 < fan ^ suc k = one-le-pow (suc k) fan (omega arith) in
    let s = (up_spec blocks (fan ^ suc k) some).1 in
    let fits : up blocks (fan ^ suc k) ≤ 2 ^ e = ⊎_elim
    (λ (more : 2 ^ e < up blocks (fan ^ suc k)).
    let over : suc (2 ^ e) * fan ^ suc k ≤ up blocks (fan ^ suc k) * fan ^ suc k = mul-le-mul_right (fan ^ suc k) more in absurd (omega arith))
    (λ (le : up blocks (fan ^ suc k) ≤ 2 ^ e). le) (cases_lt (2 ^ e) (up blocks (fan ^ suc k))) in
    omega arith

-- a power with a lower exponent
pub power_below : (fan k : ℕ) → 1 ≤ fan → fan ^ (k - 1) ≤ fan ^ k
power_below fan k some = pow-le-pow_right some {i = k - 1} {j = k} (omega arith)

-- a level has the room of as many pointers as a block has
pub power_splits : (fan k : ℕ) → 1 ≤ k → fan ^ k ≡ fan * fan ^ (k - 1)
power_splits fan zero deep = absurd (omega arith)
power_splits fan (suc k) deep = let down : suc k - 1 ≡ k = omega arith in rw down (pow-suc fan k ∙ mul_comm (fan ^ k) fan)

-- one pointer fewer has the room that is left
pub room_left : (left part fan place size : ℕ) → left ≤ (fan - place) * size → place < fan → part ≡ min left size → left - part ≤ (fan - (place + 1)) * size
room_left left part fan place size room within is =
    let more : fan - place ≡ suc (fan - (place + 1)) = omega arith in
    let room' : left ≤ suc (fan - (place + 1)) * size = rw more at room in
    omega arith

pub no_room : (left fan place size : ℕ) → left ≤ (fan - place) * size → fan ≤ place → left ≡ 0
no_room left fan place size room past =
    let none : fan - place ≡ 0 = omega arith in
    let room' : left ≤ 0 * size = rw none at room in
    omega arith

-- the root's block has room for all
pub room_first : (count fan k size : ℕ) → 1 ≤ k → count ≤ fan ^ k → size ≡ fan ^ (k - 1) → count ≤ (fan - 0) * size
room_first count fan k size deep room is =
    let all : fan - 0 ≡ fan = omega arith in
    let whole = power_splits fan k deep in
    rw (all, is, ← whole) room

-- the levels have room for fewer than 2^42 data blocks and one
pub levels_room : (fan blocks : ℕ) → 2 ≤ fan → fan ≤ 1024 → blocks < 2 ^ 32 → fan ^ levels fan blocks ≤ 2 ^ 42
levels_room fan blocks wide narrow small = go (levels fan blocks) (levels_needs fan blocks wide small)
  where
    go : (k : ℕ) → Needs fan blocks k → fan ^ k ≤ 2 ^ 42
    go zero needs = let one = pow-zero fan in omega arith
    go (suc k) needs =
        let low = needs.fewer k (omega arith) in
        let whole = pow-suc fan k in
        let more : fan ^ k * fan ≤ fan ^ k * 1024 = mul-le-mul_left (fan ^ k) narrow in
        omega arith

-- a loop's counter came to the end
pub reached : (n end all : ℕ) → end ≤ n → n ≤ end → end ≡ all → n ≡ all
reached n end all past within is = omega arith

-- nothing is left
pub left_none : (done left all : ℕ) → done + left ≡ all → left ≡ 0 → done ≡ all
left_none done left all sum none = omega arith

-- ---- steps over the blocks of a level

pub counts_down : (n i : ℕ) → i < n → n - (i + 1) < n - i
counts_down n i inside = omega arith

pub at_most : (i n : ℕ) → i < n → i ≤ n
at_most i n inside = omega arith

pub same_most : (n : ℕ) → n ≤ n
same_most n = omega arith

pub is_most : (n m : ℕ) → n ≡ m → n ≤ m
is_most n m is = omega arith

pub less_up : (i n m : ℕ) → i < n → n ≤ m → i < m
less_up i n m inside most = omega arith

pub fewer_still : (place count : ℕ) → 1 ≤ count → count ≤ place → place - count < place
fewer_still place count some past = omega arith

-- a vector that took a block at most of each that came has room for one more
pub has_room : (old cap len cap' nth n : ℕ) → len ≤ old + nth → nth < n → old + n ≤ cap → cap ≤ cap' → len < cap'
has_room old cap len cap' nth n most inside room grown = omega arith

pub to_most : (len old nth n : ℕ) → len ≤ old + nth → nth ≤ n → len ≤ old + n
to_most len old nth n most inside = omega arith

-- the first place of a block, and the end behind it
pub level_room : (x j size count : ℕ) → x ≡ j → j < up count size → 1 ≤ size → size < 2 ^ 64 → count < 2 ^ 32 → x * size + size < 2 ^ 64
level_room x zero size count is inside some small few = rw is (omega arith)
level_room x (suc j) size count is inside some small few = let here = lies (suc j) count size some inside in rw is (go (suc j * size) size count here some small few (more j size))
  where
    more : (j size : ℕ) → size ≤ suc j * size
    more j size = omega arith

    go : (at size count : ℕ) → at < count → 1 ≤ size → size < 2 ^ 64 → count < 2 ^ 32 → size ≤ at → at + size < 2 ^ 64
    go at size count here some small few less = omega arith

pub level_fits : (x j size count : ℕ) → x ≡ j → j < up count size → 1 ≤ size → size < 2 ^ 64 → count < 2 ^ 32 → Fits w64 (x * size)
level_fits x j size count is inside some small few = let room = level_room x j size count is inside some small few in omega arith

pub number_fits : (first nth n : ℕ) → first + n < 2 ^ 32 → nth < n → Fits w32 (first + nth)
number_fits first nth n few inside = omega arith

pub ceil_fits : (x leaves size : ℕ) → x ≡ up leaves size → 1 ≤ size → leaves < 2 ^ 32 → Fits w32 x
ceil_fits x leaves size is some few = let most = up_below leaves size some in omega arith
