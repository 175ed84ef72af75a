-- Numbers of a walk: levels, places and data blocks that are left.
use Rattle.std.proofs.Common.{◌≡◌, ℕ, suc, ◌+◌, ◌-◌, ◌*◌, ◌^◌, ◌<◌, ◌≤◌, min, subst, arith, mul-le-mul_right, Fits, w32}
use Rattle.std.proofs.Math.Nat.{pow-zero}

pub some_fan : (fan : ℕ) → 2 ≤ fan → 1 ≤ fan
some_fan fan wide = omega arith

-- there is a level where its tiers have a last one, and the others are one fewer
pub deep_of : (below all levels : ℕ) → below + 1 ≡ all → all ≡ levels → 1 ≤ levels
deep_of below all levels one is = omega arith

pub down_of : (below all levels : ℕ) → below + 1 ≡ all → all ≡ levels → below ≡ levels - 1
down_of below all levels one is = omega arith

pub tiers_of : (now below all levels : ℕ) → now ≡ below → below + 1 ≡ all → all ≡ levels → now ≡ levels - 1
tiers_of now below all levels same one is = omega arith

-- there is one data block where there is no level
pub one_leaf : (count fan levels : ℕ) → levels ≡ 0 → count ≤ fan ^ levels → 1 ≤ count → 1 ≡ count
one_leaf count fan levels none room some = let room' : count ≤ fan ^ 0 = subst (λ (n : ℕ). count ≤ fan ^ n) none room in let unit = pow-zero fan in omega (arith, room', unit, some)

-- a pointer lies within its block
pub pointer_in : (place fan stride bsize n : ℕ) → place < fan → 4 ≤ stride → fan * stride ≤ bsize → n ≡ bsize → place * stride + 4 ≤ n
pointer_in place fan stride bsize n less four fits long = let wide : suc place * stride ≤ fan * stride = mul-le-mul_right stride less in omega arith

pub pointer_fits : (place fan stride bsize : ℕ) → place < fan → fan * stride ≤ bsize → bsize < 2 ^ 32 → Fits w32 (place * stride)
pointer_fits place fan stride bsize less fits small = let wide : suc place * stride ≤ fan * stride = mul-le-mul_right stride less in omega arith

pub small_below : (a b most : ℕ) → a ≤ b → b < most → a < most
small_below a b most less small = omega arith

pub later_than : (a b c : ℕ) → a ≤ b → b ≤ c → a ≤ c
later_than a b c later last = omega arith

-- nothing is done, or all
pub none_done : (count : ℕ) → 0 ≡ count - count
none_done count = omega arith

pub none_and_all : (count size : ℕ) → count ≡ 0 * size + count
none_and_all count size = omega arith

pub all_done : (count left : ℕ) → left ≡ 0 → count - left ≡ count
all_done count left none = omega arith

pub some_left : (left : ℕ) → (left ≡ 0 → ⊥) → 1 ≤ left
some_left left some = omega arith

pub done_of : (count left done : ℕ) → count ≡ done + left → count - left ≡ done
done_of count left done sum = omega arith

-- what lies below a pointer
pub part_some : (part left size room : ℕ) → part ≡ min left size → size ≡ room → 1 ≤ room → 1 ≤ left → 1 ≤ part
part_some part left size room is same some more = omega arith

pub part_room : (part left size room : ℕ) → part ≡ min left size → size ≡ room → part ≤ room
part_room part left size room is same = omega arith

pub sum_of : (count left size part done : ℕ) → count ≡ done + left → part ≡ min left size → (count - left) + part ≡ count - (left - part)
sum_of count left size part done sum is = omega arith

pub whole_next : (count left size part place : ℕ) → count ≡ place * size + left → part ≡ min left size → 1 ≤ left - part → count ≡ (place + 1) * size + (left - part)
whole_next count left size part place sum is more = omega arith

pub count_next : (now next old left part size count : ℕ) → next ≡ now + part → now + left ≡ old + count → part ≡ min left size → next + (left - part) ≡ old + count
count_next now next old left part size count grown sum is = omega arith

-- a front of pointers lies within its block
pub front_in : (at psize size n : ℕ) → size ≡ psize → at * psize + psize ≤ n → at * size ≤ n
front_in at psize size n is room = rw is (less (at * psize) psize n room)
  where
    less : (a b n : ℕ) → a + b ≤ n → a ≤ n
    less a b n room = omega arith
