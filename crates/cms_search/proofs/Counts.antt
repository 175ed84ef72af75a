-- Numbers that calls count.
use Rattle.std.proofs.Common.{◌≡◌, ℕ, suc, ◌+◌, ◌-◌, ◌<◌, ◌≤◌, List, [], length, subst, sym, arith}

pub no_more : (n : ℕ) → n ≤ n
no_more n = omega arith

pub some_left : (n : ℕ) → (n ≡ 0 → ⊥) → 1 ≤ n
some_left n some = omega arith

pub one_spent : (n : ℕ) → (n ≡ 0 → ⊥) → n ≡ suc (n - 1)
one_spent n some = omega arith

pub one_fewer : (n : ℕ) → (n ≡ 0 → ⊥) → n - 1 < n
one_fewer n some = omega arith

pub fewer_left : (n all : ℕ) → n ≤ all → n - 1 ≤ all
fewer_left n all less = omega arith

pub counts_down : (n i : ℕ) → i < n → n - (i + 1) < n - i
counts_down n i inside = omega arith

-- an empty line is short enough
pub none_fits : (line : List ℕ) → line ≡ [] → length line ≤ 255
none_fits line none = subst (λ (l : List ℕ). length l ≤ 255) (sym none) (omega arith)
