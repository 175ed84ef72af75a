-- Quotients rounded up, and the shapes of trees.
use Rattle.std.specs.Prelude.{ℕ, ◌+◌, ◌-◌, ◌/◌, ◌^◌, zero, suc, Bool, nat_le, nat_lt, ◌&&◌}

-- the quotient rounded up
abbrev pub up : ℕ → ℕ → ℕ
up a b = (a + (b - 1)) / b

-- k levels of pointer blocks, and no fewer, have room for so many data blocks
abbrev pub is_shape : ℕ → ℕ → ℕ → Bool
is_shape fan count zero = nat_le count 1
is_shape fan count (suc k) = nat_lt (fan ^ k) count && nat_le count (fan ^ suc k)
