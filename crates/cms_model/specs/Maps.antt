-- The allocation map: a bit for each block, block 1 first, the high bit of a byte first; 1 is in use.
use Rattle.std.specs.Prelude.{ℕ, zero, suc, ◌+◌, ◌-◌, ◌/◌, ◌%◌, ◌^◌, Bool, not, if◌then◌else◌, ◌==◌, ◌&&◌, ◌||◌, nat_le, List, slice_index, Option, Some, None}
use Rattle.cms_model.specs.Lists.{holds}

-- the block's bit is 1
unfoldable pub is_marked : List ℕ → ℕ → Bool
is_marked bytes n = slice_index bytes ((n - 1) / 8) / 2 ^ (7 - (n - 1) % 8) % 2 == 1

-- the block is in use: blocks 1 to 5 are always
unfoldable pub is_used : List ℕ → ℕ → Bool
is_used bytes n = nat_le n 5 || is_marked bytes n

-- the lowest block that is met and not marked, of so many from this on
unfoldable pub lowest_unmarked : List ℕ → List ℕ → ℕ → ℕ → Option ℕ
lowest_unmarked bytes met n zero = None
lowest_unmarked bytes met n (suc more) = if holds met n && not (is_marked bytes n) then Some n else lowest_unmarked bytes met (n + 1) more

-- how many blocks are marked and not met, of so many from this on
unfoldable pub lost_count : List ℕ → List ℕ → ℕ → ℕ → ℕ
lost_count bytes met n zero = 0
lost_count bytes met n (suc more) = (if is_marked bytes n && not (holds met n) then 1 else 0) + lost_count bytes met (n + 1) more
