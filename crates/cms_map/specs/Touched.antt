-- The data blocks of a map in which the bits of blocks stand.
use Rattle.std.specs.Prelude.{◌≡◌, ◌↔◌, ℕ, ◌-◌, ◌*◌, ◌/◌, ◌≤◌, ◌<◌, List, ◌++◌, map, Option, None, Some}
use Rattle.std.specs.List.Sorted.{IsStrictlyIncreasing}
use Rattle.cms_model.specs.Lists.{In}

-- the data block in which a block's bit stands, from 0: it has eight bits in each of its bytes
abbrev pub data_block : ℕ → ℕ → ℕ
data_block bsize block = (block - 1) / (8 * bsize)

-- these are the data blocks in which the bits of these blocks stand, ascending and each once
pub record AreTouched (bsize : ℕ) (blocks touched : List ℕ) : Type 0 where
  pub ascend : IsStrictlyIncreasing touched
  pub each : (n : ℕ) → In n touched ↔ In n (map (data_block bsize) blocks)

-- they were appended
pub record AppendsTouched (bsize : ℕ) (blocks old new : List ℕ) : Type 0 where
  pub touched : List ℕ
  pub appended : new ≡ old ++ touched
  pub are_touched : AreTouched bsize blocks touched

-- the lowest of the numbers from one on, if there is one
abbrev pub IsLowest : ℕ → List ℕ → Option ℕ → Type 0
IsLowest from numbers None = (n : ℕ) → In n numbers → n < from
IsLowest from numbers (Some low) = (from ≤ low) × In low numbers
    × ((n : ℕ) → In n numbers → from ≤ n → low ≤ n)
