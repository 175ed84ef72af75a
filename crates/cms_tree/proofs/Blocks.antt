-- Blocks of a unit as they are read.
use Rattle.std.proofs.Common.{◌≡◌, ℕ, ◌≤◌, length, Option, Some, None, arith}
use Rattle.std.specs.Prelude.{IsSomeAnd, slice_get}
use Rattle.cms_journal.specs.Journal.{Journal, HasBlock, HasBlocks}
use Rattle.cms_journal.specs.declared.event.Attached.{Attached}

-- a unit with so many blocks has each of them
pub has_block : (j : Journal) (u last n size : ℕ) → HasBlocks j.units u last size → 6 ≤ n → n ≤ last → HasBlock j.units u n size
has_block j u last n size has low high = go (slice_get j.units u) has
  where
    go : (o : Option Attached) → IsSomeAnd o (λ unit. (unit.bsize ≡ size) × (last ≤ length unit.start)) → IsSomeAnd o (λ unit. (unit.bsize ≡ size) × (1 ≤ n) × (n ≤ length unit.start))
    go (Some unit) h = let long = h.1 in (h.0, omega arith, omega arith)
    go None h = absurd h
