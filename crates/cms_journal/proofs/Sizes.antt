-- The sizes that blocks can have.
use Rattle.std.proofs.Common.{◌≡◌, inl, inr, ℕ, ◌≤◌, arith}
use Rattle.cms_journal.specs.Journal.{IsBlockSize}

pub block_bounds : (size : ℕ) → IsBlockSize size → (512 ≤ size) × (size ≤ 4096)
block_bounds size (inl e) = (omega (arith, e), omega (arith, e))
block_bounds size (inr (inl e)) = (omega (arith, e), omega (arith, e))
block_bounds size (inr (inr (inl e))) = (omega (arith, e), omega (arith, e))
block_bounds size (inr (inr (inr e))) = (omega (arith, e), omega (arith, e))
