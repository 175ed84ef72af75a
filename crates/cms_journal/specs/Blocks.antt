-- Bytes cut into blocks.
use Rattle.std.specs.Prelude.{ℕ, zero, suc, ◌/◌, List, [], ◌∷◌, length, take, drop}

-- the first n blocks of this size
abbrev pub first_blocks : ℕ → ℕ → List ℕ → List (List ℕ)
first_blocks zero size bytes = []
first_blocks (suc n) size bytes = take size bytes ∷ first_blocks n size (drop size bytes)

-- the whole blocks with which the bytes begin
abbrev pub cut : ℕ → List ℕ → List (List ℕ)
cut size bytes = first_blocks (length bytes / size) size bytes
