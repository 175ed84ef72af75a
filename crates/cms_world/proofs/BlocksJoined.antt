-- Blocks that are joined one after another.
use Rattle.std.proofs.Common.{◌≡◌, ℕ, ◌+◌, ◌<◌, ◌≤◌, List, [], ◌++◌, length, refl, sym, ap, drop, slice_index_or, append_assoc, append-nil}
use Rattle.std.proofs.lemmas.List.{at_drop_more, drop_all}
use Rattle.std.specs.List.{concat}

-- one block more
pub joined_more : (blocks : List (List ℕ)) (place : ℕ) (bytes more : List ℕ) → place < length blocks → more ≡ bytes ++ slice_index_or blocks place []
    → more ++ concat (drop (place + 1) blocks) ≡ bytes ++ concat (drop place blocks)
joined_more blocks place bytes more within is = rw (is, append_assoc) (ap (λ (r : List ℕ). bytes ++ r) (sym (at_drop_more concat blocks place [] within)))

-- no block is left
pub joined_all : (blocks : List (List ℕ)) (place : ℕ) (bytes : List ℕ) → length blocks ≤ place → bytes ≡ bytes ++ concat (drop place blocks)
joined_all blocks place bytes past = rw (drop_all place blocks past, append-nil) refl
