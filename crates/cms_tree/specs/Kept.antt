-- What a tree that is built on keeps of the tree before, level by level.
use Rattle.std.specs.Prelude.{ℕ, List, [], ◌∷◌, Option, None}

-- of a pointer block of which the tree before has a part: the bytes of its first pointers, those that
-- are kept, and the third word with which the tree before points to it. Where a level has no such
-- block there is no pointer and no word
pub record Kept : Type 0 where
  pub front : List ℕ
  pub place : Option ℕ

-- no pointer and no word
abbrev pub nothing : Kept
nothing = record { front = []; place = None }

-- the lowest of some levels, and those above it; where none is named nothing is kept
abbrev pub kept_here : List Kept → Kept
kept_here [] = nothing
kept_here (kept ∷ above) = kept

-- the levels above the lowest
abbrev pub kept_above : List Kept → List Kept
kept_above [] = []
kept_above (kept ∷ above) = above
