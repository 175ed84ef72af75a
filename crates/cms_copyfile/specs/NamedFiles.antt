-- Patterns of the files that are copied.
use Rattle.std.specs.Prelude.{ℕ, List, [], ◌∷◌, Option, None, Some}

-- the pattern that fits a part of a name alone; or *, which fits each
abbrev pub pattern_for : Option (List ℕ) → List ℕ
pattern_for (Some part) = part
pattern_for None = 0x5C ∷ []
