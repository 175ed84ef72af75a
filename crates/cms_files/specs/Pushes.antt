-- A line that is stacked.
use Rattle.std.specs.Prelude.{ℕ, List, [], ◌∷◌, ◌++◌}
use Rattle.cms_files.specs.declared.stack.StackEnd.{StackEnd}
use Rattle.cms_files.specs.declared.stack.StackEnd.TheVariants.{Front, Back}

-- the stack with a line at one of its ends
abbrev pub with_line : StackEnd → List ℕ → List (List ℕ) → List (List ℕ)
with_line Back line stack = stack ++ line ∷ []
with_line Front line stack = line ∷ stack
