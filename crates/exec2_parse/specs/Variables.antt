-- The variables of a procedure.
use Rattle.std.specs.Prelude.{ℕ, List, [], unwrap_or, map, Vec}
use Rattle.std.specs.Ordering.{nat_cmp}
use Rattle.std.specs.Cmp.Lexicographic.{slice_cmp}
use Rattle.std.specs.FinMap.{FinMap, get}
use Rattle.cms_text.specs.Texts.{Text}

-- a finite map from names, which are written here without their ampersand, to values
abbrev pub Vars : Type 0
Vars = FinMap (slice_cmp nat_cmp) Text

-- the value of a variable, empty where it was never set
abbrev pub value_of : Vars → Text → Text
value_of vars name = unwrap_or (get vars name) []

-- the names and values that a program's map holds, in its order
abbrev pub texts_of : {Z : Type 0} → List (Vec ℕ Z × Text) → List (Text × Text)
texts_of = map (λ e. (e.0.items, e.1))
