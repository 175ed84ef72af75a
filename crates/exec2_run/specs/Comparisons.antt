-- Comparisons of two words (VM/SP EXEC 2 Reference, &IF and &LOOP).
use Rattle.std.specs.Prelude.{ℕ, ◌-◌, Bool, not, ◌||◌, List, [], ◌∷◌, ◌++◌, length, codes, find, replicate, Option, Some, None, Result, Ok, ℤ}
use Rattle.std.specs.Ordering.{nat_cmp, int_cmp, is_eq, is_lt, is_gt}
use Rattle.std.specs.declared.cmp.Ordering.{Ordering}
use Rattle.std.specs.Cmp.Lexicographic.{slice_cmp}
use Rattle.cms_fields.specs.Steps.{◌>>=◌}
use Rattle.cms_text.specs.Texts.{Text, is_keyword}
use Rattle.exec2_parse.specs.Expansion.{Binding}
use Rattle.cms_text.specs.Numbers.{number_of}
use Rattle.exec2_run.specs.Values.{value}
use Rattle.exec2_run.specs.declared.fault.Fault.{Fault}
use Rattle.exec2_run.specs.declared.loops.Test.{Test}
use Rattle.exec2_run.specs.declared.comparison.Comparison.{Comparison}
use Rattle.exec2_run.specs.declared.comparison.Comparison.TheVariants.{Equal, NotEqual, Less, AtMost, Greater, AtLeast}

-- all comparisons
abbrev pub comparisons : List Comparison
comparisons = Equal ∷ NotEqual ∷ Less ∷ AtMost ∷ Greater ∷ AtLeast ∷ []

-- a comparison as a sign
abbrev pub sign_of : Comparison → List ℕ
sign_of Equal = codes "="
sign_of NotEqual = codes "^="
sign_of Less = codes "<"
sign_of AtMost = codes "<="
sign_of Greater = codes ">"
sign_of AtLeast = codes ">="

-- a comparison as a word
abbrev pub letters_of : Comparison → List ℕ
letters_of Equal = codes "EQ"
letters_of NotEqual = codes "NE"
letters_of Less = codes "LT"
letters_of AtMost = codes "LE"
letters_of Greater = codes "GT"
letters_of AtLeast = codes "GE"

-- a word is this comparison
abbrev pub is_written : Text → Comparison → Bool
is_written word c = is_keyword (sign_of c) word || is_keyword (letters_of c) word

-- the comparison that a word stands for
unfoldable pub comparison_of : Text → Option Comparison
comparison_of word = find (is_written word) comparisons

-- the text filled with blanks to at least so many bytes
abbrev pub filled : ℕ → Text → Text
filled n text = text ++ replicate (n - length text) 0x40

-- bytes in the order of the code page, the shorter text filled with blanks
abbrev pub order_of_texts : Text → Text → Ordering
order_of_texts a b = slice_cmp nat_cmp (filled (length b) a) (filled (length a) b)

-- two numbers as numbers
abbrev pub order_by : Option ℤ → Option ℤ → Ordering → Ordering
order_by (Some x) (Some y) otherwise = int_cmp x y
order_by (Some x) None otherwise = otherwise
order_by None second otherwise = otherwise

-- the order of two values: as numbers where both are, else as texts
unfoldable pub order : Text → Text → Ordering
order a b = order_by (number_of a) (number_of b) (order_of_texts a b)

-- a comparison holds at an order
abbrev pub holds_at : Comparison → Ordering → Bool
holds_at Equal o = is_eq o
holds_at NotEqual o = not (is_eq o)
holds_at Less o = is_lt o
holds_at AtMost o = not (is_gt o)
holds_at Greater o = is_gt o
holds_at AtLeast o = not (is_lt o)

-- whether the comparison holds of two words that were expanded
abbrev pub holds : Comparison → Text → Text → Bool
holds c a b = holds_at c (order a b)

-- whether that of a WHILE or UNTIL holds
unfoldable pub test_holds : Binding → Test → Result Bool Fault
test_holds names test = do
  a ← value names test.left
  b ← value names test.right
  Ok (holds test.comparison a b)
