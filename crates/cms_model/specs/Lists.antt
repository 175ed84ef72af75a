-- Words on lists of numbers.
use Rattle.std.specs.Prelude.{◌≡◌, ◌⊎◌, ℕ, zero, suc, ◌+◌, Bool, false, if◌then◌else◌, ◌==◌, ◌||◌, List, [], ◌∷◌, take, drop, Option, Some, None}
use Rattle.std.specs.Str.{bytes_eq}

-- a number is one of them
abbrev pub In : ℕ → List ℕ → Type 0
In n [] = ⊥
In n (x ∷ xs) = (n ≡ x) ⊎ In n xs

-- the test of it
unfoldable pub holds : List ℕ → ℕ → Bool
holds [] n = false
holds (x ∷ xs) n = (n == x) || holds xs n

-- how often a number stands in a list
unfoldable pub times : ℕ → List ℕ → ℕ
times n [] = 0
times n (x ∷ xs) = (if n == x then 1 else 0) + times n xs

-- the first that is among those before it, or among others
unfoldable pub first_repeat : List ℕ → List ℕ → Option ℕ
first_repeat others [] = None
first_repeat others (n ∷ ns) = if holds others n then Some n else first_repeat (n ∷ others) ns

-- the test of whether lists are the same
unfoldable pub same : List ℕ → List ℕ → Bool
same = bytes_eq

-- so many pieces of a length, from the front; the last that has items may be shorter
unfoldable pub cut : {A : Type 0} → ℕ → ℕ → List A → List (List A)
cut zero size items = []
cut (suc n) size items = take size items ∷ cut n size (drop size items)
