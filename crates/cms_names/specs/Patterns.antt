-- Which texts a pattern fits.
use Rattle.std.specs.Prelude.{◌≡◌, ℕ, ◌≤◌, Bool, true, false, ◌==◌, ◌&&◌, ◌||◌, List, [], ◌∷◌, ◌++◌, length, drop, slice_index_or, if◌then◌else◌, Option, Some, None, MatchBool, ⊤}

-- P holds of one of the text's suffixes, the whole text and the empty one among them
abbrev pub SomeSuffix : (List ℕ → Type 0) → List ℕ → Type 0
SomeSuffix P text = (front : List ℕ) × (back : List ℕ) × (text ≡ front ++ back) × P back

-- the text is a character of which Q holds, followed by a text of which P holds
abbrev pub OneAndThen : (ℕ → Type 0) → (List ℕ → Type 0) → List ℕ → Type 0
OneAndThen Q P text = (c : ℕ) × (back : List ℕ) × (text ≡ c ∷ back) × Q c × P back

-- a pattern fits a text, by the cases of its first character: * stands for any characters, also none; % for one; any other for itself
abbrev pub Fits : List ℕ → List ℕ → Type 0
Fits [] text = text ≡ []
Fits (p ∷ rest) text =
    MatchBool (p == 0x5C) (SomeSuffix (Fits rest) text)
    (MatchBool (p == 0x6C) (OneAndThen (λ c. ⊤) (Fits rest) text)
    (OneAndThen (λ c. c ≡ p) (Fits rest) text))

-- one of the text's suffixes passes, as a test
abbrev pub some_suffix : (List ℕ → Bool) → List ℕ → Bool
some_suffix test [] = test []
some_suffix test (c ∷ text) = test (c ∷ text) || some_suffix test text

-- the text is one such character and then a text that passes, as a test
abbrev pub one_and_then : (ℕ → Bool) → (List ℕ → Bool) → List ℕ → Bool
one_and_then is_allowed test [] = false
one_and_then is_allowed test (c ∷ text) = is_allowed c && test text

-- the same as a test
unfoldable pub fits : List ℕ → List ℕ → Bool
fits [] [] = true
fits [] (c ∷ text) = false
fits (p ∷ rest) text =
    if p == 0x5C then some_suffix (fits rest) text
    else (if p == 0x6C then one_and_then (λ _. true) (fits rest) text
    else one_and_then (λ c. c == p) (fits rest) text)

-- the character itself is wanted, or any
abbrev pub is_wanted : Option ℕ → ℕ → Bool
is_wanted (Some only) c = c == only
is_wanted None c = true

-- the row says for each place of the text, its end among them, whether the test holds of the text from there on
abbrev pub IsRow : (List ℕ → Bool) → List ℕ → List Bool → Type 0
IsRow test text row = (k : ℕ) → k ≤ length text → slice_index_or row k false ≡ test (drop k text)
