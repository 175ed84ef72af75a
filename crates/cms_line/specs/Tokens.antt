-- The words of a line.
use Rattle.std.specs.Prelude.{ℕ, ◌+◌, ◌-◌, ◌==◌, ◌||◌, Bool, if◌then◌else◌, List, [], ◌∷◌, ◌++◌, map, take, drop}
use Rattle.cms_ebcdic.specs.CodePage.{upper_of}
use Rattle.cms_line.specs.declared.token.Token.{Token}

-- in EBCDIC
abbrev pub left_parenthesis : ℕ
left_parenthesis = 0x4D

-- the code of a right parenthesis
abbrev pub right_parenthesis : ℕ
right_parenthesis = 0x5D

-- a byte is a parenthesis
abbrev pub is_parenthesis : ℕ → Bool
is_parenthesis b = (b == left_parenthesis) || (b == right_parenthesis)

-- a blank
abbrev pub is_blank : ℕ → Bool
is_blank b = b == 0x40

-- the word that stands in a line from a place up to another, folded to upper case
abbrev pub word_at : List ℕ → ℕ → ℕ → Token
word_at line start end = record { text = map upper_of (take (end - start) (drop start line)); start = start; end = end }

-- no word has no bytes
abbrev pub words_at : List ℕ → ℕ → ℕ → List Token
words_at line start end = if start == end then [] else word_at line start end ∷ []

-- a parenthesis is a word by itself
abbrev pub parenthesis_at : List ℕ → ℕ → ℕ → List Token
parenthesis_at line place b = if is_parenthesis b then word_at line place (place + 1) ∷ [] else []

-- the words from the one on that begins at `start`, where `rest` is what the line has from `place` on
unfoldable pub tokens_from : List ℕ → ℕ → ℕ → List ℕ → List Token
tokens_from line start place [] = words_at line start place
tokens_from line start place (b ∷ rest) =
    if is_blank b || is_parenthesis b
    then words_at line start place ++ (parenthesis_at line place b ++ tokens_from line (place + 1) (place + 1) rest)
    else tokens_from line start (place + 1) rest

-- the words of a line, which stand between blanks; a parenthesis is a word by itself
unfoldable pub tokens_of : List ℕ → List Token
tokens_of line = tokens_from line 0 0 line
