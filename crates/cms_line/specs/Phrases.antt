-- What a message says: a text with places, and the words that belong there.
use Rattle.std.specs.Prelude.{ℕ, ◌==◌, if◌then◌else◌, List, [], ◌∷◌, ◌++◌, unwrap_or}
use Rattle.cms_ebcdic.specs.CodePage.{code_of}
use Rattle.cms_line.specs.declared.message.Phrase.{Phrase}
use Rattle.cms_line.specs.declared.message.Phrase.TheVariants.{Text, One, Two, Three}

-- the first of the words, and nothing where there is none
abbrev pub next_of : List (List ℕ) → List ℕ
next_of [] = []
next_of (word ∷ words) = word

-- the words behind the first
abbrev pub others_of : List (List ℕ) → List (List ℕ)
others_of [] = []
others_of (word ∷ words) = words

-- an ASCII text in EBCDIC, in which each ampersand stands for the next of the words
unfoldable pub filled : List ℕ → List (List ℕ) → List ℕ
filled [] words = []
filled (c ∷ text) words =
    if c == 38
    then next_of words ++ filled text (others_of words)
    else unwrap_or (code_of c) 0 ∷ filled text words

-- what is said, in EBCDIC
unfoldable pub text_of : Phrase → List ℕ
text_of (Text text) = filled text.now []
text_of (One text word) = filled text.now (word.now ∷ [])
text_of (Two text word other) = filled text.now (word.now ∷ other.now ∷ [])
text_of (Three text word other last) = filled text.now (word.now ∷ other.now ∷ last.now ∷ [])
