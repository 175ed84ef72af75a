-- The words of a line, its label and its statement (VM/SP EXEC 2 Reference, statements and labels).
use Rattle.std.specs.Prelude.{ℕ, ◌==◌, Bool, not, List, [], ◌∷◌, length, filter, if◌then◌else◌, slice_index}
use Rattle.std.specs.List.{slice_split}
use Rattle.std.specs.Str.{bytes_eq}
use Rattle.cms_text.specs.Texts as texts
use Rattle.cms_text.specs.Texts.{Text}
use Rattle.exec2_parse.specs.Procedures as procedures

-- a byte is a blank
abbrev pub is_blank : ℕ → Bool
is_blank = texts.is_blank

-- a text has no bytes
abbrev pub is_empty : Text → Bool
is_empty text = length text == 0

-- the words between blanks
abbrev pub words_of : Text → List Text
words_of text = filter (λ word. not (is_empty word)) (slice_split is_blank text)

-- a word, unless it has no bytes
abbrev pub word_if_any : Text → List Text
word_if_any [] = []
word_if_any (byte ∷ bytes) = (byte ∷ bytes) ∷ []

-- a word that begins with a hyphen
abbrev pub is_label : Text → Bool
is_label word = slice_index word 0 == 0x60

-- a line that begins with an asterisk
abbrev pub is_comment : Text → Bool
is_comment = procedures.is_comment

-- what stands behind a line's label
abbrev pub statement_of : List Text → List Text
statement_of [] = []
statement_of (word ∷ words) = if is_label word then words else word ∷ words

-- the statement on a line; a comment has none
unfoldable pub statement_on : Text → List Text
statement_on line = if is_comment line then [] else statement_of (words_of line)

-- the line has this label
abbrev pub has_label : Text → Text → Bool
has_label label line = bytes_eq (texts.first_word line) label
