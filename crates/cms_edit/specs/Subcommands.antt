-- The subcommands of the editor, as a line spells them.
use Rattle.std.specs.Prelude.{ℕ, ◌+◌, ◌==◌, ◌≤◌, if◌then◌else◌, [], ◌∷◌, codes, length, take, drop, position, Option, Some, None, ⊤}
use Rattle.std.specs.Option.{option_map, option_and_then}
use Rattle.cms_text.specs.Limits.{longest_text}
use Rattle.cms_text.specs.Numbers.{magnitude_of}
use Rattle.cms_text.specs.Texts.{Text, first_word, is_keyword, without_leading_blanks, without_one_blank}
use Rattle.cms_edit.specs.declared.subcommand.Subcommand as declared
use Rattle.cms_edit.specs.declared.subcommand.Subcommand.TheVariants as spelled
use Rattle.cms_edit.specs.declared.subcommand.Verb.{Verb}
use Rattle.cms_edit.specs.declared.subcommand.Verb.TheVariants as verb

-- what a line asks the editor to do
pub data Subcommand : Type 0 where
  Top : Subcommand
  Bottom : Subcommand
  Next : ℕ → Subcommand
  Up : ℕ → Subcommand
  TypeLines : ℕ → Subcommand
  Input : Text → Subcommand
  Replace : Text → Subcommand
  Delete : ℕ → Subcommand
  Locate : Text → Subcommand
  Change : Text → Text → Subcommand
  Save : Subcommand
  End : Subcommand

-- the verb that a word is, in capital or small letters
unfoldable pub verb_of : Text → Option Verb
verb_of word =
    if is_keyword (codes "TOP") word then Some verb.Top
    else (if is_keyword (codes "BOTTOM") word then Some verb.Bottom
    else (if is_keyword (codes "NEXT") word then Some verb.Next
    else (if is_keyword (codes "UP") word then Some verb.Up
    else (if is_keyword (codes "TYPE") word then Some verb.TypeLines
    else (if is_keyword (codes "INPUT") word then Some verb.Input
    else (if is_keyword (codes "REPLACE") word then Some verb.Replace
    else (if is_keyword (codes "DELETE") word then Some verb.Delete
    else (if is_keyword (codes "LOCATE") word then Some verb.Locate
    else (if is_keyword (codes "CHANGE") word then Some verb.Change
    else (if is_keyword (codes "SAVE") word then Some verb.Save
    else (if is_keyword (codes "END") word then Some verb.End
    else None)))))))))))

-- what stands behind the first word
unfoldable pub behind_word : Text → Text
behind_word line = drop (length (first_word line)) (without_leading_blanks line)

-- a text of no bytes is one blank
abbrev pub or_blank : Text → Text
or_blank [] = 0x40 ∷ []
or_blank (byte ∷ bytes) = byte ∷ bytes

-- the text of a subcommand: what follows one blank behind its word
unfoldable pub text_behind : Text → Text
text_behind rest = or_blank (without_one_blank rest)

-- a subcommand of which no word may follow
unfoldable pub alone : Subcommand → Text → Option Subcommand
alone subcommand rest = if length (first_word rest) == 0 then Some subcommand else None

-- the number of a subcommand: 1 to 9 digits that stand alone, 1 where no word follows
unfoldable pub count_behind : Text → Option ℕ
count_behind rest =
    if length (first_word rest) == 0 then Some 1
    else (if length (first_word (behind_word rest)) == 0 then magnitude_of 9 (first_word rest) else None)

-- the place of the first byte that is this one
abbrev pub place_of : ℕ → Text → Option ℕ
place_of byte text = position (λ other. other == byte) text

-- the second delimiter ends the text
abbrev pub ended_at : Text → Text → ℕ → Option Subcommand
ended_at from behind second =
    if second + 1 == length behind then Some (Change from (take second behind)) else None

-- the first delimiter ends the first text
abbrev pub cut_at : ℕ → Text → ℕ → Option Subcommand
cut_at delimiter text first =
    option_and_then (ended_at (take first text) (drop (first + 1) text)) (place_of delimiter (drop (first + 1) text))

-- two texts, each of which this byte ends
unfoldable pub change_between : ℕ → Text → Option Subcommand
change_between delimiter text = option_and_then (cut_at delimiter text) (place_of delimiter text)

-- the two texts of a CHANGE, whose first byte delimits
abbrev pub change_in : Text → Option Subcommand
change_in [] = None
change_in (delimiter ∷ text) = change_between delimiter text

-- the subcommand of a verb and what stands behind it, if it is one
unfoldable pub spelled_by : Verb → Text → Option Subcommand
spelled_by verb.Top rest = alone Top rest
spelled_by verb.Bottom rest = alone Bottom rest
spelled_by verb.Next rest = option_map Next (count_behind rest)
spelled_by verb.Up rest = option_map Up (count_behind rest)
spelled_by verb.TypeLines rest = option_map TypeLines (count_behind rest)
spelled_by verb.Input rest = Some (Input (text_behind rest))
spelled_by verb.Replace rest = Some (Replace (text_behind rest))
spelled_by verb.Delete rest = option_map Delete (count_behind rest)
spelled_by verb.Locate rest = Some (Locate (text_behind rest))
spelled_by verb.Change rest = change_in (text_behind rest)
spelled_by verb.Save rest = alone Save rest
spelled_by verb.End rest = alone End rest

-- the subcommand that a line spells, if it is one
unfoldable pub subcommand_of : Text → Option Subcommand
subcommand_of line = option_and_then (λ verb. spelled_by verb (behind_word line)) (verb_of (first_word line))

-- ---- the program's own

-- what a subcommand of the program says
abbrev pub shown : declared.Subcommand → Subcommand
shown spelled.Top = Top
shown spelled.Bottom = Bottom
shown (spelled.Next count) = Next count
shown (spelled.Up count) = Up count
shown (spelled.TypeLines count) = TypeLines count
shown (spelled.Input text) = Input text.now
shown (spelled.Replace text) = Replace text.now
shown (spelled.Delete count) = Delete count
shown (spelled.Locate text) = Locate text.now
shown (spelled.Change from to) = Change from.now to.now
shown spelled.Save = Save
shown spelled.End = End

-- a text that a line may be
abbrev pub IsLine : Text → Type 0
IsLine text = (1 ≤ length text) × (length text ≤ longest_text)

-- the texts that become lines may be lines, and the one that is looked for has a byte
abbrev pub HasLines : declared.Subcommand → Type 0
HasLines (spelled.Input text) = IsLine text.now
HasLines (spelled.Replace text) = IsLine text.now
HasLines (spelled.Locate text) = 1 ≤ length text.now
HasLines (spelled.Change from to) = length to.now ≤ longest_text
HasLines _ = ⊤
