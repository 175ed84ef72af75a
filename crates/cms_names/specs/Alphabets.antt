-- The alphabets of names and patterns.
use Rattle.std.specs.Prelude.{ℕ, Bool}
use Rattle.cms_names.specs.Names.{is_name_character, is_pattern_character}
use Rattle.cms_names.specs.declared.text.Alphabet.{Alphabet}
use Rattle.cms_names.specs.declared.text.Alphabet.TheVariants.{Names, Patterns}

-- a character is in an alphabet
abbrev pub is_of : Alphabet → ℕ → Bool
is_of Names c = is_name_character c
is_of Patterns c = is_pattern_character c
