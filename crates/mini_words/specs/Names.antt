-- Names of files and of volumes among the words.
use Rattle.std.specs.Prelude.{ℕ, ◌==◌, nat_le, Bool, if◌then◌else◌, List, [], ◌∷◌, length, take, Option, Some, None, Result, Ok, Err}
use Rattle.std.specs.List.{after_first, before_first}
use Rattle.std.specs.Option.{option_and_then, option_map}
use Rattle.cms_ebcdic.specs.CodePage.{code_of, upper_of}
use Rattle.cms_names.specs.Names.{filled, part_of, pattern_of}
use Rattle.cms_names.specs.declared.fault.NameFault.{NameFault}
use Rattle.cms_names.specs.declared.name.Name.{Name}
use Rattle.cms_words.specs.Numbers.{◌>>=◌}
use Rattle.mini_words.specs.declared.names.NamePattern.{NamePattern}

-- the codes of characters in capitals, where each of them has one
unfoldable pub all_codes : List ℕ → Option (List ℕ)
all_codes [] = Some []
all_codes (c ∷ cs) = option_and_then (λ code. option_map (λ more. upper_of code ∷ more) (all_codes cs)) (code_of c)

-- those of a word of at most eight characters
unfoldable pub codes_of : List ℕ → Option (List ℕ)
codes_of word = if nat_le (length word) 8 then all_codes word else None

-- what was read, whatever the test that fails
abbrev pub read_or_none : {A : Type 0} → Result A NameFault → Option A
read_or_none (Ok x) = Some x
read_or_none (Err e) = None

-- a file name or a file type
unfoldable pub part_word : List ℕ → Option (List ℕ)
part_word word = option_and_then (λ codes. read_or_none (part_of codes)) (codes_of word)

-- a pattern of one
unfoldable pub pattern_word : List ℕ → Option (List ℕ)
pattern_word word = option_and_then (λ codes. read_or_none (pattern_of codes)) (codes_of word)

-- the character is the dot
abbrev pub is_dot : ℕ → Bool
is_dot c = c == 46

-- FN.FT: what stands before the first dot and behind it, each as it is read; without a dot nothing stands behind it
unfoldable pub name_of : List ℕ → Option Name
name_of word = do
  file ← part_word (before_first is_dot word)
  kind ← part_word (after_first is_dot word)
  Some (record { file = file; kind = kind })

-- the same of patterns
unfoldable pub patterns_of : List ℕ → Option (List ℕ × List ℕ)
patterns_of word = do
  file ← pattern_word (before_first is_dot word)
  kind ← pattern_word (after_first is_dot word)
  Some (file, kind)

-- with the word that spells them
unfoldable pub name_pattern_of : List ℕ → Option NamePattern
name_pattern_of word = option_map (λ p. record { file = p.0; kind = p.1; word = word }) (patterns_of word)

-- 1 to 6 name characters in capitals, filled with blanks
unfoldable pub label_of : List ℕ → Option (List ℕ)
label_of word = option_and_then (λ part. if nat_le (length part) 6 then Some (take 6 (filled part)) else None) (part_word word)
