-- Texts in EBCDIC: blanks and words.
use Rattle.std.specs.Prelude.{ℕ, ◌==◌, ◌-◌, Bool, if◌then◌else◌, List, [], ◌∷◌, map, take, drop, length, unwrap_or}
use Rattle.std.specs.List.{before_first, filter_map, prefix_len, suffix_len}
use Rattle.std.specs.Str.{bytes_eq}
use Rattle.cms_ebcdic.specs.CodePage.{code_of, upper_of}

-- bytes of code page 037
abbrev pub Text : Type 0
Text = List ℕ

-- a byte is a blank
abbrev pub is_blank : ℕ → Bool
is_blank byte = byte == 0x40

-- the text without the bytes at its end that are this one
abbrev pub without_trailing : ℕ → Text → Text
without_trailing last text = take (length text - suffix_len (λ byte. byte == last) text) text

-- the text without the blanks at its end
abbrev pub without_trailing_blanks : Text → Text
without_trailing_blanks text = without_trailing 0x40 text

-- the text without the blanks that it begins with
abbrev pub without_leading_blanks : Text → Text
without_leading_blanks text = drop (prefix_len is_blank text) text

-- the text without the one blank that it may begin with
abbrev pub without_one_blank : Text → Text
without_one_blank [] = []
without_one_blank (byte ∷ bytes) = if is_blank byte then bytes else byte ∷ bytes

-- what stands before the first blank, or all where there is none
abbrev pub before_blank : Text → Text
before_blank = before_first is_blank

-- the first word, empty where there is none
abbrev pub first_word : Text → Text
first_word text = before_blank (without_leading_blanks text)

-- an ASCII text in EBCDIC, without what code page 037 doesn't have
unfoldable pub ebcdic : List ℕ → Text
ebcdic = filter_map code_of

-- the same with a blank for what code page 037 doesn't have
abbrev pub coded : List ℕ → Text
coded text = map (λ c. unwrap_or (code_of c) 0x40) text

-- the word is this keyword, which is given in ASCII capitals, in capital or small letters
unfoldable pub is_keyword : List ℕ → Text → Bool
is_keyword name word = bytes_eq (map upper_of word) (ebcdic name)
