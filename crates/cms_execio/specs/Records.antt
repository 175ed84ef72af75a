-- Records that are stacked as lines, and lines that are written as records.
use Rattle.std.specs.Prelude.{ℕ, Bool, if◌then◌else◌, List, [], ◌∷◌, map, take}
use Rattle.cms_names.specs.declared.name.Format.{Format}
use Rattle.cms_text.specs.Limits.{longest_text}
use Rattle.cms_text.specs.Texts.{without_trailing_blanks}
use Rattle.cms_files.specs.Gathered.{record_in}

-- a record is cut to a line's length; with STRIP the blanks at the end of what is left go
abbrev pub stacked_line : Bool → List ℕ → List ℕ
stacked_line strips record_bytes =
    if strips then without_trailing_blanks (take longest_text record_bytes) else take longest_text record_bytes

-- no record is empty: an empty line is one blank
abbrev pub or_blank : List ℕ → List ℕ
or_blank [] = 0x40 ∷ []
or_blank (b ∷ line) = b ∷ line

-- the record that a line is in a file of a format, and of a length at F
abbrev pub record_of : Format → ℕ → List ℕ → List ℕ
record_of format size line = record_in format size (or_blank line)

-- the records that lines are in a file of a format and a length
abbrev pub records_of : Format → ℕ → List (List ℕ) → List (List ℕ)
records_of format size lines = map (record_of format size) lines
