-- How files are listed, and what is told of an image.
use Rattle.std.specs.Prelude.{ℕ, ◌+◌, ◌-◌, ◌/◌, ◌%◌, Bool, true, false, List, [], ◌∷◌, ◌++◌, codes, length}
use Rattle.cms_fields.specs.declared.time.Stamp.{Stamp}
use Rattle.cms_names.specs.declared.name.Format.{Format}
use Rattle.cms_names.specs.declared.name.Format.TheVariants.{F, V}
use Rattle.cms_text.specs.Numbers.{decimal_of, two_digits}
use Rattle.cms_text.specs.Texts.{coded, without_trailing_blanks}
use Rattle.cms_model.specs.Acts.{typed_line}
use Rattle.cms_held.specs.HeldVolumes.{HeldVolume}
use Rattle.cms_edf.specs.FilesTold.{space_of}
use Rattle.cms_edf.specs.declared.held.FileInfo.{FileInfo}
use Rattle.cms_edf.specs.declared.held.Space.{Space}
use Rattle.cms_search.specs.Texts.{left_in, right_in, spaced}
use Rattle.mini_words.specs.declared.names.NamePattern.{NamePattern}
use Rattle.mini_work.specs.ChosenFiles.{fits_any}
use Rattle.mini_work.specs.Output.{name_text}

-- F or V
abbrev pub format_text : Format → List ℕ
format_text F = coded (codes "F")
format_text V = coded (codes "V")

-- YYYY-MM-DD HH:MM:SS
abbrev pub stamp_text : Stamp → List ℕ
stamp_text s =
    two_digits (s.year / 100) ++ (two_digits s.year ++ 0x60 ∷ (two_digits s.month ++ 0x60 ∷ (two_digits s.day
    ++ 0x40 ∷ (two_digits s.hour ++ 0x7A ∷ (two_digits s.minute ++ 0x7A ∷ two_digits s.second)))))

-- format, record length, records, data blocks, date with time, and mode number
abbrev pub more_columns : FileInfo → List (List ℕ)
more_columns info =
    left_in 1 (format_text info.format) ∷ right_in 5 (decimal_of info.length) ∷ right_in 7 (decimal_of info.count)
    ∷ right_in 8 (decimal_of info.blocks) ∷ left_in 19 (stamp_text info.stamp) ∷ left_in 1 ((0xF0 + info.number % 10) ∷ []) ∷ []

-- name, and those
abbrev pub columns : FileInfo → List (List ℕ)
columns info = left_in 17 (name_text info.name) ∷ more_columns info

-- the line of a file, long or its name alone
abbrev pub file_line : Bool → FileInfo → List ℕ
file_line true info = spaced (columns info)
file_line false info = name_text info.name

-- a file is listed that any of the patterns fits, and each where there are none
abbrev pub is_listed : List NamePattern → FileInfo → Bool
is_listed [] info = true
is_listed (p ∷ ps) info = fits_any (p ∷ ps) info.name

-- ---- what is told of an image

-- its label, its room and its files, each behind its key
abbrev pub facts_of : Space → ℕ → ℕ → List (List ℕ)
facts_of space lost files =
    (coded (codes "label: ") ++ without_trailing_blanks space.volid)
    ∷ (coded (codes "block size: ") ++ decimal_of space.bsize)
    ∷ (coded (codes "blocks: ") ++ decimal_of space.total)
    ∷ (coded (codes "used: ") ++ decimal_of (space.total - space.free))
    ∷ (coded (codes "free: ") ++ decimal_of space.free)
    ∷ (coded (codes "lost: ") ++ decimal_of lost)
    ∷ (coded (codes "files: ") ++ decimal_of files)
    ∷ []

-- those of a volume as it is held
abbrev pub facts : HeldVolume → List (List ℕ)
facts v = facts_of (space_of v) v.lost (length v.files)

-- lines as they are typed, one behind another
unfoldable pub typed_lines : List (List ℕ) → List ℕ
typed_lines [] = []
typed_lines (line ∷ lines) = typed_line line ++ typed_lines lines

-- what is told of a volume, as it is typed
abbrev pub facts_text : HeldVolume → List ℕ
facts_text v = typed_lines (facts v)
