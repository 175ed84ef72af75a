-- The lines of LISTFILE: a column for each thing that is told of a file.
use Rattle.std.specs.Prelude.{ℕ, ◌+◌, ◌/◌, List, [], ◌∷◌, ◌++◌, codes, length, slice_get, take, Option, Some, None}
use Rattle.std.specs.List.{flat_map}
use Rattle.std.specs.Option.{option_map_or}
use Rattle.cms_names.specs.declared.name.Format.{Format}
use Rattle.cms_names.specs.declared.name.Format.TheVariants as format
use Rattle.cms_fields.specs.Numbers.{up}
use Rattle.cms_fields.specs.declared.time.Stamp.{Stamp}
use Rattle.cms_text.specs.Numbers.{decimal_of, two_digits}
use Rattle.cms_text.specs.Texts.{coded, without_trailing_blanks}
use Rattle.cms_model.specs.Minidisks.{File, Minidisk}
use Rattle.cms_model.specs.Sizes.{stored_size}
use Rattle.cms_edf.specs.declared.held.FileInfo.{FileInfo}
use Rattle.cms_search.specs.Machine.{Letter, Machine, letter_at, minidisk_in}
use Rattle.cms_search.specs.Texts.{left_in, right_in, spaced}
use Rattle.cms_search.specs.declared.search.Found.{Found}
use Rattle.cms_files.specs.Files.{mode_text}
use Rattle.cms_listfile.specs.declared.columns.Columns.{Columns}
use Rattle.cms_listfile.specs.declared.columns.Columns.TheVariants as to
use Rattle.cms_listfile.specs.declared.columns.Years.{Years}
use Rattle.cms_listfile.specs.declared.columns.Years.TheVariants.{Short, Whole}
use Rattle.cms_listfile.specs.declared.line.ListedFile.{ListedFile}

-- ---- columns

-- how many columns there are up to each
abbrev pub count_of : Columns → ℕ
count_of to.Name = 1
count_of to.Kind = 2
count_of to.Mode = 3
count_of to.Format = 5
count_of to.Alloc = 7
count_of (to.Date years) = 8
count_of (to.Label years) = 9

-- how much of a year they show
abbrev pub years_of : Columns → Years
years_of to.Name = Short
years_of to.Kind = Short
years_of to.Mode = Short
years_of to.Format = Short
years_of to.Alloc = Short
years_of (to.Date years) = years
years_of (to.Label years) = years

-- with whole years they go to the date at least
abbrev pub whole_years : Columns → Columns
whole_years to.Name = to.Date Whole
whole_years to.Kind = to.Date Whole
whole_years to.Mode = to.Date Whole
whole_years to.Format = to.Date Whole
whole_years to.Alloc = to.Date Whole
whole_years (to.Date years) = to.Date Whole
whole_years (to.Label years) = to.Label Whole

-- the first of these columns with one blank between, without the blanks at the end
abbrev pub line_to : Columns → List (List ℕ) → List ℕ
line_to last columns = without_trailing_blanks (spaced (take (count_of last) columns))

-- the header of the date with the time, which is wider for whole years
abbrev pub date_header : Years → List ℕ
date_header Short = coded (codes "DATE     TIME    ")
date_header Whole = coded (codes "DATE       TIME    ")

-- the headers of the columns
abbrev pub header_columns : Years → List (List ℕ)
header_columns years =
    coded (codes "FILENAME") ∷ coded (codes "FILETYPE") ∷ coded (codes "FM")
    ∷ coded (codes "F") ∷ coded (codes "LRECL")
    ∷ coded (codes " RECORDS") ∷ coded (codes "  BLOCKS")
    ∷ date_header years
    ∷ coded (codes "LABEL ") ∷ []

-- the header up to the last column that is wanted
abbrev pub header : Columns → List ℕ
header last = line_to last (header_columns (years_of last))

-- ---- a file's columns

-- how a record format is shown
abbrev pub format_text : Format → List ℕ
format_text format.F = coded (codes "F")
format_text format.V = coded (codes "V")

-- yy or yyyy
abbrev pub year_text : Years → ℕ → List ℕ
year_text Short n = two_digits n
year_text Whole n = two_digits (n / 100) ++ two_digits n

-- mm/dd/yy hh:mm:ss or mm/dd/yyyy hh:mm:ss
abbrev pub stamp_text : Years → Stamp → List ℕ
stamp_text years s =
    two_digits s.month ++ 0x61 ∷ (two_digits s.day ++ 0x61 ∷ (year_text years s.year
    ++ 0x40 ∷ (two_digits s.hour ++ 0x7A ∷ (two_digits s.minute ++ 0x7A ∷ two_digits s.second))))

-- the blocks of a file's records, without the pointer blocks over them
abbrev pub data_blocks : ℕ → File → ℕ
data_blocks bsize f = up (stored_size f.format f.records) bsize

-- what is told of a file
abbrev pub info_of : ℕ → File → FileInfo
info_of bsize f = record {
  name = f.name;
  number = f.number;
  format = f.format;
  length = f.length;
  count = length f.records;
  blocks = data_blocks bsize f;
  stamp = f.stamp;
}

-- name, type, mode, format, length, records, data blocks, date with time, and the label of the disk
abbrev pub told_columns : Years → ListedFile → List (List ℕ)
told_columns years f =
    left_in 8 f.info.name.file ∷ left_in 8 f.info.name.kind ∷ mode_text f.letter f.info.number
    ∷ format_text f.info.format ∷ right_in 5 (decimal_of f.info.length)
    ∷ right_in 8 (decimal_of f.info.count) ∷ right_in 8 (decimal_of f.info.blocks)
    ∷ stamp_text years f.info.stamp
    ∷ left_in 6 f.volid ∷ []

-- a file's line up to the last column that is wanted
abbrev pub file_line : Columns → ℕ → Minidisk → File → List ℕ
file_line last n m f = line_to last (told_columns (years_of last) (record { letter = n; volid = m.volid; info = info_of m.bsize f }))

-- ---- the lines of files that were found

-- the line of a file that was found, in its minidisk
abbrev pub lines_in : Columns → Found → Option Minidisk → List (List ℕ)
lines_in last found None = []
lines_in last found (Some m) = option_map_or (λ f. file_line last found.letter m f ∷ []) (slice_get m.files found.place) []

-- the same on a letter's disk
abbrev pub lines_on : Machine → Columns → Found → Option Letter → List (List ℕ)
lines_on s last found None = []
lines_on s last found (Some disk) = lines_in last found (minidisk_in (slice_get s.units disk.unit))

-- the lines of all files that were found, in order
abbrev pub lines_of : Machine → Columns → List Found → List (List ℕ)
lines_of s last found = flat_map (λ f. lines_on s last f (letter_at s f.letter)) found
