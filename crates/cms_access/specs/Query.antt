-- QUERY DISK [mode or *], QUERY SEARCH
use Rattle.std.specs.Prelude.{ℕ, pos, Bool, ◌-◌, if◌then◌else◌, List, [], ◌∷◌, ◌++◌, codes, count_by, is_some, slice_get, Option, Some, None, Result, Ok, Err}
use Rattle.std.specs.List.{flat_map}
use Rattle.std.specs.Option.{option_map_or}
use Rattle.cms_fields.specs.Steps.{◌>>=◌, ◌>>◌}
use Rattle.cms_text.specs.Numbers.{decimal_of}
use Rattle.cms_text.specs.Texts.{coded, ebcdic, is_keyword}
use Rattle.cms_model.specs.Minidisks.{Minidisk}
use Rattle.cms_model.specs.Sizes.{free_count}
use Rattle.cms_model.specs.Acts.{Act, Done}
use Rattle.cms_line.specs.declared.token.Token.{Token}
use Rattle.cms_operands.specs.Choices.{without_options}
use Rattle.cms_access.specs.declared.query.Question.{Question}
use Rattle.cms_access.specs.declared.query.Question.TheVariants.{Disks, Search}
use Rattle.cms_search.specs.Machine.{Letter, Machine, Course, Went, is_seen, letter_at, minidisk_in, typing}
use Rattle.cms_operands.specs.Operands.{ended, needed, operands_of}
use Rattle.cms_operands.specs.Optional.{given_letter_or_all}
use Rattle.cms_search.specs.Searches.{places_where}
use Rattle.cms_operands.specs.declared.refusal.Refusal.{Refusal}
use Rattle.cms_operands.specs.declared.refusal.Refusal.TheVariants.{BadOperand}
use Rattle.cms_search.specs.Refusals.{not_accessed, on_line}
use Rattle.cms_search.specs.Texts.{device_text, left_in, letter_text, right_in, spaced}
use Rattle.cms_search.specs.Units.{vdev_of}

-- ---- the line

-- the disk of a letter, or all where there is none
abbrev pub disk_operands : List Token → Result Question Refusal
disk_operands operands = do
  letter ← given_letter_or_all operands 2
  ended operands 3
  Ok (Disks letter)

-- how disks are searched
abbrev pub search_operands : List Token → Result Question Refusal
search_operands operands = do
  ended operands 2
  Ok Search

-- DISK and SEARCH in full
abbrev pub query_of : List Token → List ℕ → Result Question Refusal
query_of operands text =
    if is_keyword (codes "DISK") text then disk_operands operands
    else (if is_keyword (codes "SEARCH") text then search_operands operands
    else Err (BadOperand 1))

-- what is asked for: DISK with a letter or *, or SEARCH
unfoldable pub query_operands : List Token → Result Question Refusal
query_operands operands = do
  text ← needed operands 1
  query_of operands text

-- there are no options
abbrev pub query_line : List Token → Result Question Refusal
query_line words = without_options words (query_operands (operands_of words))

-- ---- QUERY DISK

-- the header of QUERY DISK
abbrev pub header : List ℕ
header = coded (codes "LABEL  VDV M STA BLKSZ  FILES     USED     FREE    TOTAL")

-- how a disk is shown that may only be read, and one that may be written
abbrev pub status : Bool → List ℕ
status read_only = ebcdic (if read_only then codes "R/O" else codes "R/W")

-- label, device, letter, status, block size, files seen, and the blocks that aren't free, that are free, and that there are
abbrev pub disk_text : ℕ → ℕ → Bool → List ℕ → ℕ → ℕ → ℕ → ℕ → List ℕ
disk_text n vdev read_only volid bsize files free total = spaced (
    left_in 6 volid
    ∷ device_text vdev
    ∷ letter_text n
    ∷ status read_only
    ∷ right_in 5 (decimal_of bsize)
    ∷ right_in 6 (decimal_of files)
    ∷ right_in 8 (decimal_of (total - free))
    ∷ right_in 8 (decimal_of free)
    ∷ right_in 8 (decimal_of total) ∷ [])

-- the files that are seen on the disk
abbrev pub seen_count : Letter → Minidisk → ℕ
seen_count disk m = count_by (λ f. is_seen disk f) m.files

-- the line of a letter's disk in QUERY DISK, by its minidisk
abbrev pub disk_line : Machine → ℕ → Letter → Minidisk → List ℕ
disk_line s n disk m = disk_text n (vdev_of s disk.unit) disk.read_only m.volid m.bsize (seen_count disk m) (free_count m) m.total

-- a letter with its parent
abbrev pub with_parent : ℕ → Option ℕ → List ℕ
with_parent n parent = letter_text n ++ option_map_or (λ p. ebcdic (codes "/") ++ letter_text p) parent []

-- label, device, letter with its parent, status
abbrev pub search_text : ℕ → ℕ → Option ℕ → Bool → List ℕ → List ℕ
search_text n vdev parent read_only volid = spaced (
    left_in 6 volid
    ∷ device_text vdev
    ∷ left_in 3 (with_parent n parent)
    ∷ status read_only ∷ [])

-- the line of a letter's disk in QUERY SEARCH
abbrev pub search_line : Machine → ℕ → Letter → Minidisk → List ℕ
search_line s n disk m = search_text n (vdev_of s disk.unit) disk.parent disk.read_only m.volid

-- the line of a letter's disk
abbrev pub line_of : (Machine → ℕ → Letter → Minidisk → List ℕ) → Machine → ℕ → List (List ℕ)
line_of shown s n =
    option_map_or (λ disk. option_map_or (λ m. shown s n disk m ∷ []) (minidisk_in (slice_get s.units disk.unit)) []) (letter_at s n) []

-- the lines of all disks, A first
abbrev pub all_lines : (Machine → ℕ → Letter → Minidisk → List ℕ) → Machine → List (List ℕ)
all_lines shown s = flat_map (line_of shown s) (places_where is_some s.letters)

-- lines are typed, and the code is 0
abbrev pub typed : Machine → List (List ℕ) → Act Course
typed s lines = typing lines (Done (Went s (pos 0)))

-- the line of one letter's disk, below the header; or the letter isn't accessed
abbrev pub query_letter : Machine → ℕ → Option Letter → Act Course
query_letter s n None = not_accessed s n
query_letter s n (Some disk) = typed s (header ∷ line_of disk_line s n)

-- with no disk the header stands alone; QUERY SEARCH has none
abbrev pub answer : Machine → Question → Act Course
answer s (Disks None) = typed s (header ∷ all_lines disk_line s)
answer s (Disks (Some n)) = query_letter s n (letter_at s n)
answer s Search = typed s (all_lines search_line s)

-- disks are told of: 069 for a letter that isn't accessed
abbrev pub query : Machine → List Token → Act Course
query s words = on_line s words (answer s) (query_line words)
