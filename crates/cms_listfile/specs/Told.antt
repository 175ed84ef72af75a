-- What a table tells of files that were found, as LISTFILE shows it.
use Rattle.std.specs.Prelude.{◌≡◌, ◌≤◌, ℕ, List, [], ◌∷◌, codes, length, slice_get, Option, Result, Ok, Err, ⊤}
use Rattle.std.specs.List.{flat_map}
use Rattle.std.specs.Option.{option_and_then, option_map, option_map_or}
use Rattle.cms_text.specs.Texts.{coded}
use Rattle.cms_held.specs.HeldVolumes.{HeldVolume}
use Rattle.cms_edf.specs.FilesTold.{infos_in}
use Rattle.cms_edf.specs.declared.held.FileInfo.{FileInfo}
use Rattle.cms_files.specs.StackedLines.{StacksSome}
use Rattle.cms_operands.specs.declared.refusal.Refusal.{Refusal}
use Rattle.cms_search.specs.Machine.{Machine}
use Rattle.cms_search.specs.Searches.{item_at}
use Rattle.cms_search.specs.Tables.{AccessTable, letters_of, writing}
use Rattle.cms_search.specs.declared.fault.SearchFault.{SearchFault}
use Rattle.cms_search.specs.declared.search.Found.{Found}
use Rattle.cms_listfile.specs.Lines.{line_to, told_columns, years_of}
use Rattle.cms_listfile.specs.Listfile.{disk_a, files_listed, with_header}
use Rattle.cms_listfile.specs.declared.columns.Columns.{Columns}
use Rattle.cms_listfile.specs.declared.columns.Columns.TheVariants as to
use Rattle.cms_listfile.specs.declared.columns.Years.{Years}
use Rattle.cms_listfile.specs.declared.columns.Years.TheVariants.{Short, Whole}
use Rattle.cms_listfile.specs.declared.line.ListedFile.{ListedFile}
use Rattle.cms_listfile.specs.declared.listfile.Delivery.{Delivery}
use Rattle.cms_listfile.specs.declared.listfile.Delivery.TheVariants as goes
use Rattle.cms_listfile.specs.declared.listfile.ListLine.{ListLine}
use Rattle.cms_listfile.specs.declared.listfile.ListStyle.{ListStyle}

-- the header of all columns as one text, and how many bytes of it the columns have up to each
abbrev pub full_header : Years → List ℕ
full_header Short = coded (codes "FILENAME FILETYPE FM F LRECL  RECORDS   BLOCKS DATE     TIME     LABEL   ")
full_header Whole = coded (codes "FILENAME FILETYPE FM F LRECL  RECORDS   BLOCKS DATE       TIME     LABEL ")

-- how many bytes a line has at the most, up to a column
abbrev pub width : Columns → ℕ
width to.Name = 8
width to.Kind = 17
width to.Mode = 20
width to.Format = 28
width to.Alloc = 46
width (to.Date Short) = 64
width (to.Date Whole) = 66
width (to.Label Short) = 71
width (to.Label Whole) = 73

-- a file of the volume of a letter
abbrev pub listed_on : ℕ → HeldVolume → FileInfo → ListedFile
listed_on n v info = record { letter = n; volid = v.label.volid; info = info }

-- the file that was found, where it is there
abbrev pub listed_at : AccessTable → Found → Option ListedFile
listed_at t found =
    option_and_then (λ s. option_map (listed_on found.letter s.disk.volume) (slice_get (infos_in s.disk.volume) found.place))
    (item_at t.seats found.letter)

-- its line
abbrev pub line_told : Columns → AccessTable → Found → List (List ℕ)
line_told last t found = option_map_or (λ f. line_to last (told_columns (years_of last) f) ∷ []) (listed_at t found) []

-- the lines of files that were found, as a table tells them
abbrev pub lines_told : Columns → AccessTable → List Found → List (List ℕ)
lines_told last t found = flat_map (λ f. line_told last t f) found

-- a line is told of one of them
abbrev pub HasLines : Columns → AccessTable → List Found → Type 0
HasLines last t found = 1 ≤ length (lines_told last t found)

-- ---- lines that are written

-- lines that are written need disk A, which may be written
abbrev pub MayDeliver : AccessTable → Delivery → Type 0
MayDeliver t goes.Typed = ⊤
MayDeliver t (goes.Stacked end) = ⊤
MayDeliver t (goes.Written append) = writing (item_at (letters_of t) disk_a) disk_a ≡ Ok tt

-- ---- lines that are stacked

-- some of the lines are stacked, the first ones; none is where they are typed or written
abbrev pub StacksListing : Delivery → List (List ℕ) → List (List ℕ) → List (List ℕ) → Type 0
StacksListing goes.Typed lines was now = now ≡ was
StacksListing (goes.Stacked end) lines was now = StacksSome end lines was now
StacksListing (goes.Written append) lines was now = now ≡ was

-- so are those of the files that a search found
abbrev pub StacksFound : AccessTable → ListStyle → Result (List Found) SearchFault → List (List ℕ) → List (List ℕ) → Type 0
StacksFound t style (Ok found) was now = StacksListing style.delivery (with_header style (lines_told style.columns t found)) was now
StacksFound t style (Err fault) was now = now ≡ was

-- so are those of the files that a line means
abbrev pub StacksLine : AccessTable → Machine → Result ListLine Refusal → List (List ℕ) → List (List ℕ) → Type 0
StacksLine t s (Ok line) was now = StacksFound t line.style (files_listed s line) was now
StacksLine t s (Err why) was now = now ≡ was
