-- LISTFILE [fn [ft [fm]]] [(options]
use Rattle.std.specs.Prelude.{ℕ, nat_le, Bool, true, false, if◌then◌else◌, List, [], ◌∷◌, ◌++◌, codes, fold, map, Option, None, Some, Result, Ok, Err, ⊤}
use Rattle.std.specs.Option.{unwrap_or}
use Rattle.cms_names.specs.declared.name.Format.{Format}
use Rattle.cms_names.specs.declared.name.Format.TheVariants as format
use Rattle.cms_names.specs.declared.name.Name.{Name}
use Rattle.cms_fields.specs.Moments.{stamp_of}
use Rattle.cms_fields.specs.Steps.{◌>>=◌, ◌>>◌}
use Rattle.cms_text.specs.Texts.{coded}
use Rattle.cms_model.specs.Changes.{Change, Put, Add}
use Rattle.cms_model.specs.Minidisks.{File}
use Rattle.cms_model.specs.Acts.{Act}
use Rattle.cms_line.specs.declared.token.Token.{Token}
use Rattle.cms_operands.specs.Choices.{chosen_of, flag}
use Rattle.cms_operands.specs.Operands.{ended, operands_of}
use Rattle.cms_operands.specs.Optional.{pattern_or_all, reading_mode_or_a}
use Rattle.cms_operands.specs.declared.options.ChosenOption.{ChosenOption}
use Rattle.cms_operands.specs.declared.options.OptionForm.{OptionForm}
use Rattle.cms_operands.specs.declared.refusal.Refusal.{Refusal}
use Rattle.cms_search.specs.Machine.{Machine, Course, letter_at, typing}
use Rattle.cms_search.specs.Refusals.{on_line}
use Rattle.cms_search.specs.Searches.{Shelf, fitting, search, shelves_in}
use Rattle.cms_search.specs.declared.fault.SearchFault.{SearchFault}
use Rattle.cms_search.specs.declared.search.Found.{Found}
use Rattle.cms_files.specs.Files.{UnitFile, file_on, on_found, some_found, writable}
use Rattle.cms_files.specs.Gathered.{record_in}
use Rattle.cms_files.specs.Identifiers.{exec_kind}
use Rattle.cms_files.specs.StackedLines.{stacking}
use Rattle.cms_files.specs.Updates.{last_update, went}
use Rattle.cms_files.specs.declared.stack.StackEnd.TheVariants.{Front, Back}
use Rattle.cms_listfile.specs.Lines.{count_of, header, lines_of, whole_years}
use Rattle.cms_listfile.specs.declared.columns.Columns.{Columns}
use Rattle.cms_listfile.specs.declared.columns.Columns.TheVariants as to
use Rattle.cms_listfile.specs.declared.columns.Years.TheVariants.{Short}
use Rattle.cms_listfile.specs.declared.listfile.Delivery.{Delivery}
use Rattle.cms_listfile.specs.declared.listfile.Delivery.TheVariants as goes
use Rattle.cms_listfile.specs.declared.listfile.ListChoices.{ListChoices}
use Rattle.cms_listfile.specs.declared.listfile.ListFiles.{ListFiles}
use Rattle.cms_listfile.specs.declared.listfile.ListLine.{ListLine}
use Rattle.cms_listfile.specs.declared.listfile.ListOption.{ListOption}
use Rattle.cms_listfile.specs.declared.listfile.ListOption.TheVariants as option
use Rattle.cms_listfile.specs.declared.listfile.ListStyle.{ListStyle}

-- ---- the line

-- two patterns and a mode: * * A
unfoldable pub list_operands : List Token → Result ListFiles Refusal
list_operands operands = do
  file ← pattern_or_all operands 1
  kind ← pattern_or_all operands 2
  mode ← reading_mode_or_a operands 3
  ended operands 4
  Ok (record { file = file; kind = kind; mode = mode })

-- LISTFILE's options
abbrev pub options : List (OptionForm ListOption)
options =
    flag option.Header (codes "HEADER  ") 1 ∷ flag option.NoHeader (codes "NOHEADER") 3
    ∷ flag option.Fname (codes "FNAME   ") 2 ∷ flag option.Ftype (codes "FTYPE   ") 2
    ∷ flag option.Fmode (codes "FMODE   ") 2 ∷ flag option.Format (codes "FORMAT  ") 2
    ∷ flag option.Alloc (codes "ALLOC   ") 2 ∷ flag option.Date (codes "DATE    ") 1
    ∷ flag option.Label (codes "LABEL   ") 1 ∷ flag option.Stack (codes "STACK   ") 2
    ∷ flag option.Fifo (codes "FIFO    ") 2 ∷ flag option.Lifo (codes "LIFO    ") 2
    ∷ flag option.Exec (codes "EXEC    ") 2 ∷ flag option.Append (codes "APPEND  ") 2
    ∷ flag option.Fulldate (codes "FULLDATE") 3 ∷ []

-- without options the columns go to the mode, and the lines are typed; FIFO unless LIFO
abbrev pub no_choices : ListChoices
no_choices = record { last = to.Mode; whole_years = false; header = None; delivery = goes.Typed; end = Back; appends = false }

-- what the options say, with one more. The last of STACK, FIFO, LIFO, EXEC and APPEND says where the lines go: STACK to the end that
-- FIFO or LIFO said before, EXEC into the file as APPEND said before
abbrev pub choices_by : ListChoices → ListOption → ListChoices
choices_by c option.Header = record c { header = Some true }
choices_by c option.NoHeader = record c { header = Some false }
choices_by c option.Fname = record c { last = to.Name }
choices_by c option.Ftype = record c { last = to.Kind }
choices_by c option.Fmode = record c { last = to.Mode }
choices_by c option.Format = record c { last = to.Format }
choices_by c option.Alloc = record c { last = to.Alloc }
choices_by c option.Date = record c { last = to.Date Short }
choices_by c option.Label = record c { last = to.Label Short }
choices_by c option.Stack = record c { delivery = goes.Stacked c.end }
choices_by c option.Fifo = record c { delivery = goes.Stacked Back; end = Back }
choices_by c option.Lifo = record c { delivery = goes.Stacked Front; end = Front }
choices_by c option.Exec = record c { delivery = goes.Written c.appends }
choices_by c option.Append = record c { delivery = goes.Written true; appends = true }
choices_by c option.Fulldate = record c { whole_years = true }

-- the same, by an option that was chosen
abbrev pub choices_with : ListChoices → ChosenOption ListOption → ListChoices
choices_with c chosen = choices_by c chosen.option

-- with FULLDATE the date has the whole year, and the columns go to it at least
abbrev pub columns_of : ListChoices → Columns
columns_of c = if c.whole_years then whole_years c.last else c.last

-- the header is on from FORMAT on; HEADER and NOHEADER set it
abbrev pub header_of : Columns → Option Bool → Bool
header_of last given = unwrap_or given (nat_le (count_of to.Format) (count_of last))

-- how they say that files are listed
abbrev pub style_by : ListChoices → ListStyle
style_by c = record { columns = columns_of c; header = header_of (columns_of c) c.header; delivery = c.delivery }

-- how the options say that files are listed
abbrev pub style_of : List (ChosenOption ListOption) → ListStyle
style_of chosen = style_by (fold choices_with no_choices chosen)

-- what LISTFILE's line says, or the first refusal
abbrev pub list_line : List Token → Result ListLine Refusal
list_line words = do
  files ← list_operands (operands_of words)
  chosen ← chosen_of options words
  Ok (record { files = files; style = style_of chosen })

-- ---- lines that are written

-- CMS EXEC on disk A
abbrev pub written_name : Name
written_name = record { file = coded (codes "CMS"); kind = exec_kind }

-- the letter on which CMS EXEC is written
abbrev pub disk_a : ℕ
disk_a = 0

-- the record length of a new CMS EXEC
abbrev pub written_length : ℕ
written_length = 80

-- for each file a line that gives two arguments before it
abbrev pub procedure_lines : List (List ℕ) → List (List ℕ)
procedure_lines lines = map (λ line. coded (codes "&1 &2 ") ++ line) lines

-- the records that lines are in a file of this format
abbrev pub records_in : Format → ℕ → List (List ℕ) → List (List ℕ)
records_in format size lines = map (record_in format size) lines

-- a new procedure of fixed records of 80 bytes, with mode number 1
abbrev pub new_procedure : Machine → List (List ℕ) → File
new_procedure s lines = record {
  name = written_name;
  number = 1;
  format = format.F;
  length = written_length;
  stamp = stamp_of s.moment;
  records = records_in format.F written_length (coded (codes "&TRACE OFF") ∷ procedure_lines lines);
}

-- lines that are added to the procedure, as records of its format and length
abbrev pub added_lines : Machine → Format → ℕ → List (List ℕ) → Change
added_lines s format size lines = Add written_name (records_in format size (procedure_lines lines)) (stamp_of s.moment)

-- with APPEND the lines are added to the file, where it is there
abbrev pub written_change : Machine → Bool → List (List ℕ) → Result UnitFile SearchFault → Change
written_change s false lines x = Put (new_procedure s lines)
written_change s true lines (Err why) = Put (new_procedure s lines)
written_change s true lines (Ok x) = added_lines s x.file.format x.file.length lines

-- one update of disk A
abbrev pub writing : Machine → Bool → List (List ℕ) → Act Course
writing s append lines = last_update s disk_a (written_change s append lines (file_on s written_name (letter_at s disk_a)))

-- ---- the command

-- the lines, below a header where one is wanted
abbrev pub with_header : ListStyle → List (List ℕ) → List (List ℕ)
with_header style lines = if style.header then header style.columns ∷ lines else lines

-- the lines are typed, or stacked, with their header; or they are written without one
abbrev pub delivering : Machine → ListStyle → Delivery → List (List ℕ) → Act Course
delivering s style goes.Typed lines = typing (with_header style lines) (went s)
delivering s style (goes.Stacked end) lines = stacking s end (with_header style lines)
delivering s style (goes.Written append) lines = writing s append lines

-- lines that are written need disk A: 069, 037
abbrev pub may_write : Result Shelf SearchFault → Result ⊤ SearchFault
may_write (Ok shelf) = Ok tt
may_write (Err why) = Err why

-- disk A may be written, where lines are written to it
abbrev pub has_disk : Machine → Delivery → Result ⊤ SearchFault
has_disk s goes.Typed = Ok tt
has_disk s (goes.Stacked end) = Ok tt
has_disk s (goes.Written append) = may_write (writable (shelves_in s) disk_a)

-- the files that two patterns and a mode find, letter by letter: 069, then that of the disk that is written, 002
abbrev pub files_listed : Machine → ListLine → Result (List Found) SearchFault
files_listed s line = do
  found ← search (shelves_in s) line.files.mode (fitting line.files.file line.files.kind)
  has_disk s line.style.delivery
  some_found found

-- the files that the line means are listed, and delivered as it says; or 069 or 002
abbrev pub list_files : Machine → List Token → ListLine → Act Course
list_files s words line =
    on_found s words 1 (λ found. delivering s line.style line.style.delivery (lines_of s line.style.columns found)) (files_listed s line)

-- files are listed: 069, 037, 002, 120, 107, 105
abbrev pub listfile : Machine → List Token → Act Course
listfile s words = on_line s words (list_files s words) (list_line words)
