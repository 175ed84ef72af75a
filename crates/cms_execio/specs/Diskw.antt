-- DISKW: lines are written into a file.
use Rattle.std.specs.Prelude.{ℕ, zero, suc, ◌==◌, if◌then◌else◌, List, [], ◌∷◌, ◌++◌, replicate, Option, Some, None, Result, Ok, Err}
use Rattle.cms_names.specs.declared.name.Format.TheVariants as format
use Rattle.cms_names.specs.declared.name.Name.{Name}
use Rattle.cms_fields.specs.Moments.{stamp_of}
use Rattle.cms_model.specs.Changes.{Change, Put, Add}
use Rattle.cms_model.specs.Minidisks.{File}
use Rattle.cms_model.specs.Records.{longest}
use Rattle.cms_model.specs.Acts.{Act, Done, bind}
use Rattle.cms_line.specs.declared.token.Token.{Token}
use Rattle.cms_search.specs.Asks as asking
use Rattle.cms_search.specs.Asks.{Asked, ask}
use Rattle.cms_search.specs.Machine.{Machine, Course, OutOfTurns, letter_at}
use Rattle.cms_search.specs.Searches.{Shelf, shelves_in}
use Rattle.cms_search.specs.declared.fault.SearchFault.{SearchFault}
use Rattle.cms_files.specs.Files.{UnitFile, file_on, on_found, writable}
use Rattle.cms_files.specs.Updates.{last_update, went}
use Rattle.cms_execio.specs.Records.{records_of}
use Rattle.cms_execio.specs.declared.line.WriteTarget.{WriteTarget}

-- ---- the lines

-- what asking for lines comes to: all of them, with the machine that is left, or the turns are spent and a further one is due
pub data AskedLines : Type 0 where
  All : Machine → List (List ℕ) → AskedLines
  Spent : AskedLines

-- goes on with the line that was given; or the turns are spent
abbrev pub with_line : (Machine → List ℕ → Act AskedLines) → Asked → Act AskedLines
with_line next (asking.Given s line) = next s line
with_line next asking.Spent = Done Spent

-- so many lines more are asked for, one after another
unfoldable pub asking_lines : ℕ → List (List ℕ) → Machine → Act AskedLines
asking_lines zero lines s = Done (All s lines)
asking_lines (suc n) lines s = bind (ask s) (with_line (λ now line. asking_lines n (lines ++ line ∷ []) now))

-- with STRING none is asked for
abbrev pub lines_for : Machine → WriteTarget → Option (List ℕ) → Act AskedLines
lines_for s target None = asking_lines target.count [] s
lines_for s target (Some text) = Done (All s (replicate target.count text))

-- ---- the update

-- a new file of varying records, with mode number 1
abbrev pub new_file : Machine → Name → List (List ℕ) → File
new_file s name records = record {
  name = name;
  number = 1;
  format = format.V;
  length = longest records;
  stamp = stamp_of s.moment;
  records = records;
}

-- the lines are added to a file that is there, else they are a new one
abbrev pub written_change : Machine → Name → List (List ℕ) → Result UnitFile SearchFault → Change
written_change s name lines (Err why) = Put (new_file s name (records_of format.V 0 lines))
written_change s name lines (Ok x) = Add name (records_of x.file.format x.file.length lines) (stamp_of s.moment)

-- one update: 120, 107, 105
abbrev pub writing : WriteTarget → Machine → List (List ℕ) → Act Course
writing target s lines =
    last_update s target.mode.letter (written_change s target.name lines (file_on s target.name (letter_at s target.mode.letter)))

-- the lines are written; or the turns are spent
abbrev pub on_asked : WriteTarget → AskedLines → Act Course
on_asked target (All s lines) = writing target s lines
on_asked target Spent = Done OutOfTurns

-- for no lines nothing is asked or written
abbrev pub write_lines : Machine → WriteTarget → Option (List ℕ) → Shelf → Act Course
write_lines s target text shelf = if target.count == 0 then went s else bind (lines_for s target text) (on_asked target)

-- lines are written into a file of a disk: 069, 037, then lines are asked for
abbrev pub disk_write : Machine → List Token → WriteTarget → Option (List ℕ) → Act Course
disk_write s words target text = on_found s words 3 (write_lines s target text) (writable (shelves_in s) target.mode.letter)
