-- &LOOP, and the passes of loops (VM/SP EXEC 2 Reference, &LOOP).
use Rattle.std.specs.Prelude.{ℕ, ◌+◌, ◌==◌, nat_le, nat_lt, zero, suc, Bool, true, false, not, ◌&&◌, if◌then◌else◌, List, [], ◌∷◌, length, codes, Option, Some, None, ok_or, Result, Ok, Err, ℤ, pos, negsuc}
use Rattle.std.specs.Str.{bytes_eq}
use Rattle.cms_fields.specs.Steps.{◌>>=◌, ◌>>◌}
use Rattle.cms_fields.specs.declared.time.Moment.{Moment}
use Rattle.cms_text.specs.Texts.{Text, is_keyword}
use Rattle.exec2_parse.specs.Expansion.{Binding}
use Rattle.cms_text.specs.Numbers.{number_of}
use Rattle.exec2_run.specs.Comparisons.{comparison_of, test_holds}
use Rattle.exec2_run.specs.Given.{seen_at}
use Rattle.exec2_run.specs.Jumps.{label_from, place_below}
use Rattle.exec2_run.specs.Given.{seen}
use Rattle.exec2_run.specs.Open.{with_pass}
use Rattle.exec2_run.specs.State.{Exec, Step}
use Rattle.exec2_run.specs.Values.{ended, missing, operands, value}
use Rattle.exec2_parse.specs.Words.{is_label}
use Rattle.exec2_run.specs.declared.loops.Loop.{Loop}
use Rattle.exec2_run.specs.declared.loops.Passes.{Passes}
use Rattle.exec2_run.specs.declared.loops.Passes.TheVariants.{Left, Forever, While, Until}
use Rattle.exec2_run.specs.declared.loops.Test.{Test}
use Rattle.exec2_run.specs.declared.want.Want.TheVariants.{Next}
use Rattle.exec2_run.specs.declared.fault.Fault.{Fault}
use Rattle.exec2_run.specs.declared.fault.Fault.TheVariants.{NotNumber, BadStatement, NoLabel, TooDeep}

-- ---- the statement

-- a word and those behind it, unless the word is empty
abbrev pub first_by : Text → List Text → Result (Text × List Text) Fault → Result (Text × List Text) Fault
first_by [] words otherwise = otherwise
first_by (byte ∷ bytes) words otherwise = Ok (byte ∷ bytes, words)

-- the first word that doesn't become nothing, expanded, and the words behind it
unfoldable pub first_of : Binding → List Text → Result (Text × List Text) Fault
first_of names [] = Err BadStatement
first_of names (word ∷ words) = do
  text ← value names word
  first_by text words (first_of names words)

-- the range goes up to a label below, and has its line in it
abbrev pub behind : Option ℕ → Result ℕ Fault
behind (Some place) = Ok (place + 1)
behind None = Err NoLabel

-- the line behind the label below
abbrev pub end_at_label : Exec → Text → Result ℕ Fault
end_at_label s label = behind (label_from label s.next s.lines)

-- or it is so many lines, at least one
abbrev pub end_of_count : Exec → Option ℤ → Result ℕ Fault
end_of_count s (Some (pos zero)) = Err NotNumber
end_of_count s (Some (pos (suc n))) = place_below s (suc n)
end_of_count s (Some (negsuc n)) = Err NotNumber
end_of_count s None = Err NotNumber

-- the place past the range
abbrev pub end_of_range : Exec → Text → Result ℕ Fault
end_of_range s word = if is_label word then end_at_label s word else end_of_count s (number_of word)

-- a comparison, which is expanded at each test
abbrev pub test_in : Binding → List Text → Result Test Fault
test_in names (left ∷ sign ∷ right ∷ others) = do
  comparison ← ok_or (comparison_of sign) BadStatement
  ended (operands names others).words (operands names others).is_cut
  Ok (record { left = left; comparison = comparison; right = right })
test_in names words = Err BadStatement

-- a number of times that is 0 or more
abbrev pub count_by : Option ℤ → Result Passes Fault
count_by (Some (pos n)) = Ok (Left n)
count_by (Some (negsuc n)) = Err NotNumber
count_by None = Err NotNumber

-- so often, or `*`
abbrev pub count_of : Text → Result Passes Fault
count_of word = if bytes_eq word (0x5C ∷ []) then Ok Forever else count_by (number_of word)

-- the times of a loop by its words
abbrev pub counted_by : List Text → Bool → Result Passes Fault
counted_by [] is_cut = Err (missing is_cut)
counted_by (count ∷ others) is_cut = do
  passes ← count_of count
  ended others is_cut
  Ok passes

-- the same, expanded
abbrev pub counted : Binding → List Text → Result Passes Fault
counted names words = counted_by (operands names words).words (operands names words).is_cut

-- a loop's WHILE with its comparison
abbrev pub while_in : Binding → List Text → Result Passes Fault
while_in names words = do
  test ← test_in names words
  Ok (While test)

-- a loop's UNTIL with its comparison
abbrev pub until_in : Binding → List Text → Result Passes Fault
until_in names words = do
  test ← test_in names words
  Ok (Until test)

-- how often the range is repeated
abbrev pub passes : Binding → List Text → Result Passes Fault
passes names [] = Err BadStatement
passes names (word ∷ words) =
    if is_keyword (codes "WHILE") word then while_in names words
    else (if is_keyword (codes "UNTIL") word then until_in names words
    else counted names (word ∷ words))

-- what is left of so many passes once one more begins
abbrev pub left : ℕ → Option Passes
left zero = None
left (suc n) = Some (Left n)

-- a further pass, where the test holds
abbrev pub if_holds : Bool → Passes → Option Passes
if_holds holds passes = if holds then Some passes else None

-- what is left once the first pass begins: a WHILE is tested before it
abbrev pub first_pass : Binding → Passes → Result (Option Passes) Fault
first_pass names (Left n) = Ok (left n)
first_pass names Forever = Ok (Some Forever)
first_pass names (While test) = do
  holds ← test_holds names test
  Ok (if_holds holds (While test))
first_pass names (Until test) = Ok (Some (Until test))

-- without a pass the next line is the one past the range; at most 100 loops are open
abbrev pub opened_by : Exec → ℕ → Option Passes → Step
opened_by s past None = Ok (record s { next = past }, Next)
opened_by s past (Some passes) =
    if nat_le 100 (length s.loops) then Err TooDeep
    else Ok (record s { loops = record { line = s.line; first = s.next; past = past; passes = passes } ∷ s.loops }, Next)

-- a loop begins with its first pass, or is passed over
unfoldable pub opened : Exec → ℕ → Passes → Step
opened s past passes = do
  first ← first_pass (seen s) passes
  opened_by s past first

-- a loop over a range, as often as its words say
abbrev pub range_looped : Exec → Text → List Text → Step
range_looped s range words = do
  past ← end_of_range s range
  often ← passes (seen s) words
  opened s past often

-- &LOOP n m, &LOOP -label m
unfoldable pub looped : Exec → List Text → Step
looped s words = do
  first ← first_of (seen s) words
  range_looped s first.0 first.1

-- ---- between two statements

-- whether another pass begins: both WHILE and UNTIL are tested between two passes, with the line of the &LOOP as &LINE
abbrev pub begins_by : Binding → Passes → Result Bool Fault
begins_by names (Left n) = Ok (not (n == 0))
begins_by names Forever = Ok true
begins_by names (While test) = test_holds names test
begins_by names (Until test) = do
  holds ← test_holds names test
  Ok (not holds)

-- a further pass of a loop begins
abbrev pub begins : Moment → Exec → Loop → Result Bool Fault
begins moment s loop = begins_by (seen_at s loop.line moment) loop.passes

-- the place stands in the range
abbrev pub has : Loop → ℕ → Bool
has loop place = nat_le loop.first place && nat_lt place loop.past

-- another pass begins
abbrev pub again : Exec → Loop → List Loop → Exec
again s loop loops = record s { next = loop.first; loops = with_pass (loop ∷ loops) }

-- the loop goes on, or ends and the outer ones follow; or its test has a fault
abbrev pub passed : Result Bool Fault → ℕ → Exec → Result Exec (Fault × ℕ) → Result Exec (Fault × ℕ)
passed (Ok true) line more outer = Ok more
passed (Ok false) line more outer = outer
passed (Err fault) line more outer = Err (fault, line)

-- where the next line is the one past the innermost range a pass is over: another begins, or the loop is dropped and the one around it
-- asked; where it lies elsewhere outside, the loop is dropped. A fault of a test is at the line of its &LOOP.
unfoldable pub settled_from : Moment → Exec → List Loop → Result Exec (Fault × ℕ)
settled_from moment s [] = Ok (record s { loops = [] })
settled_from moment s (loop ∷ loops) =
    if s.next == loop.past then passed (begins moment s loop) loop.line (again s loop loops) (settled_from moment s loops)
    else (if has loop s.next then Ok (record s { loops = loop ∷ loops }) else settled_from moment s loops)

-- the open loops, tested where their ranges are left
abbrev pub settled_loops : Moment → Exec → Result Exec (Fault × ℕ)
settled_loops moment s = settled_from moment s s.loops

-- the first so many loops are dropped, and of those that are left the innermost begins another pass or not
abbrev pub left_open : Exec → Bool → List Loop → Exec
left_open s more [] = record s { loops = [] }
left_open s more (loop ∷ loops) = if more then again s loop loops else record s { loops = loop ∷ loops }
