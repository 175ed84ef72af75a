-- What a subcommand does to the buffer, what it says, and its code.
use Rattle.std.specs.Prelude.{◌≡◌, ◌≢◌, ℕ, ◌+◌, ◌==◌, ◌≤◌, nat_le, Bool, true, false, ◌&&◌, if◌then◌else◌, List, [], ◌∷◌, ◌++◌, length, take, drop, position, Option, Some, None, ℤ, pos, nat_eq}
use Rattle.std.specs.List.{starts_with}
use Rattle.std.specs.Option.{option_and_then, option_map, is_some}
use Rattle.cms_text.specs.Limits.{longest_text}
use Rattle.cms_text.specs.Texts.{Text}
use Rattle.cms_model.specs.Objects.{Reply, Start, Sub, Went, Got, Records, Refused}
use Rattle.cms_edit.specs.declared.edit.Outcome.{Outcome}
use Rattle.cms_edit.specs.declared.edit.Outcome.TheVariants as outcome
use Rattle.cms_edit.specs.Buffers.{Buffer, at, current_line, inserted, lines_from, most_lines, moved_down, moved_up, removed, replaced}
use Rattle.cms_edit.specs.Subcommands.{Subcommand, Top, Bottom, Next, Up, TypeLines, Input, Replace, Delete, Locate, Change, Save, End, subcommand_of}

-- the place at which a text of some bytes first stands in a line
unfoldable pub place_in : Text → Text → Option ℕ
place_in text [] = None
place_in text (byte ∷ bytes) =
    if starts_with nat_eq (byte ∷ bytes) text then Some 0
    else option_map (λ place. place + 1) (place_in text bytes)

-- the text stands in the line
abbrev pub contains : Text → Text → Bool
contains text line = is_some (place_in text line)

-- the line with one text in place of another's first place
abbrev pub with_text : Text → Text → Text → ℕ → Text
with_text from to line place = take place line ++ (to ++ drop (place + length from) line)

-- the same, where the other stands in it
abbrev pub changed_line : Text → Text → Text → Option Text
changed_line from to line = option_map (with_text from to line) (place_in from line)

-- a line has 1 to 255 bytes
abbrev pub is_line : Text → Bool
is_line text = nat_le 1 (length text) && nat_le (length text) longest_text

-- ---- what comes of a subcommand

-- the buffer then, the lines that are said, whether the buffer is put to its file, and the code
pub record Edited : Type 0 where
  pub buffer : Buffer
  pub said : List Text
  pub put : Bool
  pub code : ℤ

-- this is the buffer and the code, and nothing else comes of it
abbrev pub ended : Buffer → ℤ → Edited
ended b code = record { buffer = b; said = []; put = false; code = code }

-- it is done
abbrev pub goes_on : Buffer → Edited
goes_on b = ended b (pos 0)

-- nothing is changed, and this is its code
abbrev pub stays : Buffer → ℕ → Edited
stays b code = ended b (pos code)

-- the code of what can't be done
abbrev pub unable : ℕ
unable = 24

-- the code where a text isn't found
abbrev pub not_found : ℕ
not_found = 28

-- the code where there is no room for a line
abbrev pub no_room : ℕ
no_room = 40

-- there must be a current line
abbrev pub on_line : Buffer → Edited → Edited
on_line b edited = if b.current == 0 then stays b unable else edited

-- a line is added, unless there are as many as there may be
abbrev pub input : Buffer → Text → Edited
input b line = if nat_le most_lines (length b.lines) then stays b no_room else goes_on (inserted line b)

-- so many lines behind the current one is the next that contains a text, if any does
abbrev pub located : Buffer → Option ℕ → Edited
located b None = stays b not_found
located b (Some place) = goes_on (at (b.current + place + 1) b)

-- how many lines stand between the current one and the next that contains a text
abbrev pub found_below : Buffer → Text → Option ℕ
found_below b text = position (contains text) (drop b.current b.lines)

-- the next line that contains a text is current
abbrev pub locate : Buffer → Text → Edited
locate b text = located b (found_below b text)

-- the current line is the changed one, if it may be a line
abbrev pub with_changed : Buffer → Option Text → Edited
with_changed b None = stays b not_found
with_changed b (Some line) = if is_line line then goes_on (replaced line b) else stays b unable

-- the current line with one text in place of another, where that stands in it
abbrev pub changed_current : Buffer → Text → Text → Option Text
changed_current b from to = option_and_then (changed_line from to) (current_line b)

-- one text becomes another in the current line
abbrev pub change : Buffer → Text → Text → Edited
change b from to =
    if length from == 0 then stays b unable else with_changed b (changed_current b from to)

-- the buffer is put, if it has a line, with the code that is told then
abbrev pub save : Buffer → ℤ → Edited
save b told =
    if length b.lines == 0 then stays b unable
    else record { buffer = b; said = []; put = true; code = told }

-- what a subcommand does; where the buffer is put this code is told
unfoldable pub done_by : Buffer → Subcommand → ℤ → Edited
done_by b Top told = goes_on (at 0 b)
done_by b Bottom told = goes_on (at (length b.lines) b)
done_by b (Next count) told = goes_on (moved_down count b)
done_by b (Up count) told = goes_on (moved_up count b)
done_by b (TypeLines count) told = record { buffer = b; said = lines_from count b; put = false; code = pos 0 }
done_by b (Input text) told = input b text
done_by b (Replace text) told = on_line b (goes_on (replaced text b))
done_by b (Delete count) told = on_line b (goes_on (removed count b))
done_by b (Locate text) told = locate b text
done_by b (Change from to) told = on_line b (change b from to)
done_by b Save told = save b told
done_by b End told = goes_on b

-- the same, where it may be no subcommand
abbrev pub done_by_any : Buffer → ℤ → Option Subcommand → Edited
done_by_any b told None = stays b unable
done_by_any b told (Some subcommand) = done_by b subcommand told

-- the same of a line
abbrev pub edit_told : Buffer → Text → ℤ → Edited
edit_told b line told = done_by_any b told (subcommand_of line)

-- ---- the program's own

-- what has come of a subcommand, where this is the buffer then; where it is put this code is told
abbrev pub came : Buffer → ℤ → Outcome → Edited
came b told (outcome.Code code) = ended b code
came b told (outcome.Said lines) = record { buffer = b; said = lines; put = false; code = pos 0 }
came b told outcome.Put = record { buffer = b; said = []; put = true; code = told }

-- the buffer stays where a code says that it isn't done
abbrev pub StaysAt : Buffer → Buffer → ℤ → Type 0
StaysAt old new code = code ≢ pos 0 → new ≡ old

-- it stays so, where lines are said, and where it is put, which has a line then
abbrev pub Stays : Buffer → Buffer → Outcome → Type 0
Stays old new (outcome.Code code) = StaysAt old new code
Stays old new (outcome.Said lines) = new ≡ old
Stays old new outcome.Put = (new ≡ old) × (1 ≤ length new.lines)

-- ---- replies

-- the code that the reply to a put tells: 0 where it went, and else the refusal's own
abbrev pub code_told : Reply → ℤ
code_told Went = pos 0
code_told (Refused code) = code
code_told (Start line) = pos unable
code_told (Sub text) = pos unable
code_told (Got line) = pos unable
code_told (Records records) = pos unable

-- what a line does to a buffer, where this is the reply if the buffer is put
abbrev pub edit : Buffer → Text → Reply → Edited
edit b line reply = edit_told b line (code_told reply)
