-- A buffer: the lines of a file that is edited, and the current one among them.
use Rattle.std.specs.Prelude.{ℕ, ◌+◌, ◌-◌, min, List, ◌++◌, length, set, take, drop, Option, slice_get}
use Rattle.std.specs.List.{insert}
use Rattle.cms_text.specs.Texts.{Text}

-- the lines, and the number of the current one; lines count from 1, and 0 is the place before the first
pub record Buffer : Type 0 where
  pub lines : List Text
  pub current : ℕ

-- the most lines of a buffer
abbrev pub most_lines : ℕ
most_lines = 10000

-- another line is the current one
abbrev pub at : ℕ → Buffer → Buffer
at current b = record b { current = current }

-- the current line is so many lines further down, at most the last
abbrev pub moved_down : ℕ → Buffer → Buffer
moved_down count b = at (min (length b.lines) (b.current + count)) b

-- the current line is so many lines further up, at least the place before the first
abbrev pub moved_up : ℕ → Buffer → Buffer
moved_up count b = at (b.current - count) b

-- the text of the current line, where there is one
abbrev pub current_line : Buffer → Option Text
current_line b = slice_get b.lines (b.current - 1)

-- so many lines from the current one on, as far as they are there
abbrev pub lines_from : ℕ → Buffer → List Text
lines_from count b = drop (b.current - 1) (take (b.current + count - 1) b.lines)

-- a line is added behind the current one, and is current then
abbrev pub inserted : Text → Buffer → Buffer
inserted line b = record { lines = insert b.lines b.current line; current = b.current + 1 }

-- the current line is this one
abbrev pub replaced : Text → Buffer → Buffer
replaced line b = record b { lines = set b.lines (b.current - 1) line }

-- so many lines from the current one on are gone
abbrev pub lines_without : ℕ → Buffer → List Text
lines_without count b = take (b.current - 1) b.lines ++ drop (b.current + count - 1) b.lines

-- they are gone, and the line behind them is current, or the last
abbrev pub removed : ℕ → Buffer → Buffer
removed count b =
    record { lines = lines_without count b; current = min b.current (length (lines_without count b)) }
