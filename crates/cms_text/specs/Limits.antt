-- The limit of lines and words.
use Rattle.std.specs.Prelude.{ℕ}

-- the most bytes of a line or a word
abbrev pub longest_text : ℕ
longest_text = 255
