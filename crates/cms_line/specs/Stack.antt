-- The program stack.
use Rattle.std.specs.Prelude.{ℕ}

-- the most lines that it holds
abbrev pub most_lines : ℕ
most_lines = 10000
