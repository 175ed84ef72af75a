-- The limit of minidisks.
use Rattle.std.specs.Prelude.{ℕ}

-- the most blocks of a minidisk; those behind them on a unit aren't looked at
abbrev pub most_blocks : ℕ
most_blocks = 1048576
