-- The decks that a virtual reader holds.
use Rattle.std.specs.Prelude.{ℕ}

-- the most decks of a reader
abbrev pub most_decks : ℕ
most_decks = 20
