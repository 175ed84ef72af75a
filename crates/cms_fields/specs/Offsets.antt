-- How far civil time is from that of Greenwich.
use Rattle.std.specs.Prelude.{ℤ}
use Rattle.jiff.specs.Words.{IsWithin}

-- civil time is ahead of UTC by at most 15 hours either way, in seconds
abbrev pub IsOffset : ℤ → Type 0
IsOffset offset = IsWithin 54000 offset
