-- The mode of an input that is read: which letter is searched first, and which files are admitted.
use Rattle.std.specs.Prelude.{ℕ, ◌==◌, Bool, true, Option, Some, None}
use Rattle.cms_operands.specs.declared.mode.ReadMode.{ReadMode}
use Rattle.cms_operands.specs.declared.mode.ReadMode.TheVariants as mode

-- the letter that a mode searches first, where there is one
abbrev pub base_of : ReadMode → Option ℕ
base_of mode.Any = None
base_of (mode.Letter n) = Some n
base_of (mode.Numbered n k) = Some n

-- a mode with a number admits the files of that number alone
abbrev pub admits : ReadMode → ℕ → Bool
admits mode.Any number = true
admits (mode.Letter n) number = true
admits (mode.Numbered n k) number = number == k
