-- What the code page says, over the whole of it.
use Rattle.std.specs.Prelude.{◌≡◌, ◌↔◌, ℕ, ◌+◌, ◌-◌, ◌<◌, ◌≤◌, Some, IsSome, if◌then◌else◌}
use Rattle.cms_ebcdic.specs.CodePage.{code_of, character_of, host_of, upper_of, lower_of, is_small, is_capital}

-- the two directions are one table: in each, what the other gives comes back
abbrev pub IsOneTable : Type 0
IsOneTable = (character code : ℕ) → character < 256 → code < 256 → (character_of code ≡ Some character) ↔ (code_of character ≡ Some code)

-- the printable characters have codes, and they alone
abbrev pub HasPrintable : Type 0
HasPrintable = (character : ℕ) → character < 256 → IsSome (code_of character) ↔ ((32 ≤ character) × (character ≤ 126))

-- the character of a code is typed as itself
abbrev pub TypesBack : Type 0
TypesBack = (character code : ℕ) → character < 256 → code_of character ≡ Some code → host_of code ≡ character

-- the folds change the 26 letters alone
abbrev pub FoldsLetters : Type 0
FoldsLetters = (code : ℕ) → code < 256 → (upper_of code ≡ (if is_small code then code + 0x40 else code))
    × (lower_of code ≡ (if is_capital code then code - 0x40 else code))
