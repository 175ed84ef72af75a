-- What the code page says, over the whole of it.
use Rattle.std.specs.Prelude.{◌≡◌, ℕ, ◌<◌, Some}
use Rattle.cms_ebcdic.specs.CodePage as printable
use Rattle.mini_forms.specs.Page.{character_of, code_of}

-- the two directions are one table: in each, what the other gives comes back
abbrev pub IsOneTable : Type 0
IsOneTable = (x : ℕ) → x < 256 → (code_of (character_of x) ≡ x) × (character_of (code_of x) ≡ x)

-- the 95 printable characters of ASCII have the codes that they are typed with
abbrev pub HasPrintable : Type 0
HasPrintable = (character code : ℕ) → character < 256 → printable.code_of character ≡ Some code → code_of character ≡ code
