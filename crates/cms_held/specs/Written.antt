-- The entries that are written for a directory.
use Rattle.std.specs.Prelude.{◌≡◌, ◌≤◌, true, ℕ, List, [], ◌∷◌, ◌++◌, codes, length, map, Ok}
use Rattle.byteorder.specs.Endian.{big_bytes}
use Rattle.cms_text.specs.Texts.{coded}
use Rattle.cms_fields.specs.Stamps.{is_stamp}
use Rattle.cms_fields.specs.Entries.{entry_of, passes, entry_bytes}
use Rattle.cms_fields.specs.declared.entry.Entry.{Entry}
use Rattle.cms_model.specs.Volumes.{as_read}

-- the name of a system file: its number in four bytes, four zeros, and eight letters
abbrev pub system_name : ℕ → List ℕ → List ℕ
system_name number letters = big_bytes 4 number ++ (0 ∷ 0 ∷ 0 ∷ 0 ∷ coded letters)

-- the name in the directory's own entry
abbrev pub directory_name : List ℕ
directory_name = system_name 1 (codes "DIRECTOR")

-- the name in the map's entry
abbrev pub map_name : List ℕ
map_name = system_name 2 (codes "ALLOCMAP")

-- the entries of files
unfoldable pub file_entries : List Entry → List ℕ
file_entries [] = []
file_entries (e ∷ es) = entry_bytes e ++ file_entries es

-- entries as they are read
abbrev pub all_read : List Entry → List Entry
all_read entries = map as_read entries

-- an entry that may be written
abbrev pub CanWrite : Entry → Type 0
CanWrite e = (e.number ≤ 6) × (is_stamp e.stamp ≡ true)

-- the 64 bytes that are written for an entry spell it, where its fields pass
abbrev pub ReadsBack : Entry → Type 0
ReadsBack e = (length (entry_bytes e) ≡ 64) × ((bsize : ℕ) → passes bsize e ≡ true → entry_of bsize (entry_bytes e) ≡ Ok e)
