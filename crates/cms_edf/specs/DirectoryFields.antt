-- The bytes of a directory, entry by entry.
use Rattle.std.specs.Prelude.{ℕ, zero, suc, ◌*◌, List, map, replicate, Option, None, Some, slice_get}
use Rattle.std.specs.List.{concat, range_with_len}
use Rattle.cms_fields.specs.Entries.{entry_bytes}
use Rattle.cms_fields.specs.declared.entry.Entry.{Entry}

-- the bytes of the entry of a file, or zeros where there is none
abbrev pub file_or_zeros : Option Entry → List ℕ
file_or_zeros None = replicate 64 0
file_or_zeros (Some e) = entry_bytes e

-- those of the entry of a number: the directory's own, the map's, a file's, or zeros behind them
abbrev pub field_at : List ℕ → List ℕ → List Entry → ℕ → List ℕ
field_at own map entries zero = own
field_at own map entries (suc zero) = map
field_at own map entries (suc (suc k)) = file_or_zeros (slice_get entries k)

-- the bytes of a data block of so many entries
abbrev pub block_fields : List ℕ → List ℕ → List Entry → ℕ → ℕ → List ℕ
block_fields own maps entries each block =
    concat (map (field_at own maps entries) (range_with_len (block * each) each))
