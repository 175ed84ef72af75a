-- Sizes: how many blocks a minidisk has in use, from its values alone.
use Rattle.std.specs.Prelude.{ℕ, zero, suc, ◌+◌, ◌-◌, ◌*◌, ◌/◌, ◌^◌, if◌then◌else◌, nat_le, List, length, sum_by}
use Rattle.cms_names.specs.declared.name.Format.{Format}
use Rattle.cms_names.specs.declared.name.Format.TheVariants.{F, V}
use Rattle.cms_fields.specs.Numbers.{up}
use Rattle.cms_fields.specs.Entries.{fan_of}
use Rattle.cms_model.specs.Minidisks.{File, Minidisk}

-- the least number of levels, from k on and with so many more to try, that has room for so many data blocks
unfoldable pub levels_from : ℕ → ℕ → ℕ → ℕ → ℕ
levels_from fan blocks k zero = k
levels_from fan blocks k (suc more) = if nat_le blocks (fan ^ k) then k else levels_from fan blocks (k + 1) more

-- the levels of pointer blocks over so many data blocks, fewer than 2^32 of them
unfoldable pub levels : ℕ → ℕ → ℕ
levels fan blocks = levels_from fan blocks 0 32

-- the pointer blocks of the lowest levels
unfoldable pub pointers_to : ℕ → ℕ → ℕ → ℕ
pointers_to fan blocks zero = 0
pointers_to fan blocks (suc k) = pointers_to fan blocks k + up blocks (fan ^ suc k)

-- the pointer blocks over so many data blocks
unfoldable pub pointer_count : ℕ → ℕ → ℕ
pointer_count fan blocks = pointers_to fan blocks (levels fan blocks)

-- data blocks and the pointer blocks over them
unfoldable pub tree_size : ℕ → ℕ → ℕ
tree_size fan blocks = blocks + pointer_count fan blocks

-- the stored bytes of records
unfoldable pub stored_size : Format → List (List ℕ) → ℕ
stored_size F records = sum_by length records
stored_size V records = sum_by (λ text. 2 + length text) records

-- the blocks of a file: its data blocks, and the pointer blocks over them
unfoldable pub file_size : ℕ → File → ℕ
file_size bsize f = tree_size (fan_of bsize f.format) (up (stored_size f.format f.records) bsize)

-- the blocks of a directory of so many files, besides its first
unfoldable pub directory_more : ℕ → ℕ → ℕ
directory_more bsize files = tree_size (bsize / 4) (up (64 * (files + 2)) bsize) - 1

-- the blocks of a map of so many blocks
unfoldable pub map_size : ℕ → ℕ → ℕ
map_size bsize total = tree_size (bsize / 4) (up (up total 8) bsize)

-- blocks 1 to 5, the rest of the directory, the map and the files
unfoldable pub used_count : Minidisk → ℕ
used_count m = 5 + directory_more m.bsize (length m.files) + map_size m.bsize m.total + sum_by (file_size m.bsize) m.files

-- the blocks that are neither in use nor lost
unfoldable pub free_count : Minidisk → ℕ
free_count m = m.total - used_count m - m.lost
