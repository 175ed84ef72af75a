-- The data blocks of a directory by the entries that stand in them, and how many blocks are taken for a directory of which some are
-- written.
use Rattle.std.specs.Prelude.{ℕ, ◌+◌, ◌-◌, ◌*◌, ◌/◌, List, map}
use Rattle.std.specs.List.{filter, range_with_len}
use Rattle.cms_fields.specs.Numbers.{up}
use Rattle.cms_model.specs.Lists.{holds}
use Rattle.cms_model.specs.SharedTrees.{fresh_count, released_count}

-- the data block in which the entry of a number stands, from 0; that of the first file has number 2
abbrev pub entry_block : ℕ → ℕ → ℕ
entry_block bsize number = number / (bsize / 64)

-- the numbers of all entries of a directory of so many files
abbrev pub all_entries : ℕ → List ℕ
all_entries files = range_with_len 0 (files + 2)

-- the data blocks of a directory of so many files
abbrev pub directory_count : ℕ → ℕ → ℕ
directory_count bsize files = up (64 * (files + 2)) bsize

-- of so many data blocks those in which the entries of these numbers stand, ascending and each once
unfoldable pub blocks_with : ℕ → ℕ → List ℕ → List ℕ
blocks_with bsize count numbers =
    filter (holds (map (entry_block bsize) numbers)) (range_with_len 0 count)

-- the data blocks of a directory of so many files that are written where the entries of these numbers are made anew
abbrev pub blocks_made : ℕ → ℕ → List ℕ → List ℕ
blocks_made bsize files made = blocks_with bsize (directory_count bsize files) made

-- the free blocks that are taken for it where the directory before is one of `before` files; its first block has a place of its own
unfoldable pub directory_taken : ℕ → ℕ → ℕ → List ℕ → ℕ
directory_taken bsize before files made =
    fresh_count (bsize / 4) (directory_count bsize before) (directory_count bsize files)
    (blocks_made bsize files made) - 1

-- the blocks of the directory before that are given back, but for its first
unfoldable pub directory_released : ℕ → ℕ → ℕ → List ℕ → ℕ
directory_released bsize before files made =
    released_count (bsize / 4) (directory_count bsize before) (directory_count bsize files)
    (blocks_made bsize files made) - 1
