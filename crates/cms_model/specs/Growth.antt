-- A file whose stored bytes grow: which of its data blocks are written, and how many blocks it takes and gives back.
use Rattle.std.specs.Prelude.{ℕ, ◌-◌, ◌/◌, List}
use Rattle.std.specs.List.{range_with_len}
use Rattle.cms_names.specs.declared.name.Format.{Format}
use Rattle.cms_fields.specs.Entries.{fan_of}
use Rattle.cms_fields.specs.Numbers.{up}
use Rattle.cms_model.specs.SharedTrees.{fresh_count, released_count}

-- of a file of so many stored bytes, which has `count` data blocks then, the places of those that are written: that which the bytes fill
-- in part, and those behind it
abbrev pub places_grown : ℕ → ℕ → ℕ → List ℕ
places_grown bsize bytes count = range_with_len (bytes / bsize) (count - bytes / bsize)

-- the free blocks that a file needs whose stored bytes are so many before and so many after: its full data blocks are kept, and the
-- pointer blocks that end within these
unfoldable pub growth_taken : ℕ → Format → ℕ → ℕ → ℕ
growth_taken bsize format before after =
    fresh_count (fan_of bsize format) (up before bsize) (up after bsize) (places_grown bsize before (up after bsize))

-- the blocks that it gives back: those that it had and doesn't keep
unfoldable pub growth_given : ℕ → Format → ℕ → ℕ → ℕ
growth_given bsize format before after =
    released_count (fan_of bsize format) (up before bsize) (up after bsize) (places_grown bsize before (up after bsize))
