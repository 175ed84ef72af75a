-- The allocation map of an update that writes a part of it: which of its data blocks are written,
-- and that they are enough.
use Rattle.std.specs.Prelude.{◌≡◌, ℕ, ◌+◌, ◌/◌, ◌<◌, ◌≤◌, Bool, List, [], ◌∷◌, ◌++◌, length, take}
use Rattle.cms_journal.specs.Journal.{IsBlockSize}
use Rattle.cms_fields.specs.Numbers.{up}
use Rattle.cms_model.specs.Lists.{In}
use Rattle.cms_model.specs.Sizes.{map_size, pointer_count}
use Rattle.cms_map.specs.Bits.{HasFixed, free_blocks, with_marked}
use Rattle.cms_map.specs.Touched.{AreTouched}
use Rattle.cms_held.specs.HeldVolumes.{HeldTree}
use Rattle.cms_held.specs.Renewals.{blocks_in, with_freed}
use Rattle.cms_held.specs.MapPlaces.{BitsStay}
use Rattle.cms_held.specs.SharedBlocks.{fresh_of, released_of}

-- the second, but where the first are none
abbrev pub unless_none : List ℕ → List ℕ → List ℕ
unless_none [] blocks = []
unless_none (n ∷ ns) blocks = blocks

-- the blocks whose bits say what is written of the map, where these are taken for files and
-- directory and these given back: as many of the lowest free ones as the change needs, those that
-- are given back, and those of the map before; none where nothing is taken and given back
abbrev pub turned : ℕ → List Bool → List ℕ → List ℕ → HeldTree → List ℕ
turned need bits taken given map =
    unless_none (taken ++ given) (take need (free_blocks bits) ++ (given ++ blocks_in map))

-- the map of so many blocks, before and after, and its bits: of it are written the data blocks in
-- which the bits of those stand; all that is taken are the lowest free blocks, in order
pub record SharesMap (bsize total : ℕ) (old bits : List Bool) (taken given : List ℕ)
    (before map : HeldTree) (written : List ℕ) :
    Type 0 where
  pub size : IsBlockSize bsize
  pub old_count : length old ≡ total
  pub fixed : HasFixed old
  pub before_count : length before.leaves ≡ up (up total 8) bsize
  pub map_count : length map.leaves ≡ up (up total 8) bsize
  pub map_nodes : length map.pointers ≡ pointer_count (bsize / 4) (length map.leaves)
  pub within : (n : ℕ) → In n (given ++ blocks_in before) → (1 ≤ n) × (n ≤ total)
  pub touched : AreTouched bsize
      (turned (length taken + map_size bsize total) old taken given before) written
  pub lowest : taken ++ fresh_of (bsize / 4) written before map
      ≡ take (length (taken ++ fresh_of (bsize / 4) written before map)) (free_blocks old)
  pub marks : bits ≡ with_freed (given ++ released_of (bsize / 4) written before map)
      (with_marked (taken ++ fresh_of (bsize / 4) written before map) old)

-- these data blocks are enough: they are the map's, no more blocks are taken for it than for a
-- whole one, and the bits in its other data blocks are as they were
pub record IsMapEnough (bsize total : ℕ) (old bits : List Bool) (before map : HeldTree)
    (written : List ℕ) :
    Type 0 where
  pub below : (j : ℕ) → In j written → j < length map.leaves
  pub few : length (fresh_of (bsize / 4) written before map) ≤ map_size bsize total
  pub stay : BitsStay bsize total written old bits
  pub count : length bits ≡ total
  pub fixed : HasFixed bits

-- the data blocks in which those bits stand are always enough
abbrev pub TurnedIsEnough : Type 0
TurnedIsEnough =
    (bsize total : ℕ) (old bits : List Bool) (taken given : List ℕ) (before map : HeldTree)
    (written : List ℕ)
    → SharesMap bsize total old bits taken given before map written
    → IsMapEnough bsize total old bits before map written
