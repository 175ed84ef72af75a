-- The pointer blocks of a tree that keeps some of those of the tree before.
use Rattle.std.specs.Prelude.{◌≡◌, ℕ, zero, suc, nat_le, ◌+◌, ◌*◌, ◌^◌, ◌<◌, ◌≤◌, Bool, true, false, if◌then◌else◌, List, [], ◌∷◌, ◌++◌, length, take, drop, slice_index, Option, None, ⊤}
use Rattle.std.specs.List.{concat}
use Rattle.std.specs.List.Sorted.{IsStrictlyIncreasing}
use Rattle.cms_fields.specs.Numbers.{up}
use Rattle.cms_model.specs.Lists.{In}
use Rattle.cms_model.specs.Trees.{Image, Form}
use Rattle.cms_model.specs.Built.{AllAllowed, ReadsAs}
use Rattle.cms_model.specs.ByLevels.{Heaped}
use Rattle.cms_model.specs.Sizes.{levels, pointer_count, pointers_to}
use Rattle.cms_model.specs.SharedTrees.{any_within, is_kept, fresh_on, fresh_to}
use Rattle.cms_model.specs.SharedTiers.{Names, Shared, group}
use Rattle.cms_model.specs.SharedTimes.{came}

-- the pointer blocks of so many levels, one list a level, of their numbers in one list; below the
-- first of these each block, but the last, has `size` of the `count` data blocks
unfoldable pub levels_of : ℕ → ℕ → ℕ → ℕ → List ℕ → List (List ℕ)
levels_of fan size count zero numbers = []
levels_of fan size count (suc k) numbers = take (up count (size * fan)) numbers
    ∷ levels_of fan (size * fan) count k (drop (up count (size * fan)) numbers)

-- the first so many pointer blocks of a level: a kept one has its number in the level before, and
-- each other takes the next fresh one
unfoldable pub numbered : Bool → ℕ → ℕ → ℕ → List ℕ → List ℕ → List ℕ → ℕ → List ℕ
numbered had size before count written tier fresh zero = []
numbered had size before count written tier fresh (suc j) =
    numbered had size before count written tier fresh j
    ++ (if is_kept had size before count written j then slice_index tier j
    else slice_index fresh (fresh_on had size before count written j)) ∷ []

-- the pointer blocks of so many levels, where the tree before has these
unfoldable pub paths : ℕ → ℕ → ℕ → ℕ → List ℕ → List (List ℕ) → ℕ → List ℕ → List (List ℕ)
paths fan size before count written olds zero fresh = []
paths fan size before count written [] (suc k) fresh =
    numbered false (size * fan) before count written [] fresh (up count (size * fan))
    ∷ paths fan (size * fan) before count written [] k
    (drop (fresh_on false (size * fan) before count written (up count (size * fan))) fresh)
paths fan size before count written (tier ∷ olds) (suc k) fresh =
    numbered true (size * fan) before count written tier fresh (up count (size * fan))
    ∷ paths fan (size * fan) before count written olds k
    (drop (fresh_on true (size * fan) before count written (up count (size * fan))) fresh)

-- the levels of a tree of so many data blocks, by the numbers of its pointer blocks
abbrev pub tree_levels : ℕ → ℕ → List ℕ → List (List ℕ)
tree_levels fan count numbers = levels_of fan 1 count (levels fan count) numbers

-- the levels of the tree after, where the pointer blocks of the tree before have these numbers
abbrev pub path_levels : ℕ → ℕ → List ℕ → ℕ → List ℕ → List ℕ → List (List ℕ)
path_levels fan before olds count written fresh =
    paths fan 1 before count written (tree_levels fan before olds) (levels fan count) fresh

-- the places, from `at` on, of those of the first so many pointer blocks of a level that aren't kept
unfoldable pub places_on : Bool → ℕ → ℕ → ℕ → List ℕ → ℕ → ℕ → List ℕ
places_on had size before count written at zero = []
places_on had size before count written at (suc j) = places_on had size before count written at j
    ++ (if is_kept had size before count written j then [] else (at + j) ∷ [])

-- and of those of the lowest levels, from 0, where the levels stand one behind the other
unfoldable pub places_to : ℕ → ℕ → ℕ → List ℕ → ℕ → List ℕ
places_to fan before count written zero = []
places_to fan before count written (suc i) = places_to fan before count written i
    ++ places_on (nat_le (suc i) (levels fan before)) (fan ^ suc i) before count written
    (pointers_to fan count i) (up count (fan ^ suc i))

-- the places of the pointer blocks that aren't kept, among all pointer blocks of the tree after
abbrev pub fresh_places : ℕ → ℕ → ℕ → List ℕ → List ℕ
fresh_places fan before count written = places_to fan before count written (levels fan count)

-- of ascending numbers the last ones, from the first that isn't below `low` on
pub record IsRest (low : ℕ) (numbers rest : List ℕ) : Type 0 where
  pub same : (from to : ℕ) → low ≤ from → any_within from to numbers ≡ any_within from to rest
  pub ascends : IsStrictlyIncreasing rest
  pub first : 1 ≤ length rest → low ≤ slice_index rest 0

-- ---- laws

-- the blocks of the levels that aren't kept point to their groups
abbrev pub PointFresh : Form → Image → ℕ → ℕ → ℕ → List ℕ → List (List ℕ) → List ℕ → List (List ℕ)
    → Type 0
PointFresh form later size before count written olds below [] = ⊤
PointFresh form later size before count written [] below (tier ∷ more) =
    ((j : ℕ) → j < length tier → Names form later (slice_index tier j) (group form.fan below j))
    × PointFresh form later (size * form.fan) before count written [] tier more
PointFresh form later size before count written (old_tier ∷ olds) below (tier ∷ more) =
    ((j : ℕ) → j < length tier → is_kept true (size * form.fan) before count written j ≡ false
    → Names form later (slice_index tier j) (group form.fan below j))
    × PointFresh form later (size * form.fan) before count written olds tier more

-- the tree after shares its pointer blocks with the tree before, where the old ones are as they were
-- and the fresh ones point to their groups
abbrev pub PathIsShared : Type 0
PathIsShared =
    (form : Form) (earlier later : Image) (before : ℕ) (olds leaves written fresh : List ℕ)
    → 1 ≤ form.fan
    → length olds ≡ pointer_count form.fan before → ((n : ℕ) → In n olds → earlier n ≡ later n)
    → PointFresh form later 1 before (length leaves) written
    (tree_levels form.fan before olds) leaves
    (path_levels form.fan before olds (length leaves) written fresh)
    → Shared form earlier later 1 before (length leaves) written
    (tree_levels form.fan before olds) leaves
    (path_levels form.fan before olds (length leaves) written fresh)

-- the pointer blocks that aren't kept are the first of the fresh numbers, in order, and as many as
-- are counted
abbrev pub PathTakesFirst : Type 0
PathTakesFirst =
    (fan before count : ℕ) (olds written fresh : List ℕ) → 1 ≤ fan
    → fresh_to fan before count written (levels fan count) ≤ length fresh
    → came fan 1 before count written (tree_levels fan before olds)
    (path_levels fan before olds count written fresh)
    ≡ take (fresh_to fan before count written (levels fan count)) fresh

-- it has as many as its shape has
abbrev pub PathIsWhole : Type 0
PathIsWhole = (fan before count : ℕ) (olds written fresh : List ℕ) → 1 ≤ fan
    → length (concat (path_levels fan before olds count written fresh)) ≡ pointer_count fan count

-- the fresh ones that are counted are no more than all
abbrev pub PathTakesNoMore : Type 0
PathTakesNoMore = (fan before count : ℕ) (written : List ℕ)
    → fresh_to fan before count written (levels fan count) ≤ pointer_count fan count

-- a tree that stands level by level, as high as its shape and each of its blocks allowed, is read so
abbrev pub HeapedIsRead : Type 0
HeapedIsRead =
    (form : Form) (image : Image) (first : Option ℕ) (holder root : ℕ) (leaves : List ℕ)
    (tiers : List (List ℕ)) → 2 ≤ form.fan → 1 ≤ length leaves → length leaves < 2 ^ 32
    → length tiers ≡ levels form.fan (length leaves) → Heaped form image leaves tiers (root ∷ [])
    → AllAllowed form.last first leaves → AllAllowed form.last None (concat tiers)
    → ReadsAs form image (levels form.fan (length leaves)) first holder root leaves (concat tiers)
