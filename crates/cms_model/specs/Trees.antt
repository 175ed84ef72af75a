-- Trees of pointer blocks over the data blocks of a file.
use Rattle.std.specs.Prelude.{ℕ, zero, suc, ◌-◌, ◌^◌, min, Bool, ◌==◌, List, [], ◌∷◌, ◌++◌, drop, slice_index_or, Option, Some, None, Result, Ok}
use Rattle.cms_names.specs.Names.{is_between}
use Rattle.cms_names.specs.declared.name.Format.{Format}
use Rattle.cms_fields.specs.Steps.{◌>>=◌, ◌>>◌, want}
use Rattle.cms_text.specs.Bytes.{word}
use Rattle.cms_fields.specs.Entries.{fan_of, pointer_size}
use Rattle.cms_model.specs.declared.fault.OpenFault.{OpenFault}
use Rattle.cms_model.specs.declared.fault.OpenFault.TheVariants.{Pointer}

-- the bytes of each block of a unit, by its number from 1
abbrev pub Image : Type 0
Image = ℕ → List ℕ

-- the image that blocks are, the first of them block 1
unfoldable pub image_of : List (List ℕ) → Image
image_of blocks n = slice_index_or blocks (n - 1) []

-- the pointers in a block, the bytes of each, and the last block of the volume
pub record Form : Type 0 where
  pub fan : ℕ
  pub stride : ℕ
  pub last : ℕ

-- the form of the trees of files of a format, on a volume with this block size and so many blocks
abbrev pub form_of : ℕ → ℕ → Format → Form
form_of bsize last format = record { fan = fan_of bsize format; stride = pointer_size format; last = last }

-- the blocks that the first words of so many pointers name
unfoldable pub pointers : ℕ → ℕ → List ℕ → List ℕ
pointers zero stride bytes = []
pointers (suc n) stride bytes = word bytes 0 ∷ pointers n stride (drop stride bytes)

-- what a tree has: all its blocks in preorder, and its data blocks in order
pub record Met : Type 0 where
  pub blocks : List ℕ
  pub leaves : List ℕ

-- no blocks
abbrev pub none_met : Met
none_met = record { blocks = []; leaves = [] }

-- the blocks of two parts, one behind the other
abbrev pub joined : Met → Met → Met
joined a b = record { blocks = a.blocks ++ b.blocks; leaves = a.leaves ++ b.leaves }

-- a pointer is allowed from block 6 to the last; a leaf that has its fixed place, only that
unfoldable pub is_allowed : ℕ → Option ℕ → ℕ → Bool
is_allowed last None n = is_between 6 last n
is_allowed last (Some fixed) n = n == fixed

-- what stands below the pointers of a block, each but the last with `size` leaves: below first holder pointer leaves
abbrev pub children : (Option ℕ → ℕ → ℕ → ℕ → Result Met OpenFault) → ℕ → ℕ → List ℕ → ℕ → Option ℕ → Result Met OpenFault
children below size holder [] count first = Ok none_met
children below size holder (p ∷ ps) zero first = Ok none_met
children below size holder (p ∷ ps) (suc n) first = do
  a ← below first holder p (min (suc n) size)
  b ← children below size holder ps (suc n - size) None
  Ok (joined a b)

-- the tree of so many levels at a root, with `count` leaves, of which the first may have a fixed place; holder is the
-- block in which the root's number stands. Or the first pointer, in preorder, that isn't allowed.
unfoldable pub tree : Form → Image → ℕ → Option ℕ → ℕ → ℕ → ℕ → Result Met OpenFault
tree form image zero first holder root count = do
  want (is_allowed form.last first root) (Pointer holder root)
  Ok (record { blocks = root ∷ []; leaves = root ∷ [] })
tree form image (suc k) first holder root count = do
  want (is_allowed form.last None root) (Pointer holder root)
  below ← children (tree form image k) (form.fan ^ k) root (pointers form.fan form.stride (image root)) count first
  Ok (record { blocks = root ∷ below.blocks; leaves = below.leaves })

-- the bytes of blocks, one after another
unfoldable pub bytes_at : Image → List ℕ → List ℕ
bytes_at image [] = []
bytes_at image (n ∷ ns) = image n ++ bytes_at image ns
