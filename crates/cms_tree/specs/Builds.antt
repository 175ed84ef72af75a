-- Trees as they are built over data blocks.
use Rattle.std.specs.Prelude.{◌≡◌, ◌⊎◌, ℕ, zero, suc, ◌-◌, ◌*◌, ◌/◌, ◌^◌, ◌<◌, List, [], ◌∷◌, ◌++◌, length, drop, map, replicate, slice_index, slice_index_or, All, Option, None, if◌then◌else◌, ◌==◌}
use Rattle.std.specs.List.{concat}
use Rattle.byteorder.specs.Endian.{big_bytes}
use Rattle.cms_journal.specs.Journal.{IsBlockSize}
use Rattle.cms_fields.specs.Numbers.{up}
use Rattle.cms_model.specs.Lists.{cut}
use Rattle.cms_model.specs.Trees.{Image}
use Rattle.cms_model.specs.Sizes.{levels, pointer_count}
use Rattle.cms_model.specs.Built.{AllAllowed, ReadsAs}
use Rattle.cms_model.specs.LawsTrees.{Cell, cell_bytes}
use Rattle.cms_tree.specs.declared.types.Mark.{Mark}

-- a block as a pointer block points to it: the mark has the `last` of the last data block below it and the `place` of the first
pub record Child : Type 0 where
  pub block : ℕ
  pub mark : Mark

-- the mark where none is given
abbrev pub no_mark : Mark
no_mark = record { last = 0; place = 0 }

-- no block, and no mark
abbrev pub no_child : Child
no_child = record { block = 0; mark = no_mark }

-- the data blocks with their marks
unfoldable pub marked : List ℕ → List Mark → List Child
marked [] marks = []
marked (n ∷ ns) marks = record { block = n; mark = slice_index_or marks 0 no_mark } ∷ marked ns (drop 1 marks)

-- the children of each pointer block over these: `fan` of them, of the last those that are left
abbrev pub level_over : ℕ → List Child → List (List Child)
level_over fan below = cut (up (length below) fan) fan below

-- a pointer block over its children
abbrev pub parent : ℕ → List Child → Child
parent n group = record {
  block = n;
  mark = record {
    last = (slice_index_or group (length group - 1) no_child).mark.last;
    place = (slice_index_or group 0 no_child).mark.place;
  };
}

-- the pointer blocks of a level, with these numbers
unfoldable pub parents : List ℕ → List (List Child) → List Child
parents fresh [] = []
parents [] (group ∷ groups) = []
parents (n ∷ ns) (group ∷ groups) = parent n group ∷ parents ns groups

-- the children of all pointer blocks in so many levels over these, bottom level first and each level from left to right;
-- the blocks have the numbers `fresh` in this order
unfoldable pub all_over : ℕ → ℕ → List Child → List ℕ → List (List Child)
all_over fan zero below fresh = []
all_over fan (suc k) below fresh = level_over fan below ++ all_over fan k (parents fresh (level_over fan below))
    (drop (length (level_over fan below)) fresh)

-- a child as it is stored: its number in four bytes, and where a pointer has 12, its mark in eight more
abbrev pub cell_of : ℕ → Child → Cell
cell_of psize child = record {
  block = child.block;
  beside = if psize == 12 then big_bytes 4 child.mark.last
      ++ big_bytes 4 child.mark.place else [];
}

-- the bytes of a pointer block: its pointers, and then zeros
unfoldable pub node_bytes : ℕ → ℕ → List Child → List ℕ
node_bytes bsize psize group = concat (map (λ child. cell_bytes (cell_of psize child)) group) ++ replicate (bsize - length group * psize) 0

-- the pointer blocks of a tree, each by its children
abbrev pub nodes_over : ℕ → List ℕ → List Mark → List ℕ → List (List Child)
nodes_over fan leaves marks fresh = all_over fan (levels fan (length leaves)) (marked leaves marks) fresh

-- the bytes of the pointer block at a place, from 0
abbrev pub node_at : ℕ → ℕ → List ℕ → List Mark → List ℕ → ℕ → List ℕ
node_at bsize psize leaves marks fresh nth = node_bytes bsize psize (slice_index_or (nodes_over (bsize / psize) leaves marks fresh) nth [])

-- the root: the last pointer block, or the one data block
abbrev pub root_of : List ℕ → List ℕ → ℕ
root_of leaves fresh = slice_index (leaves ++ fresh) (length (leaves ++ fresh) - 1)

-- what a tree is built of: data blocks with a mark for each where pointers have 12 bytes, and a number for each pointer block
pub record IsBuildable (bsize psize : ℕ) (leaves : List ℕ) (marks : List Mark) (fresh : List ℕ) : Type 0 where
  pub size : IsBlockSize bsize
  pub pointer : (psize ≡ 4) ⊎ (psize ≡ 12)
  pub some : 0 < length leaves
  pub few : length leaves < 2 ^ 32
  pub each : psize ≡ 12 → length marks ≡ length leaves
  pub numbers : length fresh ≡ pointer_count (bsize / psize) (length leaves)

-- an image has the pointer blocks of a tree at these numbers
abbrev pub HasNodes : Image → ℕ → ℕ → List ℕ → List Mark → List ℕ → Type 0
HasNodes image bsize psize leaves marks fresh =
    (nth : ℕ) → nth < length fresh → image (slice_index fresh nth) ≡ node_at bsize psize leaves marks fresh nth

-- an image that has the pointer blocks of a tree, where these and the data blocks are allowed, has a tree of these data blocks
abbrev pub BuiltIsTree : Type 0
BuiltIsTree =
    (bsize psize last : ℕ) (first : Option ℕ) (holder : ℕ) (leaves : List ℕ) (marks : List Mark) (fresh : List ℕ) (image : Image)
    → IsBuildable bsize psize leaves marks fresh → last < 2 ^ 32 → All (λ n. n < 2 ^ 32) leaves → AllAllowed last first leaves
    → AllAllowed last None fresh
    → HasNodes image bsize psize leaves marks fresh
    → ReadsAs (record { fan = bsize / psize; stride = psize; last = last }) image (levels (bsize / psize) (length leaves)) first holder
    (root_of leaves fresh) leaves fresh
