-- The levels of a tree while a pointer block of it is built.
use Rattle.std.specs.Prelude.{◌≡◌, ℕ, zero, suc, ◌+◌, ◌-◌, ◌*◌, ◌^◌, ◌≤◌, min, List, [], ◌∷◌, length, slice_index_or}
use Rattle.cms_fields.specs.Numbers.{up}
use Rattle.cms_tree.specs.declared.types.Mark.{Mark}
use Rattle.cms_tree.specs.declared.node.Group.{Group}
use Rattle.cms_tree.specs.Builds.{Child, no_mark, nodes_over}

-- the mark of leaf i; none where there is none
abbrev pub mark_at : List Mark → ℕ → Mark
mark_at marks i = slice_index_or marks i no_mark

-- the mark of block i of a level on which each block but the last has `size` data blocks below it, of `count` in all
abbrev pub wide_mark : List Mark → ℕ → ℕ → ℕ → Mark
wide_mark marks count size i = record {
  last = (mark_at marks (min ((i + 1) * size) count - 1)).last;
  place = (mark_at marks (i * size)).place;
}

-- blocks of such a level, from its block i on
unfoldable pub children_from : List Mark → ℕ → ℕ → ℕ → List ℕ → List Child
children_from marks count size i [] = []
children_from marks count size i (n ∷ ns) = record { block = n; mark = wide_mark marks count size i }
    ∷ children_from marks count size (i + 1) ns

-- the children of a pointer block, by its place among all
pub record IsGroup (fan : ℕ) (leaves fresh : List ℕ) (nth : ℕ) (group : Group) : Type 0 where
  pub children : (marks : List Mark) → children_from marks (length leaves) group.size group.first group.blocks.now
      ≡ slice_index_or (nodes_over fan leaves marks fresh) nth []
  pub size : 1 ≤ group.size
  pub short : group.size ≤ 2 ^ 60
  pub within : group.first + length group.blocks.now ≤ up (length leaves) group.size
  pub few : length group.blocks.now ≤ fan

-- how many pointer blocks so many levels have over so many blocks
abbrev pub over_count : ℕ → ℕ → ℕ → ℕ
over_count fan zero m = 0
over_count fan (suc k) m = up m fan + over_count fan k (up m fan)
