-- Small trees that share their pointer blocks: 100 and on are the old ones, 1000 and on the fresh ones.
use Rattle.std.proofs.Common.{◌≡◌, [], ◌∷◌, refl}
use Rattle.cms_model.specs.Sizes.{levels, levels_from}
use Rattle.cms_model.specs.SharedTrees.{any_within, is_kept, fresh_on}
use Rattle.cms_model.specs.SharedTimes.{gone, without}
use Rattle.cms_tree.specs.Paths.{levels_of, numbered, path_levels, paths, tree_levels}

-- a second data block: the first level
first_level : path_levels 128 1 [] 2 (1 ∷ []) (1000 ∷ []) ≡ (1000 ∷ []) ∷ []
unfolding levels levels_from any_within is_kept fresh_on levels_of numbered paths
first_level = refl

-- one data block more than a full pointer block has, at both sizes of pointers: the old root is the first child of the new one
second_level : path_levels 128 128 (100 ∷ []) 129 (128 ∷ []) (1000 ∷ 1001 ∷ []) ≡ (100 ∷ 1000 ∷ []) ∷ (1001 ∷ []) ∷ []
unfolding levels levels_from any_within is_kept fresh_on levels_of numbered paths
second_level = refl

second_level_wide : path_levels 42 42 (100 ∷ []) 43 (42 ∷ []) (1000 ∷ 1001 ∷ []) ≡ (100 ∷ 1000 ∷ []) ∷ (1001 ∷ []) ∷ []
unfolding levels levels_from any_within is_kept fresh_on levels_of numbered paths
second_level_wide = refl

-- one more of 300
third_block : path_levels 128 300 (100 ∷ 101 ∷ 102 ∷ 103 ∷ []) 301 (300 ∷ []) (1000 ∷ 1001 ∷ []) ≡ (100 ∷ 101 ∷ 1000 ∷ []) ∷ (1001 ∷ []) ∷ []
unfolding levels levels_from any_within is_kept fresh_on levels_of numbered paths
third_block = refl

third_block_gone : gone 128 1 300 301 (300 ∷ []) (tree_levels 128 300 (100 ∷ 101 ∷ 102 ∷ 103 ∷ [])) (path_levels 128 300 (100 ∷ 101 ∷ 102 ∷ 103 ∷ []) 301 (300 ∷ []) (1000 ∷ 1001 ∷ [])) ≡ 102 ∷ 103 ∷ []
unfolding levels levels_from any_within is_kept fresh_on levels_of numbered paths gone without
third_block_gone = refl

-- a directory that shrinks: the second pointer block has no written block below it, but another count
shrinks : path_levels 128 130 (100 ∷ 101 ∷ 102 ∷ []) 129 (0 ∷ []) (1000 ∷ 1001 ∷ 1002 ∷ []) ≡ (1000 ∷ 1001 ∷ []) ∷ (1002 ∷ []) ∷ []
unfolding levels levels_from any_within is_kept fresh_on levels_of numbered paths
shrinks = refl

shrinks_gone : gone 128 1 130 129 (0 ∷ []) (tree_levels 128 130 (100 ∷ 101 ∷ 102 ∷ [])) (path_levels 128 130 (100 ∷ 101 ∷ 102 ∷ []) 129 (0 ∷ []) (1000 ∷ 1001 ∷ 1002 ∷ [])) ≡ 100 ∷ 101 ∷ 102 ∷ []
unfolding levels levels_from any_within is_kept fresh_on levels_of numbered paths gone without
shrinks_gone = refl

-- down to one data block the root goes
no_level : gone 128 1 2 1 (0 ∷ []) (tree_levels 128 2 (100 ∷ [])) (path_levels 128 2 (100 ∷ []) 1 (0 ∷ []) []) ≡ 100 ∷ []
unfolding levels levels_from any_within is_kept fresh_on levels_of numbered paths gone without
no_level = refl
