-- Small trees that keep some leaves of a tree before: blocks of 24 bytes with two pointers of 12 bytes each.
use Rattle.std.proofs.Common.{◌≡◌, ℕ, List, [], ◌∷◌, ◌++◌, Some, None, cond, eqb, refl}
use Rattle.cms_text.specs.Bytes.{word}
use Rattle.cms_model.specs.Trees.{Image}
use Rattle.cms_model.specs.Sizes.{levels, levels_from}
use Rattle.cms_tree.specs.Paths.{levels_of}
use Rattle.cms_tree.specs.Resumes.{kept_levels, kept_of}

-- a pointer's bytes, of small numbers
cell : ℕ → ℕ → ℕ → List ℕ
cell block last place = (0 ∷ 0 ∷ 0 ∷ block ∷ 0 ∷ 0 ∷ 0 ∷ last ∷ 0 ∷ 0 ∷ 0 ∷ place ∷ [])

-- seven leaves 11 to 17: blocks 21 to 24 over them, 31 and 32 over these, and the root 41; each place in a pointer
-- is another, so that it's seen from where it came
image : Image
image n = cond (eqb n 22) (cell 13 3 103 ++ cell 14 4 104) (cond (eqb n 23) (cell 15 5 105 ++ cell 16 6 106)
    (cond (eqb n 31) (cell 21 2 121 ++ cell 22 4 122) (cond (eqb n 32) (cell 23 6 123 ++ cell 24 7 124)
    (cond (eqb n 41) (cell 31 4 131 ++ cell 32 7 132) []))))

olds : List ℕ
olds = (21 ∷ 22 ∷ 23 ∷ 24 ∷ 31 ∷ 32 ∷ 41 ∷ [])

-- five are kept: of block 23 the first pointer, of 32 none, but of what is below its first one a part, and of 41
-- the first
five : kept_of 2 12 image 7 olds 17 (record { last = 7; place = 107 }) 5 8
    ≡ record { front = cell 15 5 105; place = Some 123 } ∷ record { front = []; place = Some 132 } ∷ record { front = cell 31 4 131; place = Some 0 } ∷ []
unfolding levels levels_from levels_of kept_levels word cell image olds
five = refl

-- four of four: nothing is read, and the old root is the first pointer of the new one
four : kept_of 2 12 image 4 (21 ∷ 22 ∷ 31 ∷ []) 14 (record { last = 4; place = 104 }) 4 5
    ≡ record { front = []; place = None } ∷ record { front = []; place = None } ∷ record { front = cell 31 4 0; place = Some 0 } ∷ []
unfolding levels levels_from levels_of kept_levels word cell image olds
four = refl

-- the one leaf is the root
one : kept_of 2 12 image 1 [] 11 (record { last = 1; place = 101 }) 1 2 ≡ record { front = cell 11 1 0; place = Some 0 } ∷ []
unfolding levels levels_from levels_of kept_levels word cell image olds
one = refl

-- nothing is kept
none : kept_of 2 12 image 7 olds 17 (record { last = 7; place = 107 }) 0 2 ≡ record { front = []; place = None } ∷ []
unfolding levels levels_from levels_of kept_levels word cell image olds
none = refl
