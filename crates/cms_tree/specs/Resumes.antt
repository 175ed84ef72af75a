-- A climb that goes on with a tree that stood before it.
use Rattle.std.specs.Prelude.{◌≡◌, ℕ, zero, suc, ◌+◌, ◌-◌, ◌*◌, ◌/◌, ◌%◌, min, Bool, true, false, ◌||◌, nat_lt, if◌then◌else◌, ◌==◌, List, [], ◌∷◌, ◌++◌, length, take, replicate, slice_index, Some, None, ⊤}
use Rattle.std.specs.Option.{ForSome}
use Rattle.cms_journal.specs.Journal.{contents_of}
use Rattle.cms_journal.specs.Told.{Told}
use Rattle.cms_text.specs.Bytes.{word}
use Rattle.cms_model.specs.Trees.{Image, image_of}
use Rattle.cms_model.specs.Sizes.{levels}
use Rattle.cms_model.specs.LawsTrees.{cell_bytes}
use Rattle.cms_tree.specs.declared.types.Mark.{Mark}
use Rattle.cms_tree.specs.declared.climb.Level.{Level}
use Rattle.cms_tree.specs.declared.climb.Before.{Before}
use Rattle.cms_tree.specs.Builds.{Child, IsBuildable, cell_of, root_of}
use Rattle.cms_tree.specs.Paths.{levels_of}
use Rattle.cms_tree.specs.Kept.{Kept, kept_here, kept_above}
use Rattle.cms_tree.specs.Climbs.{Climb, ClimbsOn, HoldsLittle}

-- ---- what is kept

-- the third word of a pointer block's pointer i, where pointers have one
abbrev pub place_in : ℕ → List ℕ → ℕ → ℕ
place_in psize bytes i = if psize == 12 then word bytes (i * psize + 8) else 0

-- the third word with which a tree points to block k of a level, by its pointer blocks on each level above
-- that; 0 where it has none
abbrev pub place_of : ℕ → ℕ → Image → List (List ℕ) → ℕ → ℕ
place_of fan psize image [] k = 0
place_of fan psize image (tier ∷ above) k = place_in psize (image (slice_index tier (k / fan))) (k % fan)

-- the bytes of a tree's pointers to the kept ones of a level, so many, that no pointer block has all of; where
-- no pointer block of the tree is above, the one kept block is its root
abbrev pub kept_front : ℕ → ℕ → Image → Child → List (List ℕ) → ℕ → List ℕ
kept_front fan psize image root [] kept = if nat_lt 0 kept then cell_bytes (cell_of psize root) else []
kept_front fan psize image root (tier ∷ above) kept =
    take (kept % fan * psize) (image (slice_index tier (kept / fan)))

-- of a level so many blocks are kept and, where `partly`, a part of the next; so a part is kept of the pointer
-- block over the first that isn't
abbrev pub partly_above : ℕ → ℕ → Bool → Bool
partly_above fan kept partly = partly || nat_lt 0 (kept % fan)

-- the levels of pointer blocks above the lowest
abbrev pub tiers_above : List (List ℕ) → List (List ℕ)
tiers_above [] = []
tiers_above (tier ∷ above) = above

-- what is kept on each of so many levels over that one
unfoldable pub kept_levels : ℕ → ℕ → Image → Child → List (List ℕ) → ℕ → Bool → ℕ → List Kept
kept_levels fan psize image root tiers kept partly zero = []
kept_levels fan psize image root tiers kept partly (suc n) = record {
  front = kept_front fan psize image root tiers kept;
  place = if partly_above fan kept partly
      then Some (place_of fan psize image (tiers_above tiers) (kept / fan)) else None;
} ∷ kept_levels fan psize image root (tiers_above tiers) (kept / fan) (partly_above fan kept partly) n

-- the root of a tree as a new pointer block points to it
abbrev pub root_child : List ℕ → ℕ → Mark → Child
root_child pointers last mark = record {
  block = root_of (last ∷ []) pointers;
  mark = record { last = mark.last; place = 0 };
}

-- what a tree of so many leaves keeps on each of its levels, where so many leaves are kept of a tree before of
-- whose data blocks `last` is the last, with this mark
abbrev pub kept_of : ℕ → ℕ → Image → ℕ → List ℕ → ℕ → Mark → ℕ → ℕ → List Kept
kept_of fan psize image old_leaves old_pointers last mark kept leaves =
    kept_levels fan psize image (root_child old_pointers last mark)
    (levels_of fan 1 old_leaves (min (levels fan old_leaves) (levels fan leaves)) old_pointers)
    kept false (levels fan leaves)

-- ---- a climb that is resumed

-- it stands as after the kept leaves, whatever the others are, with what the unit has of the tree before
pub record IsResumed (told : Told) (u bsize psize old_leaves : ℕ) (old_pointers : List ℕ) (last : ℕ) (mark : Mark)
    (kept leaves : ℕ) (c : Climb) : Type 0 where
  pub bsize_is : c.bsize ≡ bsize
  pub psize_is : c.psize ≡ psize
  pub count_is : c.count ≡ leaves
  pub added_is : c.added ≡ kept
  pub held : HoldsLittle c
  pub es : List Kept
  pub read : ForSome told (λ j. es ≡ kept_of (bsize / psize) psize (image_of (contents_of j u)) old_leaves old_pointers
      last mark kept leaves)
  pub climbs : (blocks : List ℕ) (marks : List Mark) (fresh : List ℕ) → IsBuildable bsize psize blocks marks fresh
      → length blocks ≡ leaves → ClimbsOn c kept es blocks marks fresh

-- ---- level by level

-- an open pointer block without pointers
abbrev pub IsClear : ℕ → Level → Type 0
IsClear bsize level = (level.bytes.items ≡ replicate bsize 0) × (level.place ≡ None)

-- an open pointer block has what is kept of it, and no more
pub record HoldsKept (bsize psize kept : ℕ) (partly : Bool) (e : Kept) (level : Level) : Type 0 where
  pub bytes : level.bytes.items ≡ e.front ++ replicate (bsize - kept % (bsize / psize) * psize) 0
  pub place : level.place ≡ e.place
  pub front : length e.front ≡ kept % (bsize / psize) * psize
  pub some : e.place ≡ None → partly_above (bsize / psize) kept partly ≡ false
  pub none : partly_above (bsize / psize) kept partly ≡ false → e.place ≡ None

-- each level does, from the lowest up
abbrev pub HoldAll : ℕ → ℕ → ℕ → Bool → List Kept → List Level → Type 0
HoldAll bsize psize kept partly es [] = ⊤
HoldAll bsize psize kept partly es (level ∷ above) = HoldsKept bsize psize kept partly (kept_here es) level
    × HoldAll bsize psize (kept / (bsize / psize)) (partly_above (bsize / psize) kept partly) (kept_above es) above

-- a block was read, of which the first so many pointers were left; the place is the next one's third word
pub record ReadsFront (told : Told) (u block psize at : ℕ) (bytes : List ℕ) (place : ℕ) : Type 0 where
  pub source : List ℕ
  pub read : ForSome told (λ j. source ≡ image_of (contents_of j u) block)
  pub len : length source ≡ length bytes
  pub front : bytes ≡ take (at * psize) source ++ replicate (length bytes - at * psize) 0
  pub place_is : place ≡ place_in psize source at

-- the root of the tree before as a new pointer block points to it
abbrev pub root_before : Before → Child
root_before b = record { block = b.root; mark = record { last = b.last; place = 0 } }

-- the open pointer block of a level has what is kept of it; its own place was given, and that of what is partly
-- kept below is told
pub record ResumesOne (told : Told) (u bsize psize : ℕ) (tiers : List (List ℕ)) (b : Before) (own : ℕ) (level : Level)
    (place : ℕ) : Type 0 where
  pub e : Kept
  pub front : ForSome told (λ j. e.front ≡ kept_front (bsize / psize) psize (image_of (contents_of j u)) (root_before b) tiers b.kept)
  pub place_is : e.place ≡ (if partly_above (bsize / psize) b.kept b.partly then Some own else None)
  pub below : ForSome told (λ j. b.partly ≡ true
      → place ≡ place_of (bsize / psize) psize (image_of (contents_of j u)) tiers b.kept)
  pub holds : HoldsKept bsize psize b.kept b.partly e level

-- and those of all levels above
pub record ResumesAll (told : Told) (u bsize psize : ℕ) (tiers : List (List ℕ)) (b : Before) (levels : List Level)
    (place : ℕ) : Type 0 where
  pub es : List Kept
  pub read : ForSome told (λ j. es ≡ kept_levels (bsize / psize) psize (image_of (contents_of j u)) (root_before b) tiers b.kept b.partly
      (length levels))
  pub below : ForSome told (λ j. b.partly ≡ true
      → place ≡ place_of (bsize / psize) psize (image_of (contents_of j u)) tiers b.kept)
  pub hold : HoldAll bsize psize b.kept b.partly es levels
