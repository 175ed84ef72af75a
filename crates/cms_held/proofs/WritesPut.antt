-- The blocks of writes, and an image after them.
use Rattle.std.proofs.Common.{◌≡◌, inl, ⊎_elim, ℕ, ◌+◌, ◌/◌, ◌≤◌, Bool, true, false, List, [], ◌∷◌, ◌++◌, length, map, take, drop, if◌then◌else◌, refl, ap, sym, ◌∙◌, subst, arith}
use Rattle.std.specs.Prelude.{◌==◌}
use Rattle.std.proofs.lemmas.Bool.{eq-eqb}
use Rattle.cms_model.specs.Lists.{In, times}
use Rattle.cms_model.specs.Trees.{Image}
use Rattle.cms_model.specs.Settled.{Write, Apart}
use Rattle.cms_model.specs.LawsUpdates.{put_block, put_blocks, AreWithin}
use Rattle.cms_model.proofs.Repeats.{times_append, times_first, times_later}
use Rattle.cms_model.proofs.WritesPut.{apart_is_kept}
use Rattle.cms_tree.specs.Builds.{node_bytes, nodes_over}
use Rattle.cms_held.specs.HeldVolumes.{HeldTree}
use Rattle.cms_held.specs.Systems.{Systems, block_writes, whole_writes, node_writes, directory_pieces, map_pieces, HasWritten}
use Rattle.cms_held.specs.LawsRenewals.{AreBlocks}

-- the blocks that are written
abbrev pub blocks_written : List Write → List ℕ
blocks_written ws = map (λ w. w.block) ws

pub written_append : (xs ys : List Write) → blocks_written (xs ++ ys) ≡ blocks_written xs ++ blocks_written ys
written_append [] ys = refl
written_append (w ∷ xs) ys = ap (λ (l : List ℕ). w.block ∷ l) (written_append xs ys)

times_written : (n : ℕ) (xs ys : List Write) → times n (blocks_written (xs ++ ys)) ≡ times n (blocks_written xs) + times n (blocks_written ys)
times_written n xs ys = ap (times n) (written_append xs ys) ∙ times_append n (blocks_written xs) (blocks_written ys)

-- no more blocks are written than were given
block_times : (n : ℕ) (ns : List ℕ) (pieces : List (List ℕ)) → times n (blocks_written (block_writes ns pieces)) ≤ times n ns
unfolding block_writes times
block_times n [] pieces = omega arith
block_times n (x ∷ ns) [] = omega arith
block_times n (x ∷ ns) (bytes ∷ pieces) = omega (arith, block_times n ns pieces)

pub system_times : (bsize : ℕ) (s : Systems) (n : ℕ) → times n (blocks_written (whole_writes bsize s))
    ≤ times n (drop 1 s.directory.leaves) + (times n s.directory.pointers + (times n s.map.leaves + (times n s.map.pointers + times n (take 1 s.directory.leaves))))
system_times bsize s n =
    let nodes : HeldTree → List (List ℕ) = λ (t : HeldTree). map (node_bytes bsize 4) (nodes_over (bsize / 4) t.leaves [] t.pointers) in
    let w1 = block_writes (drop 1 s.directory.leaves) (drop 1 (directory_pieces bsize s)) in
    let w2 = node_writes bsize s.directory in
    let w3 = block_writes s.map.leaves (map_pieces bsize s) in
    let w4 = node_writes bsize s.map in
    let w5 = block_writes (take 1 s.directory.leaves) (take 1 (directory_pieces bsize s)) in
    omega (
      arith,
      times_written n w1 (w2 ++ (w3 ++ (w4 ++ w5))),
      times_written n w2 (w3 ++ (w4 ++ w5)),
      times_written n w3 (w4 ++ w5),
      times_written n w4 w5,
      block_times n (drop 1 s.directory.leaves) (drop 1 (directory_pieces bsize s)),
      block_times n s.directory.pointers (nodes s.directory),
      block_times n s.map.leaves (map_pieces bsize s),
      block_times n s.map.pointers (nodes s.map),
      block_times n (take 1 s.directory.leaves) (take 1 (directory_pieces bsize s)),
    )

-- ---- what is written, and what isn't

pub apart_of : (ws : List Write) (ns : List ℕ) → ((n : ℕ) → In n ns → times n (blocks_written ws) ≡ 0) → Apart ws ns
apart_of [] ns none = tt
apart_of (w ∷ ws) ns none = (
  λ in'. (let no' = none w.block in' in absurd (omega (arith, times_first w.block (blocks_written ws)))),
  apart_of ws ns
      (λ n in'. (let no' = none n in' in omega (arith, times_later n w.block (blocks_written ws)))),
)

pub within_of : (count : ℕ) (ws : List Write) → ((n : ℕ) → 1 ≤ times n (blocks_written ws) → (1 ≤ n) × (n ≤ count)) → AreWithin count ws
within_of count [] each = tt
within_of count (w ∷ ws) each =
    let here = each w.block (omega (arith, times_first w.block (blocks_written ws))) in
    (here.0, here.1, within_of count ws (λ n some. each n (omega (arith, times_later n w.block (blocks_written ws)))))

pub put_aside : (image : Image) (ws : List Write) (n : ℕ) → times n (blocks_written ws) ≡ 0 → put_blocks image ws n ≡ image n
put_aside image ws n none = sym (apart_is_kept image ws (n ∷ [])
    (apart_of ws (n ∷ []) (λ k in'. ⊎_elim (λ (is : k ≡ n). subst (λ (x : ℕ). times x (blocks_written ws) ≡ 0) (sym is) none) (λ (no' : ⊥). absurd no') in')) n (inl refl))

put_here : (image : Image) (w : Write) → put_block image w w.block ≡ w.bytes
put_here image w = rw (eq-eqb w.block w.block refl) refl

-- where no block is written twice, an image has what was written
pub has_written : (image : Image) (ws : List Write) → ((n : ℕ) → times n (blocks_written ws) ≤ 1) → HasWritten (put_blocks image ws) ws
has_written image [] once = tt
has_written image (w ∷ ws) once =
    let most = once w.block in (
      put_aside (put_block image w) ws w.block (omega (arith, times_first w.block (blocks_written ws))) ∙ put_here image w,
      has_written (put_block image w) ws (λ n. (let few = once n in omega (arith, times_later n w.block (blocks_written ws)))),
    )

pub written_same : (before later : Image) (ws : List Write) → ((n : ℕ) → 1 ≤ times n (blocks_written ws) → before n ≡ later n) → HasWritten before ws → HasWritten later ws
written_same before later [] same has = tt
written_same before later (w ∷ ws) same has = (
  sym (same w.block (omega (arith, times_first w.block (blocks_written ws))))
      ∙ has.0,
  written_same before later ws (λ n some. same n (omega (arith, times_later n w.block (blocks_written ws)))) has.1,
)

-- blocks stay as long as they were
pub put_long : (bsize : ℕ) (image : Image) (ws : List Write) (n : ℕ) → AreBlocks bsize ws → length (image n) ≡ bsize → length (put_blocks image ws n) ≡ bsize
put_long bsize image [] n blocks long = long
put_long bsize image (w ∷ ws) n blocks long = put_long bsize (put_block image w) ws n blocks.1 (one (n == w.block) refl)
  where
    one : (b : Bool) → (n == w.block) ≡ b → length (if b then w.bytes else image n) ≡ bsize
    one true is = blocks.0
    one false is = long
