-- The open pointer blocks of a tree while a leaf is added.
use Rattle.std.specs.Prelude.{◌≡◌, ℕ, zero, suc, ◌+◌, ◌-◌, ◌*◌, ◌/◌, ◌%◌, ◌<◌, ◌≤◌, min, max, Bool, true, false, if◌then◌else◌, ◌==◌, nat_lt, List, [], ◌∷◌, ◌++◌, length, take, drop, map, replicate, slice_index, unwrap_or, Option, None, Some, Result, Ok, Err, ⊤}
use Rattle.cms_journal.specs.Told.{Told, plus}
use Rattle.cms_journal.specs.declared.event.Failed.{Failed}
use Rattle.cms_fields.specs.Numbers.{up}
use Rattle.cms_model.specs.Settled.{Write, writes}
use Rattle.cms_model.specs.LawsUpdates.{AddsFront}
use Rattle.cms_tree.specs.declared.types.Mark.{Mark}
use Rattle.cms_tree.specs.declared.climb.Level.{Level}
use Rattle.cms_tree.specs.declared.climb.Child.{Child}
use Rattle.cms_model.specs.LawsTrees.{cell_bytes}
use Rattle.cms_model.specs.Sizes.{levels}
use Rattle.cms_tree.specs.Builds.{cell_of, node_at}
use Rattle.cms_tree.specs.Levels.{mark_at, wide_mark, over_count}
use Rattle.cms_tree.specs.Kept.{Kept, kept_here, kept_above}

-- ---- which pointer blocks a leaf completes

-- block k of the `count` of a level, from 0, is the last that its pointer block points to
abbrev pub ends_group : ℕ → ℕ → ℕ → Bool
ends_group fan count k = if k + 1 == count then true else ((k + 1) % fan == 0)

-- the places among all pointer blocks of those that are complete with block k of the `count` of a level: the one that points to
-- it, where it is the last to which that one points, and then those that are complete with that one in turn. There are so many
-- levels above, and the first pointer block of the next has the place `first`
unfoldable pub complete_from : ℕ → ℕ → ℕ → ℕ → ℕ → List ℕ
complete_from fan zero first count k = []
complete_from fan (suc levels) first count k = if ends_group fan count k
    then (first + k / fan) ∷ complete_from fan levels (first + up count fan) (up count fan) (k / fan) else []

-- the pointer block at a place as it is written, where `node` has the bytes of each
abbrev pub put_node : List ℕ → (ℕ → List ℕ) → ℕ → Write
put_node fresh node nth = record { block = slice_index fresh nth; bytes = node nth }

-- the same of a tree over these data blocks, with their marks
abbrev pub node_write : ℕ → ℕ → List ℕ → List Mark → List ℕ → ℕ → Write
node_write bsize psize leaves marks fresh nth =
    put_node fresh (node_at bsize psize leaves marks fresh) nth

-- ---- the levels

-- the blocks of a level, each but the last with `size` leaves below it; `first` is the place among
-- all of the first pointer block over them. So many of them are kept of the tree before, and `place`
-- is the third word with which that one points to the block behind these, where it has a part of it
pub record Tier : Type 0 where
  pub first : ℕ
  pub size : ℕ
  pub blocks : List ℕ
  pub kept : ℕ
  pub place : Option ℕ

-- the leaves, of which so many are kept
abbrev pub lowest : ℕ → List ℕ → Tier
lowest kept leaves = record { first = 0; size = 1; blocks = leaves; kept = kept; place = None }

-- the pointer blocks over them, by the numbers of all
abbrev pub tier_above : ℕ → List ℕ → Tier → Kept → Tier
tier_above fan fresh t e = record {
  first = t.first + up (length t.blocks) fan;
  size = t.size * fan;
  blocks = take (up (length t.blocks) fan) (drop t.first fresh);
  kept = t.kept / fan;
  place = e.place;
}

-- the mark of block i of a level, whose place is that of the tree before, where it has a part of it
abbrev pub tier_mark : List Mark → ℕ → Tier → ℕ → Mark
tier_mark marks count t i = record {
  last = (wide_mark marks count t.size i).last;
  place = unwrap_or (if i == t.kept then t.place else None) (wide_mark marks count t.size i).place;
}

-- the bytes of the pointers to blocks of a level, from its block i on
unfoldable pub cells_from : ℕ → List Mark → ℕ → Tier → ℕ → List ℕ → List ℕ
cells_from psize marks count t i [] = []
cells_from psize marks count t i (n ∷ ns) =
    cell_bytes (cell_of psize (record { block = n; mark = tier_mark marks count t i }))
    ++ cells_from psize marks count t (i + 1) ns

-- the first block of a level to which pointer block j over it has a pointer that isn't kept
abbrev pub behind_kept : ℕ → Tier → ℕ → ℕ
behind_kept fan t j = max t.kept (j * fan)

-- the bytes of pointer block j over a level with its pointers to the blocks before block `upto`:
-- the kept ones, those behind them, and then zeros
abbrev pub pointing : ℕ → ℕ → List Mark → ℕ → Tier → Kept → ℕ → ℕ → List ℕ
pointing bsize psize marks count t e j upto =
    (if j == t.kept / (bsize / psize) then e.front else [])
    ++ cells_from psize marks count t (behind_kept (bsize / psize) t j)
    (take (upto - behind_kept (bsize / psize) t j)
    (drop (behind_kept (bsize / psize) t j) t.blocks))
    ++ replicate (bsize - (upto - j * (bsize / psize)) * psize) 0

-- the bytes of the pointer block at a place among those of so many levels, where so much is kept on
-- each
unfoldable pub node_in : ℕ → ℕ → List Mark → ℕ → List ℕ → ℕ → Tier → List Kept → ℕ → List ℕ
node_in bsize psize marks count fresh zero t es nth = []
node_in bsize psize marks count fresh (suc k) t es nth =
    if nat_lt nth (up (length t.blocks) (bsize / psize))
    then pointing bsize psize marks count t (kept_here es) nth
    (min ((nth + 1) * (bsize / psize)) (length t.blocks))
    else node_in bsize psize marks count fresh k
    (tier_above (bsize / psize) fresh t (kept_here es)) (kept_above es)
    (nth - up (length t.blocks) (bsize / psize))

-- the bytes of the pointer block at a place, from 0, of a tree that keeps so many leaves of the
-- tree before, and so much of the pointer blocks of each level
abbrev pub node_on : ℕ → ℕ → List ℕ → List Mark → List ℕ → ℕ → List Kept → ℕ → List ℕ
node_on bsize psize leaves marks fresh kept es nth =
    node_in bsize psize marks (length leaves) fresh (levels (bsize / psize) (length leaves))
    (lowest kept leaves) es nth

-- ---- the open pointer blocks

-- the place in the mark of pointer block j over a level
abbrev pub place_over : List Mark → ℕ → Tier → Kept → ℕ → ℕ
place_over marks fan t e j = unwrap_or (if j == t.kept / fan then e.place else None)
    (mark_at marks (j * (t.size * fan))).place

-- the kept pointers are those to the kept blocks that no whole pointer block points to; the tree
-- before has a part of the open pointer block where it has one of these, or a part of the block
-- behind them
pub record Keeps (psize fan : ℕ) (t : Tier) (e : Kept) : Type 0 where
  pub front : length e.front ≡ t.kept % fan * psize
  pub partly : e.place ≡ None → (t.place ≡ None) × (t.kept % fan ≡ 0)

-- and so on each of so many levels
abbrev pub AllKeep : ℕ → ℕ → List ℕ → Tier → List Kept → ℕ → Type 0
AllKeep psize fan fresh t es zero = ⊤
AllKeep psize fan fresh t es (suc n) = Keeps psize fan t (kept_here es)
    × AllKeep psize fan fresh (tier_above fan fresh t (kept_here es)) (kept_above es) n

-- the open pointer block points to the blocks before block k that no whole pointer block points to,
-- and has the place of its mark as soon as that is known
pub record IsOpen (bsize psize : ℕ) (marks : List Mark) (count : ℕ) (t : Tier) (e : Kept) (k : ℕ)
    (level : Level) : Type 0 where
  pub bytes : level.bytes.items ≡ pointing bsize psize marks count t e (k / (bsize / psize)) k
  pub known : psize ≡ 12 → 1 ≤ k % (bsize / psize)
      → level.place ≡ Some (place_over marks (bsize / psize) t e (k / (bsize / psize)))
  pub unknown : psize ≡ 12 → k % (bsize / psize) ≡ 0
      → level.place ≡ (if k / (bsize / psize) == t.kept / (bsize / psize) then e.place else None)
  pub behind : t.kept ≤ k
  pub keeps : Keeps psize (bsize / psize) t e

-- and so on each level above
abbrev pub Stand : ℕ → ℕ → List Mark → ℕ → List ℕ → Tier → List Kept → ℕ → List Level → Type 0
Stand bsize psize marks count fresh t es k [] = ⊤
Stand bsize psize marks count fresh t es k (level ∷ above) =
    IsOpen bsize psize marks count t (kept_here es) k level
    × Stand bsize psize marks count fresh (tier_above (bsize / psize) fresh t (kept_here es))
    (kept_above es) (k / (bsize / psize)) above

-- ---- a step up

-- the level is one of the tree's, with so many above it; `node` has the bytes of all pointer blocks
pub record IsTier (bsize psize : ℕ) (leaves : List ℕ) (marks : List Mark) (fresh : List ℕ)
    (node : ℕ → List ℕ) (t : Tier) (es : List Kept) (levels : ℕ) : Type 0 where
  pub size : 1 ≤ t.size
  pub count : length t.blocks ≡ up (length leaves) t.size
  pub numbers : t.first + over_count (bsize / psize) levels (length t.blocks) ≤ length fresh
  pub nodes : (nth : ℕ) → nth < over_count (bsize / psize) levels (length t.blocks)
      → node_in bsize psize marks (length leaves) fresh levels t es nth ≡ node (t.first + nth)

-- the block is one of the level, and its mark, where marks are stored, is that of this place
pub record IsChild (psize : ℕ) (marks : List Mark) (leaves : ℕ) (t : Tier) (child : Child) : Type 0 where
  pub count : child.count ≡ length t.blocks
  pub block : child.block ≡ slice_index t.blocks child.nth
  pub mark : psize ≡ 12 → child.mark ≡ tier_mark marks leaves t child.nth

-- the place on its level of the pointer block over a block
pub record IsParent (fan : ℕ) (child parent : Child) : Type 0 where
  pub nth : parent.nth ≡ child.nth / fan
  pub count : parent.count ≡ up child.count fan
  pub within : parent.nth < parent.count

-- the next block of a level was pointed to: the pointer block over it isn't complete, or it was written as it is built, and is the
-- next block of its own level
abbrev pub Lifts : Told → Told → ℕ → ℕ → ℕ → List ℕ → List Mark → List ℕ → (ℕ → List ℕ) → Tier
    → Kept → Child → Level → Result (Option Child) Failed → Type 0
Lifts old new u bsize psize leaves marks fresh node t e child level (Ok None) =
    (ends_group (bsize / psize) child.count child.nth ≡ false) × (new ≡ old)
    × IsOpen bsize psize marks (length leaves) t e (child.nth + 1) level
Lifts old new u bsize psize leaves marks fresh node t e child level (Ok (Some parent)) =
    (ends_group (bsize / psize) child.count child.nth ≡ true)
    × (new ≡ plus old (writes u (put_node fresh node (t.first + child.nth / (bsize / psize)) ∷ [])))
    × IsChild psize marks (length leaves) (tier_above (bsize / psize) fresh t e) parent
    × (child.nth + 1 < child.count
    → IsOpen bsize psize marks (length leaves) t e (child.nth + 1) level)
Lifts old new u bsize psize leaves marks fresh node t e child level (Err x) =
    (ends_group (bsize / psize) child.count child.nth ≡ true)
    × AddsFront old new
    (writes u (put_node fresh node (t.first + child.nth / (bsize / psize)) ∷ []))

-- the writes of the pointer blocks that are complete with a block of a level, under so many levels
abbrev pub rise_writes : ℕ → List ℕ → (ℕ → List ℕ) → Tier → Child → ℕ → List Write
rise_writes fan fresh node t child levels =
    map (put_node fresh node) (complete_from fan levels t.first child.count child.nth)

-- these were written, and the levels stand before the block behind this one, where there is one
abbrev pub Rises : Told → Told → ℕ → ℕ → ℕ → List ℕ → List Mark → List ℕ → (ℕ → List ℕ) → Tier
    → List Kept → Child → List Level → List Level → Result ⊤ Failed → Type 0
Rises old new u bsize psize leaves marks fresh node t es child levels levels' (Ok x) =
    (new ≡ plus old (writes u (rise_writes (bsize / psize) fresh node t child (length levels))))
    × (child.nth + 1 < child.count
    → Stand bsize psize marks (length leaves) fresh t es (child.nth + 1) levels')
Rises old new u bsize psize leaves marks fresh node t es child levels levels' (Err e) =
    AddsFront old new (writes u (rise_writes (bsize / psize) fresh node t child (length levels)))
