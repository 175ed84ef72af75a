-- Where the blocks of a volume stand that is held.
use Rattle.std.proofs.Common.{◌≡◌, ◌⊎◌, inl, inr, ⊎_elim, ℕ, ◌+◌, ◌≤◌, List, ◌++◌, true, Ok, sym, ap, subst, arith}
use Rattle.cms_journal.specs.Journal.{Journal}
use Rattle.cms_model.specs.Lists.{In, times}
use Rattle.cms_model.specs.Trees.{bytes_at}
use Rattle.cms_model.specs.Maps.{is_marked}
use Rattle.cms_model.specs.Volumes.{open_of, all_blocks}
use Rattle.cms_model.specs.Settled.{frame}
use Rattle.cms_model.specs.Stands.{Layout, file_blocks, layout_blocks, opened}
use Rattle.cms_model.specs.LawsUpdates.{now}
use Rattle.cms_model.proofs.InOrder.{in_order}
use Rattle.cms_model.proofs.Repeats.{in_from, in_held, held, held_from, times_append}
use Rattle.cms_model.proofs.Stands.{blocks_all, stands_opens}
use Rattle.cms_map.specs.Bits.{bits_in}
use Rattle.cms_held.specs.HeldVolumes.{HeldVolume}
use Rattle.cms_held.specs.LawsRenewals.{IsHeldAt}

-- the blocks of a volume that is held: each tree has its data blocks and its pointer blocks, none twice,
-- and all but the origin lie from 6 to the last and are marked
pub record HasBlocksOf (count : ℕ) (map : List ℕ) (v : HeldVolume) (old : Layout) : Type 0 where
  pub origin : (old.label.origin ≡ 4) ⊎ (old.label.origin ≡ 5)
  pub size : 6 ≤ old.label.blocks
  pub top : old.label.blocks ≤ count
  pub label : v.label ≡ old.label
  pub trees : (n : ℕ) → times n (layout_blocks old)
      ≡ times n v.directory.leaves + (times n v.directory.pointers + (times n v.map.leaves + (times n v.map.pointers + times n (file_blocks old.files))))
  pub within : (n : ℕ) → 1 ≤ times n (layout_blocks old) → ((6 ≤ n) × (n ≤ old.label.blocks)) ⊎ (n ≡ old.label.origin)
  pub once : (n : ℕ) → times n (layout_blocks old) ≤ 1
  pub marked : (n : ℕ) → 6 ≤ n → 1 ≤ times n (layout_blocks old) → is_marked map n ≡ true
  pub bits : v.bits ≡ bits_in old.label.blocks map

pub same_blocks : (old : Layout) → all_blocks (opened old) ≡ layout_blocks old
same_blocks old = ap (λ (l : List ℕ). old.directory_met.blocks ++ (old.map_met.blocks ++ l)) (blocks_all old.files)

pub old_opens : (j : Journal) (v : HeldVolume) (old : Layout) → IsHeldAt j v old → open_of v.disk (now j v.unit) ≡ Ok (opened old)
old_opens j v old x = stands_opens v.disk (now j v.unit) old x.stands

pub old_blocks : (j : Journal) (v : HeldVolume) (old : Layout) → IsHeldAt j v old → HasBlocksOf v.disk.count (bytes_at (now j v.unit) old.map_met.leaves) v old
old_blocks j v old x =
    let image = now j v.unit in
    let order = in_order v.disk image (opened old) (old_opens j v old x) in
    let same = same_blocks old in
    record {
      origin = order.origin;
      size = order.size.0;
      top = order.size.1;
      label = x.held.label_is;
      trees = λ n.
          let d = x.held.directory_is.blocks n in
          let m = x.held.map_is.blocks n in
          omega (arith, times_append n old.directory_met.blocks (old.map_met.blocks ++ file_blocks old.files), times_append n old.map_met.blocks (file_blocks old.files));
      within = λ n some. order.within n (subst (In n) (sym same) (in_from n (layout_blocks old) (held_from n (layout_blocks old) some)));
      once = x.stands.apart;
      marked = x.stands.marked;
      bits = x.held.bits_are;
    }

-- they lie behind the label
pub past_label : {count : ℕ} {map : List ℕ} {v : HeldVolume} {old : Layout} → HasBlocksOf count map v old → (n : ℕ) → 1 ≤ times n (layout_blocks old) → 4 ≤ n
past_label {old = old} h n there = ⊎_elim
    (λ (free : (6 ≤ n) × (n ≤ old.label.blocks)). let six = free.0 in omega arith)
    (λ (at : n ≡ old.label.origin). ⊎_elim (λ (four : old.label.origin ≡ 4). omega (arith, at, four)) (λ (five : old.label.origin ≡ 5). omega (arith, at, five)) h.origin)
    (h.within n there)

-- a block of the frame is the label, the origin or one of the trees
pub frame_blocks : (old : Layout) (n : ℕ) → In n (frame (opened old)) → (n ≡ 3) ⊎ ((n ≡ old.label.origin) ⊎ (1 ≤ times n (layout_blocks old)))
frame_blocks old n (inl three) = inl three
frame_blocks old n (inr (inl at)) = inr (inl at)
frame_blocks old n (inr (inr in')) = inr (inr (held n (layout_blocks old) (in_held n (layout_blocks old) (subst (In n) (same_blocks old) in'))))
