-- What is written for an update that was planned, and that it renews the volume.
use Rattle.std.proofs.Common.{◌≡◌, ℕ, ◌+◌, ◌/◌, ◌≤◌, List, [], ◌∷◌, ◌++◌, length, map, take, drop, All, refl, sym, ◌∙◌, ap, subst, arith, inl, inr}
use Rattle.std.specs.List.{AllByRecursion, concat}
use Rattle.std.proofs.Math.Seq.{take-append_seam, drop-append_seam}
use Rattle.cms_fields.specs.declared.time.Stamp.{Stamp}
use Rattle.cms_journal.proofs.Sizes.{block_bounds}
use Rattle.cms_journal.specs.Journal.{Journal, start_of}
use Rattle.cms_model.specs.LawsUpdates.{AreWithin, Updates, after, now}
use Rattle.cms_model.specs.Lists.{In, cut, times}
use Rattle.cms_model.specs.Settled.{Apart, Write, frame, update}
use Rattle.cms_model.specs.Sizes.{map_size}
use Rattle.cms_model.specs.Stands.{Kept, Layout, file_blocks, layout_blocks, opened}
use Rattle.cms_held.specs.Allotments.{IsPlanned, files_fresh, parts_of}
use Rattle.cms_held.specs.HeldVolumes.{HeldVolume}
use Rattle.cms_held.specs.LawsRenewals.{AreBlocks, IsHeldAt, IsRenewal, LeavesFiles, UpdateRenews, later_of, writes_of}
use Rattle.cms_held.specs.Renewals.{Edit, entries_held, renewed}
use Rattle.cms_held.specs.SharedRenewals.{IsPartPlanned, IsPartRenewal, part_later, part_writes}
use Rattle.cms_held.specs.SharedWrites.{shared_node_writes}
use Rattle.cms_held.specs.Systems.{Systems, block_writes, data_writes, directory_piece, leaf_writes, map_piece, nodes_at}
use Rattle.cms_held.specs.Written.{ReadsBack}
use Rattle.cms_held.proofs.FreshNodes.{nodes_are}
use Rattle.cms_held.proofs.HeldLevels.{held_levels}
use Rattle.cms_held.proofs.Renewals.{entries_many}
use Rattle.cms_held.proofs.PartCases.{Case, held_count, kept_count}
use Rattle.cms_held.proofs.PartTrees.{directory_shape, map_shape, write_within}
use Rattle.cms_held.proofs.PartWrites.{directory_long, part_update_is_small, writes_long}
use Rattle.cms_held.proofs.SharedRenewals.{old_stays, part_update_renews, taken_stays}
use Rattle.cms_held.proofs.WritesAside.{IsAside, part_aside}

-- ---- data blocks

data_are : (bsize : ℕ) (leaves : List ℕ) (piece : ℕ → List ℕ) (written : List ℕ) → ((j : ℕ) → In j written → length (piece j) ≡ bsize)
    → data_writes bsize leaves written (concat (map piece written)) ≡ leaf_writes leaves piece written
unfolding block_writes cut
data_are bsize leaves piece [] long = refl
data_are bsize leaves piece (w ∷ ws) long =
    let more = concat (map piece ws) in
    let here = long w (inl refl) in
    let first : take bsize (piece w ++ more) ≡ piece w = subst (λ (n : ℕ). take n (piece w ++ more) ≡ piece w) here (take-append_seam (piece w) more) in
    let rest : drop bsize (piece w ++ more) ≡ more = subst (λ (n : ℕ). drop n (piece w ++ more) ≡ more) here (drop-append_seam (piece w) more) in
    let deeper = data_are bsize leaves piece ws (λ j there. long j (inr there)) in
    rw (first, rest, deeper) refl

drop_leaf : (leaves : List ℕ) (piece : ℕ → List ℕ) (written : List ℕ) → drop 1 (leaf_writes leaves piece written) ≡ leaf_writes leaves piece (drop 1 written)
drop_leaf leaves piece [] = refl
drop_leaf leaves piece (w ∷ ws) = refl

take_leaf : (leaves : List ℕ) (piece : ℕ → List ℕ) (written : List ℕ) → take 1 (leaf_writes leaves piece written) ≡ leaf_writes leaves piece (take 1 written)
take_leaf leaves piece [] = refl
take_leaf leaves piece (w ∷ ws) = refl

-- ---- an update that was planned

pub part_planned : (v : HeldVolume) (edit : Edit) (stamp : Stamp) (s : Systems) → IsPlanned v edit stamp s → IsPartPlanned v edit s (parts_of s)
part_planned v edit stamp s p = record { blocks = p.blocks; label = p.label; label_bytes = p.label_bytes }

-- what is known of it before its files are
pub record IsTaking (j : Journal) (v : HeldVolume) (edit : Edit) (stamp : Stamp) (s : Systems) (old : Layout) (files : List Kept) : Type 0 where
  pub at : IsHeldAt j v old
  pub planned : IsPlanned v edit stamp s
  pub few : length edit.files ≤ 16384
  pub back : All ReadsBack (entries_held edit.files)
  pub balance : (n : ℕ) → times n (file_blocks files) + times n edit.given ≡ times n (file_blocks old.files) + times n edit.taken
  pub had : (n : ℕ) → times n edit.given ≤ times n (file_blocks old.files)

abbrev pub taking_case : (j : Journal) (v : HeldVolume) (edit : Edit) (stamp : Stamp) (s : Systems) (old : Layout) (files : List Kept) → IsTaking j v edit stamp s old files → Case
taking_case j v edit stamp s old files x = record {
  j = j;
  v = v;
  edit = edit;
  stamp = stamp;
  s = s;
  parts = parts_of s;
  old = old;
  files = files;
  x = record {
    at = x.at;
    trees = held_levels j v old x.at;
    planned = part_planned v edit stamp s x.planned;
    few = x.few;
    back = x.back;
    balance = x.balance;
    had = x.had;
  };
}

-- its writes are those of its parts
pub writes_are : (j : Journal) (v : HeldVolume) (edit : Edit) (stamp : Stamp) (s : Systems) (old : Layout) (files : List Kept) → IsTaking j v edit stamp s old files
    → writes_of v s ≡ part_writes v edit stamp s (parts_of s)
writes_are j v edit stamp s old files x =
    let c = taking_case j v edit stamp s old files x in
    let p = x.planned in
    let bsize = v.disk.bsize in
    let low = (block_bounds bsize x.at.whole.size).0 in
    let fan : 1 ≤ bsize / 4 = omega arith in
    let piece : ℕ → List ℕ = directory_piece bsize s (entries_held edit.files) stamp in
    let parts : data_writes bsize s.directory.leaves s.directory_part.leaves s.directory_bytes ≡ leaf_writes s.directory.leaves piece s.directory_part.leaves =
    ap (data_writes bsize s.directory.leaves s.directory_part.leaves) p.directory_bytes ∙ data_are bsize s.directory.leaves piece s.directory_part.leaves (directory_long c) in
    let behind = ap (λ (l : List Write). drop 1 l) parts ∙ drop_leaf s.directory.leaves piece s.directory_part.leaves in
    let first = ap (λ (l : List Write). take 1 l) parts ∙ take_leaf s.directory.leaves piece s.directory_part.leaves in
    let directory : nodes_at bsize s.directory s.directory_part.nodes ≡ shared_node_writes bsize s.directory_part.leaves v.directory s.directory =
    ap (nodes_at bsize s.directory) p.directory_nodes ∙ nodes_are bsize s.directory_part.leaves v.directory s.directory fan (directory_shape c).nodes in
    let map' : nodes_at bsize s.map s.map_part.nodes ≡ shared_node_writes bsize s.map_part.leaves v.map s.map =
    ap (nodes_at bsize s.map) p.map_nodes ∙ nodes_are bsize s.map_part.leaves v.map s.map fan (map_shape c).nodes in
    let blocks = leaf_writes s.map.leaves (map_piece bsize s.bits) s.map_part.leaves in
    λ i. behind i ++ (directory i ++ (blocks ++ (map' i ++ first i)))

-- the journal after them
pub laters_are : (j : Journal) (v : HeldVolume) (edit : Edit) (stamp : Stamp) (s : Systems) (old : Layout) (files : List Kept) → IsTaking j v edit stamp s old files
    → later_of j v s ≡ part_later j v edit stamp s (parts_of s)
laters_are j v edit stamp s old files x = ap (λ (ws : List Write). after j (update v.unit ws s.label_bytes)) (writes_are j v edit stamp s old files x)

pub planned_blocks : (j : Journal) (v : HeldVolume) (edit : Edit) (stamp : Stamp) (s : Systems) (old : Layout) (files : List Kept) → IsTaking j v edit stamp s old files → AreBlocks v.disk.bsize (writes_of v s)
planned_blocks j v edit stamp s old files x = subst (AreBlocks v.disk.bsize) (sym (writes_are j v edit stamp s old files x)) (writes_long (taking_case j v edit stamp s old files x))

pub planned_within : (j : Journal) (v : HeldVolume) (edit : Edit) (stamp : Stamp) (s : Systems) (old : Layout) (files : List Kept) → IsTaking j v edit stamp s old files
    → AreWithin (length (start_of j.units v.unit)) (writes_of v s)
planned_within j v edit stamp s old files x = subst (AreWithin (length (start_of j.units v.unit))) (sym (writes_are j v edit stamp s old files x)) (write_within (taking_case j v edit stamp s old files x))

-- each of its writes is of a whole block, which lies from block 6 on but for that in which the directory begins
pub record WritesBlocks (v : HeldVolume) (edit : Edit) (stamp : Stamp) (s : Systems) : Type 0 where
  pub long : AreBlocks v.disk.bsize (writes_of v s)
  pub aside : AllByRecursion (IsAside (directory_piece v.disk.bsize s (entries_held edit.files) stamp 0)) (writes_of v s)

pub planned_writes : (j : Journal) (v : HeldVolume) (edit : Edit) (stamp : Stamp) (s : Systems) (old : Layout) (files : List Kept) → IsTaking j v edit stamp s old files → WritesBlocks v edit stamp s
planned_writes j v edit stamp s old files x = record {
  long = planned_blocks j v edit stamp s old files x;
  aside = subst (AllByRecursion (IsAside (directory_piece v.disk.bsize s (entries_held edit.files) stamp 0))) (sym (writes_are j v edit stamp s old files x))
      (part_aside (taking_case j v edit stamp s old files x));
}

-- what is taken for a file stays as it was
pub record StaysTaken (j : Journal) (v : HeldVolume) (s : Systems) (old : Layout) (n : ℕ) : Type 0 where
  pub low : 6 ≤ n
  pub high : n ≤ old.label.blocks
  pub same : now (later_of j v s) v.unit n ≡ now j v.unit n

pub taken_stay : (j : Journal) (v : HeldVolume) (edit : Edit) (stamp : Stamp) (s : Systems) (old : Layout) (files : List Kept) → IsTaking j v edit stamp s old files
    → (n : ℕ) → 1 ≤ times n edit.taken → StaysTaken j v s old n
taken_stay j v edit stamp s old files x n some =
    let t = taken_stays (taking_case j v edit stamp s old files x) n some in
    record { low = t.low; high = t.high; same = ap (λ (k : Journal). now k v.unit n) (laters_are j v edit stamp s old files x) ∙ t.same }

-- and so do the blocks of the volume before
pub old_stay : (j : Journal) (v : HeldVolume) (edit : Edit) (stamp : Stamp) (s : Systems) (old : Layout) (files : List Kept) → IsTaking j v edit stamp s old files
    → (n : ℕ) → In n (layout_blocks old) → now j v.unit n ≡ now (later_of j v s) v.unit n
old_stay j v edit stamp s old files x n there =
    old_stays (taking_case j v edit stamp s old files x) n there ∙ sym (ap (λ (k : Journal). now k v.unit n) (laters_are j v edit stamp s old files x))

-- ---- a renewal

pub taking : (j : Journal) (v : HeldVolume) (edit : Edit) (stamp : Stamp) (s : Systems) (old : Layout) (files : List Kept) → IsRenewal j v edit stamp s old files → IsTaking j v edit stamp s old files
taking j v edit stamp s old files x =
    let few = x.leaves.few in
    let count : length edit.files ≡ length files = sym (held_count edit.files) ∙ (entries_many files edit.files x.leaves.held ∙ kept_count files) in
    record {
      at = x.at;
      planned = x.planned;
      few = omega arith;
      back = x.leaves.back;
      balance = x.leaves.balance;
      had = x.leaves.had;
    }

pub part_renewal : (j : Journal) (v : HeldVolume) (edit : Edit) (stamp : Stamp) (s : Systems) (old : Layout) (files : List Kept) → IsRenewal j v edit stamp s old files
    → IsPartRenewal j v edit stamp s (parts_of s) old files
part_renewal j v edit stamp s old files x = record {
  at = x.at;
  trees = held_levels j v old x.at;
  planned = part_planned v edit stamp s x.planned;
  leaves = subst (λ (k : Journal). LeavesFiles (now j v.unit) (now k v.unit) v edit old files) (laters_are j v edit stamp s old files (taking j v edit stamp s old files x)) x.leaves;
}

pub update_renews : UpdateRenews
update_renews j v edit stamp s old files x =
    let t = taking j v edit stamp s old files x in
    let same = writes_are j v edit stamp s old files t in
    let r = part_update_renews j v edit stamp s (parts_of s) old files (part_renewal j v edit stamp s old files x) in
    let later = laters_are j v edit stamp s old files t in
    record {
      new = r.new;
      files_are = r.files_are;
      volid_is = r.volid_is;
      blocks_are = r.blocks_are;
      lost_is = r.lost_is;
      apart = subst (λ (ws : List Write). Apart ws (frame (opened old))) (sym same) r.apart;
      updates = subst (λ (ws : List Write). Updates v.disk j v.unit ws s.label_bytes (opened old) (opened r.new)) (sym same) r.updates;
      at = subst (λ (k : Journal). IsHeldAt k (renewed v edit s) r.new) (sym later) r.at;
    }

-- with what is written for a file it writes at most one block more than it needs
pub update_writes_few : (j : Journal) (v : HeldVolume) (edit : Edit) (stamp : Stamp) (s : Systems) (old : Layout) (files : List Kept) → IsRenewal j v edit stamp s old files
    → length edit.taken + length (writes_of v s) ≤ length (files_fresh v edit s (parts_of s)) + map_size v.disk.bsize v.label.blocks + 1
update_writes_few j v edit stamp s old files x =
    subst (λ (ws : List Write). length edit.taken + length ws ≤ length (files_fresh v edit s (parts_of s)) + map_size v.disk.bsize v.label.blocks + 1)
    (sym (writes_are j v edit stamp s old files (taking j v edit stamp s old files x)))
    (part_update_is_small j v edit stamp s (parts_of s) old files (part_renewal j v edit stamp s old files x))
