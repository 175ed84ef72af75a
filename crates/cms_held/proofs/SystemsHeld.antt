-- A unit that is settled at a volume has its directory and its map as they are held.
use Rattle.std.proofs.Common.{◌≡◌, inl, inr, ⊎_elim, ℕ, ◌+◌, ◌-◌, ◌*◌, ◌≤◌, List, [], ◌∷◌, length, drop, map, All, Ok, refl, sym, ◌∙◌, ap, subst, arith}
use Rattle.std.specs.Prelude.{None, Some}
use Rattle.std.proofs.lemmas.List.Elements.{All-nil, All-cons}
use Rattle.cms_journal.specs.Journal.{Journal}
use Rattle.cms_journal.proofs.Sizes.{block_bounds}
use Rattle.cms_names.specs.declared.name.Format.TheVariants.{F}
use Rattle.cms_fields.specs.Numbers.{up}
use Rattle.cms_fields.specs.declared.label.Label.{Label}
use Rattle.cms_model.specs.Lists.{In, cut}
use Rattle.cms_model.specs.Trees.{Image, bytes_at, form_of}
use Rattle.cms_model.specs.Volumes.{IsOpened, all_blocks, as_read, entries_of}
use Rattle.cms_model.specs.LawsUpdates.{now}
use Rattle.cms_model.specs.Stands.{Layout, entries_in, opened}
use Rattle.cms_model.proofs.Cuts.{length_cut}
use Rattle.cms_model.proofs.FileSizes.{entries_fit, fan_wide}
use Rattle.cms_model.proofs.InOrder.{in_order}
use Rattle.cms_model.proofs.Members.{In-left, In-right}
use Rattle.cms_model.proofs.MinidiskSizes.{directory_fits, map_fits}
use Rattle.cms_model.proofs.Quotients.{up_some, up_below, up_unique}
use Rattle.cms_model.proofs.Stands.{stands_opened}
use Rattle.cms_model.proofs.TreeFrame.{tree_inside}
use Rattle.cms_model.proofs.TreeSizes.{tree_has_size}
use Rattle.cms_map.specs.Bits.{bits_in}
use Rattle.cms_held.specs.HeldVolumes.{HeldVolume}
use Rattle.cms_held.specs.LawsRenewals.{IsHeldAt}
use Rattle.cms_held.specs.Renewals.{entries_held}
use Rattle.cms_held.proofs.OldBlocks.{old_opens}
use Rattle.cms_held.proofs.Renewals.{entries_many, same_entries}
use Rattle.cms_held.specs.SharedSystems.{HeldHasSystems}
use Rattle.cms_model.specs.DirectoryParts.{directory_count}

all_in : (P : ℕ → Type 0) (ns : List ℕ) → ((n : ℕ) → In n ns → P n) → All P ns
all_in P [] each = All-nil P
all_in P (x ∷ xs) each = All-cons P x xs (each x (inl refl)) (all_in P xs (λ n there. each n (inr there)))

-- how many data blocks both have, and how many entries
record Counts (v : HeldVolume) (old : Layout) : Type 0 where
  directory : length old.directory_met.leaves ≡ directory_count v.disk.bsize (length (entries_in old.files))
  entries : old.directory.count - 2 ≡ length (entries_in old.files)
  map : length old.map_met.leaves ≡ up (up old.label.blocks 8) v.disk.bsize

counts : (j : Journal) (v : HeldVolume) (old : Layout) → IsHeldAt j v old → Counts v old
counts j v old x =
    let image = now j v.unit in
    let bsize = v.disk.bsize in
    let o = stands_opened v.disk image old x.stands in
    let order = in_order v.disk image (opened old) (old_opens j v old x) in
    let whole = x.whole in
    let low = (block_bounds bsize whole.size).0 in
    let size = order.size.0 in
    let top = order.size.1 in
    let small = whole.small in
    -- the directory
    let d = directory_fits bsize old.label.origin (image old.label.origin) old.directory o.system.directory in
    let two = d.low in
    let most = d.high in
    let is : old.directory.blocks ≡ up (old.directory.count * 64) bsize = d.fits.blocks in
    let some = up_some (old.directory.count * 64) bsize (omega arith) (omega arith) in
    let few = up_below (old.directory.count * 64) bsize (omega arith) in
    let long = (tree_has_size (form_of bsize old.label.blocks F) image old.directory.levels (Some old.label.origin) old.label.origin old.directory.root old.directory.blocks old.directory_met
    (fan_wide bsize F whole.size) (omega arith) (omega arith) d.fits.shape o.system.directory_met).0 in
    let pieces = cut (old.directory.count - 2) 64 (drop 128 (bytes_at image old.directory_met.leaves)) in
    let entries : length (entries_in old.files) ≡ old.directory.count - 2 = (entries_fit bsize 2 pieces (entries_in old.files) o.system.entries).1
    ∙ length_cut (old.directory.count - 2) 64 (drop 128 (bytes_at image old.directory_met.leaves)) in
    let count : old.directory.count * 64 ≡ 64 * (length (entries_in old.files) + 2) = omega arith in
    -- the map
    let m = map_fits bsize old.label.blocks (drop 64 (image old.label.origin)) old.map o.system.map in
    let map_is : old.map.blocks ≡ up (old.map.count * bsize) bsize = m.fits.blocks in
    let exact : old.map.count ≡ up (old.map.count * bsize) bsize = up_unique (old.map.count * bsize) bsize old.map.count (omega arith) (omega arith) (omega arith) in
    let map_count : old.map.blocks ≡ up (up old.label.blocks 8) bsize = map_is ∙ sym exact ∙ m.count in
    let s1 = up_some old.label.blocks 8 (omega arith) (omega arith) in
    let s2 = up_some (up old.label.blocks 8) bsize (omega arith) s1 in
    let b1 = up_below old.label.blocks 8 (omega arith) in
    let b2 = up_below (up old.label.blocks 8) bsize (omega arith) in
    let map_long = (tree_has_size (form_of bsize old.label.blocks F) image old.map.levels None old.label.origin old.map.root old.map.blocks old.map_met
    (fan_wide bsize F whole.size) (omega arith) (omega arith) m.fits.shape o.system.map_met).0 in
    record {
      directory = long ∙ (is ∙ ap (λ (n : ℕ). up n bsize) count);
      entries = sym entries;
      map = map_long ∙ map_count;
    }

-- each block of the volume has its size
blocks_long : (j : Journal) (v : HeldVolume) (old : Layout) → IsHeldAt j v old → (n : ℕ) → In n (all_blocks (opened old)) → length (now j v.unit n) ≡ v.disk.bsize
blocks_long j v old x n there =
    let order = in_order v.disk (now j v.unit) (opened old) (old_opens j v old x) in
    let size = order.size.0 in
    let top = order.size.1 in
    ⊎_elim
    (λ (free : (6 ≤ n) × (n ≤ old.label.blocks)). let low = free.0 in let high = free.1 in x.whole.each n (omega arith) (omega arith))
    (λ (at : n ≡ old.label.origin). ⊎_elim
    (λ (four : old.label.origin ≡ 4). x.whole.each n (omega arith) (omega arith))
    (λ (five : old.label.origin ≡ 5). x.whole.each n (omega arith) (omega arith))
    order.origin)
    (order.within n there)

pub held_has_systems : HeldHasSystems
held_has_systems j v old x = record {
  directory_long = rw directory (all_in (λ (n : ℕ). length (image n) ≡ v.disk.bsize) old.directory_met.leaves (λ n there. blocks_long j v old x n
      (In-left n old.directory_met.blocks _ (tree_inside (form_of v.disk.bsize old.label.blocks F) image old.directory.levels (Some old.label.origin) old.label.origin old.directory.root old.directory.blocks
      old.directory_met o.system.directory_met n there))));
  directory_is = rw (directory, many) c.directory;
  entries_are = rw (directory, many, entries) (subst (λ (n : ℕ). entries_of v.disk.bsize 2 (cut n 64 (drop 128 (bytes_at image old.directory_met.leaves))) ≡ Ok (entries_in old.files)) c.entries o.system.entries);
  map_long = rw map_leaves (all_in (λ (n : ℕ). length (image n) ≡ v.disk.bsize) old.map_met.leaves (λ n there. blocks_long j v old x n
      (In-right n old.directory_met.blocks _ (In-left n old.map_met.blocks _ (tree_inside (form_of v.disk.bsize old.label.blocks F) image old.map.levels None old.label.origin old.map.root old.map.blocks
      old.map_met o.system.map_met n there)))));
  map_count = rw map_leaves (c.map ∙ ap (λ (n : ℕ). up (up n 8) v.disk.bsize) (sym blocks));
  bits_are = rw map_leaves (ap (λ (n : ℕ). bits_in n (bytes_at image old.map_met.leaves)) blocks ∙ sym x.held.bits_are);
}
  where
    image : Image
    image = now j v.unit

    o : IsOpened v.disk (now j v.unit) (opened old)
    o = stands_opened v.disk (now j v.unit) old x.stands

    c : Counts v old
    c = counts j v old x

    directory : v.directory.leaves ≡ old.directory_met.leaves
    directory = x.held.directory_is.leaves

    map_leaves : v.map.leaves ≡ old.map_met.leaves
    map_leaves = x.held.map_is.leaves

    entries : map as_read (entries_held v.files) ≡ entries_in old.files
    entries = same_entries old.files v.files x.held.files_are

    many : length (entries_held v.files) ≡ length (entries_in old.files)
    many = entries_many old.files v.files x.held.files_are

    blocks : v.label.blocks ≡ old.label.blocks
    blocks = ap (λ (l : Label). l.blocks) x.held.label_is
