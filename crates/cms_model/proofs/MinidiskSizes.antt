-- The blocks of a minidisk are in use, free or lost.
use Rattle.std.proofs.Common.{◌≡◌, inl, inr, ⊎_elim, ℕ, ◌+◌, ◌-◌, ◌*◌, ◌/◌, ◌<◌, ◌≤◌, List, ◌++◌, length, drop, Some, None, Ok, true, refl, sym, ◌∙◌, ap, subst, arith, length-append}
use Rattle.std.specs.Prelude.{nat_le, ◌==◌, ◌&&◌, ◌||◌}
use Rattle.std.proofs.lemmas.Bool.{and_parts, eqb-true}
use Rattle.cms_names.specs.Names.{is_between}
use Rattle.cms_names.specs.declared.name.Format.TheVariants.{F}
use Rattle.cms_text.specs.Bytes.{word, byte}
use Rattle.cms_fields.specs.Numbers.{up, is_shape}
use Rattle.cms_model.specs.Lists.{In, cut, times}
use Rattle.cms_model.specs.Trees.{Image, form_of, bytes_at}
use Rattle.cms_model.specs.Maps.{lost_count}
use Rattle.cms_model.specs.Systems.{SystemFile, system_fields, is_system, is_directory, is_map, directory_of, map_of}
use Rattle.cms_model.specs.Sizes.{tree_size, directory_more, map_size, used_count, free_count}
use Rattle.cms_model.specs.Volumes.{Disk, Opened, IsOpened, open_of, minidisk_of, blocks_of, all_blocks, files_of}
use Rattle.cms_model.specs.LawsVolumes.{IsInOrder}
use Rattle.cms_model.specs.LawsSizes.{IsWhole, AreShared}
use Rattle.cms_model.specs.declared.fault.OpenFault.TheVariants.{System}
use Rattle.cms_model.proofs.Results.{ok_same, want_ok}
use Rattle.cms_model.proofs.Quotients.{up_unique, up_some, up_below}
use Rattle.cms_model.proofs.TreeFrame.{between, tree_inside}
use Rattle.cms_model.proofs.TreeSizes.{tree_has_size, tree_first}
use Rattle.cms_model.proofs.OpenedVolumes.{open_ok}
use Rattle.cms_model.proofs.InOrder.{in_order}
use Rattle.cms_model.proofs.Members.{In-left}
use Rattle.cms_model.proofs.Repeats.{in_held, held, in_from}
use Rattle.cms_model.proofs.Shares.{range_times, range_all, shares}
use Rattle.cms_model.proofs.Cuts.{length_cut}
use Rattle.cms_journal.proofs.Sizes.{block_bounds}
use Rattle.cms_model.proofs.FileSizes.{fan_wide, entries_fit, files_blocks}

-- ---- the directory and the map

-- what the tests of a system file say
pub record SystemFits (bsize size : ℕ) (s : SystemFile) : Type 0 where
  pub blocks : s.blocks ≡ up (s.count * size) bsize
  pub shape : is_shape (bsize / 4) s.blocks s.levels ≡ true

system_fits : (bsize size : ℕ) (bytes : List ℕ) → is_system bsize size bytes ≡ true → SystemFits bsize size (system_fields bytes)
unfolding is_system system_fields
system_fits bsize size bytes is =
    let a = and_parts ((byte bytes 30 == 0xC6) && (word bytes 32 == size) && (word bytes 44 == up (word bytes 48 * size) bsize)) (is_shape (bsize / 4) (word bytes 44) (byte bytes 52)) is in
    let b = and_parts ((byte bytes 30 == 0xC6) && (word bytes 32 == size)) (word bytes 44 == up (word bytes 48 * size) bsize) a.0 in
    record { blocks = eqb-true (word bytes 44) (up (word bytes 48 * size) bsize) b.1; shape = a.1 }

pub record DirectoryFits (bsize : ℕ) (s : SystemFile) : Type 0 where
  pub fits : SystemFits bsize 64 s
  pub low : 2 ≤ s.count
  pub high : s.count ≤ 16386

pub directory_fits : (bsize origin : ℕ) (bytes : List ℕ) (s : SystemFile) → directory_of bsize origin bytes ≡ Ok s → DirectoryFits bsize s
unfolding directory_of is_directory system_fields
directory_fits bsize origin bytes s e =
    let r = want_ok (is_directory bsize origin bytes) (System 0) (Ok (system_fields bytes)) s e in
    let a = and_parts (is_system bsize 64 bytes && is_between 2 16386 (word bytes 48)) (nat_le 1 (byte bytes 52) || (word bytes 40 == origin)) r.0 in
    let b = and_parts (is_system bsize 64 bytes) (is_between 2 16386 (word bytes 48)) a.0 in
    let range = between 2 16386 (word bytes 48) b.1 in
    subst (DirectoryFits bsize) (ok_same (system_fields bytes) s r.1) (record { fits = system_fits bsize 64 bytes b.0; low = range.0; high = range.1 })

pub record MapFits (bsize total : ℕ) (s : SystemFile) : Type 0 where
  pub fits : SystemFits bsize bsize s
  pub count : s.count ≡ up (up total 8) bsize

pub map_fits : (bsize total : ℕ) (bytes : List ℕ) (s : SystemFile) → map_of bsize total bytes ≡ Ok s → MapFits bsize total s
unfolding map_of is_map system_fields
map_fits bsize total bytes s e =
    let r = want_ok (is_map bsize total bytes) (System 1) (Ok (system_fields bytes)) s e in
    let a = and_parts (is_system bsize bsize bytes) (word bytes 48 == up (up total 8) bsize) r.0 in
    subst (MapFits bsize total) (ok_same (system_fields bytes) s r.1) (record { fits = system_fits bsize bsize bytes a.0; count = eqb-true (word bytes 48) (up (up total 8) bsize) a.1 })

tree_some : (fan blocks : ℕ) → 1 ≤ blocks → 1 ≤ tree_size fan blocks
unfolding tree_size
tree_some fan blocks some = omega arith

-- the blocks of a directory, with its first
pub directory_blocks : (disk : Disk) (image : Image) (v : Opened) → IsWhole disk image → IsOpened disk image v → length v.directory_met.blocks ≡ 1 + directory_more disk.bsize (v.directory.count - 2)
unfolding directory_more
directory_blocks disk image v whole o =
    let low = (block_bounds disk.bsize whole.size).0 in
    let d = directory_fits disk.bsize v.label.origin (image v.label.origin) v.directory o.system.directory in
    let two = d.low in
    let most = d.high in
    let is : v.directory.blocks ≡ up (v.directory.count * 64) disk.bsize = d.fits.blocks in
    let some = up_some (v.directory.count * 64) disk.bsize (omega arith) (omega arith) in
    let small = up_below (v.directory.count * 64) disk.bsize (omega arith) in
    let size = (tree_has_size (form_of disk.bsize v.label.blocks F) image v.directory.levels (Some v.label.origin) v.label.origin v.directory.root v.directory.blocks v.directory_met
    (fan_wide disk.bsize F whole.size) (omega arith) (omega arith) d.fits.shape o.system.directory_met).1 in
    let count : v.directory.count * 64 ≡ 64 * (v.directory.count - 2 + 2) = omega arith in
    let same : length v.directory_met.blocks ≡ tree_size (disk.bsize / 4) (up (64 * (v.directory.count - 2 + 2)) disk.bsize) =
    size ∙ ap (tree_size (disk.bsize / 4)) (is ∙ ap (λ (n : ℕ). up n disk.bsize) count) in
    let more : 1 ≤ tree_size (disk.bsize / 4) v.directory.blocks = tree_some (disk.bsize / 4) v.directory.blocks (omega arith) in
    omega arith

pub map_blocks : (disk : Disk) (image : Image) (v : Opened) → IsWhole disk image → IsOpened disk image v → 6 ≤ v.label.blocks → v.label.blocks ≤ disk.count
    → length v.map_met.blocks ≡ map_size disk.bsize v.label.blocks
unfolding map_size
map_blocks disk image v whole o big top =
    let low = (block_bounds disk.bsize whole.size).0 in
    let small = whole.small in
    let m = map_fits disk.bsize v.label.blocks (drop 64 (image v.label.origin)) v.map o.system.map in
    let is : v.map.blocks ≡ up (v.map.count * disk.bsize) disk.bsize = m.fits.blocks in
    let exact : v.map.count ≡ up (v.map.count * disk.bsize) disk.bsize = up_unique (v.map.count * disk.bsize) disk.bsize v.map.count (omega arith) (omega arith) (omega arith) in
    let count : v.map.blocks ≡ up (up v.label.blocks 8) disk.bsize = is ∙ sym exact ∙ m.count in
    let s1 = up_some v.label.blocks 8 (omega arith) (omega arith) in
    let s2 = up_some (up v.label.blocks 8) disk.bsize (omega arith) s1 in
    let b1 = up_below v.label.blocks 8 (omega arith) in
    let b2 = up_below (up v.label.blocks 8) disk.bsize (omega arith) in
    let size = (tree_has_size (form_of disk.bsize v.label.blocks F) image v.map.levels None v.label.origin v.map.root v.map.blocks v.map_met (fan_wide disk.bsize F whole.size) (omega arith)
    (omega arith) m.fits.shape o.system.map_met).1 in
    size ∙ ap (tree_size (disk.bsize / 4)) count

-- ---- the whole

-- how often the origin stands among all blocks
origin_once : (disk : Disk) (image : Image) (v : Opened) → IsWhole disk image → IsOpened disk image v → IsInOrder disk image v → times v.label.origin (all_blocks v) ≡ 1
origin_once disk image v whole o order =
    let low = (block_bounds disk.bsize whole.size).0 in
    let form = form_of disk.bsize v.label.blocks F in
    let at = v.label.origin in
    let d = directory_fits disk.bsize at (image at) v.directory o.system.directory in
    let two = d.low in
    let is : v.directory.blocks ≡ up (v.directory.count * 64) disk.bsize = d.fits.blocks in
    let some = up_some (v.directory.count * 64) disk.bsize (omega arith) (omega arith) in
    let wide = fan_wide disk.bsize F whole.size in
    let begins = tree_first form image v.directory.levels at at v.directory.root v.directory.blocks v.directory_met (omega arith) (omega arith) o.system.directory_met in
    let leaf : In at v.directory_met.leaves = subst (In at) (sym begins.1) (inl refl) in
    let inside : In at v.directory_met.blocks = tree_inside form image v.directory.levels (Some at) at v.directory.root v.directory.blocks v.directory_met o.system.directory_met at leaf in
    let all : In at (all_blocks v) = In-left at v.directory_met.blocks (v.map_met.blocks ++ blocks_of v.mets) inside in
    let one = held at (all_blocks v) (in_held at (all_blocks v) all) in
    let most = order.once at in
    omega arith

pub blocks_are_shared : (disk : Disk) (image : Image) (v : Opened) → IsWhole disk image → open_of disk image ≡ Ok v → AreShared disk image v
unfolding minidisk_of used_count free_count
blocks_are_shared disk image v whole e =
    let o = open_ok disk image v e in
    let order = in_order disk image v e in
    let big = order.size.0 in
    let top = order.size.1 in
    let total = v.label.blocks in
    let bytes = bytes_at image v.map_met.leaves in
    let low : v.label.origin < 6 = ⊎_elim (λ (four : v.label.origin ≡ 4). omega arith) (λ (five : v.label.origin ≡ 5). omega arith) order.origin in
    let es = entries_fit disk.bsize 2 (cut (v.directory.count - 2) 64 (drop 128 (bytes_at image v.directory_met.leaves))) v.entries o.system.entries in
    let entries : length v.entries ≡ v.directory.count - 2 = es.1 ∙ length_cut (v.directory.count - 2) 64 (drop 128 (bytes_at image v.directory_met.leaves)) in
    let files = files_blocks disk image total v.directory_met.leaves 2 v.entries v.mets v.contents whole top es.0 o.mets o.contents in
    let directory = directory_blocks disk image v whole o in
    let map = map_blocks disk image v whole o big top in
    let count : directory_more disk.bsize (length (files_of v.entries v.contents)) ≡ directory_more disk.bsize (v.directory.count - 2) = ap (directory_more disk.bsize) (files.1 ∙ entries) in
    let long : length (all_blocks v) ≡ length v.directory_met.blocks + (length v.map_met.blocks + length (blocks_of v.mets)) =
    length-append v.directory_met.blocks (v.map_met.blocks ++ blocks_of v.mets) ∙ ap (λ (n : ℕ). length v.directory_met.blocks + n) (length-append v.map_met.blocks (blocks_of v.mets)) in
    let range : range_times (all_blocks v) 6 (total - 5) + times v.label.origin (all_blocks v) ≡ length (all_blocks v) =
    range_all (all_blocks v) 6 (total - 5) v.label.origin low (λ x in'. ⊎_elim (λ (free : (6 ≤ x) × (x ≤ total)). let high = free.1 in inl (free.0, (omega arith)))
    (λ (is : x ≡ v.label.origin). inr is) (order.within x in')) in
    let one = origin_once disk image v whole o order in
    let all = shares bytes (all_blocks v) 6 (total - 5) order.once (λ k le less h. order.marked k le (in_from k (all_blocks v) h)) in
    let lost : lost_count bytes (all_blocks v) 6 (total - 5) ≡ v.lost = o.lost in
    let sum = files.0 in
    record { whole = omega arith; used = omega arith; free = omega arith }
