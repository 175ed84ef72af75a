-- The stamps of all files that are held are moved by a century.
use Rattle.std.proofs.Common.{◌≡◌, ℕ, ◌+◌, ◌≤◌, true, List, [], ◌∷◌, ◌++◌, map, All, refl, ap, arith}
use Rattle.std.proofs.lemmas.List.{length-map}
use Rattle.std.proofs.lemmas.List.Elements.{All-nil, All-cons, All-head, All-tail}
use Rattle.cms_journal.specs.Journal.{Journal}
use Rattle.cms_fields.specs.Entries.{counts_fit, length_fits, levels_fit, passes}
use Rattle.cms_fields.specs.declared.entry.Entry.{Entry}
use Rattle.cms_model.specs.Changes.{Century, changed_files, moved_to, stamp_moved}
use Rattle.cms_model.specs.Lists.{times}
use Rattle.cms_model.specs.LawsUpdates.{now}
use Rattle.cms_model.specs.Minidisks.{File}
use Rattle.cms_model.specs.Stands.{Kept, Layout, file_blocks, file_of, layout_blocks}
use Rattle.cms_model.specs.Trees.{Image}
use Rattle.cms_model.specs.Volumes.{Disk}
use Rattle.cms_model.proofs.Centuries.{moved_is_stamp}
use Rattle.cms_model.proofs.FileSizes.{passes_from, passing}
use Rattle.cms_held.specs.HeldTrees.{TreeComes}
use Rattle.cms_held.specs.HeldVolumes.{HeldFile, HeldVolume}
use Rattle.cms_held.specs.Kept.{IsKeptFile, Keeps}
use Rattle.cms_held.specs.LawsEdits.{CenturyEdits}
use Rattle.cms_held.specs.LawsRenewals.{IsHeldAt}
use Rattle.cms_held.specs.Renewals.{entries_held, moved_entry, moved_file, moving}
use Rattle.cms_held.specs.Written.{ReadsBack}
use Rattle.cms_held.proofs.Edits.{Beside, Moved, Old, beside_count, come_all, files_old, moved, no_times, pass_all, trees_of}
use Rattle.cms_held.proofs.TreesStay.{comes_moved}

-- a file of a volume with such a stamp
abbrev kept_moved : ℕ → Kept → Kept
kept_moved pivot g = record g { entry = record g.entry { stamp = stamp_moved pivot g.entry.stamp } }

files_moved : (pivot : ℕ) (fs : List Kept) → map (moved_to pivot) (map file_of fs) ≡ map file_of (map (kept_moved pivot) fs)
files_moved pivot [] = refl
files_moved pivot (f ∷ fs) = ap (λ (l : List File). moved_to pivot (file_of f) ∷ l) (files_moved pivot fs)

beside_moved : (pivot : ℕ) (fs : List Kept) (hs : List HeldFile) → Beside fs hs → Beside (map (kept_moved pivot) fs) (map (moved_file pivot) hs)
beside_moved pivot [] [] b = tt
beside_moved pivot [] (h ∷ hs) b = absurd b
beside_moved pivot (f ∷ fs) [] b = absurd b
beside_moved pivot (f ∷ fs) (h ∷ hs) b = (
  record {
    entry_is = ap (λ (e : Entry). record e { stamp = stamp_moved pivot e.stamp }) b.0.entry_is;
    told_is = b.0.told_is;
    tree_is = b.0.tree_is;
    length_is = b.0.length_is;
    size_is = b.0.size_is;
  },
  beside_moved pivot fs hs b.1,
)

-- what holds of each, and of it with its stamp moved, holds of all then
each_moved : (P : Kept → Type 0) (pivot : ℕ) → ((f : Kept) → P f → P (kept_moved pivot f)) → (fs : List Kept) → All P fs → All P (map (kept_moved pivot) fs)
each_moved P pivot step [] all = All-nil P
each_moved P pivot step (f ∷ fs) all =
    All-cons P (kept_moved pivot f) (map (kept_moved pivot) fs) (step f (All-head P f fs all)) (each_moved P pivot step fs (All-tail P f fs all))

trees_moved : (bsize total : ℕ) (before later : Image) (blocks : List ℕ) (pivot : ℕ) (hs : List HeldFile) → All (TreeComes bsize total before later blocks) hs
    → All (TreeComes bsize total before later blocks) (map (moved_file pivot) hs)
trees_moved bsize total before later blocks pivot [] all = All-nil (TreeComes bsize total before later blocks)
trees_moved bsize total before later blocks pivot (h ∷ hs) all =
    let T = TreeComes bsize total before later blocks in
    All-cons T (moved_file pivot h) (map (moved_file pivot) hs) (comes_moved bsize total before later blocks h pivot (All-head T h hs all))
    (trees_moved bsize total before later blocks pivot hs (All-tail T h hs all))

pub passes_moved : (bsize pivot : ℕ) (e : Entry) → pivot ≤ 100 → passes bsize e ≡ true → passes bsize (record e { stamp = stamp_moved pivot e.stamp }) ≡ true
unfolding length_fits counts_fit levels_fit
passes_moved bsize pivot e small is =
    let p = passing bsize e is in
    passes_from bsize (record e { stamp = stamp_moved pivot e.stamp }) (record {
      number = p.number;
      fits = record { long = p.fits.long; counts = p.fits.counts; levels = p.fits.levels };
      stamp = moved_is_stamp pivot e.stamp small p.stamp;
    })

-- files that are kept are kept then, where their new entries are spelled
kept_file_moved : (bsize total pivot : ℕ) (f : HeldFile) → pivot ≤ 100 → ReadsBack (moved_entry pivot f.entry) → IsKeptFile bsize total f
    → IsKeptFile bsize total (moved_file pivot f)
kept_file_moved bsize total pivot f small back k = record {
  entry = passes_moved bsize pivot f.entry small k.entry;
  spells = back;
  count = k.count;
  within = k.within;
  nodes_within = k.nodes_within;
  room = k.room;
  some = k.some;
  short = k.short;
  told = k.told;
  size = k.size;
  sized = k.sized;
  shape = k.shape;
  low = k.low;
  high = k.high;
}

pub kept_all_moved : (bsize total pivot : ℕ) (hs : List HeldFile) → pivot ≤ 100 → All ReadsBack (entries_held (moving hs pivot).files) → All (IsKeptFile bsize total) hs
    → All (IsKeptFile bsize total) (moving hs pivot).files
kept_all_moved bsize total pivot [] small back all = All-nil (IsKeptFile bsize total)
kept_all_moved bsize total pivot (h ∷ hs) small back all =
    let K = IsKeptFile bsize total in
    let entry = moved_entry pivot h.entry in
    let entries = entries_held (moving hs pivot).files in
    All-cons K (moved_file pivot h) (map (moved_file pivot) hs)
    (kept_file_moved bsize total pivot h small (All-head ReadsBack entry entries back) (All-head K h hs all))
    (kept_all_moved bsize total pivot hs small (All-tail ReadsBack entry entries back) (All-tail K h hs all))

old_moved : (disk : Disk) (total : ℕ) (before : Image) (blocks : List ℕ) (pivot : ℕ) (f : Kept) → Old disk total before blocks f → Old disk total before blocks (kept_moved pivot f)
old_moved disk total before blocks pivot f old = (record { met = old.0.met; records = old.0.records }, old.1)

blocks_moved : (pivot : ℕ) (fs : List Kept) → file_blocks (map (kept_moved pivot) fs) ≡ file_blocks fs
unfolding file_blocks
blocks_moved pivot [] = refl
blocks_moved pivot (f ∷ fs) = ap (λ (l : List ℕ). f.met.blocks ++ l) (blocks_moved pivot fs)

pub century_moves : (j : Journal) (v : HeldVolume) (old : Layout) (later : Image) (pivot : ℕ) → IsHeldAt j v old → Keeps v → pivot ≤ 100
    → Moved (now j v.unit) later v (moving v.files pivot) old (Century pivot)
unfolding changed_files
century_moves j v old later pivot x kept small =
    let fs = map (kept_moved pivot) old.files in
    let before = now j v.unit in
    let blocks = layout_blocks old in
    let few = kept.few in
    let count = beside_count old.files v.files x.held.files_are in
    let P = λ (f : Kept). passes v.disk.bsize f.entry ≡ true in
    moved before later v (moving v.files pivot) old (Century pivot) fs x.stands.names tt (files_moved pivot old.files) (beside_moved pivot old.files v.files x.held.files_are)
    (let n = length-map old.files (kept_moved pivot) in omega arith)
    (each_moved P pivot (λ f is. passes_moved v.disk.bsize pivot f.entry small is) old.files (pass_all v.disk.bsize v.label.blocks old.files v.files x.held.files_are kept.each))
    (come_all v.disk v.label.blocks before later blocks fs
    (each_moved (Old v.disk v.label.blocks before blocks) pivot (λ f old'. old_moved v.disk v.label.blocks before blocks pivot f old') old.files (files_old j v old x)))
    (trees_moved v.disk.bsize v.label.blocks before later blocks pivot v.files (trees_of j v old later x))
    (λ n. ap (λ (l : List ℕ). times n l + times n []) (blocks_moved pivot old.files))
    (λ n. omega (arith, no_times n))

pub century_edits : CenturyEdits
century_edits j v old later pivot x kept small back =
    let m = century_moves j v old later pivot x kept small in
    record { files = m.files; files_are = m.files_are; leaves = m.leaves back }
