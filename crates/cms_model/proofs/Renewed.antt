-- After an update the new volume stands.
use Rattle.std.proofs.Common.{◌≡◌, ◌⊎◌, inl, inr, ⊎_elim, ℕ, zero, suc, ◌+◌, ◌-◌, ◌<◌, ◌≤◌, List, [], ◌∷◌, ◌++◌, map, Some, None, Bool, true, false, not, refl, sym, ◌∙◌, ap, arith}
use Rattle.std.specs.Prelude.{◌&&◌, ◌||◌}
use Rattle.cms_names.specs.declared.name.Format.TheVariants.{F}
use Rattle.cms_model.specs.Lists.{In, holds}
use Rattle.cms_model.specs.Trees.{Image, form_of, bytes_at}
use Rattle.cms_model.specs.Maps.{is_marked, lost_count}
use Rattle.cms_model.specs.Minidisks.{File}
use Rattle.cms_model.specs.Volumes.{Disk, HoldsSystem, files_of, minidisk_of}
use Rattle.cms_model.specs.Settled.{Agree}
use Rattle.cms_model.specs.Stands.{Kept, file_of, HoldsFile, HoldsFiles, entries_in, records_in, file_blocks, Layout, layout_blocks, opened, Stands, Comes, Exchange, IsRenewed}
use Rattle.cms_model.proofs.TreeFrame.{Place, tree_keeps, tree_inside, tree_places}
use Rattle.cms_model.proofs.VolumeFrame.{bytes_keep}
use Rattle.cms_model.proofs.Repeats.{held, held_from, in_from}
use Rattle.cms_model.proofs.Members.{In-either}
use Rattle.cms_model.proofs.InOrder.{place_none}
use Rattle.cms_model.proofs.OpenedVolumes.{label_reads}

-- ---- files that stay

-- a file whose blocks are as they were is the same file
pub file_keeps : (disk : Disk) (total : ℕ) (before later : Image) (f : Kept) → HoldsFile disk total before f → Agree f.met.blocks before later → HoldsFile disk total later f
file_keeps disk total before later f h agree =
    let form = form_of disk.bsize total f.entry.format in
    let same : bytes_at later f.met.leaves ≡ bytes_at before f.met.leaves =
    sym (bytes_keep before later f.met.leaves (λ n in'. agree n (tree_inside form before f.entry.levels None 0 f.entry.root f.entry.blocks f.met (h.met 0) n in'))) in
    record {
      met = λ holder. tree_keeps form before later f.entry.levels None holder holder f.entry.root f.entry.blocks f.met (h.met holder) agree;
      records = rw same h.records;
    }

comes_held : (disk : Disk) (total : ℕ) (before later : Image) (fs : List Kept) → Comes disk total before later fs → HoldsFiles disk total later fs
comes_held disk total before later [] c = tt
comes_held disk total before later (f ∷ fs) c =
    (⊎_elim (λ old. file_keeps disk total before later f old.0 old.1) (λ new. new) c.0, comes_held disk total before later fs c.1)

-- ---- blocks given back and taken

-- what is marked and not met stays so
exchange_bits : (marked' met' marked met r f : Bool) → met' ≡ ((met && not r) || f) → marked' ≡ ((marked && not r) || f) → (f ≡ true → marked ≡ false) → (r ≡ true → met ≡ true)
    → (marked' && not met') ≡ (marked && not met)
exchange_bits marked' met' true met r true e1 e2 free had = let no : true ≡ false = free refl in absurd (cc)
exchange_bits marked' met' true true true false e1 e2 free had = rw (e1, e2) refl
exchange_bits marked' met' true true false false e1 e2 free had = rw (e1, e2) refl
exchange_bits marked' met' true false true false e1 e2 free had = let no : false ≡ true = had refl in absurd (cc)
exchange_bits marked' met' true false false false e1 e2 free had = rw (e1, e2) refl
exchange_bits marked' met' false true true true e1 e2 free had = rw (e1, e2) refl
exchange_bits marked' met' false true true false e1 e2 free had = rw (e1, e2) refl
exchange_bits marked' met' false true false true e1 e2 free had = rw (e1, e2) refl
exchange_bits marked' met' false true false false e1 e2 free had = rw (e1, e2) refl
exchange_bits marked' met' false false true f e1 e2 free had = let no : false ≡ true = had refl in absurd (cc)
exchange_bits marked' met' false false false true e1 e2 free had = rw (e1, e2) refl
exchange_bits marked' met' false false false false e1 e2 free had = rw (e1, e2) refl

lost_same : (old_map new_map old_blocks new_blocks : List ℕ) (n more : ℕ)
    → ((k : ℕ) → n ≤ k → k < n + more → (is_marked new_map k && not (holds new_blocks k)) ≡ (is_marked old_map k && not (holds old_blocks k)))
    → lost_count new_map new_blocks n more ≡ lost_count old_map old_blocks n more
unfolding lost_count
lost_same old_map new_map old_blocks new_blocks n zero h = refl
lost_same old_map new_map old_blocks new_blocks n (suc more) h =
    rw (h n (omega arith) (omega arith), lost_same old_map new_map old_blocks new_blocks (n + 1) more (λ k le less. h k (omega arith) (omega arith))) refl

pub exchange_lost : (last : ℕ) (old_map new_map old_blocks new_blocks : List ℕ) (released fresh : ℕ → Bool) → Exchange last old_map new_map old_blocks new_blocks released fresh
    → lost_count new_map new_blocks 6 (last - 5) ≡ lost_count old_map old_blocks 6 (last - 5)
exchange_lost last old_map new_map old_blocks new_blocks released fresh c =
    lost_same old_map new_map old_blocks new_blocks 6 (last - 5) (λ k le less.
    let high : k ≤ last = omega arith in
    exchange_bits (is_marked new_map k) (holds new_blocks k) (is_marked old_map k) (holds old_blocks k) (released k) (fresh k) (c.blocks k le high) (c.marks k le high) (c.free k) (c.had k))

marked_later : (marked met r f : Bool) → (met ≡ true → marked ≡ true) → ((met && not r) || f) ≡ true → ((marked && not r) || f) ≡ true
marked_later true met true true h e = refl
marked_later true true true false h e = absurd (cc)
marked_later true false true false h e = absurd (cc)
marked_later true met false f h e = refl
marked_later false true r f h e = let no : false ≡ true = h refl in absurd (cc)
marked_later false false r f h e = e

-- what is met after the update is marked in the new map
pub exchange_marked : (last : ℕ) (old_map new_map old_blocks new_blocks : List ℕ) (released fresh : ℕ → Bool) → Exchange last old_map new_map old_blocks new_blocks released fresh
    → ((n : ℕ) → 6 ≤ n → holds old_blocks n ≡ true → is_marked old_map n ≡ true) → (n : ℕ) → 6 ≤ n → n ≤ last → holds new_blocks n ≡ true → is_marked new_map n ≡ true
exchange_marked last old_map new_map old_blocks new_blocks released fresh c marked n le high is =
    c.marks n le high ∙ marked_later (is_marked old_map n) (holds old_blocks n) (released n) (fresh n) (marked n le) (sym (c.blocks n le high) ∙ is)

-- ---- where the blocks lie

files_within : (disk : Disk) (total : ℕ) (image : Image) (fs : List Kept) → HoldsFiles disk total image fs → (n : ℕ) → In n (file_blocks fs) → n ≤ total
unfolding file_blocks
files_within disk total image [] h n in' = absurd in'
files_within disk total image (f ∷ fs) h n in' = ⊎_elim
    (λ here. (place_none total n (tree_places (form_of disk.bsize total f.entry.format) image f.entry.levels None 0 f.entry.root f.entry.blocks f.met (h.0.met 0) n here)).1)
    (λ there. files_within disk total image fs h.1 n there)
    (In-either n f.met.blocks (file_blocks fs) in')

pub layout_within : (disk : Disk) (image : Image) (v : Layout) → HoldsSystem disk image (opened v) → HoldsFiles disk v.label.blocks image v.files
    → (n : ℕ) → 6 ≤ n → In n (layout_blocks v) → n ≤ v.label.blocks
layout_within disk image v s h n low in' =
    let form = form_of disk.bsize v.label.blocks F in
    let origin = v.label.origin in
    ⊎_elim
    (λ dir. placed (tree_places form image v.directory.levels (Some origin) origin v.directory.root v.directory.blocks v.directory_met s.directory_met n dir))
    (λ rest. ⊎_elim
    (λ map. (place_none v.label.blocks n (tree_places form image v.map.levels None origin v.map.root v.map.blocks v.map_met s.map_met n map)).1)
    (λ files. files_within disk v.label.blocks image v.files h n files)
    (In-either n v.map_met.blocks (file_blocks v.files) rest))
    (In-either n v.directory_met.blocks (v.map_met.blocks ++ file_blocks v.files) in')
  where
    first : (v.label.origin ≡ 4) ⊎ (v.label.origin ≡ 5) → v.label.origin ≡ n → ⊥
    first (inl e) is = omega arith
    first (inr e) is = omega arith

    placed : Place v.label.blocks (Some v.label.origin) n → n ≤ v.label.blocks
    placed (inl free) = free.1
    placed (inr e) = absurd (first (label_reads disk.bsize disk.count (image 3) v.label s.label).origin (cc))

pub renewed_stands : (disk : Disk) (before later : Image) (old new : Layout) (released fresh : ℕ → Bool) → IsRenewed disk before later old new released fresh → Stands disk later new
renewed_stands disk before later old new released fresh r =
    let old_map = bytes_at before old.map_met.leaves in
    let new_map = bytes_at later new.map_met.leaves in
    let s = r.old_stands in
    let files = comes_held disk new.label.blocks before later new.files r.files in
    record {
      system = r.system;
      names = r.names;
      files = files;
      apart = r.apart;
      marked = λ n le some.
          let is = held_from n (layout_blocks new) some in
          exchange_marked new.label.blocks old_map new_map (layout_blocks old) (layout_blocks new) released fresh r.exchange (λ k le' is. s.marked k le' (held k (layout_blocks old) is)) n le
          (layout_within disk later new r.system files n le (in_from n (layout_blocks new) is)) is;
      lost = exchange_lost new.label.blocks old_map new_map (layout_blocks old) (layout_blocks new) released fresh r.exchange
          ∙ ap (λ (t : ℕ). lost_count old_map (layout_blocks old) 6 (t - 5)) r.total ∙ s.lost ∙ sym r.lost;
    }

-- ---- the minidisk that a volume is

pub files_are : (fs : List Kept) → files_of (entries_in fs) (records_in fs) ≡ map file_of fs
unfolding files_of
files_are [] = refl
files_are (f ∷ fs) = ap (λ (l : List File). file_of f ∷ l) (files_are fs)

pub minidisk_is : (disk : Disk) (v : Layout) → minidisk_of disk (opened v) ≡ record { volid = v.label.volid; bsize = disk.bsize; total = v.label.blocks; lost = v.lost; files = map file_of v.files }
unfolding minidisk_of
minidisk_is disk v = ap (λ (l : List File). record { volid = v.label.volid; bsize = disk.bsize; total = v.label.blocks; lost = v.lost; files = l }) (files_are v.files)
