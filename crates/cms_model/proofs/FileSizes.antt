-- The blocks of the files of an open volume are what their sizes say.
use Rattle.std.proofs.Common.{◌≡◌, inl, inr, ℕ, zero, suc, ◌+◌, ◌*◌, ◌/◌, ◌^◌, ◌<◌, ◌≤◌, List, [], ◌∷◌, length, take, drop, sum_by, if◌then◌else◌, None, Ok, true, not, refl, sym, ◌∙◌, ap, subst, arith, length-append, length-drop, length-take-le, div-le_self}
use Rattle.std.specs.List.{concat}
use Rattle.std.specs.Prelude.{nat_le, nat_lt, ◌==◌, ◌&&◌, ◌||◌}
use Rattle.std.proofs.lemmas.Bool.{and_from, and_parts, le-leb, leb-true, ltb-true, eqb-true}
use Rattle.std.proofs.lemmas.List.Sums.{sum_by-cons}
use Rattle.cms_journal.specs.Journal.{IsBlockSize}
use Rattle.cms_journal.proofs.Sizes.{block_bounds}
use Rattle.cms_names.specs.Names.{is_between}
use Rattle.cms_names.specs.declared.name.Format.{Format}
use Rattle.cms_names.specs.declared.name.Format.TheVariants.{F, V}
use Rattle.cms_text.specs.Bytes.{half}
use Rattle.cms_fields.specs.Numbers.{up}
use Rattle.cms_fields.specs.Entries.{is_fixed, fan_of, length_fits, counts_fit, levels_fit, passes, entry_of}
use Rattle.cms_fields.specs.Stamps.{is_stamp}
use Rattle.cms_fields.specs.declared.entry.Entry.{Entry}
use Rattle.cms_fields.proofs.ReadEntry.{entry_is}
use Rattle.cms_model.specs.Lists.{In, cut}
use Rattle.cms_model.specs.Trees.{Image, Met, form_of, tree, bytes_at}
use Rattle.cms_model.specs.Records.{varying, records_of, stored, length_of}
use Rattle.cms_model.specs.Minidisks.{File}
use Rattle.cms_model.specs.Sizes.{stored_size, tree_size, file_size}
use Rattle.cms_model.specs.Volumes.{Disk, as_read, blamed, entries_of, file_trees, blocks_of, contents_in, files_of}
use Rattle.cms_model.specs.LawsSizes.{IsWhole}
use Rattle.cms_model.specs.declared.fault.VarFault.TheVariants.{Zero, PastEnd, Left}
use Rattle.cms_model.specs.declared.fault.OpenFault.TheVariants as failed
use Rattle.cms_model.proofs.Results.{ok_same, want_ok, bind_then}
use Rattle.cms_model.proofs.Quotients.{up_spec, up_unique, up_some, up_below}
use Rattle.cms_model.proofs.Cuts.{length_cut}
use Rattle.cms_model.proofs.Records.{length_stored, length_stored_fixed, fits_cut}
use Rattle.cms_model.proofs.TreeFrame.{between, tree_inside, tree_places}
use Rattle.cms_model.proofs.TreeSizes.{tree_has_size}
use Rattle.cms_model.proofs.EntriesRead.{fits_so, counts_so}
use Rattle.cms_model.proofs.OpenedVolumes.{blamed_ok}
use Rattle.cms_model.proofs.FilesRead.{IsRead, each_read}
use Rattle.cms_model.proofs.InOrder.{place_none}

-- the bounds of a block size
pub fan_wide : (size : ℕ) (format : Format) → IsBlockSize size → 2 ≤ fan_of size format
fan_wide size F is = let low = (block_bounds size is).0 in omega arith
fan_wide size V is = let low = (block_bounds size is).0 in omega arith

-- ---- what an entry's tests say of its counts

pub record EntryFits (bsize : ℕ) (e : Entry) : Type 0 where
  pub long : length_fits e ≡ true
  pub counts : counts_fit bsize e ≡ true
  pub levels : levels_fit bsize e ≡ true

pub entry_fits : (bsize : ℕ) (bytes : List ℕ) (e : Entry) → entry_of bsize bytes ≡ Ok e → EntryFits bsize e
entry_fits bsize bytes e is =
    let tests = entry_is bsize bytes e is in
    subst (EntryFits bsize) tests.fields (record { long = tests.long; counts = tests.counts; levels = tests.levels })

-- the fields of an entry that passes
pub record Passing (bsize : ℕ) (e : Entry) : Type 0 where
  pub number : e.number ≤ 6
  pub fits : EntryFits bsize e
  pub stamp : is_stamp e.stamp ≡ true

pub passing : (bsize : ℕ) (e : Entry) → passes bsize e ≡ true → Passing bsize e
unfolding passes
passing bsize e is =
    let a = and_parts (nat_le e.number 6 && length_fits e && counts_fit bsize e && levels_fit bsize e) (is_stamp e.stamp) is in
    let b = and_parts (nat_le e.number 6 && length_fits e && counts_fit bsize e) (levels_fit bsize e) a.0 in
    let c = and_parts (nat_le e.number 6 && length_fits e) (counts_fit bsize e) b.0 in
    let d = and_parts (nat_le e.number 6) (length_fits e) c.0 in
    record { number = leb-true e.number 6 d.0; fits = record { long = d.1; counts = c.1; levels = b.1 }; stamp = a.1 }

pub passes_from : (bsize : ℕ) (e : Entry) → Passing bsize e → passes bsize e ≡ true
unfolding passes
passes_from bsize e p =
    and_from (nat_le e.number 6 && length_fits e && counts_fit bsize e && levels_fit bsize e) (is_stamp e.stamp)
    (and_from (nat_le e.number 6 && length_fits e && counts_fit bsize e) (levels_fit bsize e)
    (and_from (nat_le e.number 6 && length_fits e) (counts_fit bsize e)
    (and_from (nat_le e.number 6) (length_fits e) (le-leb e.number 6 p.number) p.fits.long) p.fits.counts) p.fits.levels) p.stamp

-- so do those of the entry as it is read
pub read_fits : (bsize : ℕ) (e : Entry) → EntryFits bsize e → EntryFits bsize (as_read e)
unfolding levels_fit
read_fits bsize e fits = record { long = fits_so e ∙ fits.long; counts = counts_so bsize e ∙ fits.counts; levels = fits.levels }

abbrev pub AllFit : ℕ → List Entry → Type 0
AllFit bsize [] = Unit {0}
AllFit bsize (e ∷ es) = EntryFits bsize e × AllFit bsize es

pub entries_fit : (bsize number : ℕ) (pieces : List (List ℕ)) (es : List Entry) → entries_of bsize number pieces ≡ Ok es → AllFit bsize es × (length es ≡ length pieces)
unfolding entries_of
entries_fit bsize number [] es e = subst (λ (l : List Entry). AllFit bsize l × (length l ≡ 0)) (ok_same [] es e) (tt, refl)
entries_fit bsize number (bytes ∷ rest) es e =
    bind_then (blamed (failed.Entry number) (entry_of bsize bytes)) _ es e (λ one is_one e1.
    bind_then (entries_of bsize (number + 1) rest) _ es e1 (λ more is_more e2.
    let fits = entry_fits bsize bytes one (blamed_ok (failed.Entry number) (entry_of bsize bytes) one is_one) in
    let deeper = entries_fit bsize (number + 1) rest more is_more in
    subst (λ (l : List Entry). AllFit bsize l × (length l ≡ suc (length rest))) (ok_same (as_read one ∷ more) es e2) ((read_fits bsize one fits, deeper.0), ap suc deeper.1)))

-- the data blocks that an entry may have
pub record Counted (format : Format) (bsize len blocks count : ℕ) : Type 0 where
  pub some : 1 ≤ blocks
  pub small : blocks < 2 ^ 32
  pub fixed : is_fixed format ≡ true → blocks ≡ up (count * len) bsize

pub counts_from : (format : Format) (bsize len blocks count : ℕ) → 1 ≤ bsize → (not (is_fixed format) || is_between 1 65535 len) ≡ true
    → (is_between 1 1048576 count && (if is_fixed format then nat_le (count * len) 67108864 && (blocks == up (count * len) bsize) else is_between 1 (67108864 / bsize) blocks)) ≡ true
    → Counted format bsize len blocks count
counts_from F bsize len blocks count room long fits =
    let a = and_parts (is_between 1 1048576 count) (nat_le (count * len) 67108864 && (blocks == up (count * len) bsize)) fits in
    let b = and_parts (nat_le (count * len) 67108864) (blocks == up (count * len) bsize) a.1 in
    let records = between 1 1048576 count a.0 in
    let bytes = between 1 65535 len long in
    let is : blocks ≡ up (count * len) bsize = eqb-true blocks (up (count * len) bsize) b.1 in
    let fit = leb-true (count * len) 67108864 b.0 in
    let low : 1 ≤ count * len = product count len records.0 bytes.0 in
    let some = up_some (count * len) bsize room low in
    let below = up_below (count * len) bsize room in
    record { some = omega arith; small = omega arith; fixed = λ f. is }
  where
    product : (a b : ℕ) → 1 ≤ a → 1 ≤ b → 1 ≤ a * b
    product zero b low high = absurd (omega arith)
    product (suc a) b low high = omega arith
counts_from V bsize len blocks count room long fits =
    let a = and_parts (is_between 1 1048576 count) (is_between 1 (67108864 / bsize) blocks) fits in
    let range = between 1 (67108864 / bsize) blocks a.1 in
    let low = range.0 in
    let high = range.1 in
    let below : 67108864 / bsize ≤ 67108864 = div-le_self 67108864 bsize in
    record { some = low; small = omega arith; fixed = λ f. absurd (cc f) }

pub entry_counted : (bsize : ℕ) (e : Entry) → 1 ≤ bsize → EntryFits bsize e → Counted e.format bsize e.length e.blocks e.count
unfolding length_fits counts_fit
entry_counted bsize e room fits = counts_from e.format bsize e.length e.blocks e.count room fits.long fits.counts

-- ---- the stored bytes of a file fill its data blocks

varying_size : (bsize n place : ℕ) (bytes : List ℕ) (rs : List (List ℕ)) → varying bsize n place bytes ≡ Ok rs → (stored_size V rs ≤ length bytes) × (length bytes < stored_size V rs + bsize)
unfolding varying stored_size
varying_size bsize zero place bytes rs e =
    let r = want_ok (nat_lt (length bytes) bsize) (Left place) (Ok []) rs e in
    let short = ltb-true (length bytes) bsize r.0 in
    subst (λ (l : List (List ℕ)). (stored_size V l ≤ length bytes) × (length bytes < stored_size V l + bsize)) (ok_same [] rs r.1) (omega arith, omega arith)
varying_size bsize (suc n) place bytes rs e =
    let len = half bytes 0 in
    let p1 = want_ok (nat_le 2 (length bytes)) (PastEnd place) _ rs e in
    let p2 = want_ok (nat_le 1 len) (Zero place) _ rs p1.1 in
    let p3 = want_ok (nat_le (2 + len) (length bytes)) (PastEnd place) _ rs p2.1 in
    let fit = leb-true (2 + len) (length bytes) p3.0 in
    bind_then (varying bsize n (place + (2 + len)) (drop (2 + len) bytes)) _ rs p3.1 (λ more is_more done.
    let deeper = varying_size bsize n (place + (2 + len)) (drop (2 + len) bytes) more is_more in
    let low = deeper.0 in
    let high = deeper.1 in
    let two = length-drop 2 bytes in
    let long : length (take len (drop 2 bytes)) ≡ len = length-take-le len (drop 2 bytes) (omega arith) in
    let past = length-drop (2 + len) bytes in
    let whole = sum_by-cons (λ (text : List ℕ). 2 + length text) (take len (drop 2 bytes)) more in
    subst (λ (l : List (List ℕ)). (stored_size V l ≤ length bytes) × (length bytes < stored_size V l + bsize)) (ok_same (take len (drop 2 bytes) ∷ more) rs done) (omega arith, omega arith))

-- fixed records that were cut from the blocks that they take
pub record AreCut (len blocks bsize count : ℕ) (bytes : List ℕ) (rs : List (List ℕ)) : Type 0 where
  pub many : count ≡ length rs
  pub enough : count * len ≤ length bytes
  pub within : length bytes < count * len + bsize
  pub size : length (stored F rs) ≡ count * len

pub are_cut : (bsize len blocks count : ℕ) (bytes : List ℕ) (rs : List (List ℕ)) → 1 ≤ bsize → records_of bsize F len count bytes ≡ Ok rs → length bytes ≡ blocks * bsize
    → Counted F bsize len blocks count
    → AreCut len blocks bsize count bytes rs
unfolding records_of
are_cut bsize len blocks count bytes rs room e long c =
    let fit = up_spec (count * len) bsize room in
    let low = fit.0 in
    let high = fit.1 in
    let same : blocks * bsize ≡ up (count * len) bsize * bsize = ap (λ (n : ℕ). n * bsize) (c.fixed refl) in
    let cuts : cut count len bytes ≡ rs = ok_same (cut count len bytes) rs e in
    let wide : length (concat (cut count len bytes)) ≡ count * len =
    length_stored_fixed len (cut count len bytes) (fits_cut count len bytes (omega arith)) ∙ ap (λ (n : ℕ). n * len) (length_cut count len bytes) in
    record {
      many = sym (length_cut count len bytes) ∙ ap length cuts;
      enough = omega arith;
      within = omega arith;
      size = ap (λ (l : List (List ℕ)). length (concat l)) (sym cuts) ∙ wide;
    }

pub stored_fills : (format : Format) (bsize len blocks count : ℕ) (bytes : List ℕ) (rs : List (List ℕ)) → 1 ≤ bsize → records_of bsize format len count bytes ≡ Ok rs → length bytes ≡ blocks * bsize
    → Counted format bsize len blocks count → up (stored_size format rs) bsize ≡ blocks
unfolding records_of
stored_fills F bsize len blocks count bytes rs room e long c =
    ap (λ (n : ℕ). up n bsize) (sym (length_stored F rs) ∙ (are_cut bsize len blocks count bytes rs room e long c).size) ∙ sym (c.fixed refl)
stored_fills V bsize len blocks count bytes rs room e long c =
    let s = varying_size bsize count 0 bytes rs e in
    let low = s.0 in
    let high = s.1 in
    sym (up_unique (stored_size V rs) bsize blocks room (omega arith) (omega arith))

-- ---- the files of a volume

pub bytes_length : (image : Image) (size : ℕ) (ns : List ℕ) → ((n : ℕ) → In n ns → length (image n) ≡ size) → length (bytes_at image ns) ≡ length ns * size
unfolding bytes_at
bytes_length image size [] each = omega arith
bytes_length image size (n ∷ ns) each =
    let here = each n (inl refl) in
    let deeper = bytes_length image size ns (λ x in'. each x (inr in')) in
    length-append (image n) (bytes_at image ns) ∙ (omega arith)

-- the blocks of a file whose tree was read are as many as its entry says, and whole
pub record IsFilled (disk : Disk) (image : Image) (e : Entry) (m : Met) : Type 0 where
  pub counted : Counted e.format disk.bsize e.length e.blocks e.count
  pub leaves : length m.leaves ≡ e.blocks
  pub blocks : length m.blocks ≡ tree_size (fan_of disk.bsize e.format) e.blocks
  pub long : length (bytes_at image m.leaves) ≡ length m.leaves * disk.bsize

pub is_filled : (disk : Disk) (image : Image) (total holder : ℕ) (e : Entry) (m : Met) → IsWhole disk image → total ≤ disk.count → EntryFits disk.bsize e
    → tree (form_of disk.bsize total e.format) image e.levels None holder e.root e.blocks ≡ Ok m → IsFilled disk image e m
unfolding levels_fit
is_filled disk image total holder e m whole top fits is_m =
    let bounds = block_bounds disk.bsize whole.size in
    let low = bounds.0 in
    let form = form_of disk.bsize total e.format in
    let c = entry_counted disk.bsize e (omega arith) fits in
    let size = tree_has_size form image e.levels None holder e.root e.blocks m (fan_wide disk.bsize e.format whole.size) c.some c.small fits.levels is_m in
    let sized : (n : ℕ) → In n m.leaves → length (image n) ≡ disk.bsize =
    λ n in'. (let free = place_none total n (tree_places form image e.levels None holder e.root e.blocks m is_m n (tree_inside form image e.levels None holder e.root e.blocks m is_m n in')) in
    let first = free.0 in let last = free.1 in whole.each n (omega arith) (omega arith)) in
    record { counted = c; leaves = size.0; blocks = size.1; long = bytes_length image disk.bsize m.leaves sized }

abbrev pub file_of : Entry → List (List ℕ) → File
file_of e rs = record { name = e.name; number = e.number; format = e.format; length = length_of e.format e.length rs; stamp = e.stamp; records = rs }

file_blocks : (disk : Disk) (image : Image) (total holder : ℕ) (e : Entry) (m : Met) (rs : List (List ℕ)) → IsWhole disk image → total ≤ disk.count → EntryFits disk.bsize e
    → IsRead disk total image holder e m rs → file_size disk.bsize (file_of e rs) ≡ length m.blocks
unfolding file_size
file_blocks disk image total holder e m rs whole top fits read =
    let low = (block_bounds disk.bsize whole.size).0 in
    let f = is_filled disk image total holder e m whole top fits read.met in
    let long : length (bytes_at image m.leaves) ≡ e.blocks * disk.bsize = f.long ∙ ap (λ (n : ℕ). n * disk.bsize) f.leaves in
    ap (tree_size (fan_of disk.bsize e.format)) (stored_fills e.format disk.bsize e.length e.blocks e.count (bytes_at image m.leaves) rs (omega arith) read.records long f.counted) ∙ sym f.blocks

-- the files take as many blocks as their trees have, and are as many as the entries
abbrev Fill : ℕ → List Entry → List Met → List (List (List ℕ)) → Type 0
Fill bsize es ms cs = (sum_by (file_size bsize) (files_of es cs) ≡ length (blocks_of ms)) × (length (files_of es cs) ≡ length es)

pub files_blocks : (disk : Disk) (image : Image) (total : ℕ) (dirs : List ℕ) (number : ℕ) (es : List Entry) (ms : List Met) (cs : List (List (List ℕ))) → IsWhole disk image → total ≤ disk.count
    → AllFit disk.bsize es
    → file_trees disk.bsize total image dirs number es ≡ Ok ms → contents_in disk.bsize image number es ms ≡ Ok cs → Fill disk.bsize es ms cs
unfolding files_of blocks_of
files_blocks disk image total dirs number es ms cs whole top fits t c =
    each_read disk total image dirs (λ es ms cs. AllFit disk.bsize es → Fill disk.bsize es ms cs) (λ none. (refl, refl)) more number es ms cs t c fits
  where
    more : (holder : ℕ) (e : Entry) (m : Met) (rs : List (List ℕ)) (es : List Entry) (ms : List Met) (cs : List (List (List ℕ))) → IsRead disk total image holder e m rs
        → (AllFit disk.bsize es → Fill disk.bsize es ms cs) → AllFit disk.bsize (e ∷ es) → Fill disk.bsize (e ∷ es) (m ∷ ms) (rs ∷ cs)
    more holder e m rs es ms cs read rest fits =
        let deeper = rest fits.1 in
        let both = sum_by-cons (file_size disk.bsize) (file_of e rs) (files_of es cs) in
        let one = file_blocks disk image total holder e m rs whole top fits.0 read in
        (both ∙ ap (λ (n : ℕ). n + sum_by (file_size disk.bsize) (files_of es cs)) one ∙ ap (λ (n : ℕ). length m.blocks + n) deeper.0 ∙ sym (length-append m.blocks (blocks_of ms)), ap suc deeper.1)
