-- The trees of a volume that opens stand.
use Rattle.std.proofs.Common.{◌≡◌, ℕ, ◌+◌, ◌-◌, ◌*◌, ◌^◌, ◌<◌, ◌≤◌, List, [], ◌∷◌, drop, true, All, Option, None, Some, Ok, refl, sym, ◌∙◌, ap, subst, arith}
use Rattle.std.proofs.lemmas.List.Elements.{All-nil, All-cons}
use Rattle.cms_journal.specs.Journal.{IsBlockSize}
use Rattle.cms_journal.proofs.Sizes.{block_bounds}
use Rattle.cms_names.specs.declared.name.Format.{Format}
use Rattle.cms_names.specs.declared.name.Format.TheVariants.{F, V}
use Rattle.cms_fields.specs.Entries.{fan_of, levels_fit}
use Rattle.cms_fields.specs.Numbers.{is_shape, up}
use Rattle.cms_fields.specs.declared.entry.Entry.{Entry}
use Rattle.cms_model.specs.Lists.{cut}
use Rattle.cms_model.specs.Records.{length_of, records_of}
use Rattle.cms_model.specs.Trees.{Image, Met, bytes_at, form_of, tree}
use Rattle.cms_model.specs.Volumes.{blamed, contents_in, file_trees, holder_of}
use Rattle.cms_model.specs.declared.fault.OpenFault.TheVariants as failed
use Rattle.cms_model.proofs.FileSizes.{AllFit, entries_fit, entry_counted, fan_wide}
use Rattle.cms_model.proofs.InOrder.{in_order}
use Rattle.cms_model.proofs.MinidiskSizes.{directory_fits, map_fits}
use Rattle.cms_model.proofs.OpenedVolumes.{blamed_ok, open_ok}
use Rattle.cms_model.proofs.Quotients.{up_below, up_some, up_unique}
use Rattle.cms_model.proofs.Results.{bind_then, ok_same}
use Rattle.cms_tree.specs.Walks.{nodes}
use Rattle.cms_held.specs.HeldTrees.{FileStands, OpenedTreesStand}
use Rattle.cms_held.specs.HeldVolumes.{held_file, held_files, held_of, held_tree}
use Rattle.cms_held.specs.Marks.{start_of}
use Rattle.cms_held.specs.SharedTrees.{IsStanding}
use Rattle.cms_held.proofs.SharedTrees.{read_stands}

-- a tree that is read, as it is held
held_stands : (bsize total : ℕ) (image : Image) (k : ℕ) (first : Option ℕ) (holder root count : ℕ) (format : Format) (met : Met) → IsBlockSize bsize → 1 ≤ count → count < 2 ^ 32
    → is_shape (fan_of bsize format) count k ≡ true → tree (form_of bsize total format) image k first holder root count ≡ Ok met
    → IsStanding (form_of bsize total format) image (held_tree (form_of bsize total format) image k root count met)
unfolding nodes
held_stands bsize total image k first holder root count format met size some few shape is =
    read_stands (form_of bsize total format) image k first holder root count met (fan_wide bsize format size) some few shape is

-- the records are read by the length that is told of them
records_told : (bsize : ℕ) (format : Format) (size count : ℕ) (records : List (List ℕ)) (bytes : List ℕ) → records_of bsize format size count bytes ≡ records_of bsize format (length_of format size records) count bytes
unfolding records_of
records_told bsize F size count records bytes = refl
records_told bsize V size count records bytes = refl

files_stand : (bsize total : ℕ) (image : Image) (dirs : List ℕ) (number : ℕ) (es : List Entry) (ms : List Met) (cs : List (List (List ℕ))) → IsBlockSize bsize → AllFit bsize es
    → file_trees bsize total image dirs number es ≡ Ok ms → contents_in bsize image number es ms ≡ Ok cs → All (FileStands bsize total image) (held_files bsize total image es ms cs)
unfolding file_trees contents_in held_files levels_fit
files_stand bsize total image dirs number [] ms cs size fit t c = All-nil (FileStands bsize total image)
files_stand bsize total image dirs number (e ∷ es) ms cs size fit t c =
    let holder = holder_of bsize dirs number in
    let low = (block_bounds bsize size).0 in
    let n = entry_counted bsize e (omega arith) fit.0 in
    bind_then (tree (form_of bsize total e.format) image e.levels None holder e.root e.blocks) _ ms t (λ m is_m t1.
    bind_then (file_trees bsize total image dirs (number + 1) es) _ ms t1 (λ more is_more t2.
    let is : m ∷ more ≡ ms = ok_same (m ∷ more) ms t2 in
    let c' = subst (λ (l : List Met). contents_in bsize image number (e ∷ es) l ≡ Ok cs) (sym is) c in
    bind_then (blamed (failed.Var number) (records_of bsize e.format e.length e.count (bytes_at image m.leaves))) _ cs c' (λ rs is_rs c1.
    bind_then (contents_in bsize image (number + 1) es more) _ cs c1 (λ rest is_rest c2.
    subst (λ (l : List Met). All (FileStands bsize total image) (held_files bsize total image (e ∷ es) l cs)) is
    (subst (λ (l : List (List (List ℕ))). All (FileStands bsize total image) (held_files bsize total image (e ∷ es) (m ∷ more) l)) (ok_same (rs ∷ rest) cs c2)
    (All-cons (FileStands bsize total image) (held_file bsize total image e m rs) (held_files bsize total image es more rest)
    (record {
      tree = held_stands bsize total image e.levels None holder e.root e.blocks e.format m size n.some n.small fit.0.levels is_m;
      start = λ records is'. ap (start_of bsize e.format) (ok_same rs records (sym (blamed_ok (failed.Var number) (records_of bsize e.format e.length e.count (bytes_at image m.leaves)) rs is_rs)
          ∙ (records_told bsize e.format e.length e.count rs (bytes_at image m.leaves) ∙ is')));
    })
    (files_stand bsize total image dirs (number + 1) es more rest size fit.1 is_more is_rest)))))))

pub opened_trees_stand : OpenedTreesStand
unfolding held_of
opened_trees_stand unit disk image v whole is =
    let bsize = disk.bsize in
    let total = v.label.blocks in
    let o = open_ok disk image v is in
    let order = in_order disk image v is in
    let low = (block_bounds bsize whole.size).0 in
    let size = order.size.0 in
    let top = order.size.1 in
    let small = whole.small in
    -- the directory
    let d = directory_fits bsize v.label.origin (image v.label.origin) v.directory o.system.directory in
    let two = d.low in
    let most = d.high in
    let blocks : v.directory.blocks ≡ up (v.directory.count * 64) bsize = d.fits.blocks in
    let some = up_some (v.directory.count * 64) bsize (omega arith) (omega arith) in
    let few = up_below (v.directory.count * 64) bsize (omega arith) in
    -- the map
    let m = map_fits bsize total (drop 64 (image v.label.origin)) v.map o.system.map in
    let map_is : v.map.blocks ≡ up (v.map.count * bsize) bsize = m.fits.blocks in
    let exact : v.map.count ≡ up (v.map.count * bsize) bsize = up_unique (v.map.count * bsize) bsize v.map.count (omega arith) (omega arith) (omega arith) in
    let map_count : v.map.blocks ≡ up (up total 8) bsize = map_is ∙ sym exact ∙ m.count in
    let s1 = up_some total 8 (omega arith) (omega arith) in
    let s2 = up_some (up total 8) bsize (omega arith) s1 in
    let b1 = up_below total 8 (omega arith) in
    let b2 = up_below (up total 8) bsize (omega arith) in
    -- the files
    let es = entries_fit bsize 2 (cut (v.directory.count - 2) 64 (drop 128 (bytes_at image v.directory_met.leaves))) v.entries o.system.entries in
    record {
      directory = held_stands bsize total image v.directory.levels (Some v.label.origin) v.label.origin v.directory.root v.directory.blocks F v.directory_met whole.size
          (omega arith) (omega arith) d.fits.shape o.system.directory_met;
      map = held_stands bsize total image v.map.levels None v.label.origin v.map.root v.map.blocks F v.map_met whole.size
          (omega arith) (omega arith) m.fits.shape o.system.map_met;
      files = files_stand bsize total image v.directory_met.leaves 2 v.entries v.mets v.contents whole.size es.0 o.mets o.contents;
    }
