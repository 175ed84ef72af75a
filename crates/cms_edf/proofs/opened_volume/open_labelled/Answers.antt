use Rattle.std.proofs.Common.{rules, ◌≡◌, ◌⊎◌, ◌≤◌, ◌*◌, ◌/◌, ℕ, true, List, [], All, Ok, Err, Some, None, length, map, refl, sym, ◌∙◌, ap, subst}
use Rattle.std.proofs.lemmas.Result.{err_from_is_err_and}
use Rattle.indexmap.specs.IndexMap.{values}
use Rattle.cms_journal.specs.Journal.{HasBlocks, IsBlockSize, contents_of}
use Rattle.cms_fields.specs.Entries.{passes}
use Rattle.cms_fields.specs.Limits.{most_files}
use Rattle.cms_fields.specs.declared.entry.Entry.{Entry}
use Rattle.cms_model.specs.Trees.{image_of, bytes_at}
use Rattle.cms_model.specs.Volumes.{tree_blocks, contents_in, first_twice}
use Rattle.cms_held.specs.Kept.{IsKept, IsKeptFile}
use Rattle.cms_edf.specs.EntryShapes.{HasSize}
use Rattle.cms_edf.proofs.Listings.{fewer_on}
use Rattle.cms_tree.specs.Walks.{nodes_at}
use Rattle.cms_edf.specs.declared.listing.Place.{Place}
use Rattle.cms_held.specs.HeldVolumes.{HeldTree, IsFaultOf}
use Rattle.cms_fields.specs.Numbers.{up}
use Rattle.cms_model.specs.DirectoryParts.{directory_count}
use Rattle.cms_model.specs.Sizes.{levels, pointer_count}
use Rattle.cms_map.specs.Bits.{bits_in}
use Rattle.cms_edf.specs.OpeningSteps.{system_at, listed, met_in, listed_in, trees_in, lost_in}
use Rattle.cms_edf.specs.OpeningFiles.{HasTrees, HasContents, HaveCounts, read_trees, opened, told_files}
use Rattle.cms_edf.proofs.VolumeOpened.{listing_bad, trees_bad, marks_bad, records_bad, opens, held_so, origin_in, walked_shape}
use Rattle.cms_edf.proofs.Exits.{ok_at_err, reads_at_err, reads_at_ok, reads_then}
use Rattle.cms_edf.proofs.opened_volume.open_labelled.Given as given
use Rattle.cms_edf.proofs.opened_volume.open_labelled.Goals as goal
use Rattle.cms_edf.proofs.opened_volume.open_labelled.Goals.{After-tree_held}

pub returns-in_err-listing-clause-fault : goal.returns-in_err-listing-clause-fault
returns-in_err-listing-clause-fault g c =
    let a = c.args in
    let why = c.in_err-listing.field-0.0 in
    let p = err_from_is_err_and c.from_residual.result c.from_residual.ensures.1 in
    rw (p.1, p.2) (λ j told.
    listing_bad _ (image_of (contents_of j a.unit.now.number)) a.label why
    (subst (λ (q : Place). IsFaultOf (listed_in q.bsize q.total q.origin (image_of (contents_of j q.unit))) why) c.place_of-place.ensures (c.in_err-listing.ensures.read j told)))

pub returns-in-Err-clause-fault : goal.returns-in-Err-clause-fault
returns-in-Err-clause-fault g c = λ j told.
    let a = c.args in
    let why = c.in-Err.fault in
    let l = c.in_ok-listing.listing in
    trees_bad _ (image_of (contents_of j a.unit.now.number)) a.label (listed l) why
    (subst (λ (q : Place). listed_in q.bsize q.total q.origin (image_of (contents_of j q.unit)) ≡ Ok (listed l)) c.place_of-place.ensures (c.in_ok-listing.ensures.read j told).0)
    (subst (λ (q : Place). IsFaultOf (trees_in q.bsize q.total q.origin (image_of (contents_of j q.unit)) (listed l)) why) c.place_of-place.ensures
    (c.in-Err.ensures.fault j (c.in_ok-listing.ensures.reads.told ∙ told)))

pub returns-in-Err-read_marks-clause-fault : goal.returns-in-Err-read_marks-clause-fault
returns-in-Err-read_marks-clause-fault g c = λ j told.
    let a = c.args in
    let why = c.in-Err-read_marks.fault in
    let l = c.in_ok-listing.listing in
    let t = c.in-Ok.trees in
    marks_bad _ (image_of (contents_of j a.unit.now.number)) a.label (listed l) (read_trees t) why
    (subst (λ (q : Place). listed_in q.bsize q.total q.origin (image_of (contents_of j q.unit)) ≡ Ok (listed l)) c.place_of-place.ensures (c.in_ok-listing.ensures.read j told).0)
    (subst (λ (q : Place). trees_in q.bsize q.total q.origin (image_of (contents_of j q.unit)) (listed l) ≡ Ok (read_trees t)) c.place_of-place.ensures
    (c.in-Ok.ensures.read j (c.in_ok-listing.ensures.reads.told ∙ told)).trees)
    (subst (λ (q : Place). IsFaultOf (lost_in (bytes_at (image_of (contents_of j q.unit)) t.map.leaves.items) q.total (tree_blocks (met_in l.walked) (met_in t.map) (map met_in t.files.items))) why)
    c.place_of-place.ensures
    (c.in-Err-read_marks.ensures.fault j (c.in-Ok.ensures.reads.told ∙ (c.in_ok-listing.ensures.reads.told ∙ told))))

pub returns-in-Err-read_contents-clause-fault : goal.returns-in-Err-read_contents-clause-fault
returns-in-Err-read_contents-clause-fault g c = λ j told.
    let a = c.args in
    let why = c.in-Err-read_contents.fault in
    let l = c.in_ok-listing.listing in
    let t = c.in-Ok.trees in
    let entries : c.deref.result.now ≡ l.entries.items = c.deref.ensures.value in
    let to_trees = c.in_ok-listing.ensures.reads.told ∙ told in
    let to_marks = c.in-Ok.ensures.reads.told ∙ to_trees in
    let to_files = c.in-Ok-read_marks.ensures.reads.told ∙ to_marks in
    records_bad _ (image_of (contents_of j a.unit.now.number)) a.label (listed l) (read_trees t) c.in-Ok-read_marks.marks.lost why
    (subst (λ (q : Place). listed_in q.bsize q.total q.origin (image_of (contents_of j q.unit)) ≡ Ok (listed l)) c.place_of-place.ensures (c.in_ok-listing.ensures.read j told).0)
    (subst (λ (q : Place). trees_in q.bsize q.total q.origin (image_of (contents_of j q.unit)) (listed l) ≡ Ok (read_trees t)) c.place_of-place.ensures (c.in-Ok.ensures.read j to_trees).trees)
    (subst (λ (q : Place). lost_in (bytes_at (image_of (contents_of j q.unit)) t.map.leaves.items) q.total (tree_blocks (met_in l.walked) (met_in t.map) (map met_in t.files.items))
    ≡ Ok c.in-Ok-read_marks.marks.lost) c.place_of-place.ensures
    (c.in-Ok-read_marks.ensures.lost j to_marks))
    (subst (λ (q : Place). IsFaultOf (contents_in q.bsize (image_of (contents_of j q.unit)) 2 l.entries.items (map met_in t.files.items)) why) c.place_of-place.ensures
    (subst (λ (es : List Entry). IsFaultOf (contents_in c.place_of-place.result.bsize (image_of (contents_of j c.place_of-place.result.unit)) 2 es (map met_in t.files.items)) why) entries
    (c.in-Err-read_contents.ensures.fault j to_files)))

pub returns-clause-read : goal.returns-clause-read
returns-clause-read g c = λ j told.
    let a = c.args in
    let l = c.in_ok-listing.listing in
    let t = c.in-Ok.trees in
    let m = c.in-Ok-read_marks.marks in
    let place = c.place_of-place.result in
    let at = c.place_of-place.ensures in
    let image = image_of (contents_of j a.unit.now.number) in
    let there : Place = record { unit = a.unit.now.number; bsize = a.bsize; total = a.label.blocks; origin = a.label.origin } in
    let entries : c.deref.result.now ≡ l.entries.items = c.deref.ensures.value in
    let to_trees = c.in_ok-listing.ensures.reads.told ∙ told in
    let to_marks = c.in-Ok.ensures.reads.told ∙ to_trees in
    let to_files = c.in-Ok-read_marks.ensures.reads.told ∙ to_marks in
    let listing = c.in_ok-listing.ensures.read j told in
    let trees = c.in-Ok.ensures.read j to_trees in
    let bits = c.in-Ok-read_marks.ensures.bits j to_marks in
    let lost = c.in-Ok-read_marks.ensures.lost j to_marks in
    let has = subst (λ (es : List Entry). HasContents place.bsize (image_of (contents_of j place.unit)) es t.files.items (values c.in-Ok-read_contents.files)) entries
    (c.in-Ok-read_contents.ensures.read j to_files) in
    record {
      volume = opened a.label (listed l) (read_trees t) m.lost has.contents;
      opens = opens _ image a.label (listed l) (read_trees t) m.lost has.contents
          (subst (λ (q : Place). listed_in q.bsize q.total q.origin (image_of (contents_of j q.unit)) ≡ Ok (listed l)) at listing.0)
          (subst (λ (q : Place). trees_in q.bsize q.total q.origin (image_of (contents_of j q.unit)) (listed l) ≡ Ok (read_trees t)) at trees.trees)
          (subst (λ (q : Place). lost_in (bytes_at (image_of (contents_of j q.unit)) t.map.leaves.items) q.total (tree_blocks (met_in l.walked) (met_in t.map) (map met_in t.files.items)) ≡ Ok m.lost)
          at lost)
          (subst (λ (q : Place). contents_in q.bsize (image_of (contents_of j q.unit)) 2 l.entries.items (map met_in t.files.items) ≡ Ok has.contents) at has.are);
      held_is = rw c.tree_held.ensures (held_so there (record { bsize = a.bsize; count = a.unit.now.blocks }) image a.label a.label_bytes.items l t m.map
          (values c.in-Ok-read_contents.files) m.lost has.contents refl (c.requires.bytes j told)
          (subst (λ (q : Place). l.walked.pointers.items ≡ nodes_at (image_of (contents_of j q.unit)) (system_at q l.directory (Some q.origin))) at listing.1)
          (subst (λ (q : Place). l.directory.levels ≡ levels (q.bsize / 4) l.directory.blocks) at c.in_ok-listing.ensures.holds.directory_shape)
          (subst (λ (q : Place). HasTrees q (image_of (contents_of j q.unit)) l t) at trees)
          (subst (λ (q : Place). l.map.levels ≡ levels (q.bsize / 4) l.map.blocks) at c.in_ok-listing.ensures.holds.map_shape.1)
          (subst (λ (q : Place). m.map ≡ bits_in q.total (bytes_at (image_of (contents_of j q.unit)) t.map.leaves.items)) at bits)
          (subst (λ (q : Place). values c.in-Ok-read_contents.files ≡ told_files q.bsize l.entries.items t.files.items has.contents) at has.files_are));
    }

-- what was read is kept
kept_so : (g : given.Over) (c : After-tree_held g)
    → IsKept c.args.bsize c.args.unit.now.blocks c.args.label (length c.args.label_bytes.items)
    (record { leaves = c.in_ok-listing.listing.walked.leaves.items; pointers = c.in_ok-listing.listing.walked.pointers.items }) c.tree_held.result c.in-Ok-read_marks.marks.map
    (values c.in-Ok-read_contents.files)
kept_so g c =
    let l = c.in_ok-listing.ensures.holds in
    let t = c.in-Ok.ensures in
    let place = c.place_of-place.ensures in
    let entries : c.deref.result.now ≡ c.in_ok-listing.listing.entries.items = c.deref.ensures.value in
    let files : length (values c.in-Ok-read_contents.files) ≡ length c.in_ok-listing.listing.entries.items = c.in-Ok-read_contents.ensures.total ∙ ap (λ (es : List Entry). length es) entries in
    record {
      within = c.requires.within;
      size = c.requires.total;
      small = search rules;
      sized = subst (λ (q : Place). IsBlockSize q.bsize) place l.size;
      origin_low = (origin_in c.args.label.origin c.requires.origin).0;
      origin_high = (origin_in c.args.label.origin c.requires.origin).1;
      label_long = c.requires.long;
      directory_shape = walked_shape c.args.bsize c.in_ok-listing.listing.directory.blocks _ c.in_ok-listing.listing.walked refl l.leaves l.small.0
          (subst (λ (q : Place). length c.in_ok-listing.listing.walked.pointers.items ≡ pointer_count (q.bsize / 4) c.in_ok-listing.listing.directory.blocks) place l.pointers);
      directory_is = (l.leaves.1
          ∙ (subst (λ (q : Place). c.in_ok-listing.listing.directory.blocks ≡ directory_count q.bsize (length c.in_ok-listing.listing.entries.items)) place l.counts.0
          ∙ ap (directory_count c.args.bsize) (sym files)));
      map_is = ap (λ (t : HeldTree). length t.leaves) c.tree_held.ensures ∙ (t.map.0
          ∙ subst (λ (q : Place). c.in_ok-listing.listing.map.blocks ≡ up (up q.total 8) q.bsize) place l.counts.1);
      map_shape = walked_shape c.args.bsize c.in_ok-listing.listing.map.blocks _ c.in-Ok.trees.map c.tree_held.ensures (l.map_shape.0, t.map.0) l.small.1
          (subst (λ (q : Place). length c.in-Ok.trees.map.pointers.items ≡ pointer_count (q.bsize / 4) c.in_ok-listing.listing.map.blocks) place t.pointers);
      bits_are = c.in-Ok-read_marks.ensures.count ∙ ap (λ (q : Place). q.total) place;
      few = c.in-Ok-read_contents.ensures.few;
      each = subst (λ (q : Place). All (IsKeptFile q.bsize q.total) (values c.in-Ok-read_contents.files)) place c.in-Ok-read_contents.ensures.each;
    }

pub invariant_of-result : goal.invariant_of-result
invariant_of-result g c = record { named = c.in-Ok-read_contents.ensures.names; kept = kept_so g (goal.at.invariant_of-result g c).After-tree_held }

pub returns-clause-kept : goal.returns-clause-kept
returns-clause-kept g c = kept_so g (goal.at.returns-clause-kept g c).After-tree_held

pub returns-in_err-listing-clause-reads : goal.returns-in_err-listing-clause-reads
returns-in_err-listing-clause-reads g c = reads_at_err c.from_residual.result _ c.from_residual.ensures.1 c.in_err-listing.ensures.reads

pub returns-in-Err-clause-reads : goal.returns-in-Err-clause-reads
returns-in-Err-clause-reads g c = reads_at_err (Err c.in-Err.fault) _ refl (reads_then c.in_ok-listing.ensures.reads c.in-Err.ensures.reads)

pub returns-in-Err-read_marks-clause-reads : goal.returns-in-Err-read_marks-clause-reads
returns-in-Err-read_marks-clause-reads g c = reads_at_err (Err c.in-Err-read_marks.fault) _ refl (reads_then c.in_ok-listing.ensures.reads (reads_then c.in-Ok.ensures.reads c.in-Err-read_marks.ensures.reads))

pub returns-in-Err-read_contents-clause-reads : goal.returns-in-Err-read_contents-clause-reads
returns-in-Err-read_contents-clause-reads g c = reads_at_err (Err c.in-Err-read_contents.fault) _ refl (reads_then c.in_ok-listing.ensures.reads (reads_then c.in-Ok.ensures.reads (reads_then c.in-Ok-read_marks.ensures.reads c.in-Err-read_contents.ensures.reads)))

pub returns-clause-reads : goal.returns-clause-reads
returns-clause-reads g c = reads_at_ok _ (reads_then c.in_ok-listing.ensures.reads (reads_then c.in-Ok.ensures.reads (reads_then c.in-Ok-read_marks.ensures.reads c.in-Ok-read_contents.ensures.reads)))

pub returns-in_err-listing-clause-read : goal.returns-in_err-listing-clause-read
returns-in_err-listing-clause-read g c = ok_at_err _ c.from_residual.result _ c.from_residual.ensures.1

pub returns-in_err-listing-clause-disk : goal.returns-in_err-listing-clause-disk
returns-in_err-listing-clause-disk g c = ok_at_err _ c.from_residual.result _ c.from_residual.ensures.1

pub returns-in_err-listing-clause-unit : goal.returns-in_err-listing-clause-unit
returns-in_err-listing-clause-unit g c = ok_at_err _ c.from_residual.result _ c.from_residual.ensures.1

pub returns-in_err-listing-clause-kept : goal.returns-in_err-listing-clause-kept
returns-in_err-listing-clause-kept g c = ok_at_err _ c.from_residual.result _ c.from_residual.ensures.1

pub read_listing-requires-clause-total : goal.read_listing-requires-clause-total
read_listing-requires-clause-total g c = subst (λ (q : Place). 6 ≤ q.total) (sym c.place_of-place.ensures) c.requires.total

pub read_listing-requires-clause-origin : goal.read_listing-requires-clause-origin
read_listing-requires-clause-origin g c = subst (λ (q : Place). (q.origin ≡ 4) ⊎ (q.origin ≡ 5)) (sym c.place_of-place.ensures) c.requires.origin

pub read_listing-requires-clause-blocks : goal.read_listing-requires-clause-blocks
read_listing-requires-clause-blocks g c = λ j told.
    subst (λ (q : Place). HasBlocks j.units q.unit q.total q.bsize) (sym c.place_of-place.ensures)
    (fewer_on j.units c.args.unit.now.number c.args.label.blocks c.args.unit.now.blocks c.args.bsize c.requires.within (c.requires.blocks j told))

pub read_trees-requires-clause-some : goal.read_trees-requires-clause-some
read_trees-requires-clause-some g c = c.in_ok-listing.ensures.holds.map_shape.0

pub read_trees-requires-clause-shape : goal.read_trees-requires-clause-shape
read_trees-requires-clause-shape g c = c.in_ok-listing.ensures.holds.map_shape.1

pub read_trees-requires-clause-few : goal.read_trees-requires-clause-few
read_trees-requires-clause-few g c = c.in_ok-listing.ensures.holds.few

pub read_trees-requires-clause-entries : goal.read_trees-requires-clause-entries
read_trees-requires-clause-entries g c = c.in_ok-listing.ensures.holds.room_for_entries

pub read_trees-requires-clause-shapes : goal.read_trees-requires-clause-shapes
read_trees-requires-clause-shapes g c = c.in_ok-listing.ensures.holds.shapes

pub read_trees-requires-clause-blocks : goal.read_trees-requires-clause-blocks
read_trees-requires-clause-blocks g c = λ j told.
    subst (λ (q : Place). HasBlocks j.units q.unit q.total q.bsize) (sym c.place_of-place.ensures)
    (fewer_on j.units c.args.unit.now.number c.args.label.blocks c.args.unit.now.blocks c.args.bsize c.requires.within (c.requires.blocks j (sym c.in_ok-listing.ensures.reads.told ∙ told)))

pub read_marks-requires-clause-total : goal.read_marks-requires-clause-total
read_marks-requires-clause-total g c = subst (λ (q : Place). 6 ≤ q.total) (sym c.place_of-place.ensures) c.requires.total

pub read_marks-requires-clause-origin : goal.read_marks-requires-clause-origin
read_marks-requires-clause-origin g c = subst (λ (q : Place). (q.origin ≡ 4) ⊎ (q.origin ≡ 5)) (sym c.place_of-place.ensures) c.requires.origin

pub read_marks-requires-clause-room : goal.read_marks-requires-clause-room
read_marks-requires-clause-room g c =
    subst (λ (n : ℕ). c.place_of-place.result.total ≤ 8 * (n * c.place_of-place.result.bsize)) (sym c.in-Ok.ensures.map.0) c.in_ok-listing.ensures.holds.room

pub read_marks-requires-clause-directory : goal.read_marks-requires-clause-directory
read_marks-requires-clause-directory g c = c.in_ok-listing.ensures.holds.within

pub read_marks-requires-clause-map : goal.read_marks-requires-clause-map
read_marks-requires-clause-map g c = c.in-Ok.ensures.map.1

pub read_marks-requires-clause-files : goal.read_marks-requires-clause-files
read_marks-requires-clause-files g c = c.in-Ok.ensures.files.1

pub read_marks-requires-clause-blocks : goal.read_marks-requires-clause-blocks
read_marks-requires-clause-blocks g c = λ j told.
    subst (λ (q : Place). HasBlocks j.units q.unit q.total q.bsize) (sym c.place_of-place.ensures)
    (fewer_on j.units c.args.unit.now.number c.args.label.blocks c.args.unit.now.blocks c.args.bsize c.requires.within (c.requires.blocks j (sym c.in_ok-listing.ensures.reads.told ∙ (sym c.in-Ok.ensures.reads.told ∙ told))))

pub read_contents-requires-clause-few : goal.read_contents-requires-clause-few
read_contents-requires-clause-few g c = subst (λ (es : List Entry). length es ≤ most_files) (sym c.deref.ensures.value) c.in_ok-listing.ensures.holds.few

pub read_contents-requires-clause-count : goal.read_contents-requires-clause-count
read_contents-requires-clause-count g c = c.in-Ok.ensures.files.0 ∙ ap (λ (es : List Entry). length es) (sym c.deref.ensures.value)

pub read_contents-requires-clause-entries : goal.read_contents-requires-clause-entries
read_contents-requires-clause-entries g c = subst (All (λ e. passes c.place_of-place.result.bsize e ≡ true)) (sym c.deref.ensures.value) c.in_ok-listing.ensures.holds.passing

pub read_contents-requires-clause-names : goal.read_contents-requires-clause-names
read_contents-requires-clause-names g c = subst (λ (es : List Entry). first_twice 2 [] es ≡ None) (sym c.deref.ensures.value) c.in_ok-listing.ensures.holds.names

pub read_contents-requires-clause-sizes : goal.read_contents-requires-clause-sizes
read_contents-requires-clause-sizes g c = subst (All (HasSize c.place_of-place.result.bsize)) (sym c.deref.ensures.value) c.in_ok-listing.ensures.holds.sizes

pub read_contents-requires-clause-counts : goal.read_contents-requires-clause-counts
read_contents-requires-clause-counts g c =
    subst (λ (es : List Entry). HaveCounts c.place_of-place.result.bsize es c.in-Ok.trees.files.items) (sym c.deref.ensures.value) c.in-Ok.ensures.counts

pub read_contents-requires-clause-within : goal.read_contents-requires-clause-within
read_contents-requires-clause-within g c = c.in-Ok.ensures.files.1

pub read_contents-requires-clause-blocks : goal.read_contents-requires-clause-blocks
read_contents-requires-clause-blocks g c = λ j told.
    subst (λ (q : Place). HasBlocks j.units q.unit q.total q.bsize) (sym c.place_of-place.ensures)
    (fewer_on j.units c.args.unit.now.number c.args.label.blocks c.args.unit.now.blocks c.args.bsize c.requires.within (c.requires.blocks j (sym c.in_ok-listing.ensures.reads.told ∙ (sym c.in-Ok.ensures.reads.told ∙ (sym c.in-Ok-read_marks.ensures.reads.told ∙ told)))))

pub returns-clause-disk : goal.returns-clause-disk
returns-clause-disk g c = refl

pub returns-clause-unit : goal.returns-clause-unit
returns-clause-unit g c = refl

pub returns-clause-fault : goal.returns-clause-fault
returns-clause-fault g c = tt

pub returns-in-Err-clause-read : goal.returns-in-Err-clause-read
returns-in-Err-clause-read g c = tt

pub returns-in-Err-clause-disk : goal.returns-in-Err-clause-disk
returns-in-Err-clause-disk g c = tt

pub returns-in-Err-clause-unit : goal.returns-in-Err-clause-unit
returns-in-Err-clause-unit g c = tt

pub returns-in-Err-clause-kept : goal.returns-in-Err-clause-kept
returns-in-Err-clause-kept g c = tt

pub returns-in-Err-read_marks-clause-read : goal.returns-in-Err-read_marks-clause-read
returns-in-Err-read_marks-clause-read g c = tt

pub returns-in-Err-read_marks-clause-disk : goal.returns-in-Err-read_marks-clause-disk
returns-in-Err-read_marks-clause-disk g c = tt

pub returns-in-Err-read_marks-clause-unit : goal.returns-in-Err-read_marks-clause-unit
returns-in-Err-read_marks-clause-unit g c = tt

pub returns-in-Err-read_marks-clause-kept : goal.returns-in-Err-read_marks-clause-kept
returns-in-Err-read_marks-clause-kept g c = tt

pub returns-in-Err-read_contents-clause-read : goal.returns-in-Err-read_contents-clause-read
returns-in-Err-read_contents-clause-read g c = tt

pub returns-in-Err-read_contents-clause-disk : goal.returns-in-Err-read_contents-clause-disk
returns-in-Err-read_contents-clause-disk g c = tt

pub returns-in-Err-read_contents-clause-unit : goal.returns-in-Err-read_contents-clause-unit
returns-in-Err-read_contents-clause-unit g c = tt

pub returns-in-Err-read_contents-clause-kept : goal.returns-in-Err-read_contents-clause-kept
returns-in-Err-read_contents-clause-kept g c = tt
