use Rattle.std.proofs.Common.{length-drop, mul_comm, ◌≡◌, ◌-◌, ◌/◌, ℕ, List, [], Ok, Err, Some, None, sym, ◌∙◌, ap, subst, drop, length, ◌⊎◌, inl, ◌+◌, ◌*◌, ◌≤◌, refl, arith}
use Rattle.std.proofs.lemmas.Result.{err_from_is_err_and}
use Rattle.cms_journal.specs.Journal.{Journal, contents_of, HasBlocks}
use Rattle.cms_model.specs.Trees.{image_of, bytes_at}
use Rattle.cms_model.specs.Lists.{cut}
use Rattle.cms_model.specs.Sizes.{pointer_count}
use Rattle.cms_model.specs.Volumes.{entries_of, first_twice, absent}
use Rattle.cms_model.specs.declared.fault.OpenFault.TheVariants as failed
use Rattle.cms_model.specs.Systems.{SystemFile, directory_of, map_of}
use Rattle.cms_tree.specs.Walks.{tree_at, nodes_at, IsWithin}
use Rattle.cms_tree.specs.declared.types.TreeAt.{TreeAt}
use Rattle.cms_held.specs.HeldVolumes.{IsFaultOf}
use Rattle.cms_edf.specs.OpeningSteps.{met_in, system_at}
use Rattle.cms_edf.proofs.Listings.{HasEntries, HasTree, counts_are, directory_fault, tree_fault, map_fault, entries_fault, names_fault, listed_so, tree_has, leaf_block, few_files, origin_block}
use Rattle.cms_edf.proofs.Exits.{ok_at_err, other_at_err, reads_at_err, reads_at_ok, reads_then}
use Rattle.cms_edf.proofs.EntryTests.{entries_shaped, entries_small, entries_pass, entries_stand}
use Rattle.cms_fields.specs.declared.entry.Entry.{Entry}
use Rattle.cms_edf.proofs.listing.read_listing.Given as given
use Rattle.cms_fields.specs.Limits.{most_files}
use Rattle.cms_edf.proofs.Faults.{fault_plain}
use Rattle.cms_edf.proofs.listing.read_listing.Goals as goal
use Rattle.cms_edf.proofs.listing.read_listing.Goals.{After-map_in, After-names_once}

pub returns-in_err-directory-clause-read : goal.returns-in_err-directory-clause-read
returns-in_err-directory-clause-read g c = λ j told.
    let a = c.args in
    let place = a.place.now in
    let image = image_of (contents_of j place.unit) in
    let p = err_from_is_err_and c.from_residual-in_err-directory.result c.from_residual-in_err-directory.ensures.1 in
    let first : c.in_ok-first.first.items ≡ image place.origin = c.in_ok-first.ensures.bytes j told in
    let bad : directory_of place.bsize place.origin c.in_ok-first.first.items ≡ Err c.in_err-directory.field-0.0 = ap (directory_of place.bsize place.origin) (sym c.deref.ensures.value) ∙ sym c.in_err-directory.ensures.is in
    rw (p.1, p.2) (directory_fault place.bsize place.total place.origin image c.in_err-directory.field-0.0 (rw first at bad))

pub returns-in_err-walked-clause-read : goal.returns-in_err-walked-clause-read
returns-in_err-walked-clause-read g c = λ j told.
    let place = c.args.place.now in
    let image = image_of (contents_of j place.unit) in
    let p = err_from_is_err_and c.from_residual-in_err-walked.result c.from_residual-in_err-walked.ensures.1 in
    let why = c.in_err-walked.field-0.0 in
    let first : c.in_ok-first.first.items ≡ image place.origin = c.in_ok-first.ensures.bytes j told in
    let is : directory_of place.bsize place.origin c.in_ok-first.first.items ≡ Ok c.in_ok-directory.directory = ap (directory_of place.bsize place.origin) (sym c.deref.ensures.value) ∙ sym c.in_ok-directory.ensures.is in
    let at : c.system_at-at.result ≡ system_at place c.in_ok-directory.directory (Some place.origin) = c.system_at-at.ensures in
    let bad = c.in_err-walked.ensures.read j (c.in_ok-first.ensures.reads.told ∙ told) in
    rw (p.1, p.2) (tree_fault place image c.in_ok-directory.directory why (rw first at is) (c.in_ok-directory.ensures.shape.1)
    (subst (λ (x : TreeAt). IsFaultOf (tree_at (image_of (contents_of j x.unit)) x) why) at bad))

-- the directory's tree was walked so
has_tree : (g : given.Over) (c : After-map_in g) (j : Journal) → g.W.World.told c.args.world.now ≡ Some j
    → HasTree c.args.place.now (image_of (contents_of j c.args.place.now.unit)) c.in_ok-directory.directory (met_in c.in_ok-walked.walked)
has_tree g c j told =
    let place = c.args.place.now in
    let first : c.in_ok-first.first.items ≡ image_of (contents_of j place.unit) place.origin = c.in_ok-first.ensures.bytes j told in
    let is : directory_of place.bsize place.origin c.in_ok-first.first.items ≡ Ok c.in_ok-directory.directory = ap (directory_of place.bsize place.origin) (sym c.deref.ensures.value) ∙ sym c.in_ok-directory.ensures.is in
    let at : c.system_at-at.result ≡ system_at place c.in_ok-directory.directory (Some place.origin) = c.system_at-at.ensures in
    let read = c.in_ok-walked.ensures.read j (c.in_ok-first.ensures.reads.told ∙ told) in
    tree_has place j c.in_ok-directory.directory c.in_ok-walked.walked c.system_at-at.result (rw first at is) (c.in_ok-directory.ensures.shape.1) at read.0

pub returns-in_err-map-clause-read : goal.returns-in_err-map-clause-read
returns-in_err-map-clause-read g c = λ j told.
    let place = c.args.place.now in
    let image = image_of (contents_of j place.unit) in
    let p = err_from_is_err_and c.from_residual-in_err-map.result c.from_residual-in_err-map.ensures.1 in
    let first : c.in_ok-first.first.items ≡ image place.origin = c.in_ok-first.ensures.bytes j told in
    let bad : map_of place.bsize place.total (drop 64 c.in_ok-first.first.items) ≡ Err c.in_err-map.field-0.0 = ap (map_of place.bsize place.total) (sym (c.after.ensures.bytes ∙ ap (drop 64) c.deref-2.ensures.value)) ∙ sym c.in_err-map.ensures.is in
    rw (p.1, p.2) (map_fault place image c.in_ok-directory.directory (met_in c.in_ok-walked.walked) c.in_err-map.field-0.0
    (has_tree g (goal.at.returns-in_err-map-clause-read g c).After-map_in j told) (rw first at bad))

pub directory_bytes-requires-clause-blocks : goal.directory_bytes-requires-clause-blocks
directory_bytes-requires-clause-blocks g c = λ j told k less.
    leaf_block j c.args.place.now.unit c.args.place.now.total c.args.place.now.origin c.args.place.now.bsize c.in_ok-walked.walked c.deref-3.result.now k
    c.deref-3.ensures.value less c.requires.total c.requires.origin
    (subst (λ (x : TreeAt). IsWithin x.volume x.first c.in_ok-walked.walked) c.system_at-at.ensures c.in_ok-walked.ensures.within)
    (c.requires.blocks j (sym c.in_ok-first.ensures.reads.told ∙ (sym c.in_ok-walked.ensures.reads.told ∙ told)))

pub returns-in_err-entries-clause-read : goal.returns-in_err-entries-clause-read
returns-in_err-entries-clause-read g c = λ j told.
    let place = c.args.place.now in
    let image = image_of (contents_of j place.unit) in
    let p = err_from_is_err_and c.from_residual-in_err-entries.result c.from_residual-in_err-entries.ensures.1 in
    let first : c.in_ok-first.first.items ≡ image place.origin = c.in_ok-first.ensures.bytes j told in
    let map_is : map_of place.bsize place.total (drop 64 c.in_ok-first.first.items) ≡ Ok c.in_ok-map.map = ap (map_of place.bsize place.total) (sym (c.after.ensures.bytes ∙ ap (drop 64) c.deref-2.ensures.value)) ∙ sym c.in_ok-map.ensures.is in
    let bytes : c.in_ok-bytes.bytes.items ≡ bytes_at image c.in_ok-walked.walked.leaves.items =
    c.in_ok-bytes.ensures.bytes j (c.in_ok-walked.ensures.reads.told ∙ (c.in_ok-first.ensures.reads.told ∙ told)) ∙ ap (bytes_at image) c.deref-3.ensures.value in
    let bad : IsFaultOf (entries_of place.bsize 2 (cut (c.in_ok-directory.directory.count - 2) 64 (drop 128 c.in_ok-bytes.bytes.items))) c.in_err-entries.field-0.0 =
    subst (λ (n : ℕ). IsFaultOf (entries_of place.bsize 2 (cut (n - 2) 64 (drop 128 c.in_ok-bytes.bytes.items))) c.in_err-entries.field-0.0) (ap (λ (d : SystemFile). d.count) c.directory.view_is)
    (subst (λ (bs : List ℕ). IsFaultOf (entries_of place.bsize 2 (cut (c.directory.inside.count - 2) 64 bs)) c.in_err-entries.field-0.0) (c.after-2.ensures.bytes ∙ ap (drop 128) c.deref-5.ensures.value) c.in_err-entries.ensures.fault) in
    rw (p.1, p.2) (entries_fault place image c.in_ok-directory.directory c.in_ok-map.map (met_in c.in_ok-walked.walked) c.in_err-entries.field-0.0
    (has_tree g (goal.at.returns-in_err-entries-clause-read g c).After-map_in j told)
    (rw first at map_is)
    (subst (λ (bs : List ℕ). IsFaultOf (entries_of place.bsize 2 (cut (c.in_ok-directory.directory.count - 2) 64 (drop 128 bs))) c.in_err-entries.field-0.0) bytes bad))

pub names_once-requires : goal.names_once-requires
names_once-requires g c = few_files c.in_ok-directory.directory.count _ (ap (λ (es : List Entry). length es) c.deref-6.ensures.value ∙ c.in_ok-entries.ensures.count ∙ ap (λ (d : SystemFile). d.count - 2) c.directory.view_is) c.in_ok-directory.ensures.count.1

-- the entries were read so
has_entries : (g : given.Over) (c : After-names_once g) (j : Journal) → g.W.World.told c.args.world.now ≡ Some j
    → HasTree c.args.place.now (image_of (contents_of j c.args.place.now.unit)) c.in_ok-directory.directory (met_in c.in_ok-walked.walked)
    → HasEntries c.args.place.now (image_of (contents_of j c.args.place.now.unit)) c.in_ok-directory.directory c.in_ok-map.map (met_in c.in_ok-walked.walked) c.in_ok-entries.entries.items
has_entries g c j told tree =
    let place = c.args.place.now in
    let image = image_of (contents_of j place.unit) in
    let first : c.in_ok-first.first.items ≡ image place.origin = c.in_ok-first.ensures.bytes j told in
    let map_is : map_of place.bsize place.total (drop 64 c.in_ok-first.first.items) ≡ Ok c.in_ok-map.map = ap (map_of place.bsize place.total) (sym (c.after.ensures.bytes ∙ ap (drop 64) c.deref-2.ensures.value)) ∙ sym c.in_ok-map.ensures.is in
    let bytes : c.in_ok-bytes.bytes.items ≡ bytes_at image c.in_ok-walked.walked.leaves.items =
    c.in_ok-bytes.ensures.bytes j (c.in_ok-walked.ensures.reads.told ∙ (c.in_ok-first.ensures.reads.told ∙ told)) ∙ ap (bytes_at image) c.deref-3.ensures.value in
    let entries : entries_of place.bsize 2 (cut (c.in_ok-directory.directory.count - 2) 64 (drop 128 c.in_ok-bytes.bytes.items)) ≡ Ok c.in_ok-entries.entries.items =
    (λ i. entries_of place.bsize 2 (cut (sym (ap (λ (d : SystemFile). d.count) c.directory.view_is) i - 2) 64 (sym (c.after-2.ensures.bytes ∙ ap (drop 128) c.deref-5.ensures.value) i))) ∙ c.in_ok-entries.ensures.entries in (
      tree,
      rw first at map_is,
      subst (λ (bs : List ℕ). entries_of place.bsize 2 (cut (c.in_ok-directory.directory.count - 2) 64 (drop 128 bs)) ≡ Ok c.in_ok-entries.entries.items) bytes entries,
    )

pub returns-in_err-names_once-clause-read : goal.returns-in_err-names_once-clause-read
returns-in_err-names_once-clause-read g c = λ j told.
    let p = err_from_is_err_and c.from_residual-in_err-names_once.result c.from_residual-in_err-names_once.ensures.1 in
    let bad : IsFaultOf (absent (first_twice 2 [] c.in_ok-entries.entries.items) failed.Twice) c.in_err-names_once.field-0.0 =
    subst (λ (es : List Entry). IsFaultOf (absent (first_twice 2 [] es) failed.Twice) c.in_err-names_once.field-0.0) c.deref-6.ensures.value c.in_err-names_once.ensures.fault in
    rw (p.1, p.2) (names_fault c.args.place.now _ c.in_ok-directory.directory c.in_ok-map.map (met_in c.in_ok-walked.walked) c.in_ok-entries.entries.items c.in_err-names_once.field-0.0
    (let at = goal.at.returns-in_err-names_once-clause-read g c in has_entries g at.After-names_once j told (has_tree g at.After-map_in j told)) bad)

pub returns-clause-read : goal.returns-clause-read
returns-clause-read g c = λ j told.
    let place = c.args.place.now in
    let at : c.system_at-at.result ≡ system_at place c.in_ok-directory.directory (Some place.origin) = c.system_at-at.ensures in
    let read = c.in_ok-walked.ensures.read j (c.in_ok-first.ensures.reads.told ∙ told) in
    let once : first_twice 2 [] c.in_ok-entries.entries.items ≡ None = ap (first_twice 2 []) (sym c.deref-6.ensures.value) ∙ c.in_ok-names_once.ensures.ok in (
      listed_so place _ c.in_ok-directory.directory c.in_ok-map.map (met_in c.in_ok-walked.walked) c.in_ok-entries.entries.items
          (let at' = goal.at.returns-clause-read g c in has_entries g at'.After-names_once j told (has_tree g at'.After-map_in j told)) once,
      subst (λ (x : TreeAt). c.in_ok-walked.walked.pointers.items ≡ nodes_at (image_of (contents_of j x.unit)) x) at read.1,
    )

pub returns-clause-holds : goal.returns-clause-holds
returns-clause-holds g c =
    let place = c.args.place.now in
    let at : c.system_at-at.result ≡ system_at place c.in_ok-directory.directory (Some place.origin) = c.system_at-at.ensures in
    let directory = c.in_ok-directory.ensures in
    let map = c.in_ok-map.ensures in
    let walked = c.in_ok-walked.ensures in
    let entries = c.in_ok-entries.ensures in
    let leaves = walked.count ∙ ap (λ (x : TreeAt). x.count) at in
    record {
      map_shape = map.shape;
      room = map.room;
      directory_shape = directory.shape.1;
      size = directory.size;
      leaves = (directory.shape.0, leaves);
      pointers = walked.pointers ∙ ap (λ (x : TreeAt). pointer_count (x.bsize / x.psize) x.count) at;
      small = (directory.few, map.few);
      counts = counts_are place.bsize place.origin place.total _ c.in_ok-first.first.items (drop 64 c.in_ok-first.first.items) c.in_ok-directory.directory c.in_ok-map.map
          directory.size (ap (directory_of place.bsize place.origin) (sym c.deref.ensures.value) ∙ sym c.in_ok-directory.ensures.is)
          (ap (map_of place.bsize place.total) (sym (c.after.ensures.bytes ∙ ap (drop 64) c.deref-2.ensures.value)) ∙ sym c.in_ok-map.ensures.is) (c.in_ok-entries.ensures.count ∙ ap (λ (d : SystemFile). d.count - 2) c.directory.view_is);
      room_for_entries = entries_stand _ c.in_ok-directory.directory.count c.in_ok-directory.directory.blocks _ place.bsize (c.in_ok-entries.ensures.count ∙ ap (λ (d : SystemFile). d.count - 2) c.directory.view_is) directory.count.0 directory.count.2 leaves;
      shapes = entries_shaped place.bsize _ c.in_ok-entries.entries.items directory.size entries.entries;
      sizes = entries_small place.bsize _ c.in_ok-entries.entries.items directory.size entries.entries;
      passing = entries_pass place.bsize 2 _ c.in_ok-entries.entries.items entries.entries;
      names = ap (first_twice 2 []) (sym c.deref-6.ensures.value) ∙ c.in_ok-names_once.ensures.ok;
      few = few_files c.in_ok-directory.directory.count _ (c.in_ok-entries.ensures.count ∙ ap (λ (d : SystemFile). d.count - 2) c.directory.view_is) directory.count.1;
      within = subst (λ (x : TreeAt). IsWithin x.volume x.first c.in_ok-walked.walked) at walked.within;
    }

pub returns-in_err-first-clause-reads : goal.returns-in_err-first-clause-reads
returns-in_err-first-clause-reads g c = reads_at_err c.from_residual.result _ c.from_residual.ensures.1 c.in_err-first.ensures.reads

pub returns-in_err-directory-clause-reads : goal.returns-in_err-directory-clause-reads
returns-in_err-directory-clause-reads g c = other_at_err c.from_residual-in_err-directory.result _ c.from_residual-in_err-directory.ensures.1 c.in_err-directory.ensures.device c.in_ok-first.ensures.reads

pub returns-in_err-walked-clause-reads : goal.returns-in_err-walked-clause-reads
returns-in_err-walked-clause-reads g c = reads_at_err c.from_residual-in_err-walked.result _ c.from_residual-in_err-walked.ensures.1 (reads_then c.in_ok-first.ensures.reads c.in_err-walked.ensures.reads)

pub returns-in_err-map-clause-reads : goal.returns-in_err-map-clause-reads
returns-in_err-map-clause-reads g c = other_at_err c.from_residual-in_err-map.result _ c.from_residual-in_err-map.ensures.1 c.in_err-map.ensures.device (reads_then c.in_ok-first.ensures.reads c.in_ok-walked.ensures.reads)

pub returns-in_err-bytes-clause-reads : goal.returns-in_err-bytes-clause-reads
returns-in_err-bytes-clause-reads g c = reads_at_err c.from_residual-in_err-bytes.result _ c.from_residual-in_err-bytes.ensures.1 (reads_then c.in_ok-first.ensures.reads (reads_then c.in_ok-walked.ensures.reads c.in_err-bytes.ensures.reads))

pub returns-in_err-entries-clause-reads : goal.returns-in_err-entries-clause-reads
returns-in_err-entries-clause-reads g c = other_at_err c.from_residual-in_err-entries.result _ c.from_residual-in_err-entries.ensures.1 c.in_err-entries.ensures.device (reads_then c.in_ok-first.ensures.reads (reads_then c.in_ok-walked.ensures.reads c.in_ok-bytes.ensures.reads))

pub returns-in_err-names_once-clause-reads : goal.returns-in_err-names_once-clause-reads
returns-in_err-names_once-clause-reads g c = other_at_err c.from_residual-in_err-names_once.result _ c.from_residual-in_err-names_once.ensures.1 c.in_err-names_once.ensures.device (reads_then c.in_ok-first.ensures.reads (reads_then c.in_ok-walked.ensures.reads c.in_ok-bytes.ensures.reads))

pub returns-clause-reads : goal.returns-clause-reads
returns-clause-reads g c = reads_at_ok _ (reads_then c.in_ok-first.ensures.reads (reads_then c.in_ok-walked.ensures.reads c.in_ok-bytes.ensures.reads))

pub returns-in_err-first-clause-holds : goal.returns-in_err-first-clause-holds
returns-in_err-first-clause-holds g c = ok_at_err _ c.from_residual.result _ c.from_residual.ensures.1

pub returns-in_err-directory-clause-holds : goal.returns-in_err-directory-clause-holds
returns-in_err-directory-clause-holds g c = ok_at_err _ c.from_residual-in_err-directory.result _ c.from_residual-in_err-directory.ensures.1

pub returns-in_err-walked-clause-holds : goal.returns-in_err-walked-clause-holds
returns-in_err-walked-clause-holds g c = ok_at_err _ c.from_residual-in_err-walked.result _ c.from_residual-in_err-walked.ensures.1

pub returns-in_err-map-clause-holds : goal.returns-in_err-map-clause-holds
returns-in_err-map-clause-holds g c = ok_at_err _ c.from_residual-in_err-map.result _ c.from_residual-in_err-map.ensures.1

pub returns-in_err-bytes-clause-holds : goal.returns-in_err-bytes-clause-holds
returns-in_err-bytes-clause-holds g c = ok_at_err _ c.from_residual-in_err-bytes.result _ c.from_residual-in_err-bytes.ensures.1

pub returns-in_err-entries-clause-holds : goal.returns-in_err-entries-clause-holds
returns-in_err-entries-clause-holds g c = ok_at_err _ c.from_residual-in_err-entries.result _ c.from_residual-in_err-entries.ensures.1

pub returns-in_err-names_once-clause-holds : goal.returns-in_err-names_once-clause-holds
returns-in_err-names_once-clause-holds g c = ok_at_err _ c.from_residual-in_err-names_once.result _ c.from_residual-in_err-names_once.ensures.1

-- the entries stand behind the first two
entries_room : (own count blocks leaves bytes bsize rest : ℕ) → own ≡ count → 2 ≤ count → count * 64 ≤ blocks * bsize → leaves ≡ blocks → bytes ≡ bsize * leaves → rest ≡ bytes - 128
    → (own - 2) * 64 ≤ rest
entries_room own count blocks leaves bytes bsize rest is some fits same all behind =
    let long : bytes ≡ blocks * bsize = all ∙ (ap (λ (n : ℕ). bsize * n) same ∙ mul_comm bsize blocks) in
    omega (arith, is, some, fits, long, behind)

few_entries : (own count : ℕ) → own ≡ count → count ≤ most_files + 2 → own - 2 ≤ most_files
few_entries own count is few = omega (arith, is, few)

pub block_of-requires : goal.block_of-requires
block_of-requires g c = λ j told. origin_block j c.args.place.now.unit c.args.place.now.total c.args.place.now.origin c.args.place.now.bsize c.requires.total c.requires.origin (c.requires.blocks j told)

pub returns-in_err-first-clause-read : goal.returns-in_err-first-clause-read
returns-in_err-first-clause-read g c = λ j told.
    let p = err_from_is_err_and c.from_residual.result c.from_residual.ensures.1 in
    rw (p.1, p.2) (fault_plain _ c.in_err-first.field-0.0 c.in_err-first.ensures.fault)

pub returns-in_err-bytes-clause-read : goal.returns-in_err-bytes-clause-read
returns-in_err-bytes-clause-read g c = λ j told.
    let p = err_from_is_err_and c.from_residual-in_err-bytes.result c.from_residual-in_err-bytes.ensures.1 in
    rw (p.1, p.2) (fault_plain _ c.in_err-bytes.field-0.0 c.in_err-bytes.ensures.fault)

pub tree_of-requires-clause-some : goal.tree_of-requires-clause-some
tree_of-requires-clause-some g c = subst (λ (x : TreeAt). 1 ≤ x.count) (sym c.system_at-at.ensures) c.in_ok-directory.ensures.shape.0

pub tree_of-requires-clause-psize : goal.tree_of-requires-clause-psize
tree_of-requires-clause-psize g c = subst (λ (x : TreeAt). (x.psize ≡ 4) ⊎ (x.psize ≡ 12)) (sym c.system_at-at.ensures) (inl refl)

pub tree_of-requires-clause-blocks : goal.tree_of-requires-clause-blocks
tree_of-requires-clause-blocks g c = λ j told.
    subst (λ (x : TreeAt). HasBlocks j.units x.unit x.volume x.bsize) (sym c.system_at-at.ensures) (c.requires.blocks j (sym c.in_ok-first.ensures.reads.told ∙ told))

pub directory_bytes-requires-clause-first : goal.directory_bytes-requires-clause-first
directory_bytes-requires-clause-first g c = λ j told. c.deref-4.ensures.value ∙ c.in_ok-first.ensures.bytes j (sym c.in_ok-first.ensures.reads.told ∙ (sym c.in_ok-walked.ensures.reads.told ∙ told))

pub directory_bytes-requires-clause-size : goal.directory_bytes-requires-clause-size
directory_bytes-requires-clause-size g c = ap (λ (l : List ℕ). length l) c.deref-4.ensures.value ∙ c.in_ok-first.ensures.size

some_total : (n : ℕ) → 6 ≤ n → 1 ≤ n
some_total n some = omega arith

pub map_in-requires-clause-some : goal.map_in-requires-clause-some
map_in-requires-clause-some g c = some_total _ c.requires.total

pub overflow_sub-directory-inside : goal.overflow_sub-directory-inside
overflow_sub-directory-inside g c = subst (λ (n : ℕ). 2 ≤ n) (sym (ap (λ (d : SystemFile). d.count) c.directory.view_is)) c.in_ok-directory.ensures.count.0

pub entries_of-requires-clause-long : goal.entries_of-requires-clause-long
entries_of-requires-clause-long g c =
    entries_room c.directory.inside.count c.in_ok-directory.directory.count c.in_ok-directory.directory.blocks (length c.in_ok-walked.walked.leaves.items) (length c.in_ok-bytes.bytes.items) c.args.place.now.bsize _
    (ap (λ (d : SystemFile). d.count) c.directory.view_is) c.in_ok-directory.ensures.count.0 c.in_ok-directory.ensures.count.2
    (c.in_ok-walked.ensures.count ∙ ap (λ (x : TreeAt). x.count) c.system_at-at.ensures)
    (c.in_ok-bytes.ensures.size ∙ ap (λ (l : List ℕ). c.args.place.now.bsize * length l) c.deref-3.ensures.value)
    (ap (λ (l : List ℕ). length l) (c.after-2.ensures.bytes ∙ ap (drop 128) c.deref-5.ensures.value) ∙ length-drop 128 c.in_ok-bytes.bytes.items)

pub entries_of-requires-clause-few : goal.entries_of-requires-clause-few
entries_of-requires-clause-few g c = few_entries c.directory.inside.count c.in_ok-directory.directory.count (ap (λ (d : SystemFile). d.count) c.directory.view_is) c.in_ok-directory.ensures.count.1
