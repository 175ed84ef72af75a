use Rattle.std.proofs.Common.{ℕ, List, ◌∙◌, subst, ◌≤◌, ◌+◌, ◌*◌, All, length, sym, ap}
use Rattle.std.proofs.lemmas.Result.{err_from_is_err_and}
use Rattle.cms_journal.specs.Journal.{contents_of}
use Rattle.cms_model.specs.Trees.{image_of}
use Rattle.cms_model.specs.Volumes.{file_trees}
use Rattle.cms_fields.specs.declared.entry.Entry.{Entry}
use Rattle.cms_held.specs.HeldVolumes.{IsFaultOf}
use Rattle.cms_edf.specs.OpeningFiles.{HasFiles, HaveCounts}
use Rattle.cms_edf.proofs.TreesRead.{map_bad, files_fail, trees_stand}
use Rattle.cms_edf.proofs.Exits.{ok_at_err, reads_at_err, reads_at_ok, reads_then}
use Rattle.cms_fields.specs.Limits.{most_files}
use Rattle.cms_edf.specs.EntryShapes.{HasShape}
use Rattle.cms_edf.proofs.volume.read_trees.Goals as goal

pub returns-in_err-map-clause-fault : goal.returns-in_err-map-clause-fault
returns-in_err-map-clause-fault g c =
    let a = c.args in
    let p = err_from_is_err_and c.from_residual.result c.from_residual.ensures.1 in
    rw (p.1, p.2) (λ j told. map_bad a.place.now (image_of (contents_of j a.place.now.unit)) a.listing.now c.in_err-map.field-0.0 (c.in_err-map.ensures.read j told))

pub returns-in_err-files-clause-fault : goal.returns-in_err-files-clause-fault
returns-in_err-files-clause-fault g c =
    let a = c.args in
    let p = err_from_is_err_and c.from_residual-in_err-files.result c.from_residual-in_err-files.ensures.1 in
    let leaves = c.deref.ensures.value in
    let entries = c.deref-2.ensures.value in
    rw (p.1, p.2) (λ j told.
    let image = image_of (contents_of j a.place.now.unit) in
    let why = c.in_err-files.field-0.0 in
    let bad = c.in_err-files.ensures.fault j (c.in_ok-map.ensures.reads.told ∙ told) in
    let bad' = subst (λ (l : List ℕ). IsFaultOf (file_trees a.place.now.bsize a.place.now.total image l 2 c.deref-2.result.now) why) leaves bad in
    files_fail a.place.now image a.listing.now c.in_ok-map.map why (c.in_ok-map.ensures.read j told)
    (subst (λ (es : List Entry). IsFaultOf (file_trees a.place.now.bsize a.place.now.total image a.listing.now.walked.leaves.items 2 es) why) entries bad'))

pub returns-clause-read : goal.returns-clause-read
returns-clause-read g c = λ j told.
    let a = c.args in
    let image = image_of (contents_of j a.place.now.unit) in
    let leaves = c.deref.ensures.value in
    let entries = c.deref-2.ensures.value in
    let files = c.in_ok-files.ensures.read j (c.in_ok-map.ensures.reads.told ∙ told) in
    let files' = subst (λ (l : List ℕ). HasFiles a.place.now image l c.deref-2.result.now c.in_ok-files.files.items) leaves files in
    trees_stand a.place.now image a.listing.now _ (c.in_ok-map.ensures.read j told)
    (subst (λ (es : List Entry). HasFiles a.place.now image a.listing.now.walked.leaves.items es c.in_ok-files.files.items) entries files')

pub returns-in_err-map-clause-read : goal.returns-in_err-map-clause-read
returns-in_err-map-clause-read g c = ok_at_err _ c.from_residual.result _ c.from_residual.ensures.1

pub returns-in_err-map-clause-map : goal.returns-in_err-map-clause-map
returns-in_err-map-clause-map g c = ok_at_err _ c.from_residual.result _ c.from_residual.ensures.1

pub returns-in_err-map-clause-files : goal.returns-in_err-map-clause-files
returns-in_err-map-clause-files g c = ok_at_err _ c.from_residual.result _ c.from_residual.ensures.1

pub returns-in_err-map-clause-counts : goal.returns-in_err-map-clause-counts
returns-in_err-map-clause-counts g c = ok_at_err _ c.from_residual.result _ c.from_residual.ensures.1

pub returns-in_err-map-clause-pointers : goal.returns-in_err-map-clause-pointers
returns-in_err-map-clause-pointers g c = ok_at_err _ c.from_residual.result _ c.from_residual.ensures.1

pub returns-in_err-files-clause-read : goal.returns-in_err-files-clause-read
returns-in_err-files-clause-read g c = ok_at_err _ c.from_residual-in_err-files.result _ c.from_residual-in_err-files.ensures.1

pub returns-in_err-files-clause-map : goal.returns-in_err-files-clause-map
returns-in_err-files-clause-map g c = ok_at_err _ c.from_residual-in_err-files.result _ c.from_residual-in_err-files.ensures.1

pub returns-in_err-files-clause-files : goal.returns-in_err-files-clause-files
returns-in_err-files-clause-files g c = ok_at_err _ c.from_residual-in_err-files.result _ c.from_residual-in_err-files.ensures.1

pub returns-in_err-files-clause-counts : goal.returns-in_err-files-clause-counts
returns-in_err-files-clause-counts g c = ok_at_err _ c.from_residual-in_err-files.result _ c.from_residual-in_err-files.ensures.1

pub returns-in_err-files-clause-pointers : goal.returns-in_err-files-clause-pointers
returns-in_err-files-clause-pointers g c = ok_at_err _ c.from_residual-in_err-files.result _ c.from_residual-in_err-files.ensures.1

pub read_files-requires-clause-few : goal.read_files-requires-clause-few
read_files-requires-clause-few g c = subst (λ (es : List Entry). length es ≤ most_files) (sym c.deref-2.ensures.value) c.requires.few

pub read_files-requires-clause-room : goal.read_files-requires-clause-room
read_files-requires-clause-room g c =
    let bsize = c.args.place.now.bsize in
    subst (λ (es : List Entry). (length es + 2) * 64 ≤ length c.deref.result.now * bsize) (sym c.deref-2.ensures.value)
    (subst (λ (l : List ℕ). (length c.args.listing.now.entries.items + 2) * 64 ≤ length l * bsize) (sym c.deref.ensures.value) c.requires.entries)

pub read_files-requires-clause-shapes : goal.read_files-requires-clause-shapes
read_files-requires-clause-shapes g c = subst (All (HasShape c.args.place.now.bsize)) (sym c.deref-2.ensures.value) c.requires.shapes

pub read_files-requires-clause-blocks : goal.read_files-requires-clause-blocks
read_files-requires-clause-blocks g c = λ j told. c.requires.blocks j (sym c.in_ok-map.ensures.reads.told ∙ told)

pub returns-in_err-map-clause-reads : goal.returns-in_err-map-clause-reads
returns-in_err-map-clause-reads g c = reads_at_err c.from_residual.result _ c.from_residual.ensures.1 c.in_err-map.ensures.reads

pub returns-in_err-files-clause-reads : goal.returns-in_err-files-clause-reads
returns-in_err-files-clause-reads g c =
    reads_at_err c.from_residual-in_err-files.result _ c.from_residual-in_err-files.ensures.1 (reads_then c.in_ok-map.ensures.reads c.in_err-files.ensures.reads)

pub returns-clause-map : goal.returns-clause-map
returns-clause-map g c = (c.in_ok-map.ensures.count, c.in_ok-map.ensures.within)

pub returns-clause-files : goal.returns-clause-files
returns-clause-files g c = (c.in_ok-files.ensures.count ∙ ap (λ (es : List Entry). length es) c.deref-2.ensures.value, c.in_ok-files.ensures.within)

pub returns-clause-counts : goal.returns-clause-counts
returns-clause-counts g c = subst (λ (es : List Entry). HaveCounts c.args.place.now.bsize es c.in_ok-files.files.items) c.deref-2.ensures.value c.in_ok-files.ensures.counts

pub returns-clause-pointers : goal.returns-clause-pointers
returns-clause-pointers g c = c.in_ok-map.ensures.pointers

pub returns-clause-reads : goal.returns-clause-reads
returns-clause-reads g c = reads_at_ok _ (reads_then c.in_ok-map.ensures.reads c.in_ok-files.ensures.reads)

pub returns-clause-fault : goal.returns-clause-fault
returns-clause-fault g c = tt
