use Rattle.std.proofs.Common.{◌≡◌, map, sym, subst, ℕ, List, ap, ◌∙◌, Bool, Ok}
use Rattle.cms_model.specs.Volumes.{tree_blocks}
use Rattle.cms_edf.specs.OpeningSteps.{AreBlocks, met_in, lost_in}
use Rattle.cms_edf.proofs.TreesRead.{plain_block, blocks_are}
use Rattle.cms_edf.proofs.Exits.{ok_at_err, memory_at_err, other_at_err, reads_at_err, reads_at_ok, same_at_err}
use Rattle.cms_edf.proofs.Faults.{fault_memory, fault_plain}
use Rattle.cms_journal.specs.Journal.{contents_of}
use Rattle.cms_model.specs.Trees.{Image, bytes_at, image_of}
use Rattle.cms_map.specs.Bits.{bits_in}
use Rattle.cms_tree.specs.declared.types.Walked.{Walked}
use Rattle.cms_held.specs.HeldVolumes.{IsFaultOf}
use Rattle.cms_edf.proofs.volume.read_marks.Goals as goal

pub bytes_of-requires : goal.bytes_of-requires
bytes_of-requires g c = λ j told k less.
    plain_block j c.args.place.now.unit c.args.place.now.total c.args.place.now.bsize c.args.trees.now.map c.deref.result.now k c.deref.ensures.value less c.requires.map (c.requires.blocks j told)

pub lost_of-requires-clause-within : goal.lost_of-requires-clause-within
lost_of-requires-clause-within g c =
    let a = c.args in
    let blocks = c.deref-4.ensures.value ∙ (c.in_ok-blocks.ensures.ok ∙ ap (λ (l : List Walked). tree_blocks (met_in a.directory.now) (met_in a.trees.now.map) (map met_in l)) c.deref-3.ensures.value) in
    subst (AreBlocks a.place.now.total) (sym blocks) (blocks_are a.place.now.total a.place.now.origin a.directory.now a.trees.now.map a.trees.now.files.items c.requires.total c.requires.origin
    c.requires.directory c.requires.map c.requires.files)

pub returns-in_err-bytes-clause-count : goal.returns-in_err-bytes-clause-count
returns-in_err-bytes-clause-count g c = ok_at_err _ c.from_residual.result _ c.from_residual.ensures.1

pub returns-in_err-bytes-clause-bits : goal.returns-in_err-bytes-clause-bits
returns-in_err-bytes-clause-bits g c = ok_at_err _ c.from_residual.result _ c.from_residual.ensures.1

pub returns-in_err-bytes-clause-lost : goal.returns-in_err-bytes-clause-lost
returns-in_err-bytes-clause-lost g c = ok_at_err _ c.from_residual.result _ c.from_residual.ensures.1

pub returns-in_err-map-clause-count : goal.returns-in_err-map-clause-count
returns-in_err-map-clause-count g c = ok_at_err _ c.from_residual-in_err-map.result _ c.from_residual-in_err-map.ensures.1

pub returns-in_err-map-clause-bits : goal.returns-in_err-map-clause-bits
returns-in_err-map-clause-bits g c = ok_at_err _ c.from_residual-in_err-map.result _ c.from_residual-in_err-map.ensures.1

pub returns-in_err-map-clause-lost : goal.returns-in_err-map-clause-lost
returns-in_err-map-clause-lost g c = ok_at_err _ c.from_residual-in_err-map.result _ c.from_residual-in_err-map.ensures.1

pub returns-in_err-blocks-clause-count : goal.returns-in_err-blocks-clause-count
returns-in_err-blocks-clause-count g c = ok_at_err _ c.from_residual-in_err-blocks.result _ c.from_residual-in_err-blocks.ensures.1

pub returns-in_err-blocks-clause-bits : goal.returns-in_err-blocks-clause-bits
returns-in_err-blocks-clause-bits g c = ok_at_err _ c.from_residual-in_err-blocks.result _ c.from_residual-in_err-blocks.ensures.1

pub returns-in_err-blocks-clause-lost : goal.returns-in_err-blocks-clause-lost
returns-in_err-blocks-clause-lost g c = ok_at_err _ c.from_residual-in_err-blocks.result _ c.from_residual-in_err-blocks.ensures.1

pub returns-in_err-lost-clause-count : goal.returns-in_err-lost-clause-count
returns-in_err-lost-clause-count g c = ok_at_err _ c.from_residual-in_err-lost.result _ c.from_residual-in_err-lost.ensures.1

pub returns-in_err-lost-clause-bits : goal.returns-in_err-lost-clause-bits
returns-in_err-lost-clause-bits g c = ok_at_err _ c.from_residual-in_err-lost.result _ c.from_residual-in_err-lost.ensures.1

pub returns-in_err-lost-clause-lost : goal.returns-in_err-lost-clause-lost
returns-in_err-lost-clause-lost g c = ok_at_err _ c.from_residual-in_err-lost.result _ c.from_residual-in_err-lost.ensures.1

pub returns-in_err-bytes-clause-fault : goal.returns-in_err-bytes-clause-fault
returns-in_err-bytes-clause-fault g c =
    same_at_err c.from_residual.result _ c.in_err-bytes.field-0.0 c.from_residual.ensures.1 (λ j told. fault_plain _ _ c.in_err-bytes.ensures.fault)

pub returns-in_err-bytes-clause-reads : goal.returns-in_err-bytes-clause-reads
returns-in_err-bytes-clause-reads g c = reads_at_err c.from_residual.result _ c.from_residual.ensures.1 c.in_err-bytes.ensures.reads

pub returns-in_err-map-clause-fault : goal.returns-in_err-map-clause-fault
returns-in_err-map-clause-fault g c =
    same_at_err c.from_residual-in_err-map.result _ c.in_err-map.field-0.0 c.from_residual-in_err-map.ensures.1 (λ j told. fault_memory _ _ c.in_err-map.ensures.fault)

pub returns-in_err-map-clause-reads : goal.returns-in_err-map-clause-reads
returns-in_err-map-clause-reads g c =
    memory_at_err c.from_residual-in_err-map.result _ c.from_residual-in_err-map.ensures.1 c.in_err-map.ensures.fault c.in_ok-bytes.ensures.reads

pub returns-in_err-blocks-clause-fault : goal.returns-in_err-blocks-clause-fault
returns-in_err-blocks-clause-fault g c =
    same_at_err c.from_residual-in_err-blocks.result _ c.in_err-blocks.field-0.0 c.from_residual-in_err-blocks.ensures.1 (λ j told. fault_memory _ _ c.in_err-blocks.ensures.fault)

pub returns-in_err-blocks-clause-reads : goal.returns-in_err-blocks-clause-reads
returns-in_err-blocks-clause-reads g c =
    memory_at_err c.from_residual-in_err-blocks.result _ c.from_residual-in_err-blocks.ensures.1 c.in_err-blocks.ensures.fault c.in_ok-bytes.ensures.reads

pub lost_of-requires-clause-total : goal.lost_of-requires-clause-total
lost_of-requires-clause-total g c = c.in_ok-map.ensures.count

-- the bits of the map are those of its blocks' bytes
bits_are : (total : ℕ) (m : List Bool) (bytes given leaves before : List ℕ) (image : Image) → m ≡ bits_in total given → given ≡ bytes → bytes ≡ bytes_at image leaves → leaves ≡ before
    → m ≡ bits_in total (bytes_at image before)
bits_are total m bytes given leaves before image is same read of_map = is ∙ ap (bits_in total) (same ∙ (read ∙ ap (bytes_at image) of_map))

pub returns-in_err-lost-clause-fault : goal.returns-in_err-lost-clause-fault
returns-in_err-lost-clause-fault g c =
    let a = c.args in
    let unit = a.place.now.unit in
    same_at_err c.from_residual-in_err-lost.result _ c.in_err-lost.field-0.0 c.from_residual-in_err-lost.ensures.1 (λ j told.
    let image = image_of (contents_of j unit) in
    let bytes = bytes_at image a.trees.now.map.leaves.items in
    let is = bits_are a.place.now.total c.in_ok-map.map c.in_ok-bytes.bytes.items c.deref-2.result.now c.deref.result.now a.trees.now.map.leaves.items image c.in_ok-map.ensures.bits
    c.deref-2.ensures.value (c.in_ok-bytes.ensures.bytes j told) c.deref.ensures.value in
    let blocks = c.deref-4.ensures.value ∙ (c.in_ok-blocks.ensures.ok ∙ ap (λ (l : List Walked). tree_blocks (met_in a.directory.now) (met_in a.trees.now.map) (map met_in l)) c.deref-3.ensures.value) in
    subst (λ (l : List ℕ). IsFaultOf (lost_in bytes a.place.now.total l) c.in_err-lost.field-0.0) blocks (c.in_err-lost.ensures.fault bytes is))

pub returns-in_err-lost-clause-reads : goal.returns-in_err-lost-clause-reads
returns-in_err-lost-clause-reads g c =
    other_at_err c.from_residual-in_err-lost.result _ c.from_residual-in_err-lost.ensures.1 c.in_err-lost.ensures.device c.in_ok-bytes.ensures.reads

pub returns-clause-count : goal.returns-clause-count
returns-clause-count g c = c.in_ok-map.ensures.count

pub returns-clause-bits : goal.returns-clause-bits
returns-clause-bits g c = λ j told.
    let a = c.args in
    bits_are a.place.now.total c.in_ok-map.map c.in_ok-bytes.bytes.items c.deref-2.result.now c.deref.result.now a.trees.now.map.leaves.items (image_of (contents_of j a.place.now.unit))
    c.in_ok-map.ensures.bits c.deref-2.ensures.value (c.in_ok-bytes.ensures.bytes j told) c.deref.ensures.value

pub returns-clause-lost : goal.returns-clause-lost
returns-clause-lost g c = λ j told.
    let a = c.args in
    let image = image_of (contents_of j a.place.now.unit) in
    let bytes = bytes_at image a.trees.now.map.leaves.items in
    let is = bits_are a.place.now.total c.in_ok-map.map c.in_ok-bytes.bytes.items c.deref-2.result.now c.deref.result.now a.trees.now.map.leaves.items image c.in_ok-map.ensures.bits
    c.deref-2.ensures.value (c.in_ok-bytes.ensures.bytes j told) c.deref.ensures.value in
    let blocks = c.deref-4.ensures.value ∙ (c.in_ok-blocks.ensures.ok ∙ ap (λ (l : List Walked). tree_blocks (met_in a.directory.now) (met_in a.trees.now.map) (map met_in l)) c.deref-3.ensures.value) in
    subst (λ (l : List ℕ). lost_in bytes a.place.now.total l ≡ Ok c.in_ok-lost.lost) blocks (c.in_ok-lost.ensures.ok bytes is)

pub returns-clause-reads : goal.returns-clause-reads
returns-clause-reads g c = reads_at_ok _ c.in_ok-bytes.ensures.reads

pub returns-clause-fault : goal.returns-clause-fault
returns-clause-fault g c = tt
