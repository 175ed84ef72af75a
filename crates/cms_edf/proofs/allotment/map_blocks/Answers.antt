-- The map's data blocks, and the pointer blocks over them.
use Rattle.std.proofs.Common.{◌≡◌, ◌≤◌, ◌+◌, ℕ, sym, subst, arith}
use Rattle.cms_model.specs.Sizes.{map_size}
use Rattle.cms_held.specs.HeldVolumes.{Held}
use Rattle.cms_held.proofs.Allotted.{map_some}
use Rattle.cms_edf.proofs.AllottedSteps.{map_is, map_low}
use Rattle.cms_edf.proofs.Rounded.{four_to_a_pointer, map_rounded}
use Rattle.cms_edf.proofs.allotment.map_blocks.Goals as goal

pub shape-requires-clause-some : goal.shape-requires-clause-some
shape-requires-clause-some c =
    let count = map_rounded c.div_ceil-data.result c.div_ceil.result c.held.inside.label.blocks c.bytes-bytes.result c.div_ceil-data.ensures c.div_ceil.ensures c.bytes-bytes.ensures.least in
    let some = map_some c.held.inside.label.blocks c.bytes-bytes.result c.bytes-bytes.ensures.least c.held.invariant.kept.size in
    subst (λ (n : ℕ). 1 ≤ n) (sym count) some

pub shape-requires-clause-wide : goal.shape-requires-clause-wide
shape-requires-clause-wide c = four_to_a_pointer c.bytes-bytes.result c.bytes-bytes.ensures.least

pub overflow_add-result : goal.overflow_add-result
overflow_add-result c =
    let bytes = c.bytes-bytes.result in
    let total = c.held.inside.label.blocks in
    let count = map_rounded c.div_ceil-data.result c.div_ceil.result total bytes c.div_ceil-data.ensures c.div_ceil.ensures c.bytes-bytes.ensures.least in
    let low = map_low bytes total c.div_ceil-data.result c.shape.result.pointers c.bytes-bytes.ensures.least c.bytes-bytes.ensures.most c.held.invariant.kept.small count c.shape.ensures.pointers in
    omega (arith, low)

pub returns : goal.returns
returns c =
    let size = c.held.inside.bsize in
    let total = c.held.inside.label.blocks in
    let leaves = c.div_ceil-data.result in
    let nodes = c.shape.result.pointers in
    let count = map_rounded leaves c.div_ceil.result total c.bytes-bytes.result c.div_ceil-data.ensures c.div_ceil.ensures c.bytes-bytes.ensures.least in
    subst (λ (h : Held). leaves + nodes ≡ map_size h.volume.disk.bsize h.volume.label.blocks) c.held.view_is
    (subst (λ (n : ℕ). leaves + nodes ≡ map_size n total) c.bytes-bytes.ensures.value (map_is c.bytes-bytes.result total leaves nodes count c.shape.ensures.pointers))
