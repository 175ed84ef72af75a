-- The map takes the lowest free blocks of one in which only the first five are in use.
use Rattle.std.proofs.Common.{◌≡◌, ◌+◌, ◌≤◌, ◌/◌, ℕ, Bool, List, length, take, sym, ◌∙◌, ap, subst, arith}
use Rattle.cms_fields.specs.Numbers.{up}
use Rattle.cms_model.specs.Sizes.{pointer_count}
use Rattle.cms_map.specs.Bits.{free_blocks, with_marked}
use Rattle.cms_held.proofs.NewMap.{TakesFirst, map_fits, takes_first}
use Rattle.cms_edf.proofs.Exits.{ok_at_err}
use Rattle.cms_edf.proofs.Rounded.{map_rounded}
use Rattle.cms_edf.proofs.empty_volume.first_map.Goals as goal
use Rattle.cms_edf.proofs.empty_volume.first_map.Goals.{After-shape}

-- so many data blocks, with their pointer blocks
sizes : (bsize total bytes wide leaves nodes : ℕ) → 512 ≤ bytes → bytes ≡ bsize → wide ≡ bsize → 8 ≤ total → leaves ≡ up (up total 8) bytes → nodes ≡ pointer_count (wide / 4) leaves
    → TakesFirst bsize total (leaves + nodes)
sizes bsize total bytes wide leaves nodes low same also least is_leaves is_nodes =
    takes_first bsize total leaves nodes (omega arith) least (is_leaves ∙ ap (up (up total 8)) same) (is_nodes ∙ ap (λ (n : ℕ). pointer_count (n / 4) leaves) also)

fits : (bsize total count : ℕ) → 512 ≤ bsize → 8 ≤ total → TakesFirst bsize total count → 5 + count ≤ total
fits bsize total count low least t = let e = t.size in omega (arith, map_fits bsize total low least)

-- the blocks of the map, as many as its size says
first_blocks : (c : After-shape) → TakesFirst c.args.bsize c.args.total (c.div_ceil-data.result + c.shape.result.pointers)
first_blocks c =
    let leaves = map_rounded c.div_ceil-data.result c.div_ceil.result c.args.total c.bytes.result c.div_ceil-data.ensures c.div_ceil.ensures c.bytes.ensures.least in
    sizes c.args.bsize c.args.total c.bytes.result c.bytes-2.result c.div_ceil-data.result c.shape.result.pointers c.bytes.ensures.least
    c.bytes.ensures.value c.bytes-2.ensures.value c.requires leaves c.shape.ensures.pointers

has_room : (c : After-shape) → 5 + (c.div_ceil-data.result + c.shape.result.pointers) ≤ c.args.total
has_room c =
    let size = c.bytes.ensures.value in
    let low = c.bytes.ensures.least in
    fits c.args.bsize c.args.total (c.div_ceil-data.result + c.shape.result.pointers) (omega arith) c.requires (first_blocks c)

pub overflow_add-count : goal.overflow_add-count
overflow_add-count c =
    let room = has_room (goal.at.overflow_add-count c).After-shape in
    omega arith

pub take_blocks-requires : goal.take_blocks-requires
take_blocks-requires c =
    let t = first_blocks (goal.at.take_blocks-requires c).After-shape in
    subst (λ (m : List Bool). c.div_ceil-data.result + c.shape.result.pointers ≤ length (free_blocks m)) (sym c.in_ok-blank_map.ensures) t.enough

pub overflow_add-result : goal.overflow_add-result
overflow_add-result c =
    let room = has_room (goal.at.overflow_add-result c).After-shape in
    omega arith

pub returns-clause-from : goal.returns-clause-from
returns-clause-from c =
    let t = first_blocks (goal.at.returns-clause-from c).After-shape in
    let blank = c.in_ok-blank_map.ensures in
    let all = c.deref.ensures.value ∙ (c.in_ok-taken.ensures.blocks ∙ (ap (λ (m : List Bool). take (c.div_ceil-data.result + c.shape.result.pointers) (free_blocks m)) blank ∙ t.row)) in
    c.in_ok-tree_in.ensures.blocks ∙ all

pub returns-clause-bits : goal.returns-clause-bits
returns-clause-bits c =
    let t = first_blocks (goal.at.returns-clause-bits c).After-shape in
    let blank = c.in_ok-blank_map.ensures in
    let count = c.div_ceil-data.result + c.shape.result.pointers in
    c.in_ok-taken.ensures.marked ∙ (ap (λ (m : List Bool). with_marked (take count (free_blocks m)) m) blank ∙ t.marks)

pub returns-clause-used : goal.returns-clause-used
returns-clause-used c =
    let t = first_blocks (goal.at.returns-clause-used c).After-shape in
    ap (λ (n : ℕ). 5 + n) t.size

pub returns-in_err-blank_map-clause-count : goal.returns-in_err-blank_map-clause-count
returns-in_err-blank_map-clause-count c = ok_at_err _ c.from_residual.result _ c.from_residual.ensures.1

pub returns-in_err-blank_map-clause-nodes : goal.returns-in_err-blank_map-clause-nodes
returns-in_err-blank_map-clause-nodes c = ok_at_err _ c.from_residual.result _ c.from_residual.ensures.1

pub returns-in_err-blank_map-clause-from : goal.returns-in_err-blank_map-clause-from
returns-in_err-blank_map-clause-from c = ok_at_err _ c.from_residual.result _ c.from_residual.ensures.1

pub returns-in_err-blank_map-clause-bits : goal.returns-in_err-blank_map-clause-bits
returns-in_err-blank_map-clause-bits c = ok_at_err _ c.from_residual.result _ c.from_residual.ensures.1

pub returns-in_err-blank_map-clause-used : goal.returns-in_err-blank_map-clause-used
returns-in_err-blank_map-clause-used c = ok_at_err _ c.from_residual.result _ c.from_residual.ensures.1

pub returns-in_err-taken-clause-count : goal.returns-in_err-taken-clause-count
returns-in_err-taken-clause-count c = ok_at_err _ c.from_residual-in_err-taken.result _ c.from_residual-in_err-taken.ensures.1

pub returns-in_err-taken-clause-nodes : goal.returns-in_err-taken-clause-nodes
returns-in_err-taken-clause-nodes c = ok_at_err _ c.from_residual-in_err-taken.result _ c.from_residual-in_err-taken.ensures.1

pub returns-in_err-taken-clause-from : goal.returns-in_err-taken-clause-from
returns-in_err-taken-clause-from c = ok_at_err _ c.from_residual-in_err-taken.result _ c.from_residual-in_err-taken.ensures.1

pub returns-in_err-taken-clause-bits : goal.returns-in_err-taken-clause-bits
returns-in_err-taken-clause-bits c = ok_at_err _ c.from_residual-in_err-taken.result _ c.from_residual-in_err-taken.ensures.1

pub returns-in_err-taken-clause-used : goal.returns-in_err-taken-clause-used
returns-in_err-taken-clause-used c = ok_at_err _ c.from_residual-in_err-taken.result _ c.from_residual-in_err-taken.ensures.1

pub returns-in_err-tree_in-clause-count : goal.returns-in_err-tree_in-clause-count
returns-in_err-tree_in-clause-count c = ok_at_err _ c.from_residual-in_err-tree_in.result _ c.from_residual-in_err-tree_in.ensures.1

pub returns-in_err-tree_in-clause-nodes : goal.returns-in_err-tree_in-clause-nodes
returns-in_err-tree_in-clause-nodes c = ok_at_err _ c.from_residual-in_err-tree_in.result _ c.from_residual-in_err-tree_in.ensures.1

pub returns-in_err-tree_in-clause-from : goal.returns-in_err-tree_in-clause-from
returns-in_err-tree_in-clause-from c = ok_at_err _ c.from_residual-in_err-tree_in.result _ c.from_residual-in_err-tree_in.ensures.1

pub returns-in_err-tree_in-clause-bits : goal.returns-in_err-tree_in-clause-bits
returns-in_err-tree_in-clause-bits c = ok_at_err _ c.from_residual-in_err-tree_in.result _ c.from_residual-in_err-tree_in.ensures.1

pub returns-in_err-tree_in-clause-used : goal.returns-in_err-tree_in-clause-used
returns-in_err-tree_in-clause-used c = ok_at_err _ c.from_residual-in_err-tree_in.result _ c.from_residual-in_err-tree_in.ensures.1

-- the pointer blocks are those behind the data blocks
rest_is : (leaves nodes pointers all : ℕ) → leaves + nodes ≡ all → all ≡ leaves + pointers → nodes ≡ pointers
rest_is leaves nodes pointers all sum is = omega arith

part_within : (leaves pointers all : ℕ) → all ≡ leaves + pointers → leaves ≤ all
part_within leaves pointers all is = omega arith

pub tree_in-requires : goal.tree_in-requires
tree_in-requires c = part_within _ c.shape.result.pointers _ (ap (λ (l : List ℕ). length l) c.deref.ensures.value ∙ c.in_ok-taken.ensures.long)

pub returns-clause-count : goal.returns-clause-count
returns-clause-count c =
    let leaves = map_rounded c.div_ceil-data.result c.div_ceil.result c.args.total c.bytes.result c.div_ceil-data.ensures c.div_ceil.ensures c.bytes.ensures.least in
    c.in_ok-tree_in.ensures.count ∙ (leaves ∙ ap (up (up c.args.total 8)) c.bytes.ensures.value)

pub returns-clause-nodes : goal.returns-clause-nodes
returns-clause-nodes c =
    let size = c.bytes-2.ensures.value in
    let count = c.in_ok-tree_in.ensures.count in
    rest_is _ _ c.shape.result.pointers _ c.in_ok-tree_in.ensures.pointers (ap (λ (l : List ℕ). length l) c.deref.ensures.value ∙ c.in_ok-taken.ensures.long)
    ∙ (c.shape.ensures.pointers ∙ (λ i. pointer_count (size i / 4) (sym count i)))
