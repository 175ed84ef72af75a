-- What is needed, and whether it is there.
use Rattle.std.proofs.Common.{◌≡◌, ◌∙◌, ◌+◌, ◌^◌, ◌<◌, ◌≤◌, ap, length, subst, arith, ℕ, sym, ◌/◌}
use Rattle.cms_map.specs.Bits.{free_blocks, HasFixed}
use Rattle.cms_held.specs.HeldVolumes.{Held}
use Rattle.cms_held.specs.Kept.{Keeps}
use Rattle.cms_held.proofs.Allotted.{map_small}
use Rattle.cms_journal.proofs.Sizes.{block_bounds}
use Rattle.cms_edf.proofs.AllottedSteps.{Splits, splits_asked}
use Rattle.cms_model.specs.DirectoryParts.{directory_count, blocks_made}
use Rattle.cms_model.specs.Lists.{In}
use Rattle.cms_model.specs.SharedTrees.{MayBeWritten}
use Rattle.cms_tree.specs.Paths.{fresh_places}
use Rattle.cms_edf.specs.Allotments.{numbers_made}
use Rattle.cms_edf.proofs.allotment.allot.Goals as goal
use Rattle.cms_edf.proofs.allotment.allot.Goals.{In-Ok}

splits : (c : In-Ok) → Splits c.args.held.now.volume c.args.exchange.now c.in-Ok.places
splits c =
    let kept : Keeps c.args.held.now.volume = subst (λ (h : Held). Keeps h.volume) c.held.view_is c.held.invariant.kept in
    splits_asked c.args.held.now.volume c.args.exchange.now c.in-Ok.places kept c.requires.few c.in-Ok.ensures.leaves c.in-Ok.ensures.nodes c.requires.first c.requires.may

pub written_count-requires : goal.written_count-requires
written_count-requires c =
    let s = splits (goal.at.written_count-requires c).In-Ok in
    let low = s.low in
    omega (arith, low)

pub overflow_add-need : goal.overflow_add-need
overflow_add-need c =
    let s = splits (goal.at.overflow_add-need c).In-Ok in
    let low = s.low in
    let count = c.written_count.ensures in
    let small = c.requires.small in
    omega (arith, low, count, small)

pub overflow_add-need-2 : goal.overflow_add-need-2
overflow_add-need-2 c =
    let s = splits (goal.at.overflow_add-need-2 c).In-Ok in
    let low = s.low in
    let most = s.charge_low in
    let count = c.written_count.ensures in
    let charge = c.map_blocks.ensures in
    let small = c.requires.small in
    omega (arith, low, most, count, charge, small)

pub returns-then-free-need-clause-full : goal.returns-then-free-need-clause-full
returns-then-free-need-clause-full c =
    let s = splits (goal.at.returns-then-free-need-clause-full c).In-Ok in
    let needs = s.need_is in
    let count = c.written_count.ensures in
    let charge = c.map_blocks.ensures in (
      omega (arith, needs, count, charge),
      c.free_count-free.ensures.count ∙ ap (λ (h : Held). length (free_blocks h.volume.bits)) c.held.view_is,
      c.if-free-need.true,
    )

pub allot_all-requires-clause-need : goal.allot_all-requires-clause-need
allot_all-requires-clause-need c =
    let s = splits (goal.at.allot_all-requires-clause-need c).In-Ok in
    let needs = s.need_is in
    let count = c.written_count.ensures in
    let charge = c.map_blocks.ensures in
    omega (arith, needs, count, charge)

pub returns-in-Ok-allot_all-clause-room : goal.returns-in-Ok-allot_all-clause-room
returns-in-Ok-allot_all-clause-room c =
    let s = splits (goal.at.returns-in-Ok-allot_all-clause-room c).In-Ok in
    let needs = s.need_is in
    let count = c.written_count.ensures in
    let charge = c.map_blocks.ensures in
    let free = c.free_count-free.ensures.count ∙ ap (λ (h : Held). length (free_blocks h.volume.bits)) c.held.view_is in
    let enough = c.if-free-need.false in
    omega (arith, needs, count, charge, free, enough)

pub returns-in_default-clause-fixed : goal.returns-in_default-clause-fixed
returns-in_default-clause-fixed c = subst (λ (h : Held). HasFixed h.volume.bits) c.held.view_is c.free_count-free.ensures.fixed

pub returns-then-free-need-clause-fixed : goal.returns-then-free-need-clause-fixed
returns-then-free-need-clause-fixed c = subst (λ (h : Held). HasFixed h.volume.bits) c.held.view_is c.free_count-free.ensures.fixed

pub allot_all-requires-clause-few : goal.allot_all-requires-clause-few
allot_all-requires-clause-few c = c.requires.few

pub allot_all-requires-clause-written : goal.allot_all-requires-clause-written
allot_all-requires-clause-written c = c.in-Ok.ensures.leaves

pub allot_all-requires-clause-nodes : goal.allot_all-requires-clause-nodes
allot_all-requires-clause-nodes c =
    let v = c.args.held.now.volume in
    c.in-Ok.ensures.nodes ∙ ap (fresh_places (v.disk.bsize / 4) (length v.directory.leaves) (directory_count v.disk.bsize c.args.exchange.now.files)) (sym c.in-Ok.ensures.leaves)

pub allot_all-requires-clause-first : goal.allot_all-requires-clause-first
allot_all-requires-clause-first c = subst (In 0) (sym c.in-Ok.ensures.leaves) c.requires.first

pub allot_all-requires-clause-may : goal.allot_all-requires-clause-may
allot_all-requires-clause-may c =
    let v = c.args.held.now.volume in
    let kept : Keeps v = subst (λ (h : Held). Keeps h.volume) c.held.view_is c.held.invariant.kept in
    let count = directory_count v.disk.bsize c.args.exchange.now.files in
    subst (MayBeWritten (length v.directory.leaves) count) (sym c.in-Ok.ensures.leaves)
    (subst (λ (n : ℕ). MayBeWritten n count (blocks_made v.disk.bsize c.args.exchange.now.files (numbers_made c.args.exchange.now))) (sym kept.directory_is) c.requires.may)

pub returns-in-Ok-allot_all-clause-allotted : goal.returns-in-Ok-allot_all-clause-allotted
returns-in-Ok-allot_all-clause-allotted c = c.in-Ok-allot_all.ensures

pub returns-in-Ok-allot_all-clause-fixed : goal.returns-in-Ok-allot_all-clause-fixed
returns-in-Ok-allot_all-clause-fixed c = subst (λ (h : Held). HasFixed h.volume.bits) c.held.view_is c.free_count-free.ensures.fixed

pub returns-in-Err-clause-fixed : goal.returns-in-Err-clause-fixed
returns-in-Err-clause-fixed c = subst (λ (h : Held). HasFixed h.volume.bits) c.held.view_is c.free_count-free.ensures.fixed

pub returns-in_default-clause-allotted : goal.returns-in_default-clause-allotted
returns-in_default-clause-allotted c = tt

pub returns-in_default-clause-map_few : goal.returns-in_default-clause-map_few
returns-in_default-clause-map_few c = tt

pub returns-in_default-clause-room : goal.returns-in_default-clause-room
returns-in_default-clause-room c = tt

pub returns-then-free-need-clause-allotted : goal.returns-then-free-need-clause-allotted
returns-then-free-need-clause-allotted c = tt

pub returns-then-free-need-clause-map_few : goal.returns-then-free-need-clause-map_few
returns-then-free-need-clause-map_few c = tt

pub returns-then-free-need-clause-room : goal.returns-then-free-need-clause-room
returns-then-free-need-clause-room c = tt

pub returns-in-Ok-allot_all-clause-full : goal.returns-in-Ok-allot_all-clause-full
returns-in-Ok-allot_all-clause-full c = tt

pub returns-in-Err-clause-allotted : goal.returns-in-Err-clause-allotted
returns-in-Err-clause-allotted c = tt

pub returns-in-Err-clause-map_few : goal.returns-in-Err-clause-map_few
returns-in-Err-clause-map_few c = tt

pub returns-in-Err-clause-room : goal.returns-in-Err-clause-room
returns-in-Err-clause-room c = tt

-- what is needed is there where it is no more than what is free
all_there : (need free all : ℕ) → free ≡ all → need ≤ free → need ≤ all
all_there need free all is enough = omega arith

some_counted : (count leaves nodes : ℕ) → count ≡ leaves + nodes → 1 ≤ leaves → 1 ≤ count
some_counted count leaves nodes counted some = omega arith

few_leaves : (n leaves : ℕ) → n ≡ leaves → leaves ≤ 1048584 → n < 2 ^ 32
few_leaves n leaves is few = omega arith

pub overflow_sub-need : goal.overflow_sub-need
overflow_sub-need c = some_counted _ _ _ c.written_count.ensures (splits (goal.at.overflow_sub-need c).In-Ok).some

pub allot_all-requires-clause-enough : goal.allot_all-requires-clause-enough
allot_all-requires-clause-enough c = all_there _ _ _ (c.free_count-free.ensures.count ∙ ap (λ (h : Held). length (free_blocks h.volume.bits)) c.held.view_is) c.if-free-need.false

pub returns-in-Ok-allot_all-clause-map_few : goal.returns-in-Ok-allot_all-clause-map_few
returns-in-Ok-allot_all-clause-map_few c =
    let v = c.args.held.now.volume in
    let kept : Keeps v = subst (λ (h : Held). Keeps h.volume) c.held.view_is c.held.invariant.kept in
    let bounds = block_bounds v.disk.bsize kept.sized in
    few_leaves _ _ c.in-Ok-allot_all.ensures.map_is (map_small v.label.blocks v.disk.bsize bounds.0 bounds.1 kept.small)

pub returns-in_default-clause-full : goal.returns-in_default-clause-full
returns-in_default-clause-full c = tt

pub returns-in-Err-clause-full : goal.returns-in-Err-clause-full
returns-in-Err-clause-full c = tt
