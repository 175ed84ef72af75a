-- What is put together is an empty volume.
use Rattle.std.proofs.Common.{◌≤◌, ◌/◌, ℕ, inl, length, refl, sym, ◌∙◌, ap, subst, rules, arith}
use Rattle.std.specs.List.{range_with_len}
use Rattle.cms_model.specs.Lists.{In}
use Rattle.cms_held.specs.Systems.{TreePart}
use Rattle.cms_held.specs.HeldVolumes.{HeldTree}
use Rattle.cms_held.specs.EmptyVolumes.{MakePlan, IsEmptyVolume}
use Rattle.cms_held.proofs.Allotted.{map_small, nodes_few}
use Rattle.cms_edf.proofs.NewSystems.{made_ready}
use Rattle.cms_edf.proofs.Exits.{ok_at_err}
use Rattle.cms_edf.proofs.empty_volume.first_systems.Goals as goal
use Rattle.cms_edf.proofs.empty_volume.first_systems.Goals.{In_ok-map_part}

pub of_whole-requires-clause-few_nodes : goal.of_whole-requires-clause-few_nodes
of_whole-requires-clause-few_nodes c =
    let leaves = length c.in_ok-first.first.tree.leaves in
    let size = c.bytes.ensures.value in
    let least = c.bytes.ensures.least in
    let most = c.bytes.ensures.most in
    let low : 512 ≤ c.args.bsize = omega (arith, size, least) in
    let high : c.args.bsize ≤ 4096 = omega (arith, size, most) in
    let few = map_small c.args.blocks c.args.bsize low high c.ranges.blocks.fits in
    let nodes = nodes_few (c.args.bsize / 4) leaves (omega (arith, low)) in
    let count = c.in_ok-first.ensures.count in
    let pointers = c.in_ok-first.ensures.nodes in
    omega (arith, few, nodes, count, pointers)

made : In_ok-map_part → ℕ → MakePlan
made c unit = record {
  unit = unit;
  disk = record { bsize = c.args.bsize; count = c.args.blocks };
  systems = record {
    label = record { volid = c.args.volid; bsize = c.bytes.result; origin = 4; blocks = c.args.blocks; in_use = c.in_ok-first.first.used };
    label_bytes = c.in_ok-label_bytes.label_bytes.items;
    directory = c.in_ok-directory.directory.tree;
    directory_part = c.in_ok-directory.directory.part;
    directory_bytes = c.in_ok-directory_bytes.directory_bytes.items;
    map = c.in_ok-first.first.tree;
    map_part = c.in_ok-map_part.map_part;
    bits = c.in_ok-first.first.map;
  };
}

empty : (c : In_ok-map_part) (unit : ℕ) → IsEmptyVolume (made c unit) c.args.volid c.args.stamp.now
unfolding made
empty c unit = search rules

pub invariant_of-result : goal.invariant_of-result
unfolding made
invariant_of-result c = made_ready (made c 0) c.args.volid c.args.stamp.now (empty c 0)

pub returns : goal.returns
unfolding made
returns c = empty c

pub returns-in_err-first : goal.returns-in_err-first
returns-in_err-first c = ok_at_err _ c.from_residual.result _ c.from_residual.ensures.1

pub returns-in_err-label_bytes : goal.returns-in_err-label_bytes
returns-in_err-label_bytes c = ok_at_err _ c.from_residual-in_err-label_bytes.result _ c.from_residual-in_err-label_bytes.ensures.1

pub returns-in_err-directory : goal.returns-in_err-directory
returns-in_err-directory c = ok_at_err _ c.from_residual-in_err-directory.result _ c.from_residual-in_err-directory.ensures.1

pub returns-in_err-directory_bytes : goal.returns-in_err-directory_bytes
returns-in_err-directory_bytes c = ok_at_err _ c.from_residual-in_err-directory_bytes.result _ c.from_residual-in_err-directory_bytes.ensures.1

pub returns-in_err-map_part : goal.returns-in_err-map_part
returns-in_err-map_part c = ok_at_err _ c.from_residual-in_err-map_part.result _ c.from_residual-in_err-map_part.ensures.1

size_high : (n : ℕ) → 512 ≤ n → 80 ≤ n
size_high n least = omega arith

pub label_block-requires-clause-size : goal.label_block-requires-clause-size
label_block-requires-clause-size c = size_high _ c.bytes.ensures.least

pub label_block-requires-clause-stamp : goal.label_block-requires-clause-stamp
label_block-requires-clause-stamp c = c.requires.stamp

pub directory_block-requires-clause-stamp : goal.directory_block-requires-clause-stamp
directory_block-requires-clause-stamp c = c.requires.stamp

pub directory_block-requires-clause-directory : goal.directory_block-requires-clause-directory
directory_block-requires-clause-directory c = ap (λ (t : HeldTree). length t.leaves) c.in_ok-directory.ensures.tree

pub directory_block-requires-clause-none : goal.directory_block-requires-clause-none
directory_block-requires-clause-none c = ap (λ (t : HeldTree). length t.pointers) c.in_ok-directory.ensures.tree

pub directory_block-requires-clause-first : goal.directory_block-requires-clause-first
directory_block-requires-clause-first c =
    let leaves = ap (λ (t : HeldTree). range_with_len 0 (length t.leaves)) c.in_ok-directory.ensures.tree in
    subst (In 0) (sym (ap (λ (p : TreePart). p.leaves) c.in_ok-directory.ensures.part ∙ leaves)) (inl refl)
