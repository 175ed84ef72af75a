-- What is written of the map is no more than all of it.
use Rattle.std.proofs.Common.{◌≡◌, ◌∙◌, ◌/◌, ◌≤◌, ℕ, List, length, sym, ap, subst, arith}
use Rattle.std.specs.List.Sorted.{IsStrictlyIncreasing}
use Rattle.cms_journal.proofs.Sizes.{block_bounds}
use Rattle.cms_model.specs.SharedTrees.{MayBeWritten}
use Rattle.cms_tree.specs.Paths.{fresh_places}
use Rattle.cms_held.specs.HeldVolumes.{HeldTree, HeldVolume, Held}
use Rattle.cms_held.specs.Kept.{Keeps}
use Rattle.cms_held.specs.SharedBlocks.{released_of}
use Rattle.cms_held.specs.Systems.{TreePart}
use Rattle.cms_edf.proofs.AllottedSteps.{MayShare, map_share, map_shares_so, map_tree}
use Rattle.cms_edf.proofs.Rounded.{four_to_a_pointer}
use Rattle.cms_edf.proofs.SharedTaken.{map_few}
use Rattle.cms_edf.proofs.Exits.{ok_at_err}
use Rattle.cms_edf.proofs.allotment.share_map.Goals as goal

no_more : (a b n : ℕ) → a ≤ b → b ≤ n → a ≤ n
no_more a b n one two = omega arith

wide : (bsize : ℕ) → 512 ≤ bsize → 4 ≤ bsize
wide bsize low = omega arith

-- the map's tree may be shared, in places like these
shares : (v : HeldVolume) (bytes : ℕ) (old : HeldTree) (leaves written : List ℕ) (places : TreePart) → Keeps v → bytes ≡ v.disk.bsize → leaves ≡ v.map.leaves → old ≡ v.map
    → MayBeWritten (length v.map.leaves) (length v.map.leaves) written → places.leaves ≡ written → places.nodes ≡ fresh_places (bytes / 4) (length leaves) (length leaves) written
    → MayShare (bytes / 4) (length leaves) old places
shares v bytes old leaves written places kept size n same may own nodes =
    map_share v (bytes / 4) (length leaves) old places kept (ap (λ (b : ℕ). b / 4) size) (ap (λ (l : List ℕ). length l) n) same
    (subst (MayBeWritten (length v.map.leaves) (length v.map.leaves)) (sym own) may)
    (nodes ∙ (λ i. fresh_places (size i / 4) (length (n i)) (length (n i)) (sym own i)))

pub of_shared-requires : goal.of_shared-requires
of_shared-requires c =
    let v = c.args.held.now.volume in
    let kept : Keeps v = subst (λ (h : Held). Keeps h.volume) c.held.view_is c.held.invariant.kept in
    let low = (block_bounds v.disk.bsize kept.sized).0 in
    let size = c.bytes-fan.ensures.value ∙ ap (λ (h : Held). h.volume.disk.bsize) c.held.view_is in
    let n = c.leaves.ensures ∙ ap (λ (h : Held). h.volume.map.leaves) c.held.view_is in
    let some = subst (λ (l : List ℕ). 1 ≤ length l) (sym n) kept.map_shape.some in
    record {
      some_before = some;
      some = some;
      wide = subst (λ (b : ℕ). 2 ≤ b / 4) (sym size) (four_to_a_pointer v.disk.bsize low);
      ascends = c.requires.may.ascend;
    }

pub shared_tree-requires : goal.shared_tree-requires
shared_tree-requires c =
    let v = c.args.held.now.volume in
    let kept : Keeps v = subst (λ (h : Held). Keeps h.volume) c.held.view_is c.held.invariant.kept in
    let size = c.bytes-fan.ensures.value ∙ ap (λ (h : Held). h.volume.disk.bsize) c.held.view_is in
    let n = c.leaves.ensures ∙ ap (λ (h : Held). h.volume.map.leaves) c.held.view_is in
    let written = c.args.written.items in
    let s = shares v c.bytes-fan.result c.held.inside.map_tree c.leaves.result.now written c.in_ok-places.places kept size n (ap (λ (h : Held). h.volume.map) c.held.view_is) c.requires.may
    c.in_ok-places.ensures.leaves c.in_ok-places.ensures.nodes in
    let nodes = c.in_ok-places.ensures.nodes ∙ (λ i. fresh_places (size i / 4) (length (n i)) (length (n i)) written) in
    let few = map_few v.disk.bsize v.label.blocks (length v.map.leaves) c.in_ok-places.places written c.requires.may c.in_ok-places.ensures.leaves nodes
    (map_tree v.disk.bsize v.label.blocks (length v.map.leaves) kept.map_is) in
    record {
      some_before = s.some_before;
      few = s.few;
      some = s.some;
      wide = s.wide;
      olds = s.olds;
      may = s.may;
      nodes = s.nodes;
      enough = no_more _ _ _ few c.requires.enough;
    }

pub left_blocks-requires : goal.left_blocks-requires
left_blocks-requires c =
    let v = c.args.held.now.volume in
    let kept : Keeps v = subst (λ (h : Held). Keeps h.volume) c.held.view_is c.held.invariant.kept in
    let size = c.bytes-fan.ensures.value ∙ ap (λ (h : Held). h.volume.disk.bsize) c.held.view_is in
    let n = c.leaves.ensures ∙ ap (λ (h : Held). h.volume.map.leaves) c.held.view_is in
    let s = shares v c.bytes-fan.result c.held.inside.map_tree c.leaves.result.now c.args.written.items c.in_ok-places.places kept size n (ap (λ (h : Held). h.volume.map) c.held.view_is)
    c.requires.may c.in_ok-places.ensures.leaves c.in_ok-places.ensures.nodes in
    let again = c.deref.ensures.value ∙ ap (λ (p : TreePart). p.leaves) c.places.view_is in
    record {
      some_before = s.some_before;
      few = s.few;
      some = s.some;
      wide = s.wide;
      olds = s.olds;
      ascends = subst IsStrictlyIncreasing (sym (again ∙ c.in_ok-places.ensures.leaves)) c.requires.may.ascend;
    }

pub returns : goal.returns
returns c =
    let v = c.args.held.now.volume in
    let kept : Keeps v = subst (λ (h : Held). Keeps h.volume) c.held.view_is c.held.invariant.kept in
    let low = (block_bounds v.disk.bsize kept.sized).0 in
    let size = c.bytes-fan.ensures.value ∙ ap (λ (h : Held). h.volume.disk.bsize) c.held.view_is in
    let n = c.leaves.ensures ∙ ap (λ (h : Held). h.volume.map.leaves) c.held.view_is in
    let old = c.held.inside.map_tree in
    let fan = c.bytes-fan.result / 4 in
    let again = c.deref.ensures.value ∙ ap (λ (p : TreePart). p.leaves) c.places.view_is in
    map_shares_so v fan (length c.leaves.result.now) old c.args.written.items c.args.blocks.now c.in_ok-places.places c.in_ok-tree.tree c.in_ok-left.left.items (wide v.disk.bsize low) kept.map_is c.requires.may
    (ap (λ (k : ℕ). k / 4) size) (ap (λ (l : List ℕ). length l) n) (ap (λ (h : Held). h.volume.map) c.held.view_is) c.in_ok-places.ensures.leaves c.in_ok-places.ensures.nodes
    (record {
      keeps = c.in_ok-tree.ensures.keeps;
      long = c.in_ok-tree.ensures.count;
      fresh = c.in_ok-tree.ensures.fresh;
      left_is = λ new long nodes. c.in_ok-left.ensures new long nodes ∙ ap (λ (l : List ℕ). released_of fan l old new) again;
    })

pub returns-in_err-places : goal.returns-in_err-places
returns-in_err-places c = ok_at_err _ c.from_residual.result _ c.from_residual.ensures.1

pub returns-in_err-tree : goal.returns-in_err-tree
returns-in_err-tree c = ok_at_err _ c.from_residual-in_err-tree.result _ c.from_residual-in_err-tree.ensures.1

pub returns-in_err-left : goal.returns-in_err-left
returns-in_err-left c = ok_at_err _ c.from_residual-in_err-left.result _ c.from_residual-in_err-left.ensures.1
