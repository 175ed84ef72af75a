use Rattle.std.proofs.Common.{[], arith, List, ℕ, length, ◌≤◌, ◌<◌, ◌^◌, ◌∙◌, inl, refl, subst, sym}
use Rattle.cms_tree.specs.Builds.{node_at}
use Rattle.cms_held.specs.Systems.{nodes_at}
use Rattle.cms_world.specs.Seen.{seen}
use Rattle.cms_edf.proofs.PlacesWritten.{leaf_at, leaf_count}
use Rattle.cms_edf.proofs.WritesMade.{none_made, next_made, next_failed, all_made}
use Rattle.cms_edf.proofs.block_writes.write_nodes.Goals as goal

pub loop-nth-init : goal.loop-nth-init
loop-nth-init g c = record { writes = none_made (seen g.W.World c.args.world.now) c.args.target.now c.requires.may }

pub returns-in-Err : goal.returns-in-Err
returns-in-Err g c =
    let show = seen g.W.World in
    let t = c.args.target.now in
    let tree = c.args.tree.now in
    let at = leaf_at tree.pointers (node_at t.bsize 4 tree.leaves [] tree.pointers) c.args.places.now c.loop-nth.nth c.loop-nth-test.true in
    record {
      writes = next_failed (show c.args.world.now) (show c.loop-nth.world) (show c.write_block.new.self) t _ c.loop-nth.nth _ _ at c.loop-nth.invariant.writes
          (rw (c.build.ensures, c.leaves.ensures, c.pointers-pointers.ensures) at c.in-Err.ensures.failed) c.in-Err.ensures.cause.later c.in-Err.ensures.cause.failed c.in-Err.ensures.edges;
    }

pub loop-nth-preserved : goal.loop-nth-preserved
loop-nth-preserved g c =
    let show = seen g.W.World in
    let t = c.args.target.now in
    let tree = c.args.tree.now in
    let at = leaf_at tree.pointers (node_at t.bsize 4 tree.leaves [] tree.pointers) c.args.places.now c.loop-nth.nth c.loop-nth-test.true in
    record {
      writes = next_made (show c.args.world.now) (show c.loop-nth.world) (show c.write_block.new.self) t _ c.loop-nth.nth _ at c.loop-nth.invariant.writes
          (rw (c.build.ensures, c.leaves.ensures, c.pointers-pointers.ensures) at c.in-Ok.ensures.wrote) c.in-Ok.ensures.cause.later c.in-Ok.ensures.edges;
    }

pub returns : goal.returns
returns g c =
    let show = seen g.W.World in
    let t = c.args.target.now in
    let tree = c.args.tree.now in
    let long = leaf_count tree.pointers (node_at t.bsize 4 tree.leaves [] tree.pointers) c.args.places.now in
    record {
      writes = all_made (show c.args.world.now) (show c.loop-nth.world) t (nodes_at t.bsize tree c.args.places.now) c.loop-nth.nth (omega arith) c.loop-nth.invariant.writes;
    }

pub build-requires-clause-some : goal.build-requires-clause-some
build-requires-clause-some g c = subst (λ (l : List ℕ). 1 ≤ length l) (sym c.leaves.ensures) c.requires.some

pub build-requires-clause-few : goal.build-requires-clause-few
build-requires-clause-few g c = subst (λ (l : List ℕ). length l < 2 ^ 32) (sym c.leaves.ensures) c.requires.few

pub build-requires-clause-psize : goal.build-requires-clause-psize
build-requires-clause-psize g c = inl refl

pub build-requires-clause-room : goal.build-requires-clause-room
build-requires-clause-room g c = c.loop-nth.auto.block ∙ c.requires.room
