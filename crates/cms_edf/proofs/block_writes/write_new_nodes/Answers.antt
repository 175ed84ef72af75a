use Rattle.std.proofs.Common.{◌≡◌, ◌<◌, ◌≤◌, [], rules, arith, List, ℕ, length, get_or, ◌∙◌, ap, subst}
use Rattle.cms_tree.specs.Builds.{node_at}
use Rattle.cms_held.specs.Systems.{TreePart, nodes_at}
use Rattle.cms_world.specs.Seen.{seen}
use Rattle.cms_edf.proofs.NewLeaves.{read_at}
use Rattle.cms_edf.proofs.PlacesWritten.{leaf_at, leaf_count}
use Rattle.cms_edf.proofs.WritesMade.{none_made, next_made, next_failed, all_made}
use Rattle.cms_edf.proofs.block_writes.write_new_nodes.Goals as goal

pub loop-nth-init : goal.loop-nth-init
loop-nth-init g c = record { writes = none_made (seen g.W.World c.args.world.now) c.args.target.now c.requires.may }

pub returns-in-Err : goal.returns-in-Err
returns-in-Err g c =
    let show = seen g.W.World in
    let t = c.args.target.now in
    let d = c.args.directory.now in
    let l = c.loop-nth in
    let own = c.behind-directory.inside.nodes.items in
    let nodes = ap (λ (p : TreePart). p.nodes) (c.behind-directory.view_is ∙ c.part.ensures) in
    let less : l.nth < length own = search rules in
    let place : c.index-place.result.now ≡ get_or d.part.nodes l.nth 0 = read_at own l.nth c.index-place.result.now less c.index-place.ensures ∙ ap (λ (ns : List ℕ). get_or ns l.nth 0) nodes in
    let at = leaf_at d.tree.pointers (node_at t.bsize 4 d.tree.leaves [] d.tree.pointers) d.part.nodes l.nth (subst (λ (ns : List ℕ). l.nth < length ns) nodes less) in
    record {
      writes = next_failed (show c.args.world.now) (show l.world) (show c.write_block.new.self) t _ l.nth _ _ at l.invariant.writes
          (rw (c.fill_node.ensures, c.pointers-pointers.ensures, place) at c.in-Err.ensures.failed) c.in-Err.ensures.cause.later c.in-Err.ensures.cause.failed c.in-Err.ensures.edges;
    }

pub loop-nth-preserved : goal.loop-nth-preserved
loop-nth-preserved g c =
    let show = seen g.W.World in
    let t = c.args.target.now in
    let d = c.args.directory.now in
    let l = c.loop-nth in
    let own = c.behind-directory.inside.nodes.items in
    let nodes = ap (λ (p : TreePart). p.nodes) (c.behind-directory.view_is ∙ c.part.ensures) in
    let less : l.nth < length own = search rules in
    let place : c.index-place.result.now ≡ get_or d.part.nodes l.nth 0 = read_at own l.nth c.index-place.result.now less c.index-place.ensures ∙ ap (λ (ns : List ℕ). get_or ns l.nth 0) nodes in
    let at = leaf_at d.tree.pointers (node_at t.bsize 4 d.tree.leaves [] d.tree.pointers) d.part.nodes l.nth (subst (λ (ns : List ℕ). l.nth < length ns) nodes less) in
    record {
      writes = next_made (show c.args.world.now) (show l.world) (show c.write_block.new.self) t _ l.nth _ at l.invariant.writes
          (rw (c.fill_node.ensures, c.pointers-pointers.ensures, place) at c.in-Ok.ensures.wrote) c.in-Ok.ensures.cause.later c.in-Ok.ensures.edges;
    }

pub returns : goal.returns
returns g c =
    let show = seen g.W.World in
    let t = c.args.target.now in
    let d = c.args.directory.now in
    let own = c.behind-directory.inside.nodes.items in
    let nodes = ap (λ (p : TreePart). length p.nodes) (c.behind-directory.view_is ∙ c.part.ensures) in
    let past : length own ≤ c.loop-nth.nth = search rules in
    let long = leaf_count d.tree.pointers (node_at t.bsize 4 d.tree.leaves [] d.tree.pointers) d.part.nodes in
    record {
      writes = all_made (show c.args.world.now) (show c.loop-nth.world) t (nodes_at t.bsize d.tree d.part.nodes) c.loop-nth.nth (omega (arith, nodes, past, long)) c.loop-nth.invariant.writes;
    }
