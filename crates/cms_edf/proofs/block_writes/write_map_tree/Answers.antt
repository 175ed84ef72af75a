use Rattle.std.proofs.Common.{rules, List, ℕ, length, ◌*◌, ◌<◌, ◌^◌, subst, sym}
use Rattle.cms_world.specs.Seen.{seen}
use Rattle.cms_held.specs.Systems.{leaf_writes, map_piece, nodes_at}
use Rattle.cms_edf.proofs.WritesMade.{then_made, first_failed}
use Rattle.cms_edf.proofs.block_writes.write_map_tree.Goals as goal

pub returns-in-Ok : goal.returns-in-Ok
returns-in-Ok g c =
    let show = seen g.W.World in
    let at = c.args.target.now in
    let t = c.args.tree.now in
    let p = c.args.places.now in
    record {
      writes = then_made (show c.args.world.now) (show c.write_map.new.world) (show c.write_nodes.new.world) at (leaf_writes t.leaves (map_piece at.bsize c.args.map.now) p.leaves) (nodes_at at.bsize t p.nodes)
          c.write_nodes.result (search rules) (search rules);
    }

pub returns-in-Err : goal.returns-in-Err
returns-in-Err g c =
    let show = seen g.W.World in
    let at = c.args.target.now in
    let t = c.args.tree.now in
    let p = c.args.places.now in
    record {
      writes = first_failed (show c.args.world.now) (show c.write_map.new.world) at (leaf_writes t.leaves (map_piece at.bsize c.args.map.now) p.leaves) (nodes_at at.bsize t p.nodes) _ (search rules);
    }

pub write_map-requires-clause-room : goal.write_map-requires-clause-room
write_map-requires-clause-room g c = c.requires.room

pub write_map-requires-clause-may : goal.write_map-requires-clause-may
write_map-requires-clause-may g c = c.requires.may

pub write_map-requires-clause-few : goal.write_map-requires-clause-few
write_map-requires-clause-few g c = subst (λ (l : List ℕ). length l * c.args.target.now.bsize < 2 ^ 32) (sym c.leaves.ensures) c.requires.short

pub write_nodes-requires-clause-wide : goal.write_nodes-requires-clause-wide
write_nodes-requires-clause-wide g c = c.requires.wide

pub write_nodes-requires-clause-some : goal.write_nodes-requires-clause-some
write_nodes-requires-clause-some g c = c.requires.some

pub write_nodes-requires-clause-few : goal.write_nodes-requires-clause-few
write_nodes-requires-clause-few g c = c.requires.few

pub write_nodes-requires-clause-nodes : goal.write_nodes-requires-clause-nodes
write_nodes-requires-clause-nodes g c = c.requires.nodes
