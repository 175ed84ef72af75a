use Rattle.std.proofs.Common.{◌∙◌, ℕ, drop, ap}
use Rattle.std.proofs.lemmas.List.Elements.{All-drop}
use Rattle.cms_world.specs.Seen.{seen}
use Rattle.cms_held.specs.Systems.{data_writes, nodes_at}
use Rattle.cms_edf.specs.BlockWrites.{IsBlockOf}
use Rattle.cms_edf.proofs.PlacesWritten.{blocks_at, rest_is}
use Rattle.cms_edf.proofs.WritesMade.{then_made, first_failed, same_made}
use Rattle.cms_edf.proofs.block_writes.write_directory.Goals as goal

pub write_data-requires-clause-within : goal.write_data-requires-clause-within
write_data-requires-clause-within g c =
    let d = c.args.directory.now in
    let total = c.args.target.now.total in
    rw c.split_at.ensures.back (All-drop (IsBlockOf total) 1 c.written.result.now (blocks_at total d.tree.leaves d.part.leaves c.written.result.now c.requires.at c.written.ensures))

pub returns-in-Ok : goal.returns-in-Ok
returns-in-Ok g c =
    let show = seen g.W.World in
    let at = c.args.target.now in
    let d = c.args.directory.now in
    let pieces = c.split_at-2.ensures.back ∙ ap (λ (n : ℕ). drop n c.args.bytes.now) c.bytes.ensures.value in
    let rest = rest_is at.bsize d.tree.leaves d.part.leaves c.written.result.now c.args.bytes.now c.split_at.result.1.now c.split_at-2.result.1.now c.written.ensures c.split_at.ensures.back pieces in
    let old = show c.args.world.now in
    let mid = show c.write_data.new.world in
    let new = show c.write_new_nodes.new.world in
    record {
      writes = then_made old mid new at (drop 1 (data_writes at.bsize d.tree.leaves d.part.leaves c.args.bytes.now)) (nodes_at at.bsize d.tree d.part.nodes) c.write_new_nodes.result
          (same_made old mid at _ _ _ rest c.in-Ok.ensures.writes) c.write_new_nodes.ensures.writes;
    }

pub returns-in-Err : goal.returns-in-Err
returns-in-Err g c =
    let show = seen g.W.World in
    let at = c.args.target.now in
    let d = c.args.directory.now in
    let pieces = c.split_at-2.ensures.back ∙ ap (λ (n : ℕ). drop n c.args.bytes.now) c.bytes.ensures.value in
    let rest = rest_is at.bsize d.tree.leaves d.part.leaves c.written.result.now c.args.bytes.now c.split_at.result.1.now c.split_at-2.result.1.now c.written.ensures c.split_at.ensures.back pieces in
    let old = show c.args.world.now in
    let mid = show c.write_data.new.world in
    record {
      writes = first_failed old mid at (drop 1 (data_writes at.bsize d.tree.leaves d.part.leaves c.args.bytes.now)) (nodes_at at.bsize d.tree d.part.nodes) _ (same_made old mid at _ _ _ rest c.in-Err.ensures.writes);
    }

pub write_data-requires-clause-may : goal.write_data-requires-clause-may
write_data-requires-clause-may g c = c.requires.may

pub write_new_nodes-requires-clause-room : goal.write_new_nodes-requires-clause-room
write_new_nodes-requires-clause-room g c = c.requires.room

pub write_new_nodes-requires-clause-goes : goal.write_new_nodes-requires-clause-goes
write_new_nodes-requires-clause-goes g c = c.requires.goes

pub write_new_nodes-requires-clause-few : goal.write_new_nodes-requires-clause-few
write_new_nodes-requires-clause-few g c = c.requires.few

pub write_new_nodes-requires-clause-nodes : goal.write_new_nodes-requires-clause-nodes
write_new_nodes-requires-clause-nodes g c = c.requires.nodes

pub write_new_nodes-requires-clause-at : goal.write_new_nodes-requires-clause-at
write_new_nodes-requires-clause-at g c = c.requires.nodes_at
