use Rattle.std.proofs.Common.{◌≡◌, ◌*◌, ◌∙◌, ℕ, Bool, List, length, refl, arith}
use Rattle.cms_map.specs.Bits.{bytes_from}
use Rattle.cms_held.specs.Systems.{leaf_writes, map_piece}
use Rattle.cms_world.specs.Seen.{seen}
use Rattle.cms_edf.proofs.PlacesWritten.{leaf_at, leaf_count}
use Rattle.cms_edf.proofs.WritesMade.{none_made, next_made, next_failed, all_made}
use Rattle.cms_edf.proofs.block_writes.write_map.Goals as goal

made_at : (k b size n : ℕ) (bits : List Bool) (new : List ℕ) → new ≡ bytes_from (k * b) n bits → b ≡ size → n ≡ size → new ≡ bytes_from (k * size) size bits
made_at k b size n bits new is b_is n_is = is ∙ rw (b_is, n_is) refl

pub loop-nth-init : goal.loop-nth-init
loop-nth-init g c = record { writes = none_made (seen g.W.World c.args.world.now) c.args.target.now c.requires.may }

pub returns-in-Err : goal.returns-in-Err
returns-in-Err g c =
    let show = seen g.W.World in
    let t = c.args.target.now in
    let at = leaf_at c.args.blocks.now (map_piece t.bsize c.args.map.now) c.args.places.now c.loop-nth.nth c.loop-nth-test.true in
    let made = made_at _ c.bytes-size.result t.bsize (length c.loop-nth.block) c.args.map.now c.put_bytes.new.into c.put_bytes.ensures c.bytes-size.ensures.value
    (c.loop-nth.auto.block ∙ c.requires.room) in
    record {
      writes = next_failed (show c.args.world.now) (show c.loop-nth.world) (show c.write_block.new.self) t _ c.loop-nth.nth _ _ at c.loop-nth.invariant.writes
          (rw made at c.in-Err.ensures.failed) c.in-Err.ensures.cause.later c.in-Err.ensures.cause.failed c.in-Err.ensures.edges;
    }

pub loop-nth-preserved : goal.loop-nth-preserved
loop-nth-preserved g c =
    let show = seen g.W.World in
    let t = c.args.target.now in
    let at = leaf_at c.args.blocks.now (map_piece t.bsize c.args.map.now) c.args.places.now c.loop-nth.nth c.loop-nth-test.true in
    let made = made_at _ c.bytes-size.result t.bsize (length c.loop-nth.block) c.args.map.now c.put_bytes.new.into c.put_bytes.ensures c.bytes-size.ensures.value
    (c.loop-nth.auto.block ∙ c.requires.room) in
    record {
      writes = next_made (show c.args.world.now) (show c.loop-nth.world) (show c.write_block.new.self) t _ c.loop-nth.nth _ at c.loop-nth.invariant.writes
          (rw made at c.in-Ok.ensures.wrote) c.in-Ok.ensures.cause.later c.in-Ok.ensures.edges;
    }

pub returns : goal.returns
returns g c =
    let show = seen g.W.World in
    let t = c.args.target.now in
    let long = leaf_count c.args.blocks.now (map_piece t.bsize c.args.map.now) c.args.places.now in
    record { writes = all_made (show c.args.world.now) (show c.loop-nth.world) t (leaf_writes c.args.blocks.now (map_piece t.bsize c.args.map.now) c.args.places.now) c.loop-nth.nth (omega arith) c.loop-nth.invariant.writes }
