use Rattle.std.proofs.Common.{arith, length, ◌≡◌, ◌+◌, ◌*◌, ◌<◌, ◌≤◌, ℕ, suc, mul-le-mul_right}
use Rattle.cms_model.specs.Lists.{cut}
use Rattle.cms_held.specs.Systems.{block_writes}
use Rattle.cms_held.proofs.PiecesWritten.{piece_at}
use Rattle.cms_world.specs.Seen.{seen}
use Rattle.cms_edf.proofs.PlacesWritten.{data_count}
use Rattle.cms_edf.proofs.WritesMade.{none_made, next_made, next_failed, all_made}
use Rattle.cms_edf.proofs.block_writes.write_data.Goals as goal

pub loop-nth-init : goal.loop-nth-init
loop-nth-init g c = record { writes = none_made (seen g.W.World c.args.world.now) c.args.target.now c.requires.may }

pub returns-in-Err : goal.returns-in-Err
returns-in-Err g c =
    let show = seen g.W.World in
    let t = c.args.target.now in
    let at = piece_at c.args.blocks.now t.bsize c.args.bytes.now c.loop-nth.nth c.loop-nth-test.true in
    record {
      writes = next_failed (show c.args.world.now) (show c.loop-nth.world) (show c.write_block.new.self) t _ c.loop-nth.nth _ _ at c.loop-nth.invariant.writes
          (rw c.bytes-size.ensures.value at c.in-Err.ensures.failed) c.in-Err.ensures.cause.later c.in-Err.ensures.cause.failed c.in-Err.ensures.edges;
    }

pub loop-nth-preserved : goal.loop-nth-preserved
loop-nth-preserved g c =
    let show = seen g.W.World in
    let t = c.args.target.now in
    let at = piece_at c.args.blocks.now t.bsize c.args.bytes.now c.loop-nth.nth c.loop-nth-test.true in
    record {
      writes = next_made (show c.args.world.now) (show c.loop-nth.world) (show c.write_block.new.self) t _ c.loop-nth.nth _ at c.loop-nth.invariant.writes
          (rw c.bytes-size.ensures.value at c.in-Ok.ensures.wrote) c.in-Ok.ensures.cause.later c.in-Ok.ensures.edges;
    }

pub returns : goal.returns
returns g c =
    let show = seen g.W.World in
    let t = c.args.target.now in
    let long = data_count t.bsize c.args.blocks.now c.args.bytes.now in
    record {
      writes = all_made (show c.args.world.now) (show c.loop-nth.world) t (block_writes c.args.blocks.now (cut (length c.args.blocks.now) t.bsize c.args.bytes.now)) c.loop-nth.nth
          (omega arith) c.loop-nth.invariant.writes;
    }

-- the bytes of a block are some of all
piece_within : (nth count size bsize bytes : ℕ) → nth < count → size ≡ bsize → bytes ≡ count * bsize → nth * size + size ≤ bytes
piece_within nth count size bsize bytes less same all = let wide : suc nth * bsize ≤ count * bsize = mul-le-mul_right bsize less in rw same (omega (arith, wide, all))

front_within : (a b : ℕ) → a ≤ a + b
front_within a b = omega arith

pub bounds-blocks-nth : goal.bounds-blocks-nth
bounds-blocks-nth g c = c.loop-nth-test.true

pub slice_bounds-write_block-count : goal.slice_bounds-write_block-count
slice_bounds-write_block-count g c = front_within (c.loop-nth.nth * c.bytes-size.result) c.bytes-size.result

pub slice_bounds-write_block-start : goal.slice_bounds-write_block-start
slice_bounds-write_block-start g c = front_within (c.loop-nth.nth * c.bytes-size.result) c.bytes-size.result

pub slice_bounds-write_block-end : goal.slice_bounds-write_block-end
slice_bounds-write_block-end g c = piece_within c.loop-nth.nth _ _ _ _ c.loop-nth-test.true c.bytes-size.ensures.value c.requires.long
