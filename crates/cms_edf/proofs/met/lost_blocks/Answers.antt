use Rattle.std.proofs.Common.{rules, ◌≡◌, ◌-◌, false, if◌then◌else◌, slice_index_or, not, arith}
use Rattle.std.specs.Prelude.{◌&&◌}
use Rattle.cms_edf.proofs.Marked.{counts_next, counts_last, bit_most}
use Rattle.cms_edf.proofs.met.lost_blocks.Goals as goal

pub loop-block-preserved : goal.loop-block-preserved
loop-block-preserved c =
    let l = c.loop-block in
    let one : c.from-lost.result ≡ (if slice_index_or c.args.map.now (l.block - 1) false && not (slice_index_or c.args.seen.now (l.block - 1) false) then 1 else 0) = search rules in
    let most = bit_most (slice_index_or c.args.map.now (l.block - 1) false && not (slice_index_or c.args.seen.now (l.block - 1) false)) c.from-lost.result one in
    record {
      counts = counts_next c.args.map.now c.args.seen.now l.block l.lost c.from-lost.result l.invariant.low (search rules) one l.invariant.counts;
      few = omega (arith, l.invariant.few, most);
      low = omega (arith, l.invariant.low);
    }

pub returns : goal.returns
returns c = counts_last c.args.map.now c.args.seen.now c.loop-block.block c.loop-block.lost (search rules) c.loop-block.invariant.counts
