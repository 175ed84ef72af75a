use Rattle.std.proofs.Common.{length, arith}
use Rattle.cms_map.proofs.Packed.{bytes_filled}
use Rattle.cms_map.proofs.map.Map.put_bytes.Goals as goal

pub returns : goal.returns
returns c =
    let l = c.loop-place in
    bytes_filled c.args.from (length c.args.into.now) c.args.self.now l.into (omega arith) (λ k h. l.invariant k (omega arith))
