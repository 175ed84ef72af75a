use Rattle.std.proofs.Common.{◌≡◌, ◌+◌, ◌*◌, length, take}
use Rattle.cms_map.specs.Bits.{bits_in, free_blocks, bytes_from}
use Rattle.cms_map.proofs.map.Map.of_bytes.Given as goal

abbrev pub invariant-loop-at : goal.invariant-loop-at
invariant-loop-at l = record {
  bytes : l.held.items ≡ bytes_from 0 l.at (bits_in l.n l.bytes);
  ones : l.used + length (free_blocks (take (8 * l.at) (bits_in l.n l.bytes))) ≡ length (take (8 * l.at) (bits_in l.n l.bytes));
}
