use Rattle.std.proofs.Common.{◌≡◌, ℕ, ◌+◌, ◌<◌, get_or}
use Rattle.cms_map.specs.Bits.{byte_at}
use Rattle.cms_map.proofs.map.Map.put_bytes.Given as goal

abbrev pub invariant-loop-place : goal.invariant-loop-place
invariant-loop-place l = (k : ℕ) → k < l.place → get_or l.into k 0 ≡ byte_at l.self (l.from + k)
