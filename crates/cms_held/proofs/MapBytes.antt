-- The bytes of a map.
use Rattle.std.proofs.Common.{◌≡◌, ℕ, Bool, List, length}
use Rattle.std.proofs.lemmas.List.FromFn.{length-map-range_with_len}
use Rattle.cms_map.specs.Bits.{bytes_from}

pub length_written : (count : ℕ) (bits : List Bool) → length (bytes_from 0 count bits) ≡ count
unfolding bytes_from
length_written count bits = length-map-range_with_len _ 0 count
