-- What the fields of a record that is begun always are.
use Rattle.std.specs.Prelude.{◌+◌, ◌≤◌, IfSome, length, vec_len, vec_capacity}
use Rattle.cms_fields.specs.Limits.{longest_record, most_bytes}
use Rattle.cms_records.specs.Pieces.{IsPart, record_size}
use Rattle.cms_records.specs.declared.state.RecordState.TheInside.{Inside}

-- there is room for the longest record with its length, and the bytes are a part of the record or all of it
pub record AreSound (s : Inside) : Type 0 where
  pub fixed : IfSome s.fixed (λ n. (1 ≤ n) × (n ≤ s.longest))
  pub short : s.longest ≤ longest_record
  pub few : vec_len s.bytes ≤ s.longest + 2
  pub room : s.longest + 2 ≤ vec_capacity s.bytes
  pub within : s.place + length s.bytes.items ≤ most_bytes
  pub part : IsPart (record_size s.fixed s.longest s.place s.bytes.items) s.whole s.bytes.items
