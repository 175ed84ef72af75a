use Rattle.std.proofs.Common.{◌-◌, ◌≤◌, length}
use Rattle.cms_records.proofs.Lengths.{Comes}
use Rattle.cms_cards.proofs.stored.longest_of.Given as goal

abbrev pub invariant-loop-done : goal.invariant-loop-done
invariant-loop-done l = record {
  comes : Comes 1 l.count l.bytes (l.count - l._done) l.place l.longest;
  within : l.place ≤ length l.bytes;
}
