use Rattle.std.proofs.Common.{◌≡◌, ◌⊎◌, ◌+◌, ◌++◌, ℕ, List, length}
use Rattle.cms_records.specs.Scans.{IsFed, Holds, Passes}
use Rattle.cms_records.proofs.scan.VarScan.feed.Given as goal

abbrev pub invariant-loop-done : goal.invariant-loop-done
invariant-loop-done l = record {
  state : (count : ℕ) (bytes : List ℕ) → IsFed count bytes l.fn.self → Holds count (bytes ++ l.piece) l.self × ((l.self.left ≡ 0) ⊎ Passes bytes l.self);
  left : l.self.left + l._done ≡ l.fn.self.left;
  bsize : l.self.bsize ≡ l.fn.self.bsize;
  fed : l.self.fed ≡ l.start + length l.piece;
}
