use Rattle.std.proofs.Common.{◌≡◌, List, ℕ, Bool, length}
use Rattle.cms_names.specs.Patterns.{IsRow}
use Rattle.cms_names.proofs.Rows.{IsSuffixRow}
use Rattle.cms_names.proofs.pattern.suffix_row.Given as goal

abbrev pub invariant-loop-place : goal.invariant-loop-place
invariant-loop-place l = record {
  long : length l.row ≡ 9;
  row : (test : List ℕ → Bool) → IsRow test l.text l.rests → IsSuffixRow l.place test l.text l.rests l.row;
}
