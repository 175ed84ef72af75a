use Rattle.std.proofs.Common.{◌≡◌, List, ℕ, Bool, length}
use Rattle.cms_names.specs.Patterns.{IsRow, is_wanted}
use Rattle.cms_names.proofs.Rows.{IsCharacterRow}
use Rattle.cms_names.proofs.pattern.character_row.Given as goal

abbrev pub invariant-loop-place : goal.invariant-loop-place
invariant-loop-place l = record {
  long : length l.row ≡ 9;
  row : (test : List ℕ → Bool) → IsRow test l.text l.rests → IsCharacterRow l.place (is_wanted l.wanted) test l.text l.row;
}
