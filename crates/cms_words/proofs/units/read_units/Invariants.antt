use Rattle.std.proofs.Common.{◌≡◌, ◌≤◌, ◌+◌, map, drop}
use Rattle.cms_words.specs.Words.{units_from}
use Rattle.cms_words.proofs.UnitLists.{before_said}
use Rattle.cms_words.proofs.units.read_units.Given as goal

abbrev pub invariant-loop-word : goal.invariant-loop-word
invariant-loop-word l = record {
  number : l.number ≡ l.word-index + 1;
  few : l.number ≤ 17;
  value : units_from 1 (map (λ s. s.now) l.words) ≡ before_said l.units (units_from l.number (drop l.word-index (map (λ s. s.now) l.words)));
}
