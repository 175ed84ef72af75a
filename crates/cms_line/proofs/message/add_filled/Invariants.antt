use Rattle.std.proofs.Common.{◌≤◌, map, drop}
use Rattle.cms_line.specs.Phrases.{filled}
use Rattle.cms_line.proofs.TextsAdded.{Filling}
use Rattle.cms_line.proofs.message.add_filled.Given as goal

abbrev pub invariant-loop-byte : goal.invariant-loop-byte
invariant-loop-byte l = record {
  filling : Filling l.initial.into.items l.into.items (filled l.text (map (λ word. word.now) l.words)) (filled (drop l.byte-index l.text) (drop l.nth (map (λ word. word.now) l.words)));
  few : l.nth ≤ l.byte-index;
}
