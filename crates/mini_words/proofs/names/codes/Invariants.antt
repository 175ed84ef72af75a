use Rattle.std.proofs.Common.{◌≡◌, ◌≤◌, drop, length}
use Rattle.mini_words.specs.Names.{all_codes}
use Rattle.mini_words.proofs.Codes.{behind}
use Rattle.mini_words.proofs.names.codes.Given as goal

abbrev pub invariant-loop-byte : goal.invariant-loop-byte
invariant-loop-byte l = record {
  short : length l.word ≤ 8;
  count : length l.codes.items ≡ l.byte-index;
  value : all_codes l.word ≡ behind l.codes.items (all_codes (drop l.byte-index l.word));
}
