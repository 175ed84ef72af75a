use Rattle.std.proofs.Common.{◌≡◌, drop, length}
use Rattle.cms_model.specs.Items.{coded_line}
use Rattle.cms_line.proofs.CodedLines.{prepend}
use Rattle.cms_line.proofs.console.line_of.Given as goal

abbrev pub invariant-loop-byte : goal.invariant-loop-byte
invariant-loop-byte l = record {
  coded : coded_line l.bytes ≡ prepend l.codes.items (coded_line (drop l.byte-index l.bytes));
  count : length l.codes.items ≡ l.byte-index;
}
