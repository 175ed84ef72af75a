use Rattle.std.proofs.Common.{◌≡◌, ◌++◌, drop}
use Rattle.std.specs.List.{filter_map}
use Rattle.cms_ebcdic.specs.CodePage.{code_of}
use Rattle.exec2_parse.proofs.numbers.encoded.Given as goal

abbrev pub invariant-loop-letter : goal.invariant-loop-letter
invariant-loop-letter l = l.bytes.items ++ filter_map code_of (drop l.letter-index l.letter-items) ≡ filter_map code_of l.letter-items
