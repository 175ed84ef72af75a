use Rattle.std.proofs.Common.{◌≡◌, map, take}
use Rattle.cms_ebcdic.specs.CodePage.{upper_of}
use Rattle.cms_line.proofs.words.folded.Given as goal

abbrev pub invariant-loop-byte : goal.invariant-loop-byte
invariant-loop-byte l = l.bytes.items ≡ map upper_of (take l.byte-index l.text)
