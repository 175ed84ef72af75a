use Rattle.std.proofs.Common.{◌≡◌, map, take}
use Rattle.std.specs.String.{string_bytes}
use Rattle.cms_ebcdic.specs.CodePage.{host_of}
use Rattle.mini_work.proofs.output.host_text.Given as goal

abbrev pub invariant-loop-code : goal.invariant-loop-code
invariant-loop-code l = string_bytes l.word ≡ map host_of (take l.code-index l.text)
