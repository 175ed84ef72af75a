use Rattle.std.proofs.Common.{◌≡◌, map, take}
use Rattle.cms_ebcdic.specs.CodePage.{host_of}
use Rattle.cms_line.proofs.typed_line.put_ascii.Given as goal

abbrev pub invariant-loop-place : goal.invariant-loop-place
invariant-loop-place l = take l.place l.into ≡ map host_of (take l.place l.text)
