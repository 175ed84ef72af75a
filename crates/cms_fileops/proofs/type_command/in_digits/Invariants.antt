use Rattle.std.proofs.Common.{◌≡◌, take}
use Rattle.cms_fileops.specs.TypeCommand.{in_digits}
use Rattle.cms_fileops.proofs.type_command.in_digits.Given as goal

abbrev pub invariant-loop-byte : goal.invariant-loop-byte
invariant-loop-byte l = l.digits.items ≡ in_digits (take l.byte-index l.text)
