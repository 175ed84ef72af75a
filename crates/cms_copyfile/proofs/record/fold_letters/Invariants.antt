use Rattle.std.proofs.Common.{◌≡◌, ◌++◌, Some, drop, map, take}
use Rattle.cms_copyfile.specs.Records as spec
use Rattle.cms_copyfile.proofs.record.fold_letters.Given as goal

abbrev pub invariant-loop-byte : goal.invariant-loop-byte
invariant-loop-byte l = l.text ≡ map (spec.folded_byte (Some l.fold)) (take l.byte-index l.fn.text) ++ drop l.byte-index l.fn.text
