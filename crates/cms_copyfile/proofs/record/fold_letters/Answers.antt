use Rattle.std.proofs.Common.{Some, arith, get_or}
use Rattle.std.proofs.lemmas.List.{get_or_default}
use Rattle.std.proofs.lemmas.List.Edits.{map_over_more}
use Rattle.cms_copyfile.specs.Records as spec
use Rattle.cms_copyfile.proofs.record.fold_letters.Goals as goal

pub loop-byte-preserved : goal.loop-byte-preserved
loop-byte-preserved c =
    let l = c.loop-byte in
    let byte = get_or l.text l.byte-index 0 in
    rw c.folded_byte.ensures (map_over_more (spec.folded_byte (Some c.args.fold)) c.args.text.now l.text l.byte-index byte (omega arith) l.invariant (get_or_default l.text l.byte-index 0 byte (omega arith)))
