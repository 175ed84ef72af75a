use Rattle.std.proofs.Common.{sym}
use Rattle.cms_records.proofs.Lengths.{longest_reads, longest_fails}
use Rattle.cms_records.proofs.var_records.VarView.new.Goals as goal

pub invariant_of-result : goal.invariant_of-result
invariant_of-result c = (longest_reads c.args.bsize c.args.count c.args.bytes.now c.in-Ok.field-0 (sym c.in-Ok.ensures)).1

pub returns-in-Ok : goal.returns-in-Ok
returns-in-Ok c = sym (longest_reads c.args.bsize c.args.count c.args.bytes.now c.in-Ok.field-0 (sym c.in-Ok.ensures)).0

pub returns-in-Err : goal.returns-in-Err
returns-in-Err c = sym (longest_fails c.args.bsize c.args.count c.args.bytes.now c.in-Err.fault (sym c.in-Err.ensures))
