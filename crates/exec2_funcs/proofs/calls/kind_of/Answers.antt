use Rattle.std.proofs.Common.{sym}
use Rattle.exec2_funcs.proofs.Named.{char, num}
use Rattle.exec2_funcs.proofs.calls.kind_of.Goals as goal

pub returns-in-Some-clause-kind : goal.returns-in-Some-clause-kind
returns-in-Some-clause-kind c = num c.args.word.now c.in-Some.field-0 (sym c.in-Some.ensures)

pub returns-in-None-clause-kind : goal.returns-in-None-clause-kind
returns-in-None-clause-kind c = char c.args.word.now (sym c.in-None.ensures)
