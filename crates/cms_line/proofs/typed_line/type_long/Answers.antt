use Rattle.std.proofs.Common.{◌<◌, arith}
use Rattle.cms_line.proofs.typed_line.type_long.Goals as goal

pub returns-clause-ok : goal.returns-clause-ok
returns-clause-ok g c = c.type_through.ensures.ok

pub returns-clause-err : goal.returns-clause-err
returns-clause-err g c = c.type_through.ensures.err

pub returns-clause-cause : goal.returns-clause-cause
returns-clause-cause g c = c.type_through.ensures.cause

pub returns-clause-faults : goal.returns-clause-faults
returns-clause-faults g c = c.type_through.ensures.faults

some : 0 < 65536
some = omega arith

pub type_through-requires : goal.type_through-requires
type_through-requires g c = some
