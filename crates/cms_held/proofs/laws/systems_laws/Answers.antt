use Rattle.cms_held.proofs.SystemsRead.{written_is_read, map_is_read}
use Rattle.cms_held.proofs.laws.systems_laws.Goals as goal

pub returns-clause-written : goal.returns-clause-written
returns-clause-written c = written_is_read

pub returns-clause-map : goal.returns-clause-map
returns-clause-map c = map_is_read
