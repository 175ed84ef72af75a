use Rattle.cms_map.proofs.Free.{free_are_unused, free_ascend}
use Rattle.cms_map.proofs.Packed.{reads_back}
use Rattle.cms_map.proofs.laws.map_laws.Goals as goal

pub returns-clause-reads_back : goal.returns-clause-reads_back
returns-clause-reads_back c = reads_back

pub returns-clause-unused : goal.returns-clause-unused
returns-clause-unused c = free_are_unused

pub returns-clause-ascend : goal.returns-clause-ascend
returns-clause-ascend c = free_ascend
