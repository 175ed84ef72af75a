use Rattle.cms_held.proofs.SharedNeed.{takes_the_need, written_is_enough}
use Rattle.cms_held.proofs.PartWrites.{part_update_is_small}
use Rattle.cms_held.proofs.SharedRenewals.{part_update_renews}
use Rattle.cms_held.proofs.laws.shared_renewal_laws.Goals as goal

pub returns-clause-renews : goal.returns-clause-renews
returns-clause-renews c = part_update_renews

pub returns-clause-small : goal.returns-clause-small
returns-clause-small c = part_update_is_small

pub returns-clause-enough : goal.returns-clause-enough
returns-clause-enough c = written_is_enough

pub returns-clause-needed : goal.returns-clause-needed
returns-clause-needed c = takes_the_need
