use Rattle.cms_model.proofs.OpenedVolumes.{opens_where_held, open_keeps, state_is_minidisk, no_label, disk_is_looked_at}
use Rattle.cms_model.proofs.InOrder.{in_order}
use Rattle.cms_model.proofs.laws.volume_laws.Goals as goal

pub returns-clause-opens : goal.returns-clause-opens
returns-clause-opens c = opens_where_held

pub returns-clause-frame : goal.returns-clause-frame
returns-clause-frame c = open_keeps

pub returns-clause-state : goal.returns-clause-state
returns-clause-state c = state_is_minidisk

pub returns-clause-no_label : goal.returns-clause-no_label
returns-clause-no_label c = no_label

pub returns-clause-order : goal.returns-clause-order
returns-clause-order c = in_order

pub returns-clause-disk : goal.returns-clause-disk
returns-clause-disk c = disk_is_looked_at
