use Rattle.cms_model.proofs.Fronts.{after_is_told, update_is_aside}
use Rattle.cms_model.proofs.SettledUnits.{settled_is_firm, untouched_starts, sync_settles, aside_is_as_before}
use Rattle.cms_model.proofs.laws.crash_state_laws.Goals as goal

pub returns-clause-told : goal.returns-clause-told
returns-clause-told c = after_is_told

pub returns-clause-settled : goal.returns-clause-settled
returns-clause-settled c = settled_is_firm

pub returns-clause-untouched : goal.returns-clause-untouched
returns-clause-untouched c = untouched_starts

pub returns-clause-synced : goal.returns-clause-synced
returns-clause-synced c = sync_settles

pub returns-clause-aside : goal.returns-clause-aside
returns-clause-aside c = aside_is_as_before

pub returns-clause-update_aside : goal.returns-clause-update_aside
returns-clause-update_aside c = update_is_aside
