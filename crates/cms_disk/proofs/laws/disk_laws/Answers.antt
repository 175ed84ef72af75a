use Rattle.cms_disk.proofs.CrashStates.{looked_is_covered}
use Rattle.cms_disk.proofs.FilesFound.{stands_tells}
use Rattle.cms_disk.proofs.QuietUnits.{quiet_rests, sync_quiets}
use Rattle.cms_disk.proofs.laws.disk_laws.Goals as goal

pub returns-clause-tells : goal.returns-clause-tells
returns-clause-tells c = stands_tells

pub returns-clause-rests : goal.returns-clause-rests
returns-clause-rests c = quiet_rests

pub returns-clause-synced : goal.returns-clause-synced
returns-clause-synced c = sync_quiets

pub returns-clause-covered : goal.returns-clause-covered
returns-clause-covered c = looked_is_covered
