use Rattle.cms_model.proofs.Stands.{stands_opens, opened_stands}
use Rattle.cms_model.proofs.Renewed.{minidisk_is, renewed_stands}
use Rattle.cms_model.proofs.laws.standing_laws.Goals as goal

pub returns-clause-opens : goal.returns-clause-opens
returns-clause-opens c = stands_opens

pub returns-clause-stands : goal.returns-clause-stands
returns-clause-stands c = opened_stands

pub returns-clause-minidisk : goal.returns-clause-minidisk
returns-clause-minidisk c = minidisk_is

pub returns-clause-renewed : goal.returns-clause-renewed
returns-clause-renewed c = renewed_stands
