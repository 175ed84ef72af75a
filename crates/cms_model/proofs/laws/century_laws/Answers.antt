use Rattle.cms_model.proofs.Centuries.{century_is_whole, moved_is_late, moved_is_stamp}
use Rattle.cms_model.proofs.laws.century_laws.Goals as goal

pub returns-clause-stamps : goal.returns-clause-stamps
returns-clause-stamps c = moved_is_stamp

pub returns-clause-late : goal.returns-clause-late
returns-clause-late c = moved_is_late

pub returns-clause-whole : goal.returns-clause-whole
returns-clause-whole c = century_is_whole
