use Rattle.cms_model.proofs.Fronts.{fronts_of_update}
use Rattle.cms_model.proofs.SettledUnits.{keeps_old}
use Rattle.cms_model.proofs.Updates.{update_is_whole, relabel_is_whole}
use Rattle.cms_model.proofs.Wipes.{wiped_is_none, wipe_is_whole, keeps_wiped, make_is_whole}
use Rattle.cms_model.proofs.WritesPut.{update_is_put, apart_is_kept}
use Rattle.cms_model.proofs.laws.update_laws.Goals as goal

pub returns-clause-fronts : goal.returns-clause-fronts
returns-clause-fronts c = fronts_of_update

pub returns-clause-old : goal.returns-clause-old
returns-clause-old c = keeps_old

pub returns-clause-update : goal.returns-clause-update
returns-clause-update c = update_is_whole

pub returns-clause-relabel : goal.returns-clause-relabel
returns-clause-relabel c = relabel_is_whole

pub returns-clause-wiped : goal.returns-clause-wiped
returns-clause-wiped c = wiped_is_none

pub returns-clause-wipe : goal.returns-clause-wipe
returns-clause-wipe c = wipe_is_whole

pub returns-clause-still_wiped : goal.returns-clause-still_wiped
returns-clause-still_wiped c = keeps_wiped

pub returns-clause-make : goal.returns-clause-make
returns-clause-make c = make_is_whole

pub returns-clause-put : goal.returns-clause-put
returns-clause-put c = update_is_put

pub returns-clause-kept : goal.returns-clause-kept
returns-clause-kept c = apart_is_kept
