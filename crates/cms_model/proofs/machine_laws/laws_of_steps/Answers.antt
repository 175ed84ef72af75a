use Rattle.cms_model.proofs.StepsFit.{syncs_counted, refused_is_nothing, kept_without_sync, access_ends_doubt, doubt_has_both, faults_counted}
use Rattle.cms_model.proofs.FaultsFit.{faults_fit}
use Rattle.cms_model.proofs.machine_laws.laws_of_steps.Goals as goal

pub returns-clause-syncs : goal.returns-clause-syncs
returns-clause-syncs c = syncs_counted

pub returns-clause-refused : goal.returns-clause-refused
returns-clause-refused c = refused_is_nothing

pub returns-clause-kept : goal.returns-clause-kept
returns-clause-kept c = kept_without_sync

pub returns-clause-ended : goal.returns-clause-ended
returns-clause-ended c = access_ends_doubt

pub returns-clause-doubt : goal.returns-clause-doubt
returns-clause-doubt c = doubt_has_both

pub returns-clause-faults : goal.returns-clause-faults
returns-clause-faults c = faults_counted

pub returns-clause-fit : goal.returns-clause-fit
returns-clause-fit c = faults_fit
