use Rattle.cms_model.proofs.Records.{fixed_cut, varying_read, length_stored, stands_for_one, valid_has_records}
use Rattle.cms_model.proofs.laws.record_laws.Goals as goal

pub returns-clause-fixed : goal.returns-clause-fixed
returns-clause-fixed c = fixed_cut

pub returns-clause-varying : goal.returns-clause-varying
returns-clause-varying c = varying_read

pub returns-clause-size : goal.returns-clause-size
returns-clause-size c = length_stored

pub returns-clause-one : goal.returns-clause-one
returns-clause-one c = stands_for_one

pub returns-clause-some : goal.returns-clause-some
returns-clause-some c = valid_has_records
