use Rattle.mini_forms.proofs.AllBack.{comes_back, lines_stay}
use Rattle.mini_forms.proofs.StayBytes.{binary_stays, records_stay}
use Rattle.mini_forms.proofs.laws.form_laws.Goals as goal

pub returns-clause-back : goal.returns-clause-back
returns-clause-back c = comes_back

pub returns-clause-lines : goal.returns-clause-lines
returns-clause-lines c = lines_stay

pub returns-clause-binary : goal.returns-clause-binary
returns-clause-binary c = binary_stays

pub returns-clause-records : goal.returns-clause-records
returns-clause-records c = records_stay
