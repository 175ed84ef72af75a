use Rattle.mini_forms.proofs.Tables.{there, here, printable_agrees}
use Rattle.mini_forms.proofs.page.page_laws.Goals as goal

pub returns-clause-one_table : goal.returns-clause-one_table
returns-clause-one_table c = λ x fits. (there x fits, here x fits)

pub returns-clause-printable : goal.returns-clause-printable
returns-clause-printable c = printable_agrees
