use Rattle.std.proofs.Common.{ap, unwrap_or}
use Rattle.cms_ebcdic.specs.CodePage.{host_of}
use Rattle.cms_ebcdic.proofs.Tables.{code_comes_back, character_comes_back, printable_bounds, bounds_printable, upper_by_runs, lower_by_runs}
use Rattle.cms_ebcdic.proofs.code_page_laws.Goals as goal

pub returns-clause-one_table : goal.returns-clause-one_table
returns-clause-one_table c = λ character code fits small. (character_comes_back character code small, code_comes_back character code fits)

pub returns-clause-printable : goal.returns-clause-printable
returns-clause-printable c = λ character fits. (printable_bounds character fits, λ h. bounds_printable character fits h.0 h.1)

pub returns-clause-types_back : goal.returns-clause-types_back
unfolding host_of
returns-clause-types_back c = λ character code fits is. ap (λ o. unwrap_or o 46) (code_comes_back character code fits is)

pub returns-clause-letters : goal.returns-clause-letters
returns-clause-letters c = λ code fits. (upper_by_runs code fits, lower_by_runs code fits)
