use Rattle.std.proofs.Common.{refl}
use Rattle.cms_ebcdic.specs.CodePage.{code_of, code_page}
use Rattle.cms_text.specs.Texts.{ebcdic}
use Rattle.exec2_parse.proofs.kind.Control.name.Goals as goal

pub returns-in-Trace-clause-coded : goal.returns-in-Trace-clause-coded
unfolding ebcdic code_of code_page
returns-in-Trace-clause-coded c = refl

pub returns-in-Type-clause-coded : goal.returns-in-Type-clause-coded
unfolding ebcdic code_of code_page
returns-in-Type-clause-coded c = refl

pub returns-in-BegType-clause-coded : goal.returns-in-BegType-clause-coded
unfolding ebcdic code_of code_page
returns-in-BegType-clause-coded c = refl

pub returns-in-Stack-clause-coded : goal.returns-in-Stack-clause-coded
unfolding ebcdic code_of code_page
returns-in-Stack-clause-coded c = refl

pub returns-in-BegStack-clause-coded : goal.returns-in-BegStack-clause-coded
unfolding ebcdic code_of code_page
returns-in-BegStack-clause-coded c = refl

pub returns-in-End-clause-coded : goal.returns-in-End-clause-coded
unfolding ebcdic code_of code_page
returns-in-End-clause-coded c = refl

pub returns-in-Command-clause-coded : goal.returns-in-Command-clause-coded
unfolding ebcdic code_of code_page
returns-in-Command-clause-coded c = refl

pub returns-in-Subcommand-clause-coded : goal.returns-in-Subcommand-clause-coded
unfolding ebcdic code_of code_page
returns-in-Subcommand-clause-coded c = refl

pub returns-in-Presume-clause-coded : goal.returns-in-Presume-clause-coded
unfolding ebcdic code_of code_page
returns-in-Presume-clause-coded c = refl

pub returns-in-Read-clause-coded : goal.returns-in-Read-clause-coded
unfolding ebcdic code_of code_page
returns-in-Read-clause-coded c = refl

pub returns-in-Args-clause-coded : goal.returns-in-Args-clause-coded
unfolding ebcdic code_of code_page
returns-in-Args-clause-coded c = refl

pub returns-in-If-clause-coded : goal.returns-in-If-clause-coded
unfolding ebcdic code_of code_page
returns-in-If-clause-coded c = refl

pub returns-in-Goto-clause-coded : goal.returns-in-Goto-clause-coded
unfolding ebcdic code_of code_page
returns-in-Goto-clause-coded c = refl

pub returns-in-Skip-clause-coded : goal.returns-in-Skip-clause-coded
unfolding ebcdic code_of code_page
returns-in-Skip-clause-coded c = refl

pub returns-in-Loop-clause-coded : goal.returns-in-Loop-clause-coded
unfolding ebcdic code_of code_page
returns-in-Loop-clause-coded c = refl

pub returns-in-Call-clause-coded : goal.returns-in-Call-clause-coded
unfolding ebcdic code_of code_page
returns-in-Call-clause-coded c = refl

pub returns-in-Return-clause-coded : goal.returns-in-Return-clause-coded
unfolding ebcdic code_of code_page
returns-in-Return-clause-coded c = refl

pub returns-in-Error-clause-coded : goal.returns-in-Error-clause-coded
unfolding ebcdic code_of code_page
returns-in-Error-clause-coded c = refl

pub returns-in-Exit-clause-coded : goal.returns-in-Exit-clause-coded
unfolding ebcdic code_of code_page
returns-in-Exit-clause-coded c = refl
