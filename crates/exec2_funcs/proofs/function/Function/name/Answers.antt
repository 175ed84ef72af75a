use Rattle.std.proofs.Common.{refl}
use Rattle.cms_ebcdic.specs.CodePage.{code_of, code_page}
use Rattle.cms_text.specs.Texts.{ebcdic}
use Rattle.exec2_funcs.proofs.function.Function.name.Goals as goal

pub returns-in-Concat-clause-coded : goal.returns-in-Concat-clause-coded
unfolding ebcdic code_of code_page
returns-in-Concat-clause-coded c = refl

pub returns-in-Datatype-clause-coded : goal.returns-in-Datatype-clause-coded
unfolding ebcdic code_of code_page
returns-in-Datatype-clause-coded c = refl

pub returns-in-Div-clause-coded : goal.returns-in-Div-clause-coded
unfolding ebcdic code_of code_page
returns-in-Div-clause-coded c = refl

pub returns-in-Mult-clause-coded : goal.returns-in-Mult-clause-coded
unfolding ebcdic code_of code_page
returns-in-Mult-clause-coded c = refl

pub returns-in-Left-clause-coded : goal.returns-in-Left-clause-coded
unfolding ebcdic code_of code_page
returns-in-Left-clause-coded c = refl

pub returns-in-Right-clause-coded : goal.returns-in-Right-clause-coded
unfolding ebcdic code_of code_page
returns-in-Right-clause-coded c = refl

pub returns-in-Length-clause-coded : goal.returns-in-Length-clause-coded
unfolding ebcdic code_of code_page
returns-in-Length-clause-coded c = refl

pub returns-in-Literal-clause-coded : goal.returns-in-Literal-clause-coded
unfolding ebcdic code_of code_page
returns-in-Literal-clause-coded c = refl

pub returns-in-Location-clause-coded : goal.returns-in-Location-clause-coded
unfolding ebcdic code_of code_page
returns-in-Location-clause-coded c = refl

pub returns-in-Piece-clause-coded : goal.returns-in-Piece-clause-coded
unfolding ebcdic code_of code_page
returns-in-Piece-clause-coded c = refl

pub returns-in-Substr-clause-coded : goal.returns-in-Substr-clause-coded
unfolding ebcdic code_of code_page
returns-in-Substr-clause-coded c = refl

pub returns-in-Position-clause-coded : goal.returns-in-Position-clause-coded
unfolding ebcdic code_of code_page
returns-in-Position-clause-coded c = refl

pub returns-in-String-clause-coded : goal.returns-in-String-clause-coded
unfolding ebcdic code_of code_page
returns-in-String-clause-coded c = refl

pub returns-in-Trans-clause-coded : goal.returns-in-Trans-clause-coded
unfolding ebcdic code_of code_page
returns-in-Trans-clause-coded c = refl

pub returns-in-Trim-clause-coded : goal.returns-in-Trim-clause-coded
unfolding ebcdic code_of code_page
returns-in-Trim-clause-coded c = refl

pub returns-in-Word-clause-coded : goal.returns-in-Word-clause-coded
unfolding ebcdic code_of code_page
returns-in-Word-clause-coded c = refl
