-- The words NUM and CHAR.
use Rattle.std.proofs.Common.{◌≡◌, ◌∷◌, [], refl}
use Rattle.std.specs.Prelude.{ℤ, Some, None}
use Rattle.cms_ebcdic.specs.CodePage.{code_of, code_page}
use Rattle.cms_text.specs.Texts.{Text, ebcdic}
use Rattle.exec2_funcs.specs.Calls.{kind_of}
use Rattle.cms_text.specs.Numbers.{number_of}

pub num : (word : Text) (z : ℤ) → number_of word ≡ Some z → 0xD5 ∷ 0xE4 ∷ 0xD4 ∷ [] ≡ kind_of word
unfolding ebcdic code_of code_page
num word z is = rw is refl

pub char : (word : Text) → number_of word ≡ None → 0xC3 ∷ 0xC8 ∷ 0xC1 ∷ 0xD9 ∷ [] ≡ kind_of word
unfolding ebcdic code_of code_page
char word is = rw is refl
