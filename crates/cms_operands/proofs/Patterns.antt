-- The pattern of all names.
use Rattle.std.proofs.Common.{◌≡◌, ◌∙◌, List, ℕ, Result, Ok, refl, ap}
use Rattle.std.specs.Result.{IsOk}
use Rattle.cms_ebcdic.specs.CodePage.{code_of, code_page}
use Rattle.cms_names.specs.Names.{is_name_character, is_pattern_character, pattern_of, text_of}
use Rattle.cms_names.specs.declared.fault.NameFault.{NameFault}
use Rattle.cms_operands.specs.Optional.{all_names}

all_read : pattern_of all_names ≡ Ok all_names
unfolding text_of is_name_character is_pattern_character code_of code_page
all_read = refl

-- what is read is the pattern
pub read_all : (text : List ℕ) (r : Result (List ℕ) NameFault) → r ≡ pattern_of text → text ≡ all_names → r ≡ Ok all_names
read_all text r is same = is ∙ ap pattern_of same ∙ all_read

pub is_read : (r : Result (List ℕ) NameFault) → r ≡ Ok all_names → IsOk r
is_read r is = rw is refl

pub is_all : (pattern : List ℕ) (r : Result (List ℕ) NameFault) → r ≡ Ok pattern → r ≡ Ok all_names → pattern ≡ all_names
is_all pattern r is read = cc
