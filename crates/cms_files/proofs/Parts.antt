-- Words that are parts of names.
use Rattle.std.proofs.Common.{◌≡◌, ◌∙◌, List, ℕ, Result, Ok, refl, ap}
use Rattle.std.specs.Result.{IsOk}
use Rattle.cms_ebcdic.specs.CodePage.{code_of, code_page}
use Rattle.cms_names.specs.Names.{is_name_character, part_of, text_of}
use Rattle.cms_names.specs.declared.fault.NameFault.{NameFault}
use Rattle.cms_files.specs.Identifiers.{exec_kind}

pub exec_is_part : part_of exec_kind ≡ Ok exec_kind
unfolding text_of is_name_character code_of code_page
exec_is_part = refl

-- a word is read as it stands
pub part_read : (text word : List ℕ) (r : Result (List ℕ) NameFault) → r ≡ part_of text → text ≡ word → part_of word ≡ Ok word → r ≡ Ok word
part_read text word r is same part = is ∙ ap part_of same ∙ part

pub is_read : (r : Result (List ℕ) NameFault) (word : List ℕ) → r ≡ Ok word → IsOk r
is_read r word is = rw is refl

pub part_is : (part word : List ℕ) (r : Result (List ℕ) NameFault) → r ≡ Ok part → r ≡ Ok word → part ≡ word
part_is part word r is read = cc
