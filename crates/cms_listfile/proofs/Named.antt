-- The procedure's name.
use Rattle.std.proofs.Common.{◌≡◌, List, ℕ, Result, Ok, codes, refl}
use Rattle.cms_ebcdic.specs.CodePage.{code_of, code_page}
use Rattle.cms_names.specs.Names.{is_name_character, part_of, text_of}
use Rattle.cms_names.specs.declared.fault.NameFault.{NameFault}
use Rattle.cms_text.specs.Texts.{coded}
use Rattle.cms_files.specs.Identifiers.{exec_kind}
use Rattle.cms_files.proofs.Parts.{part_is, part_read}
use Rattle.cms_listfile.specs.Listfile.{written_name}

cms_is_part : part_of (coded (codes "CMS")) ≡ Ok (coded (codes "CMS"))
unfolding text_of is_name_character code_of code_page
cms_is_part = refl

pub cms_read : (text : List ℕ) (r : Result (List ℕ) NameFault) → r ≡ part_of text → text ≡ coded (codes "CMS") → r ≡ Ok (coded (codes "CMS"))
cms_read text r is same = part_read text (coded (codes "CMS")) r is same cms_is_part

pub name_is : (file kind : List ℕ) (r : Result (List ℕ) NameFault) → r ≡ Ok file → r ≡ Ok (coded (codes "CMS")) → kind ≡ exec_kind → record { file = file; kind = kind } ≡ written_name
name_is file kind r is read exec =
    let cms = part_is file (coded (codes "CMS")) r is read in
    rw (cms, exec) refl
