-- Worked examples of commands' words.
use Rattle.std.proofs.Common.{◌≡◌, ℕ, List, Option, Some, None, codes, refl}
use Rattle.cms_ebcdic.specs.CodePage.{code_of, code_page}
use Rattle.cms_text.specs.Texts.{ebcdic}
use Rattle.cms_operands.specs.Spellings.{command_named, spellings}
use Rattle.cms_operands.specs.declared.spelling.CommandName.{CommandName}
use Rattle.cms_operands.specs.declared.spelling.CommandName.TheVariants as command

abbrev named : List ℕ → Option CommandName
named word = command_named (ebcdic word)

spelled : (named (codes "AC") ≡ Some command.Access) × (named (codes "A") ≡ None) × (named (codes "RE") ≡ Some command.Rename)
    × (named (codes "REL") ≡ Some command.Release) × (named (codes "EX") ≡ Some command.Exec) × (named (codes "ACCESSED") ≡ None)
    × (named (codes "NUCXMAP") ≡ Some command.Nucxmap) × (named (codes "NUCXMA") ≡ None)
    × (named (codes "NUCXDROP") ≡ Some command.Nucxdrop) × (named (codes "NUCXDRO") ≡ None)
    × (named (codes "PU") ≡ Some command.Punch) × (named (codes "P") ≡ None) × (named (codes "READ") ≡ Some command.Readcard)
    × (named (codes "REA") ≡ None) × (named (codes "DISK") ≡ Some command.Disk) × (named (codes "DIS") ≡ None)
    × (named (codes "CENTURY") ≡ Some command.Century) × (named (codes "CENTUR") ≡ None)
unfolding spellings ebcdic code_of code_page
spelled = (refl, refl, refl, refl, refl, refl, refl, refl, refl, refl, refl, refl, refl, refl, refl, refl, refl, refl)
