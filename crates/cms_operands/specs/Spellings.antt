-- The words of the commands.
use Rattle.std.specs.Prelude.{ℕ, List, [], ◌∷◌, codes, find, Option}
use Rattle.std.specs.Option.{option_map}
use Rattle.cms_line.specs.Options.{is_named}
use Rattle.cms_text.specs.Texts.{coded}
use Rattle.cms_operands.specs.declared.spelling.CommandName.{CommandName}
use Rattle.cms_operands.specs.declared.spelling.CommandName.TheVariants.{Access, Release, Format, Century, Query, Listfile, Copyfile, Rename, Erase, TypeFile, State, Execio, Exec, Nucxdrop, Nucxmap, Punch, Readcard, Disk}
use Rattle.cms_operands.specs.declared.spelling.Spelling.{Spelling}

-- a command is named by each beginning of its word that is long enough
abbrev pub spelled : List ℕ → ℕ → CommandName → Spelling
spelled word least command = record { rule = record { name = coded word; least = least; takes = 0 }; command = command }

-- the words of the commands with their least lengths; the first that fits holds
unfoldable pub spellings : List Spelling
spellings =
    spelled (codes "ACCESS  ") 2 Access
    ∷ spelled (codes "RELEASE ") 3 Release
    ∷ spelled (codes "FORMAT  ") 6 Format
    ∷ spelled (codes "CENTURY ") 7 Century
    ∷ spelled (codes "QUERY   ") 1 Query
    ∷ spelled (codes "LISTFILE") 1 Listfile
    ∷ spelled (codes "COPYFILE") 4 Copyfile
    ∷ spelled (codes "RENAME  ") 1 Rename
    ∷ spelled (codes "ERASE   ") 3 Erase
    ∷ spelled (codes "TYPE    ") 1 TypeFile
    ∷ spelled (codes "STATE   ") 5 State
    ∷ spelled (codes "EXECIO  ") 6 Execio
    ∷ spelled (codes "EXEC    ") 2 Exec
    ∷ spelled (codes "NUCXDROP") 8 Nucxdrop
    ∷ spelled (codes "NUCXMAP ") 7 Nucxmap
    ∷ spelled (codes "PUNCH   ") 2 Punch
    ∷ spelled (codes "READCARD") 4 Readcard
    ∷ spelled (codes "DISK    ") 4 Disk ∷ []

-- the command of the first spelling that a word is
abbrev pub first_named : List ℕ → List Spelling → Option CommandName
first_named word all = option_map (λ s. s.command) (find (λ s. is_named word s.rule) all)

-- the command that a word names: the first in the list holds
abbrev pub command_named : List ℕ → Option CommandName
command_named word = first_named word spellings
