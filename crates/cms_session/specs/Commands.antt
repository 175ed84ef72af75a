-- What a line of the console asks for.
use Rattle.std.specs.Prelude.{ℕ, Bool, true, ◌==◌, ◌||◌, List, [], ◌∷◌, Option, Some, None}
use Rattle.std.specs.List.{list_all}
use Rattle.cms_operands.specs.Spellings.{command_named}
use Rattle.cms_operands.specs.declared.spelling.CommandName.{CommandName}
use Rattle.cms_operands.specs.declared.spelling.CommandName.TheVariants as named
use Rattle.cms_session.specs.declared.command.Command.TheVariants.{Access, Release, Format, Century, Query, Listfile, Rename, Erase, TypeFile, State, Copyfile, Execio, Unknown}
use Rattle.cms_session.specs.declared.command.Request.{Request}
use Rattle.cms_session.specs.declared.command.Request.TheVariants.{Exec, Nucxdrop, Nucxmap, Cards, Command}
use Rattle.cms_cards.specs.declared.command.CardCommand.TheVariants.{Punch, Readcard, Disk}

-- a line of blanks, or one that begins with an asterisk
unfoldable pub is_comment : List ℕ → Bool
is_comment [] = true
is_comment (c ∷ cs) = (c == 0x5C) || list_all (λ x. x == 0x40) (c ∷ cs)

-- what a command's word asks for
abbrev pub request_by : Option CommandName → Request
request_by (Some named.Access) = Command Access
request_by (Some named.Release) = Command Release
request_by (Some named.Format) = Command Format
request_by (Some named.Century) = Command Century
request_by (Some named.Query) = Command Query
request_by (Some named.Listfile) = Command Listfile
request_by (Some named.Rename) = Command Rename
request_by (Some named.Erase) = Command Erase
request_by (Some named.TypeFile) = Command TypeFile
request_by (Some named.State) = Command State
request_by (Some named.Exec) = Exec
request_by (Some named.Copyfile) = Command Copyfile
request_by (Some named.Execio) = Command Execio
request_by (Some named.Nucxdrop) = Nucxdrop
request_by (Some named.Nucxmap) = Nucxmap
request_by (Some named.Punch) = Cards Punch
request_by (Some named.Readcard) = Cards Readcard
request_by (Some named.Disk) = Cards Disk
request_by None = Command Unknown

-- what a line with this first word asks for
abbrev pub request_of : List ℕ → Request
request_of word = request_by (command_named word)
