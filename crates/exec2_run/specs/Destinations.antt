-- Where commands go: &SUBCOMMAND, &PRESUME and commands (VM/SP EXEC 2 Reference, these statements).
use Rattle.std.specs.Prelude.{Bool, if◌then◌else◌, List, [], ◌∷◌, Result, Ok, Err}
use Rattle.cms_fields.specs.Steps.{◌>>=◌, ◌>>◌}
use Rattle.cms_text.specs.Texts.{Text, is_keyword}
use Rattle.exec2_run.specs.Given.{seen}
use Rattle.exec2_parse.specs.Kinds.{name_of}
use Rattle.exec2_run.specs.Outputs.{no_words}
use Rattle.exec2_run.specs.State.{Exec, Step}
use Rattle.exec2_run.specs.Values.{ended, joined, missing, operands, text, whole}
use Rattle.exec2_run.specs.declared.destination.Destination.{Destination}
use Rattle.exec2_run.specs.declared.destination.Destination.TheVariants.{Cms, Extension}
use Rattle.exec2_parse.specs.declared.kind.Control.TheVariants as control
use Rattle.exec2_run.specs.declared.want.Want.{Want}
use Rattle.exec2_run.specs.declared.want.Want.TheVariants.{Next, Command, Sub}
use Rattle.exec2_run.specs.declared.fault.Fault.{Fault}
use Rattle.exec2_run.specs.declared.fault.Fault.TheVariants.{BadStatement}

-- ---- commands

-- a line that goes to CMS is issued; one that goes to an extension is sent to it
abbrev pub going_to : Destination → Text → Want
going_to Cms line = Command line
going_to (Extension word) line = Sub word line

-- a command: its text goes where &PRESUME said last
unfoldable pub sent : Exec → List Text → Result Want Fault
sent s words = do
  line ← text (seen s) words
  Ok (going_to s.destination line)

-- the words' text, for the extension of a word
abbrev pub sent_to : Text → Exec → List Text → Result Want Fault
sent_to word s words = do
  line ← text (seen s) words
  Ok (Sub word line)

-- ---- &SUBCOMMAND word text

-- by what its words become: the first names the extension, and the others make the text
abbrev pub subcommanded_by : List Text → Bool → Result Want Fault
subcommanded_by [] is_cut = Err (missing is_cut)
subcommanded_by (word ∷ words) is_cut = do
  whole is_cut
  line ← joined words
  Ok (Sub word line)

-- &SUBCOMMAND
unfoldable pub subcommanded : Exec → List Text → Result Want Fault
subcommanded s words = subcommanded_by (operands (seen s) words).words (operands (seen s) words).is_cut

-- ---- &PRESUME

-- &COMMAND and nothing behind it: CMS
abbrev pub cms_named : Exec → List Text → Result Destination Fault
cms_named s words = do
  no_words s words
  Ok Cms

-- &SUBCOMMAND and one word behind it, by what that becomes: the extension of the word
abbrev pub extension_named_by : List Text → Bool → Result Destination Fault
extension_named_by [] is_cut = Err (missing is_cut)
extension_named_by (word ∷ others) is_cut = do
  ended others is_cut
  Ok (Extension word)

-- the extension that the words behind &SUBCOMMAND name
unfoldable pub extension_named : Exec → List Text → Result Destination Fault
extension_named s words = extension_named_by (operands (seen s) words).words (operands (seen s) words).is_cut

-- where &PRESUME sends commands: alone to CMS; its first word is read as it stands, unexpanded
unfoldable pub destination_of : Exec → List Text → Result Destination Fault
destination_of s [] = Ok Cms
destination_of s (word ∷ words) =
    if is_keyword (name_of control.Command) word then cms_named s words
    else (if is_keyword (name_of control.Subcommand) word then extension_named s words
    else Err BadStatement)

-- &PRESUME, alone, with &COMMAND, or with &SUBCOMMAND and a word
unfoldable pub presumed : Exec → List Text → Step
presumed s words = do
  destination ← destination_of s words
  Ok (record s { destination = destination }, Next)
