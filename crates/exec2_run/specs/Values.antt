-- What the words of a statement become.
use Rattle.std.specs.Prelude.{Bool, true, false, List, [], ◌∷◌, ◌++◌, if◌then◌else◌, Result, Ok, Err}
use Rattle.cms_fields.specs.Steps.{◌>>◌}
use Rattle.cms_text.specs.Texts.{Text}
use Rattle.exec2_parse.specs.Expansion.{Binding}
use Rattle.exec2_parse.specs.Expansion.{expanded}
use Rattle.exec2_parse.specs.declared.expansion.ExpandFault.{ExpandFault}
use Rattle.exec2_funcs.specs.Calls.{called}
use Rattle.exec2_funcs.specs.declared.function.Function.TheVariants as function
use Rattle.exec2_run.specs.Faults.{of_expansion, of_function, with_fault}
use Rattle.exec2_run.specs.declared.fault.Fault.{Fault}
use Rattle.exec2_run.specs.declared.fault.Fault.TheVariants.{TooLong, BadStatement}
use Rattle.exec2_run.specs.declared.values.Operands.{Operands}

-- what a word becomes
abbrev pub value : Binding → Text → Result Text Fault
value names word = with_fault of_expansion (expanded names word)

-- a word's value in front of others, but for an empty one that isn't kept; behind one that is too long nothing counts
abbrev pub in_front : Bool → Result Text ExpandFault → Operands → Operands
in_front true (Ok text) more = record { words = text ∷ more.words; is_cut = more.is_cut }
in_front false (Ok []) more = more
in_front false (Ok (byte ∷ bytes)) more = record { words = (byte ∷ bytes) ∷ more.words; is_cut = more.is_cut }
in_front keeps (Err fault) more = record { words = []; is_cut = true }

-- what the words become from left to right, up to the first that becomes too long; those that become nothing are kept or left out
unfoldable pub values : Bool → Binding → List Text → Operands
values keeps names [] = record { words = []; is_cut = false }
values keeps names (word ∷ words) = in_front keeps (expanded names word) (values keeps names words)

-- what the words of a statement become
abbrev pub operands : Binding → List Text → Operands
operands = values false

-- what the words of a function become, where one that becomes nothing is an empty word
abbrev pub arguments : Binding → List Text → Operands
arguments = values true

-- values in front of others
abbrev pub behind : List Text → Operands → Operands
behind front more = record { words = front ++ more.words; is_cut = more.is_cut }

-- why a word is missing
abbrev pub missing : Bool → Fault
missing is_cut = if is_cut then TooLong else BadStatement

-- no further word becomes too long
abbrev pub whole : Bool → Result (Unit {0}) Fault
whole is_cut = if is_cut then Err TooLong else Ok tt

-- no further word stands here
abbrev pub ended : List Text → Bool → Result (Unit {0}) Fault
ended [] is_cut = whole is_cut
ended (word ∷ words) is_cut = Err BadStatement

-- words joined by a blank, empty ones left out
abbrev pub joined : List Text → Result Text Fault
joined words = with_fault of_function (called function.String words)

-- the text that the words make: what they become, joined by a blank
unfoldable pub text : Binding → List Text → Result Text Fault
text names words = do
  whole (operands names words).is_cut
  joined (operands names words).words
