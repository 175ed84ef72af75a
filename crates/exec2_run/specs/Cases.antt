-- Statements as a relation, one case for each kind (VM/SP EXEC 2 Reference), and what the first line with a label is.
use Rattle.std.specs.Prelude.{◌≡◌, ℕ, ◌<◌, ◌≤◌, Bool, true, false, List, [], ◌∷◌, drop, slice_get, Option, Some, None, Ok, Err}
use Rattle.std.specs.Option.{IsSomeAnd}
use Rattle.cms_text.specs.Texts.{Text}
use Rattle.exec2_run.specs.Assignments.{assigned}
use Rattle.exec2_run.specs.Calls.{entered, returned}
use Rattle.exec2_run.specs.Destinations.{presumed, sent_to, subcommanded}
use Rattle.exec2_run.specs.Given.{seen}
use Rattle.exec2_run.specs.Jumps.{label_from, skipped}
use Rattle.exec2_parse.specs.Kinds.{is_if, kind_of}
use Rattle.exec2_run.specs.Loops.{looped}
use Rattle.exec2_run.specs.Outputs.{issued, stacked, stacked_block, typed, typed_block}
use Rattle.exec2_run.specs.Readings.{args_given, read}
use Rattle.exec2_run.specs.State.{Exec, Step, still}
use Rattle.exec2_run.specs.Steps.{exited, run_kind, with_error}
use Rattle.exec2_run.specs.Values.{ended, missing, operands}
use Rattle.exec2_parse.specs.Words.{has_label, is_label}
use Rattle.exec2_run.specs.declared.destination.Destination.TheVariants.{Cms, Extension}
use Rattle.exec2_run.specs.declared.fault.Fault.{Fault}
use Rattle.exec2_run.specs.declared.fault.Fault.TheVariants.{BadStatement, NoLabel, TooLong}
use Rattle.exec2_parse.specs.declared.kind.Control.TheVariants as control
use Rattle.exec2_parse.specs.declared.kind.Kind.TheVariants as kind
use Rattle.exec2_run.specs.declared.want.Want.TheVariants.{Next}

-- ---- labels

-- line k has the label
abbrev pub Labels : Text → List Text → ℕ → Type 0
Labels label lines k = IsSomeAnd (slice_get lines k) (λ line. has_label label line ≡ true)

-- k is the first line with the label from a place on
pub record IsFirst (label : Text) (lines : List Text) (from k : ℕ) : Type 0 where
  pub after : from ≤ k
  pub labels : Labels label lines k
  pub least : (j : ℕ) → from ≤ j → j < k → Labels label lines j → ⊥

-- no line has it from a place on
abbrev pub HasNone : Text → List Text → ℕ → Type 0
HasNone label lines from = (j : ℕ) → from ≤ j → Labels label lines j → ⊥

-- the first line with a label, or that none has it
abbrev pub Search : Text → List Text → ℕ → Option ℕ → Type 0
Search label lines from None = HasNone label lines from
Search label lines from (Some k) = IsFirst label lines from k

-- a search finds the first line with the label, or none where there is none
abbrev pub FindsFirst : Type 0
FindsFirst = (label : Text) (lines : List Text) (from : ℕ) → Search label lines from (label_from label from lines)

-- ---- &GOTO and &CALL

-- the line that a label of &GOTO or &CALL names: the first with it from the next line to the end, and without one there the first
-- from the top
pub data Names (s : Exec) (label : Text) : Option ℕ → Type 0 where
  below : {k : ℕ} → IsFirst label s.lines s.next k → Names s label (Some k)
  above : {k : ℕ} → HasNone label s.lines s.next → IsFirst label s.lines 0 k → Names s label (Some k)
  nowhere : HasNone label s.lines 0 → Names s label None

-- what the words become, each in full
abbrev pub Become : Exec → List Text → List Text → Bool → Type 0
Become s words values is_cut = operands (seen s) words ≡ record { words = values; is_cut = is_cut }

-- &GOTO -label: the line that the label names is next
pub data Goes (s : Exec) (words : List Text) (m : Step) : Type 0 where
  goes : {label : Text} {k : ℕ} → Become s words (label ∷ []) false → is_label label ≡ true → Names s label (Some k)
      → m ≡ Ok (record s { next = k }, Next) → Goes s words m
  -- its faults from the left: no word, no label, no line with it, a word behind it
  goes_nowhere : {is_cut : Bool} → Become s words [] is_cut → m ≡ Err (missing is_cut) → Goes s words m
  goes_to_no_label : {label : Text} {others : List Text} {is_cut : Bool} → Become s words (label ∷ others) is_cut → is_label label ≡ false
      → m ≡ Err BadStatement → Goes s words m
  goes_to_no_line : {label : Text} {others : List Text} {is_cut : Bool} → Become s words (label ∷ others) is_cut → is_label label ≡ true
      → Names s label None → m ≡ Err NoLabel → Goes s words m
  goes_with_more : {label : Text} {others : List Text} {is_cut : Bool} {k : ℕ} {fault : Fault} → Become s words (label ∷ others) is_cut
      → is_label label ≡ true → Names s label (Some k) → ended others is_cut ≡ Err fault → m ≡ Err fault → Goes s words m

-- &CALL -label words: the same line is next, once what is to be kept was put aside
pub data Calls (s : Exec) (words : List Text) (m : Step) : Type 0 where
  calls : {label : Text} {values : List Text} {k : ℕ} → Become s words (label ∷ values) false → is_label label ≡ true
      → Names s label (Some k) → m ≡ entered s k values → Calls s words m
  -- its faults from the left: no word, no label, no line with it, a word that is too long
  calls_nowhere : {is_cut : Bool} → Become s words [] is_cut → m ≡ Err (missing is_cut) → Calls s words m
  calls_no_label : {label : Text} {values : List Text} {is_cut : Bool} → Become s words (label ∷ values) is_cut → is_label label ≡ false
      → m ≡ Err BadStatement → Calls s words m
  calls_no_line : {label : Text} {values : List Text} {is_cut : Bool} → Become s words (label ∷ values) is_cut → is_label label ≡ true
      → Names s label None → m ≡ Err NoLabel → Calls s words m
  calls_too_long : {label : Text} {values : List Text} {k : ℕ} → Become s words (label ∷ values) true → is_label label ≡ true
      → Names s label (Some k) → m ≡ Err TooLong → Calls s words m

-- ---- statements

-- the statement `words`, which is no &IF, does the step m in the state s, whose next line is the one behind its own; what an &IF comes
-- to is said by `Guards` (Relation), and no case is here for it
pub data Runs (s : Exec) (words : List Text) (m : Step) : Type 0 where
  -- no words: nothing
  nothing : kind_of words ≡ kind.Nothing → m ≡ Ok (s, Next) → Runs s words m
  -- a name, an equal sign and a right side
  assignment : kind_of words ≡ kind.Assignment → m ≡ assigned s words → Runs s words m
  -- &TRACE: nothing, whatever follows
  trace : kind_of words ≡ kind.Control control.Trace → m ≡ Ok (s, Next) → Runs s words m
  -- &TYPE text: the text is typed
  type_ : kind_of words ≡ kind.Control control.Type → m ≡ still s (typed s (drop 1 words)) → Runs s words m
  -- &BEGTYPE: the lines up to the first that begins with &END are typed, and the next line is the one behind that
  beg_type : kind_of words ≡ kind.Control control.BegType → m ≡ typed_block s (drop 1 words) → Runs s words m
  -- &STACK [FIFO or LIFO] text: the text is stacked at the back or the front
  stack : kind_of words ≡ kind.Control control.Stack → m ≡ still s (stacked s (drop 1 words)) → Runs s words m
  -- &BEGSTACK [FIFO or LIFO]: the lines up to &END are stacked likewise
  beg_stack : kind_of words ≡ kind.Control control.BegStack → m ≡ stacked_block s (drop 1 words) → Runs s words m
  -- &END as a statement: nothing
  end : kind_of words ≡ kind.Control control.End → m ≡ Ok (s, Next) → Runs s words m
  -- &COMMAND text: the text is issued to CMS
  command_word : kind_of words ≡ kind.Control control.Command → m ≡ still s (issued s (drop 1 words)) → Runs s words m
  -- &SUBCOMMAND word text: the text is sent to the extension of the word
  subcommand : kind_of words ≡ kind.Control control.Subcommand → m ≡ still s (subcommanded s (drop 1 words)) → Runs s words m
  -- &PRESUME &SUBCOMMAND word: commands go to the extension of the word; with &COMMAND or alone, to CMS
  presume : kind_of words ≡ kind.Control control.Presume → m ≡ presumed s (drop 1 words) → Runs s words m
  -- &READ ARGS, VARS names, STRING name: a line is asked for
  read_line : kind_of words ≡ kind.Control control.Read → m ≡ read s (drop 1 words) → Runs s words m
  -- &ARGS words: they become the arguments
  args : kind_of words ≡ kind.Control control.Args → m ≡ args_given s (drop 1 words) → Runs s words m
  -- &GOTO -label
  goto : kind_of words ≡ kind.Control control.Goto → Goes s (drop 1 words) m → Runs s words m
  -- &SKIP [n]
  skip : kind_of words ≡ kind.Control control.Skip → m ≡ skipped s (drop 1 words) → Runs s words m
  -- &LOOP n m, &LOOP -label m
  loop : kind_of words ≡ kind.Control control.Loop → m ≡ looped s (drop 1 words) → Runs s words m
  -- &CALL -label words
  call : kind_of words ≡ kind.Control control.Call → Calls s (drop 1 words) m → Runs s words m
  -- &RETURN
  return_ : kind_of words ≡ kind.Control control.Return → m ≡ returned s (drop 1 words) → Runs s words m
  -- &ERROR statement: it is kept unexpanded as the error action; alone, the action is dropped
  error : kind_of words ≡ kind.Control control.Error → m ≡ Ok (with_error s (drop 1 words), Next) → Runs s words m
  -- &EXIT [n]
  exit : kind_of words ≡ kind.Control control.Exit → m ≡ still s (exited s (drop 1 words)) → Runs s words m
  -- any other statement is a command, whose text is issued to CMS
  command : kind_of words ≡ kind.Command → s.destination ≡ Cms → m ≡ still s (issued s words) → Runs s words m
  -- or sent to the extension that &PRESUME named
  presumed_command : {word : Text} → kind_of words ≡ kind.Command → s.destination ≡ Extension word → m ≡ still s (sent_to word s words)
      → Runs s words m

-- the relation says no more than the function that computes it, and no less
abbrev pub RunsAreSteps : Type 0
RunsAreSteps = (s : Exec) (words : List Text) (m : Step) → Runs s words m → m ≡ run_kind s words

-- the function that runs a statement that is no &IF says what the relation says
abbrev pub StepsAreRuns : Type 0
StepsAreRuns = (s : Exec) (words : List Text) → is_if words ≡ false → Runs s words (run_kind s words)
