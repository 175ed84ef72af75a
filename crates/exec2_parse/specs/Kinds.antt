-- What a statement is, by its words as they stand (VM/SP EXEC 2 Reference, kinds of statements).
use Rattle.std.specs.Prelude.{ℕ, ◌==◌, Bool, true, false, ◌&&◌, if◌then◌else◌, List, [], ◌∷◌, slice_index, codes, find, Option, Some, None}
use Rattle.std.specs.Str.{bytes_eq}
use Rattle.cms_text.specs.Texts.{Text, is_keyword}
use Rattle.exec2_parse.specs.declared.kind.Control.{Control}
use Rattle.exec2_parse.specs.declared.kind.Control.TheVariants as control
use Rattle.exec2_parse.specs.declared.kind.Kind.{Kind}
use Rattle.exec2_parse.specs.declared.kind.Kind.TheVariants as kind

-- all control words
abbrev pub controls : List Control
controls = control.Trace ∷ control.Type ∷ control.BegType ∷ control.Stack ∷ control.BegStack ∷ control.End ∷ control.Command
    ∷ control.Subcommand ∷ control.Presume ∷ control.Read ∷ control.Args ∷ control.If ∷ control.Goto ∷ control.Skip
    ∷ control.Loop ∷ control.Call ∷ control.Return ∷ control.Error ∷ control.Exit ∷ []

-- a control word as it is written
abbrev pub name_of : Control → List ℕ
name_of control.Trace = codes "&TRACE"
name_of control.Type = codes "&TYPE"
name_of control.BegType = codes "&BEGTYPE"
name_of control.Stack = codes "&STACK"
name_of control.BegStack = codes "&BEGSTACK"
name_of control.End = codes "&END"
name_of control.Command = codes "&COMMAND"
name_of control.Subcommand = codes "&SUBCOMMAND"
name_of control.Presume = codes "&PRESUME"
name_of control.Read = codes "&READ"
name_of control.Args = codes "&ARGS"
name_of control.If = codes "&IF"
name_of control.Goto = codes "&GOTO"
name_of control.Skip = codes "&SKIP"
name_of control.Loop = codes "&LOOP"
name_of control.Call = codes "&CALL"
name_of control.Return = codes "&RETURN"
name_of control.Error = codes "&ERROR"
name_of control.Exit = codes "&EXIT"

-- the control word that a word is, in capital or small letters
unfoldable pub control_of : Text → Option Control
control_of word = find (λ c. is_keyword (name_of c) word) controls

-- the kind of a control word, else a command
abbrev pub by_control : Option Control → Kind
by_control (Some c) = kind.Control c
by_control None = kind.Command

-- the kind of a statement by its first word
abbrev pub control_or_command : Text → Kind
control_or_command word = by_control (control_of word)

-- a name, and an equal sign behind it
abbrev pub is_assignment : Text → Text → Bool
is_assignment name sign = (slice_index name 0 == 0x50) && bytes_eq sign (0x7E ∷ [])

-- no words, an assignment, a control word, else a command
unfoldable pub kind_of : List Text → Kind
kind_of [] = kind.Nothing
kind_of (word ∷ []) = control_or_command word
kind_of (word ∷ second ∷ words) = if is_assignment word second then kind.Assignment else control_or_command word

-- the statement is an &IF
abbrev pub guards : Kind → Bool
guards kind.Nothing = false
guards kind.Assignment = false
guards kind.Command = false
guards (kind.Control control.If) = true
guards (kind.Control control.Trace) = false
guards (kind.Control control.Type) = false
guards (kind.Control control.BegType) = false
guards (kind.Control control.Stack) = false
guards (kind.Control control.BegStack) = false
guards (kind.Control control.End) = false
guards (kind.Control control.Command) = false
guards (kind.Control control.Subcommand) = false
guards (kind.Control control.Presume) = false
guards (kind.Control control.Read) = false
guards (kind.Control control.Args) = false
guards (kind.Control control.Goto) = false
guards (kind.Control control.Skip) = false
guards (kind.Control control.Loop) = false
guards (kind.Control control.Call) = false
guards (kind.Control control.Return) = false
guards (kind.Control control.Error) = false
guards (kind.Control control.Exit) = false

-- an &IF
abbrev pub is_if : List Text → Bool
is_if words = guards (kind_of words)
