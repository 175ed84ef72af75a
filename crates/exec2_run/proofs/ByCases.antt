-- The relation of statements and the function that computes it.
use Rattle.std.proofs.Common.{◌≡◌, ◌∙◌, List, refl, sym, ap, drop}
use Rattle.std.specs.Prelude.{false}
use Rattle.cms_text.specs.Texts.{Text}
use Rattle.exec2_run.specs.Cases.{Runs, RunsAreSteps, StepsAreRuns, nothing, assignment, command, trace, type_, beg_type, stack, beg_stack, end, command_word, subcommand, presume, presumed_command, read_line, args, goto, skip, loop, call, return_, error, exit}
use Rattle.exec2_run.specs.Destinations.{sent, sent_to}
use Rattle.exec2_parse.specs.Kinds.{guards, kind_of}
use Rattle.exec2_run.specs.Outputs.{issued}
use Rattle.exec2_run.specs.State.{Exec, Step, still}
use Rattle.exec2_run.specs.Steps.{run_by, run_control, run_kind}
use Rattle.exec2_run.specs.declared.destination.Destination.{Destination}
use Rattle.exec2_run.specs.declared.destination.Destination.TheVariants.{Cms, Extension}
use Rattle.exec2_parse.specs.declared.kind.Control.{Control}
use Rattle.exec2_parse.specs.declared.kind.Control.TheVariants as control
use Rattle.exec2_parse.specs.declared.kind.Kind.{Kind}
use Rattle.exec2_parse.specs.declared.kind.Kind.TheVariants as kind
use Rattle.exec2_run.proofs.ByLabels.{calls_are, calls_of, goes_are, goes_of}

-- ---- statements

moved : (s : Exec) (words : List Text) (k : Kind) (m : Step) → kind_of words ≡ k → m ≡ run_by k s words → m ≡ run_kind s words
unfolding run_kind
moved s words k m is e = e ∙ ap (λ (x : Kind). run_by x s words) (sym is)

-- a command goes to CMS, or to the extension that &PRESUME named
to_cms : (s : Exec) (words : List Text) → s.destination ≡ Cms → sent s words ≡ issued s words
unfolding sent issued
to_cms s words goes = rw goes refl

to_extension : (s : Exec) (words : List Text) (word : Text) → s.destination ≡ Extension word → sent s words ≡ sent_to word s words
unfolding sent
to_extension s words word goes = rw goes refl

pub runs_are_steps : RunsAreSteps
unfolding run_control
runs_are_steps s words m (nothing is e) = moved s words kind.Nothing m is e
runs_are_steps s words m (assignment is e) = moved s words kind.Assignment m is e
runs_are_steps s words m (command is goes e) = moved s words kind.Command m is (e ∙ ap (still s) (sym (to_cms s words goes)))
runs_are_steps s words m (presumed_command {word = word} is goes e) =
    moved s words kind.Command m is (e ∙ ap (still s) (sym (to_extension s words word goes)))
runs_are_steps s words m (trace is e) = moved s words (kind.Control control.Trace) m is e
runs_are_steps s words m (type_ is e) = moved s words (kind.Control control.Type) m is e
runs_are_steps s words m (beg_type is e) = moved s words (kind.Control control.BegType) m is e
runs_are_steps s words m (stack is e) = moved s words (kind.Control control.Stack) m is e
runs_are_steps s words m (beg_stack is e) = moved s words (kind.Control control.BegStack) m is e
runs_are_steps s words m (end is e) = moved s words (kind.Control control.End) m is e
runs_are_steps s words m (command_word is e) = moved s words (kind.Control control.Command) m is e
runs_are_steps s words m (subcommand is e) = moved s words (kind.Control control.Subcommand) m is e
runs_are_steps s words m (presume is e) = moved s words (kind.Control control.Presume) m is e
runs_are_steps s words m (read_line is e) = moved s words (kind.Control control.Read) m is e
runs_are_steps s words m (args is e) = moved s words (kind.Control control.Args) m is e
runs_are_steps s words m (goto is g) = moved s words (kind.Control control.Goto) m is (goes_are g)
runs_are_steps s words m (skip is e) = moved s words (kind.Control control.Skip) m is e
runs_are_steps s words m (loop is e) = moved s words (kind.Control control.Loop) m is e
runs_are_steps s words m (call is c) = moved s words (kind.Control control.Call) m is (calls_are c)
runs_are_steps s words m (return_ is e) = moved s words (kind.Control control.Return) m is e
runs_are_steps s words m (error is e) = moved s words (kind.Control control.Error) m is e
runs_are_steps s words m (exit is e) = moved s words (kind.Control control.Exit) m is e

by_control : (s : Exec) (words : List Text) (c : Control) → kind_of words ≡ kind.Control c → guards (kind.Control c) ≡ false
    → Runs s words (run_by (kind.Control c) s words)
unfolding run_control
by_control s words control.Trace is not_if = trace is refl
by_control s words control.Type is not_if = type_ is refl
by_control s words control.BegType is not_if = beg_type is refl
by_control s words control.Stack is not_if = stack is refl
by_control s words control.BegStack is not_if = beg_stack is refl
by_control s words control.End is not_if = end is refl
by_control s words control.Command is not_if = command_word is refl
by_control s words control.Subcommand is not_if = subcommand is refl
by_control s words control.Presume is not_if = presume is refl
by_control s words control.Read is not_if = read_line is refl
by_control s words control.Args is not_if = args is refl
by_control s words control.If is not_if = absurd (cc)
by_control s words control.Goto is not_if = goto is (goes_of s (drop 1 words))
by_control s words control.Skip is not_if = skip is refl
by_control s words control.Loop is not_if = loop is refl
by_control s words control.Call is not_if = call is (calls_of s (drop 1 words))
by_control s words control.Return is not_if = return_ is refl
by_control s words control.Error is not_if = error is refl
by_control s words control.Exit is not_if = exit is refl

as_command : (s : Exec) (words : List Text) (d : Destination) → s.destination ≡ d → kind_of words ≡ kind.Command
    → Runs s words (still s (sent s words))
as_command s words Cms goes is = command is goes (ap (still s) (to_cms s words goes))
as_command s words (Extension word) goes is = presumed_command is goes (ap (still s) (to_extension s words word goes))

by_kind : (s : Exec) (words : List Text) (k : Kind) → kind_of words ≡ k → guards k ≡ false → Runs s words (run_by k s words)
by_kind s words kind.Nothing is not_if = nothing is refl
by_kind s words kind.Assignment is not_if = assignment is refl
by_kind s words (kind.Control c) is not_if = by_control s words c is not_if
by_kind s words kind.Command is not_if = as_command s words s.destination refl is

pub steps_are_runs : StepsAreRuns
unfolding run_kind
steps_are_runs s words not_if = by_kind s words (kind_of words) refl not_if
