-- &CALL and &RETURN (VM/SP EXEC 2 Reference, &CALL and &RETURN).
use Rattle.std.specs.Prelude.{ℕ, ◌+◌, nat_le, Bool, if◌then◌else◌, List, [], ◌∷◌, length, Ok, Err}
use Rattle.std.specs.FinMap.{empty, len}
use Rattle.cms_fields.specs.Steps.{◌>>=◌, ◌>>◌}
use Rattle.cms_text.specs.Texts.{Text}
use Rattle.exec2_run.specs.Jumps.{place_named}
use Rattle.exec2_run.specs.Given.{seen}
use Rattle.exec2_run.specs.State.{Exec, Step}
use Rattle.exec2_run.specs.Values.{ended, missing, operands, whole}
use Rattle.exec2_parse.specs.Variables.{Vars}
use Rattle.exec2_run.specs.Variables.{all_arguments, numbered, room_for}
use Rattle.exec2_run.specs.declared.calls.Call.{Call}
use Rattle.exec2_run.specs.declared.want.Want.TheVariants.{Next}
use Rattle.exec2_run.specs.declared.fault.Fault.TheVariants.{NoCall, TooDeep}

-- the line, the open loops and the arguments are put aside, so that no loop is open then, and others are the arguments
abbrev pub put_aside : Exec → Vars → ℕ → Exec
put_aside s arguments count = record (all_arguments s arguments count) {
  loops = [];
  calls = record { line = s.line; loops = s.loops; arguments = s.variables.arguments; count = s.count } ∷ s.calls;
}

-- at most 100 calls are open
unfoldable pub entered : Exec → ℕ → List Text → Step
entered s place values =
    if nat_le 100 (length s.calls) then Err TooDeep
    else (do
      room_for (len s.variables.others + length values)
      Ok (record (put_aside s (numbered 1 values empty) (length values)) { next = place }, Next))

-- the label's line is next, and the words are the arguments
abbrev pub called_at : Exec → Text → List Text → Bool → Step
called_at s label values is_cut = do
  place ← place_named s label
  whole is_cut
  entered s place values

-- &CALL -label words: the label is found as by &GOTO, and the words become the arguments
abbrev pub called_by : Exec → List Text → Bool → Step
called_by s [] is_cut = Err (missing is_cut)
called_by s (label ∷ values) is_cut = called_at s label values is_cut

-- &CALL
unfoldable pub called : Exec → List Text → Step
called s words = called_by s (operands (seen s) words).words (operands (seen s) words).is_cut

-- &RETURN: goes to the line behind the last &CALL with what was put aside
abbrev pub gone_back : Exec → List Call → Step
gone_back s [] = Err NoCall
gone_back s (call ∷ calls) = do
  room_for (len s.variables.others + len call.arguments)
  Ok (record (all_arguments s call.arguments call.count) { next = call.line; loops = call.loops; calls = calls }, Next)

-- the last call is left; or none is open
abbrev pub returned_by : Exec → List Text → List Call → Step
returned_by s words [] = Err NoCall
returned_by s words (call ∷ calls) = do
  ended (operands (seen s) words).words (operands (seen s) words).is_cut
  gone_back s (call ∷ calls)

-- &RETURN
unfoldable pub returned : Exec → List Text → Step
returned s words = returned_by s words s.calls
