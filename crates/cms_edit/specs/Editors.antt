-- The editor: what it holds, and what it wants when it is told something.
use Rattle.std.specs.Prelude.{◌≡◌, ℕ, ◌==◌, nat_le, Bool, true, false, ◌&&◌, ◌||◌, if◌then◌else◌, List, [], ◌∷◌, ◌++◌, length, take, drop, codes, Option, Some, None, Result, Ok, Err, IfOk, OnErr, ℤ, pos}
use Rattle.std.specs.List.{list_all, slice_index_or}
use Rattle.std.specs.Ordering.{int_eq}
use Rattle.std.specs.declared.alloc.AllocError.{AllocError}
use Rattle.cms_text.specs.Limits.{longest_text}
use Rattle.cms_text.specs.Texts.{Text, coded}
use Rattle.cms_fields.specs.Steps.{◌>>=◌, ◌>>◌}
use Rattle.cms_line.specs.Tokens.{tokens_of}
use Rattle.cms_line.specs.declared.token.Token.{Token}
use Rattle.cms_operands.specs.Operands.{ended, given_or, letter, name, needed}
use Rattle.cms_operands.specs.declared.refusal.Refusal.{Refusal}
use Rattle.cms_model.specs.Objects.{Content, Reply, Start, Sub, Went, Got, Records, Refused, Want, Say, Ask, Get, Put, Ended}
use Rattle.cms_ext.specs.Exact.{Move}
use Rattle.cms_ext.specs.Replies.{MayBe, is_code, want_of}
use Rattle.cms_ext.specs.declared.extension.ExtWant.{ExtWant}
use Rattle.cms_edit.specs.declared.editor.Editor.{Editor}
use Rattle.cms_edit.specs.declared.editor.Phase.{Phase}
use Rattle.cms_edit.specs.declared.editor.Phase.TheVariants.{Idle, Loading, Asking, LoopSaid, Said, Unfit, Saving, LoopSaving}
use Rattle.cms_edit.specs.declared.target.Target.{Target}
use Rattle.cms_edit.specs.Buffers.{Buffer, most_lines}
use Rattle.cms_edit.specs.Edits.{Edited, edit_told, not_found, unable}
use Rattle.cms_edit.specs.Subcommands.{Subcommand, End, subcommand_of}

-- ---- what it holds

-- the number of a phase
abbrev pub phase_number : Phase → ℕ
phase_number Idle = 0
phase_number Loading = 1
phase_number Asking = 2
phase_number LoopSaid = 3
phase_number Said = 4
phase_number Unfit = 5
phase_number (Saving line) = 6
phase_number (LoopSaving line) = 7

-- the subcommand whose put isn't answered yet
abbrev pub pending : Phase → Text
pending Idle = []
pending Loading = []
pending Asking = []
pending LoopSaid = []
pending Said = []
pending Unfit = []
pending (Saving line) = line
pending (LoopSaving line) = line

-- a file: the letter of its disk, the length of its name, its name and its type
abbrev pub file_numbers : Option Target → List ℕ
file_numbers None = []
file_numbers (Some t) = t.letter ∷ length t.name.file ∷ (t.name.file ++ t.name.kind)

-- a head line: the phase, the current line's number and the file; then the subcommand whose put isn't answered yet;
-- then the buffer's lines
unfoldable pub held : Editor → Content
held e =
    (phase_number e.phase ∷ e.buffer.current ∷ file_numbers e.file)
    ∷ pending e.phase ∷ e.buffer.lines

-- the phase of a number
abbrev pub phase_of : ℕ → Text → Phase
phase_of number line =
    slice_index_or
    (Idle ∷ Loading ∷ Asking ∷ LoopSaid ∷ Said ∷ Unfit ∷ Saving line ∷ LoopSaving line ∷ []) number Idle

-- the file that such numbers tell
abbrev pub file_in : List ℕ → Option Target
file_in [] = None
file_in (n ∷ []) = None
file_in (n ∷ size ∷ bytes) =
    Some (record { name = record { file = take size bytes; kind = drop size bytes }; letter = n })

-- no lines
abbrev pub no_lines : Buffer
no_lines = record { lines = []; current = 0 }

-- no file, and nothing runs
abbrev pub new_editor : Editor
new_editor = record { phase = Idle; file = None; buffer = no_lines }

-- the editor that holds a content
unfoldable pub editor_of : Content → Editor
editor_of ((number ∷ current ∷ numbers) ∷ line ∷ lines) = record {
  phase = phase_of number line;
  file = file_in numbers;
  buffer = record { lines = lines; current = current };
}
editor_of _ = new_editor

-- ---- what it wants

-- what it wants, and what it is then
pub record Answered : Type 0 where
  pub want : Want
  pub after : Editor

-- this is wanted, and only the phase is another then
abbrev pub wanting : Want → Phase → Editor → Answered
wanting want phase e = record { want = want; after = record e { phase = phase } }

-- a return code; a number that can be none becomes that of what can't be done
abbrev pub within : ℤ → ℤ
within code = if is_code code then code else pos unable

-- its run ends
abbrev pub done : Editor → ℤ → Answered
done e code = wanting (Ended (within code)) Idle e

-- its run ends with the code of what can't be done
abbrev pub not_done : Editor → Answered
not_done e = done e (pos unable)

-- the next subcommand is asked for
abbrev pub asks : Editor → Answered
asks e = wanting Ask Asking e

-- lines are said
abbrev pub says : Editor → List Text → Phase → Answered
says e lines phase = wanting (Say lines) phase e

-- the buffer is put to the file
abbrev pub puts : Editor → Target → Phase → Answered
puts e t phase = wanting (Put t.name t.letter e.buffer.lines) phase e

-- the editor with another buffer
abbrev pub with_buffer : Editor → Buffer → Editor
with_buffer e b = record e { buffer = b }

-- ---- a line of EDIT

-- the file that EDIT's line names; its disk is A where no letter is given
unfoldable pub target_of : List Token → Result Target Refusal
target_of words = do
  file ← needed words 1
  file ← name 1 file
  kind ← needed words 2
  kind ← name 2 kind
  n ← letter 3 (given_or words 3 (0xC1 ∷ []))
  ended words 4
  Ok (record { name = record { file = file; kind = kind }; letter = n })

-- the subcommands are asked for, if there is a file
abbrev pub opened : Editor → Option Target → Answered
opened e None = not_done e
opened e (Some t) = asks e

-- the file of a line is asked for; what was edited before is gone
abbrev pub loading : Editor → Result Target Refusal → Answered
loading e (Err why) = not_done e
loading e (Ok t) = record {
  want = Get t.name t.letter;
  after = record { phase = Loading; file = Some t; buffer = no_lines };
}

-- the word alone, or with a file
abbrev pub started : Editor → List Token → Answered
started e words = if length words == 1 then opened e e.file else loading e (target_of words)

-- ---- a file that is loaded

-- records of at most 255 bytes
abbrev pub are_short : List Text → Bool
are_short records = list_all (λ line. nat_le (length line) longest_text) records

-- at most 10,000 of them
abbrev pub fits : List Text → Bool
fits records = nat_le (length records) most_lines && are_short records

-- what is said of a file that doesn't fit
abbrev pub unfit_text : Text
unfit_text = coded (codes "?EDIT: file does not fit")

-- the code of a file that doesn't fit
abbrev pub unfit : ℕ
unfit = 32

-- the place before its first line is current
abbrev pub loaded : Editor → List Text → Answered
loaded e records =
    if fits records then done (with_buffer e (record { lines = records; current = 0 })) (pos 0)
    else says (record e { file = None }) (unfit_text ∷ []) Unfit

-- a file that isn't there is a new one; with another refusal there is none
abbrev pub unloaded : Editor → ℤ → Answered
unloaded e code =
    if int_eq code (pos not_found) then done e code else done (record e { file = None }) code

-- ---- subcommands

-- a line that isn't done
abbrev pub complaint : Text → Text
complaint line = take longest_text (coded (codes "?EDIT: ") ++ line)

-- what comes of a subcommand that a procedure sends
abbrev pub sent : Editor → Target → Text → Edited → Answered
sent e t line edited =
    let now = with_buffer e edited.buffer in
    if edited.put then puts now t (Saving line)
    else (if length edited.said == 0 then done now edited.code else says now edited.said Said)

-- the next line is asked for, behind one that isn't done
abbrev pub goes_on : Editor → Text → ℤ → Answered
goes_on e line code =
    if int_eq code (pos 0) then asks e else says e (complaint line ∷ []) LoopSaid

-- what comes of a line that was asked for
abbrev pub taken : Editor → Target → Text → Edited → Answered
taken e t line edited =
    let now = with_buffer e edited.buffer in
    if edited.put then puts now t (LoopSaving line)
    else (if length edited.said == 0 then goes_on now line edited.code else says now edited.said LoopSaid)

-- the reply to a put tells this code
abbrev pub saved : Editor → Edited → Answered
saved e edited = done (with_buffer e edited.buffer) edited.code

-- the same in the loop, which goes on
abbrev pub loop_saved : Editor → Text → Edited → Answered
loop_saved e line edited = goes_on (with_buffer e edited.buffer) line edited.code

-- an empty line ends the loop, and END
abbrev pub is_end : Option Subcommand → Bool
is_end None = false
is_end (Some End) = true
is_end (Some other) = false

-- the line ends the loop
abbrev pub ends : Text → Bool
ends line = (length line == 0) || is_end (subcommand_of line)

-- ---- what it is told

-- a text that a procedure sends
abbrev pub told_text : Editor → Option Target → Text → Answered
told_text e None text = not_done e
told_text e (Some t) text = sent e t text (edit_told e.buffer text (pos 0))

-- a line that was asked for
abbrev pub told_line : Editor → Option Target → Text → Answered
told_line e None line = not_done e
told_line e (Some t) line =
    if ends line then done e (pos 0) else taken e t line (edit_told e.buffer line (pos 0))

-- a line that came, which is asked for in the loop alone
abbrev pub got : Editor → Phase → Text → Answered
got e Asking line = told_line e e.file line
got e other line = not_done e

-- the reply to a put tells a code
abbrev pub put_answered : Editor → Phase → ℤ → Answered
put_answered e (Saving line) told = saved e (edit_told e.buffer line told)
put_answered e (LoopSaving line) told = loop_saved e line (edit_told e.buffer line told)
put_answered e other told = not_done e

-- what it wanted is done
abbrev pub went : Editor → Phase → Answered
went e LoopSaid = asks e
went e Said = done e (pos 0)
went e Unfit = done e (pos unfit)
went e other = put_answered e other (pos 0)

-- what it wanted was refused
abbrev pub refused : Editor → Phase → ℤ → Answered
refused e Loading code = unloaded e code
refused e other code = put_answered e other code

-- the records of a file
abbrev pub filed : Editor → Phase → List Text → Answered
filed e Loading records = loaded e records
filed e other records = not_done e

-- what it wants, being told this
unfoldable pub answered : Editor → Reply → Answered
answered e (Start line) = started e (tokens_of line)
answered e (Sub text) = told_text e e.file text
answered e Went = went e e.phase
answered e (Got line) = got e e.phase line
answered e (Records records) = filed e e.phase records
answered e (Refused code) = refused e e.phase code

-- the editor's step from a content
abbrev pub move_of : Answered → Move
move_of a = record { want = a.want; after = held a.after }

-- what the editor wants and holds, told this at a content
unfoldable pub step : Content → Reply → Move
step content reply = move_of (answered (editor_of content) reply)

-- ---- what a call says

-- it wants this, which may be met, and is this then
pub record Wants (a : Answered) (after : Editor) (want : ExtWant) : Type 0 where
  pub wants : want_of want ≡ a.want
  pub may : MayBe want
  pub holds : after ≡ a.after

-- the same, or without memory it is as it was
pub record Comes (before : Editor) (a : Answered) (after : Editor) (result : Result ExtWant AllocError) : Type 0 where
  pub comes : IfOk result (Wants a after)
  pub kept : OnErr result (after ≡ before)

-- an edit comes to this buffer and this code
abbrev pub Codes : Edited → Buffer → ℤ → Type 0
Codes edited b code = (edited.buffer ≡ b) × (edited.code ≡ code)
