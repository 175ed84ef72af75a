-- What follows of runs of the editor: the buffer is the fold of `edit` over its subcommands, and SAVE puts exactly
-- it.
use Rattle.std.specs.Prelude.{◌≡◌, ◌⊎◌, true, List, [], ◌∷◌, ◌++◌, length, Some, ℤ, ⊤}
use Rattle.cms_text.specs.Texts.{Text}
use Rattle.cms_line.specs.Tokens.{tokens_of}
use Rattle.cms_model.specs.Objects.{Content, Reply, Start, Sub, Went, Got, Refused, Test, Want, Say, Ask, Get, Put, Ended}
use Rattle.cms_ext.specs.Exact.{exactly}
use Rattle.cms_edit.specs.declared.editor.Editor.{Editor}
use Rattle.cms_edit.specs.declared.editor.Phase.TheVariants.{Idle}
use Rattle.cms_edit.specs.declared.target.Target.{Target}
use Rattle.cms_edit.specs.Buffers.{Buffer}
use Rattle.cms_edit.specs.Edits.{edit}
use Rattle.cms_edit.specs.Editors.{held, step}

-- a turn: what the editor was told, and what it wanted
pub record Exchange : Type 0 where
  pub told : Reply
  pub want : Want

-- what a session tells where this was wanted last: it does what is wanted, and begins a run where the last is done, which loads no file
abbrev pub Follows : Want → Reply → Type 0
Follows (Say lines) reply = reply ≡ Went
Follows Ask reply = (line : Text) × (reply ≡ Got line)
Follows (Get name n) reply = ⊥
Follows (Put name n records) reply = (reply ≡ Went) ⊎ ((code : ℤ) × (reply ≡ Refused code))
Follows (Ended code) reply =
    ((text : Text) × (reply ≡ Sub text)) ⊎ ((line : Text) × (reply ≡ Start line) × (length (tokens_of line) ≡ 1))

-- turns one after another by a test, from a content behind a want to a content
abbrev pub Talk : Test → Want → Content → List Exchange → Content → Type 0
Talk does last before [] after = before ≡ after
Talk does last before (x ∷ xs) after =
    Follows last x.told
    × ((between : Content) × (does before x.told x.want between ≡ true) × Talk does x.want between xs after)

-- the reply to a put that was the last want
abbrev pub reply_in : List Exchange → Reply
reply_in [] = Went
reply_in (x ∷ xs) = x.told

-- a subcommand with the reply to its put
pub record Given : Type 0 where
  pub line : Text
  pub reply : Reply

-- the subcommand in what the editor is told, with the reply to its put: a text of a procedure, or a line of the loop but the empty one
abbrev pub given_by : Reply → Reply → List Given
given_by (Sub text) reply = record { line = text; reply = reply } ∷ []
given_by (Got []) reply = []
given_by (Got (byte ∷ bytes)) reply = record { line = byte ∷ bytes; reply = reply } ∷ []
given_by _ reply = []

-- the subcommands in turns
abbrev pub subcommands : List Exchange → List Given
subcommands [] = []
subcommands (x ∷ xs) = given_by x.told (reply_in xs) ++ subcommands xs

-- the buffer behind subcommands
abbrev pub folded : Buffer → List Given → Buffer
folded b [] = b
folded b (g ∷ gs) = folded (edit b g.line g.reply).buffer gs

-- where the buffer is put it is exactly this one, and goes to this file
abbrev pub Puts : Target → Buffer → Want → Type 0
Puts t b (Put name n records) = (name ≡ t.name) × (n ≡ t.letter) × (records ≡ b.lines)
Puts t b _ = ⊤

-- each put among turns is of the buffer as the subcommands up to it have left it
abbrev pub PutsAre : Target → Buffer → List Exchange → Type 0
PutsAre t b [] = ⊤
PutsAre t b (x ∷ xs) =
    let now = folded b (given_by x.told (reply_in xs)) in Puts t now x.want × PutsAre t now xs

-- a content is that of an editor with this file and buffer
pub record Stands (t : Target) (b : Buffer) (after : Content) : Type 0 where
  pub editor : Editor
  pub content : after ≡ held editor
  pub file : editor.file ≡ Some t
  pub buffer : editor.buffer ≡ b

-- behind turns of an editor with a file, none of which loads one, the buffer and the current line are the fold of `edit` over the
-- subcommands and the replies to their puts, and each put is of exactly that buffer
abbrev pub FoldsEdits : Type 0
FoldsEdits =
    (e : Editor) (t : Target) (code : ℤ) (xs : List Exchange) (after : Content)
    → e.phase ≡ Idle → e.file ≡ Some t → Talk (exactly step) (Ended code) (held e) xs after
    → Stands t (folded e.buffer (subcommands xs)) after × PutsAre t e.buffer xs
