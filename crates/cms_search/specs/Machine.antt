-- The machine's state: what each command takes and gives back. No block occurs here.
use Rattle.std.specs.Prelude.{ℕ, ℤ, pos, Bool, not, if◌then◌else◌, ◌==◌, ◌&&◌, List, [], ◌∷◌, ◌++◌, Option, Some, None, slice_get}
use Rattle.std.specs.Option.{option_and_then}
use Rattle.std.specs.FinMap.{FinMap}
use Rattle.std.specs.Ordering.{nat_cmp}
use Rattle.std.specs.Cmp.Lexicographic.{slice_cmp}
use Rattle.cms_names.specs.declared.name.Name.{Name}
use Rattle.cms_fields.specs.declared.time.Moment.{Moment}
use Rattle.cms_fields.specs.Moments.{moment_of}
use Rattle.cms_model.specs.Minidisks.{File, Minidisk, Volume, Not}
use Rattle.cms_model.specs.Changes.{file_named}
use Rattle.cms_model.specs.Slots.{Slot, Settled, Doubt}
use Rattle.cms_model.specs.Steps.{Step, Outcome, units_after}
use Rattle.cms_model.specs.Acts.{Act, Done, Out, typed_line}
use Rattle.cms_line.specs.declared.message.Message.{Message}
use Rattle.cms_line.specs.Messages.{message_text}
use Rattle.cms_search.specs.declared.state.Device.{Device}

-- ---- the state

-- the disk of a letter: its unit, the letter whose extension it is, and whether it may only be read
pub record Letter : Type 0 where
  pub unit : ℕ
  pub parent : Option ℕ
  pub read_only : Bool

-- reading places by device and name: the number of records in front of each
abbrev pub Places : Type 0
Places = FinMap (slice_cmp nat_cmp) ℕ

-- what a reading place stands under: a device and a name
abbrev pub place_key : ℕ → Name → List ℕ
place_key vdev name = vdev ∷ (name.file ++ 0 ∷ name.kind)

-- what the machine knows: of each unit what is on it and its device; the 26 letters, A first; the stacked lines, the next one first;
-- the reading places; by how many seconds civil time is ahead of UTC; the moment of the last turn; and how many turns are left
pub record Machine : Type 0 where
  pub units : List Slot
  pub devices : List Device
  pub letters : List (Option Letter)
  pub stack : List (List ℕ)
  pub places : Places
  pub offset : ℤ
  pub moment : Moment
  pub left : ℕ

-- with a turn spent, at the seconds that the clock told
abbrev pub turned : Machine → ℕ → ℤ → Machine
turned s left seconds = record s { moment = moment_of seconds s.offset; left = left }

-- after a device step
abbrev pub after_step : Machine → Step → Outcome → Machine
after_step s step o = record s { units = units_after s.units step o }

-- ---- what is seen on a letter

-- the disk of a letter, by its number: A is 0
abbrev pub letter_at : Machine → ℕ → Option Letter
letter_at s n = option_and_then (λ letter. letter) (slice_get s.letters n)

-- the minidisk of a unit
abbrev pub minidisk_in : Option Slot → Option Minidisk
minidisk_in (Some (Settled (Volume m))) = Some m
minidisk_in (Some (Settled (Not k))) = None
minidisk_in (Some (Doubt before after side)) = None
minidisk_in None = None

-- a file of mode number 0 isn't seen on a read-only disk
abbrev pub is_seen : Letter → File → Bool
is_seen disk f = not (disk.read_only && (f.number == 0))

-- the file of a name that is seen
abbrev pub seen_file : Letter → Name → Minidisk → Option File
seen_file disk name m = option_and_then (λ f. if is_seen disk f then Some f else None) (file_named name m.files)

-- ---- how a command ends

-- with the machine that it leaves and a return code; or no turn is left for a line that it asks for
pub data Course : Type 0 where
  Went : Machine → ℤ → Course
  OutOfTurns : Course

-- a message, and the code
abbrev pub refusal : Machine → Message → ℕ → Act Course
refusal s message code = Out (typed_line (message_text message)) (Done (Went s (pos code)))

-- each record is a line
unfoldable pub typing : {R : Type 0} → List (List ℕ) → Act R → Act R
typing [] next = next
typing (text ∷ more) next = Out (typed_line text) (typing more next)
