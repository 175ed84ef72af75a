-- Files that are handed out.
use Rattle.std.specs.Prelude.{◌≡◌, ◌≤◌, ℕ, Bool, true, false, if◌then◌else◌, List, [], IsSome, slice_get, Option, None, Some, option_and_then, Result, Ok, Err}
use Rattle.std.specs.List.{list_all}
use Rattle.std.specs.Option.{ForSome, option_map}
use Rattle.cms_journal.specs.Told.{Told}
use Rattle.cms_line.specs.Typed.{TypedPart, TypedTo}
use Rattle.cms_names.specs.declared.name.Name.{Name}
use Rattle.cms_model.specs.Changes.{file_named}
use Rattle.cms_model.specs.Minidisks.{File, Minidisk}
use Rattle.cms_held.specs.HeldVolumes.{HeldVolume}
use Rattle.cms_edf.specs.FilesTold.{infos_in}
use Rattle.cms_edf.specs.declared.held.FileInfo.{FileInfo}
use Rattle.cms_disk.specs.Disks.{Accessed, place_of}
use Rattle.mini_forms.specs.Output.{is_line, written}
use Rattle.mini_forms.specs.declared.form.Form.{Form}
use Rattle.mini_forms.specs.declared.form.Form.TheVariants.{Text, Binary, Records}
use Rattle.mini_host.specs.Files.{Files}
use Rattle.mini_host.specs.Files as files
use Rattle.mini_work.specs.HostTold.{Noted}
use Rattle.mini_work.specs.declared.fault.Fault.{Fault}
use Rattle.mini_work.specs.declared.handed_file.Way.{Way}
use Rattle.mini_work.specs.declared.handed_file.Way.TheVariants as ways
use Rattle.mini_work.specs.declared.status.Status.{Status}
use Rattle.mini_work.specs.declared.status.Status.TheVariants as status

-- ---- what a form shows of a file

-- a form can show these records: as lines where none of them has a line's end within
abbrev pub can_show : Form → List (List ℕ) → Bool
can_show Text records = list_all is_line records
can_show Binary records = true
can_show Records records = true

-- what it writes of a file's records, if it can show them
abbrev pub shown_of : Form → File → Option (List ℕ)
shown_of form f = if can_show form f.records then Some (written form f.format f.records) else None

-- of the file of a name
unfoldable pub shown_in : Form → Minidisk → Name → Option (List ℕ)
shown_in form m name = option_and_then (shown_of form) (file_named name m.files)

-- this is told of the file of a name
abbrev pub IsInfoOf : Name → HeldVolume → FileInfo → Type 0
IsInfoOf name v info = (k : ℕ) × (place_of name v ≡ Some k) × (slice_get (infos_in v) k ≡ Some info)

-- ---- where it goes

-- a host file is begun, where the host tells its files
abbrev pub IsBegun : Option Files → Type 0
IsBegun told = ForSome told (λ f. IsSome f.draft)

-- bytes went that way: they were typed, or written behind those of the host file that is begun
abbrev pub PutsOut : Way → Told → Told → Option Files → Option Files → List ℕ → Type 0
PutsOut ways.Output old new h k bytes = TypedTo old new bytes [] × (k ≡ h)
PutsOut ways.File old new h k bytes = (new ≡ old) × (k ≡ option_map (files.written bytes) h)

-- or a front of them
abbrev pub PutsPart : Way → Told → Told → List ℕ → Type 0
PutsPart ways.Output old new bytes = TypedPart old new bytes
PutsPart ways.File old new bytes = new ≡ old

-- bytes went that way; or where that failed a front of them did
abbrev pub Puts : {A : Type 0} → Way → Told → Told → Option Files → Option Files → List ℕ → Result A Fault → Type 0
Puts way old new h k bytes (Ok x) = PutsOut way old new h k bytes
Puts way old new h k bytes (Err why) = PutsPart way old new bytes

-- a front of what is shown went that way, if it can be shown
abbrev pub PutsFront : Way → Told → Told → Option (List ℕ) → Type 0
PutsFront way old new None = new ≡ old
PutsFront way old new (Some bytes) = PutsPart way old new bytes

-- what is shown was handed out: exactly that, and nothing where it can't be shown
abbrev pub HandsSo : Way → Told → Told → Option Files → Option Files → Option (List ℕ) → Bool → Type 0
HandsSo way old new h k (Some bytes) true = PutsOut way old new h k bytes
HandsSo way old new h k None false = (new ≡ old) × (k ≡ h)
HandsSo way old new h k (Some bytes) false = ⊥
HandsSo way old new h k None true = ⊥

-- what is shown was handed out so; or where that failed a front of it was
abbrev pub Hands : Way → Told → Told → Option Files → Option Files → Option (List ℕ) → Result Bool Fault → Type 0
Hands way old new h k text (Ok can) = HandsSo way old new h k text can
Hands way old new h k text (Err why) = PutsFront way old new text

-- ---- a file that is there, or isn't

-- what getting a file comes to: what is shown of it was handed out, or it was refused since nothing can be shown of it
abbrev pub GetsOne : Way → Told → Told → Option Files → Option Files → Option (List ℕ) → Result Status Fault → Type 0
GetsOne way old new h k text (Ok status.Done) = (bytes : List ℕ) × (text ≡ Some bytes) × PutsOut way old new h k bytes
GetsOne way old new h k text (Ok status.Refused) = (text ≡ None) × (new ≡ old) × Noted h k
GetsOne way old new h k text (Ok status.Failed) = ⊥
GetsOne way old new h k text (Err why) = PutsFront way old new text
