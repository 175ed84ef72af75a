-- A run of an extension: it is asked, what it wants is met, and it is asked again with the reply, until it is done.
use Rattle.std.specs.Prelude.{ℕ, zero, suc, ℤ, List, map, length, set, Option, Some, None, slice_get, Result, Ok, Err}
use Rattle.cms_names.specs.declared.name.Format.{Format}
use Rattle.cms_names.specs.declared.name.Format.TheVariants.{V}
use Rattle.cms_names.specs.declared.name.Name.{Name}
use Rattle.cms_fields.specs.Moments.{stamp_of}
use Rattle.cms_fields.specs.Steps.{◌>>=◌}
use Rattle.cms_model.specs.Changes.{Change, Put}
use Rattle.cms_model.specs.Minidisks.{File}
use Rattle.cms_model.specs.Records.{length_of}
use Rattle.cms_model.specs.Acts.{Act, Done, Turn, Asks, bind}
use Rattle.cms_model.specs.Objects.{Back, Object, Reply, Want, answered}
use Rattle.cms_model.specs.Objects as object
use Rattle.cms_line.specs.declared.message.Message.{Message}
use Rattle.cms_line.specs.declared.message.Message.TheVariants.{M002, M037, M069}
use Rattle.cms_operands.specs.declared.mode.ReadMode.TheVariants.{Letter}
use Rattle.cms_files.specs.declared.identifier.FileInput.{FileInput}
use Rattle.cms_search.specs.Asks.{Asked, Given, Spent, ask}
use Rattle.cms_search.specs.DeviceSteps.{Did, Failed, Stepped, reading, silently}
use Rattle.cms_search.specs.Machine.{Course, Machine, letter_at, refusal, turned, typing}
use Rattle.cms_search.specs.Machine as command
use Rattle.cms_search.specs.Refusals.{device_fault, no_disk}
use Rattle.cms_search.specs.Searches.{Shelf, shelves_in}
use Rattle.cms_search.specs.Texts.{letter_text}
use Rattle.cms_search.specs.Units.{vdev_of}
use Rattle.cms_search.specs.declared.fault.SearchFault.{SearchFault}
use Rattle.cms_search.specs.declared.fault.SearchFault.TheVariants as why
use Rattle.cms_files.specs.Files.{UnitFile, file_found, file_on, no_file_code, writable}
use Rattle.cms_files.specs.Gathered.{record_in}
use Rattle.cms_files.specs.Updates.{updating}

-- the machine, and the objects that the session was handed, in the order of their words
pub record Desk : Type 0 where
  pub machine : Machine
  pub objects : List Object

-- this machine beside these objects
abbrev pub desk : Machine → List Object → Desk
desk s objects = record { machine = s; objects = objects }

-- the same objects beside another machine
abbrev pub with_machine : Desk → Machine → Desk
with_machine d s = record d { machine = s }

-- what a want comes to: the extension is told a reply; it is done, with a code; or no turn is left for the line that it asks for
pub data Met : Type 0 where
  Told : Desk → Reply → Met
  Over : Desk → ℤ → Met
  NoTurns : Met

-- how a run ends: with a code; or no turn is left
pub data Ended : Type 0 where
  Went : Desk → ℤ → Ended
  OutOfTurns : Ended

-- ---- refusals

-- a refusal has typed its message, and the extension is told its code
abbrev pub told_code : List Object → Course → Act Met
told_code objects (command.Went s code) = Done (Told (desk s objects) (object.Refused code))
told_code objects command.OutOfTurns = Done NoTurns

-- something is refused, of which the extension is told
abbrev pub refusing : List Object → Act Course → Act Met
refusing objects refused = bind refused (told_code objects)

-- no disk has the letter, or its disk may only be read: 36; or the file isn't found, which is shown with its letter: 28
abbrev pub unfound_message : Name → ℕ → SearchFault → Message
unfound_message name n (why.NotAccessed m) = M069 (letter_text m)
unfound_message name n (why.ReadOnly m) = M037 (letter_text m)
unfound_message name n other = M002 name.file name.kind (letter_text n)

-- and its code, 36 or 28
abbrev pub unfound_code : SearchFault → ℕ
unfound_code (why.NotAccessed m) = no_disk
unfound_code (why.ReadOnly m) = no_disk
unfound_code other = no_file_code

-- a file for which the search failed is refused so
abbrev pub unfound : Desk → Name → ℕ → SearchFault → Act Met
unfound d name n fault =
    refusing d.objects (refusal d.machine (unfound_message name n fault) (unfound_code fault))

-- ---- a line that is asked for

-- the extension is told the line; or no turn was left for it
abbrev pub told_line : List Object → Asked → Act Met
told_line objects (Given s line) = Done (Told (desk s objects) (object.Got line))
told_line objects Spent = Done NoTurns

-- the stack's next line is asked for, else the console's, and the extension is told it
abbrev pub asking : Desk → Act Met
asking d = bind (ask d.machine) (told_line d.objects)

-- ---- a file that is read

-- all its records are read, and then handed over; nothing is erased: 105
abbrev pub read_whole : Desk → UnitFile → Act Met
read_whole d x =
    reading silently x.unit x.file (length x.file.records)
    (Done (Told d (object.Records x.file.records)))
    (refusing d.objects (device_fault d.machine (vdev_of d.machine x.unit)))

-- the file that was found is read; or it wasn't found, which is refused
abbrev pub read_found : Desk → Name → ℕ → Result UnitFile SearchFault → Act Met
read_found d name n (Ok x) = read_whole d x
read_found d name n (Err fault) = unfound d name n fault

-- the first file of a name that its mode finds: 069, 002
abbrev pub file_read : Machine → FileInput → Result UnitFile SearchFault
file_read s input = do
  found ← file_found s input
  file_on s input.name (letter_at s found.letter)

-- the file of a name that TYPE finds by a letter: 069, 002, 105
abbrev pub getting : Desk → Name → ℕ → Act Met
getting d name n =
    read_found d name n (file_read d.machine (record { name = name; mode = Letter n }))

-- ---- a file that is written

-- a file of these records at the turn's moment; at F each is cut to its length, or filled with blanks
abbrev pub file_with : Machine → Name → ℕ → Format → ℕ → List (List ℕ) → File
file_with s name number format size records = record {
  name = name;
  number = number;
  format = format;
  length = length_of format size records;
  stamp = stamp_of s.moment;
  records = records;
}

-- the same of records as they are given, before they are cut or filled
abbrev pub file_of : Machine → Name → ℕ → Format → ℕ → List (List ℕ) → File
file_of s name number format size records =
    file_with s name number format size (map (record_in format size) records)

-- a new file has varying records and mode number 1; one that is there keeps its format and number, and at F the length
abbrev pub file_put : Machine → Name → List (List ℕ) → Result UnitFile SearchFault → File
file_put s name records (Err why) = file_of s name 1 V 0 records
file_put s name records (Ok x) = file_of s name x.file.number x.file.format x.file.length records

-- the change by which the file comes on the disk of letter n
abbrev pub put_change : Machine → Name → ℕ → List (List ℕ) → Change
put_change s name n records = Put (file_put s name records (file_on s name (letter_at s n)))

-- the extension is told that the step was done, or the code with which it failed
abbrev pub told_step : List Object → Stepped → Act Met
told_step objects (Did s) = Done (Told (desk s objects) object.Went)
told_step objects (Failed course) = told_code objects course

-- one update: 120, 107, 105
abbrev pub put_on : Desk → Name → ℕ → List (List ℕ) → Act Met
put_on d name n records =
    bind (updating d.machine n (put_change d.machine name n records)) (told_step d.objects)

-- the file is written where its disk was found to be writable; else that is refused
abbrev pub put_found : Desk → Name → ℕ → List (List ℕ) → Result Shelf SearchFault → Act Met
put_found d name n records (Ok shelf) = put_on d name n records
put_found d name n records (Err fault) = unfound d name n fault

-- the file of a name on the disk of a letter is written: 069, 037, 120, 107, 105
abbrev pub putting : Desk → Name → ℕ → List (List ℕ) → Act Met
putting d name n records = put_found d name n records (writable (shelves_in d.machine) n)

-- ---- the run

-- what is wanted is done: lines are typed, a line is asked for, a file is read or written
abbrev pub meeting : Desk → Want → Act Met
meeting d (object.Say lines) = typing lines (Done (Told d object.Went))
meeting d object.Ask = asking d
meeting d (object.Get name n) = getting d name n
meeting d (object.Put name n records) = putting d name n records
meeting d (object.Ended code) = Done (Over d code)

-- the object in a place holds what came back
abbrev pub answered_at : Desk → ℕ → Object → Back → Desk
answered_at d place o back = record d { objects = set d.objects place (answered o back) }

-- it is told a reply, and what it wants is met
abbrev pub told_at : Desk → ℕ → Reply → Option Object → Act Met
told_at d place reply (Some o) =
    Asks place o reply (λ back. meeting (answered_at d place o back) back.want)
told_at d place reply None = Done NoTurns

-- one round: so it is for the object in this place
abbrev pub round : ℕ → Desk → Reply → Act Met
round place d reply = told_at d place reply (slice_get d.objects place)

-- it is asked again in a turn of its own, which has its own moment
abbrev pub again : (Desk → Reply → Act Ended) → Desk → Reply → ℕ → Act Ended
again next d reply zero = Done OutOfTurns
again next d reply (suc left) =
    Turn (λ seconds. next (with_machine d (turned d.machine left seconds)) reply)

-- what follows a round: it is asked again with the reply, or the run ends
abbrev pub behind : (Desk → Reply → Act Ended) → Met → Act Ended
behind next (Told d reply) = again next d reply d.machine.left
behind next (Over d code) = Done (Went d code)
behind next NoTurns = Done OutOfTurns

-- so many rounds at most
unfoldable pub running : ℕ → ℕ → Desk → Reply → Act Ended
running place zero d reply = Done OutOfTurns
running place (suc more) d reply = bind (round place d reply) (behind (running place more))

-- the object in a place is told this first; each further round costs a turn, so one more than the turns is enough
abbrev pub run_extension : ℕ → Desk → Reply → Act Ended
run_extension place d reply = running place (suc d.machine.left) d reply
