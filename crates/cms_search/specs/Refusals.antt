-- The refusals that several commands have. Each types its message and ends the command with its code.
use Rattle.std.specs.Prelude.{ℕ, List, Result, Ok, Err}
use Rattle.cms_model.specs.Acts.{Act}
use Rattle.cms_model.specs.Steps.{Outcome, Good, ReadFault, SyncFault, OldFault, EitherFault}
use Rattle.cms_line.specs.declared.message.Message.{Message}
use Rattle.cms_line.specs.declared.message.Message.TheVariants.{M037, M069, M105, M106, M113}
use Rattle.cms_line.specs.declared.token.Token.{Token}
use Rattle.cms_operands.specs.Refusals.{code_of, message_of}
use Rattle.cms_operands.specs.declared.refusal.Refusal.{Refusal}
use Rattle.cms_disk.specs.declared.fault.DiskFault.{DiskFault}
use Rattle.cms_disk.specs.declared.fault.DiskFault.TheVariants.{Altered}
use Rattle.cms_search.specs.Machine.{Machine, Course, refusal}
use Rattle.cms_search.specs.Texts.{device_text, letter_text}
use Rattle.cms_search.specs.Units.{released}

-- goes on with what the line says; or it is refused, and no disk is looked at
abbrev pub on_line : {A : Type 0} → Machine → List Token → (A → Act Course) → Result A Refusal → Act Course
on_line s words next (Ok x) = next x
on_line s words next (Err why) = refusal s (message_of words why) (code_of why)

-- the code of a disk that doesn't serve, that of a device's fault, and that of a file whose bytes aren't its records any more
abbrev pub no_disk : ℕ
no_disk = 36

-- the code of a device's fault
abbrev pub fault : ℕ
fault = 100

-- the code of a file whose bytes aren't its records any more
abbrev pub altered_code : ℕ
altered_code = 104

-- no unit has the device
abbrev pub no_device : Machine → ℕ → Act Course
no_device s vdev = refusal s (M113 (device_text vdev)) no_disk

-- no disk has the letter
abbrev pub not_accessed : Machine → ℕ → Act Course
not_accessed s n = refusal s (M069 (letter_text n)) no_disk

-- the disk may only be read
abbrev pub read_only : Machine → ℕ → Act Course
read_only s n = refusal s (M037 (letter_text n)) no_disk

-- a step failed at the device
abbrev pub device_fault : Machine → ℕ → Act Course
device_fault s vdev = refusal s (M105 (device_text vdev)) fault

-- a file isn't read to its end: its bytes aren't its records any more, which is never in a world that tells its journal, or the device
-- failed
abbrev pub unread_message : DiskFault → ℕ → Message
unread_message Altered vdev = M106 (device_text vdev)
unread_message why vdev = M105 (device_text vdev)

-- the code of a file that isn't read to its end
abbrev pub unread_code : DiskFault → ℕ
unread_code Altered = altered_code
unread_code why = fault

-- a file isn't read to its end: its message is typed, with its code
abbrev pub unread : Machine → ℕ → DiskFault → Act Course
unread s vdev why = refusal s (unread_message why vdev) (unread_code why)

-- goes on where a step on the disk of a letter was good; where its unit is in doubt now the letter is released
abbrev pub unless_fault : Machine → ℕ → ℕ → Outcome → Act Course → Act Course
unless_fault s n vdev Good next = next
unless_fault s n vdev (ReadFault j) next = device_fault s vdev
unless_fault s n vdev SyncFault next = device_fault s vdev
unless_fault s n vdev OldFault next = device_fault s vdev
unless_fault s n vdev (EitherFault side) next = device_fault (released n s) vdev
