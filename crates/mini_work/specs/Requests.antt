-- What a request comes to, in a world that tells its journal and in which nothing happened yet.
use Rattle.std.specs.Prelude.{◌≡◌, List, Option, Some, Result, Ok, Err, ⊤}
use Rattle.cms_journal.specs.Told.{Told}
use Rattle.cms_journal.specs.declared.event.Access.TheVariants.{ReadOnly, ReadWrite}
use Rattle.mini_host.specs.Files.{Files}
use Rattle.mini_host.specs.declared.content.HostFile.{HostFile}
use Rattle.mini_words.specs.declared.request.Request.{Request}
use Rattle.mini_words.specs.declared.request.Request.TheVariants as ask
use Rattle.mini_work.specs.Checks.{IsShowing, sound_text}
use Rattle.mini_work.specs.Listing.{facts_text}
use Rattle.mini_work.specs.NewImages.{IsMaking}
use Rattle.mini_work.specs.OpenedImages.{IsNew, IsUnwritten}
use Rattle.mini_work.specs.Gets.{IsGetting, OnHost}
use Rattle.mini_work.specs.HostTold.{files_in}
use Rattle.mini_work.specs.Puts.{IsPutting}
use Rattle.mini_work.specs.Commands.{IsErasing, IsListing, IsRenaming, IsWorked}
use Rattle.mini_work.specs.declared.fault.Fault.{Fault}
use Rattle.mini_work.specs.declared.status.Status.{Status}
use Rattle.mini_work.specs.declared.status.Status.TheVariants as status

-- what was asked for was done, or cut off; the host's files before and behind
abbrev pub IsDone : Request → Option Files → Option Files → Told → Result Status Fault → Type 0
IsDone (ask.List image long names) host after told r = IsWorked image.name ReadOnly (IsListing long names) told r
IsDone (ask.Info image) host after told r = IsShowing image.name facts_text told r
IsDone (ask.Get get) host after told r = IsWorked get.image.name ReadOnly (OnHost host after (IsGetting host get)) told r
IsDone (ask.Put put) host after told r =
    (files : List HostFile) → files_in host ≡ Some files → IsWorked put.image.name ReadWrite (IsPutting files put) told r
IsDone (ask.Erase image says offset names) host after told r = IsWorked image.name ReadWrite (IsErasing says offset names) told r
IsDone (ask.Rename image says offset from to) host after told r = IsWorked image.name ReadWrite (IsRenaming says offset from to) told r
IsDone (ask.Make image size blocks label offset) host after told r = IsMaking image size blocks label offset told r
IsDone (ask.Check image) host after told r = IsShowing image.name (sound_text image.name) told r
IsDone (ask.Dump image blocks) host after told r = IsUnwritten told

-- the status of an answer
abbrev pub IsStatusOf : Status → Result Status Fault → Type 0
IsStatusOf s (Ok t) = s ≡ t
IsStatusOf s (Err why) = s ≡ status.Failed

-- and with that status
abbrev pub Works : Request → Option Files → Option Files → Told → Status → Type 0
Works request host after told s = (r : Result Status Fault) × IsStatusOf s r × IsDone request host after told r

-- where records of an image are got the world tells them, so that nobody else changes them meanwhile
abbrev pub TellsRecords : Request → Told → Type 0
TellsRecords (ask.Get get) told = IsNew told
TellsRecords (ask.List image long names) told = ⊤
TellsRecords (ask.Info image) told = ⊤
TellsRecords (ask.Put put) told = ⊤
TellsRecords (ask.Erase image says offset names) told = ⊤
TellsRecords (ask.Rename image says offset from to) told = ⊤
TellsRecords (ask.Make image size blocks label offset) told = ⊤
TellsRecords (ask.Check image) told = ⊤
TellsRecords (ask.Dump image blocks) told = ⊤
