-- What a host tells of its files.
use Rattle.std.specs.Prelude.{◌≡◌, ℕ, List, Option}
use Rattle.std.specs.Option.{option_map}
use Rattle.mini_host.specs.Files.{Files}
use Rattle.mini_host.specs.Files as files
use Rattle.mini_host.specs.declared.content.HostFile.{HostFile}
use Rattle.mini_host.specs.declared.note.Note.{Note}

-- the files alone
abbrev pub files_in : Option Files → Option (List HostFile)
files_in told = option_map (λ h. h.files) told

-- files and folders
abbrev pub things_in : Option Files → Option (List HostFile × List (List ℕ))
things_in told = option_map (λ h. (h.files, h.folders)) told

-- the host has the same files and folders
abbrev pub SameFiles : Option Files → Option Files → Type 0
SameFiles old new = things_in new ≡ things_in old

-- a note was said, and the host is as it was but for that
abbrev pub Noted : Option Files → Option Files → Type 0
Noted old new = (note : Note) × (new ≡ option_map (files.noted note) old)
