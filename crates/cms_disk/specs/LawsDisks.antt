-- What an accessed volume tells of the minidisk that it is, and what a quiet unit is.
use Rattle.std.specs.Prelude.{◌≡◌, ℕ, List, [], ◌∷◌, Some, Ok, Err}
use Rattle.cms_journal.specs.declared.event.Event.{Event}
use Rattle.cms_journal.specs.declared.event.Event.TheVariants.{Synced}
use Rattle.cms_journal.specs.Journal.{Journal}
use Rattle.cms_names.specs.declared.name.Name.{Name}
use Rattle.cms_model.specs.Trees.{Image}
use Rattle.cms_model.specs.Minidisks.{Minidisk, Not, State}
use Rattle.cms_model.specs.Volumes.{Disk, Opened, open_of, reason}
use Rattle.cms_model.specs.Settled.{IsSettled, IsFirm}
use Rattle.cms_model.specs.LawsUpdates.{after, now}
use Rattle.cms_model.specs.declared.fault.OpenFault.{OpenFault}
use Rattle.cms_model.specs.Beats.{Covers}
use Rattle.cms_held.specs.LawsHeld.{IsFound, IsMinidiskOf}
use Rattle.cms_disk.specs.CrashStates.{CoversOn, LooksAs}
use Rattle.cms_disk.specs.Disks.{Accessed, StandsIn, IsQuiet, place_of}

-- its files are the minidisk's, in their order, and a name is found in the place of its file
pub record Tells (image : Image) (d : Accessed) (m : Minidisk) : Type 0 where
  pub held : IsMinidiskOf image d.volume m
  pub found : (name : Name) → IsFound name m.files (place_of name d.volume)

-- a disk that stands for a minidisk tells its files and its room
abbrev pub StandsTells : Type 0
StandsTells = (image : Image) (d : Accessed) (m : Minidisk) → StandsIn image d m → Tells image d m

-- a quiet unit is settled at the volume that its contents are, or is none for the first test that they fail
pub record Rests (disk : Disk) (j : Journal) (u : ℕ) : Type 0 where
  pub settled : (v : Opened) → open_of disk (now j u) ≡ Ok v → IsSettled disk j u v
  pub refused : (why : OpenFault) → open_of disk (now j u) ≡ Err why → IsFirm disk j u (Not (reason why))

-- a quiet unit has one state in every crash image, and its contents have it
abbrev pub QuietRests : Type 0
QuietRests = (disk : Disk) (j : Journal) (u : ℕ) → IsQuiet disk j u → Rests disk j u

-- after a sync a unit is quiet
abbrev pub SyncQuiets : Type 0
SyncQuiets = (disk : Disk) (j : Journal) (u : ℕ) → IsQuiet disk (after j (Synced u ∷ [])) u

-- where a machine looks at a unit as a disk does, what is covered as the disk reads the unit is covered for the machine
abbrev pub LookedAtIsCovered : Type 0
LookedAtIsCovered = (disk : Disk) (j : Journal) (es : List Event) (u : ℕ) (before later : List State) → LooksAs j u disk
    → CoversOn disk (Some j) es u before later → Covers (Some j) es u before later
