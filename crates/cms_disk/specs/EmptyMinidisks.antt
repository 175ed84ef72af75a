-- An empty minidisk that is made on a unit, as two device steps of a machine: the unit is wiped, and then the minidisk is made.
use Rattle.std.specs.Prelude.{◌≡◌, ◌⊎◌, ℕ, List, [], None, Some, Result, Ok, Err, ⊤}
use Rattle.cms_journal.specs.declared.event.Event.{Event}
use Rattle.cms_journal.specs.Journal.{Journal}
use Rattle.cms_journal.specs.Told.{Told, plus, OnlyOf}
use Rattle.cms_fields.specs.declared.time.Stamp.{Stamp}
use Rattle.cms_model.specs.Changes.{empty_minidisk}
use Rattle.cms_model.specs.LawsSizes.{IsWhole}
use Rattle.cms_model.specs.LawsUpdates.{now}
use Rattle.cms_model.specs.Minidisks.{Minidisk, State, Not}
use Rattle.cms_model.specs.Settled.{IsFirm}
use Rattle.cms_model.specs.Volumes.{Disk, state_of}
use Rattle.cms_model.specs.Slots.{Side, Settled, set_of, state_in}
use Rattle.cms_model.specs.Steps.{Step, Wipe, Make, Outcome, Good, OldFault, EitherFault, slot_after, unit_of}
use Rattle.cms_model.specs.Beats.{FitsStep}
use Rattle.cms_held.specs.EmptyVolumes.{empty_label}
use Rattle.cms_disk.specs.Changes.{HasState, IsWholeAt}
use Rattle.cms_disk.specs.CrashStates.{CoversOn, LooksAs}
use Rattle.cms_disk.specs.Disks.{Accessed, IsMinidisk, IsQuiet, disk_on}
use Rattle.cms_disk.specs.declared.fault.DiskFault.{DiskFault}
use Rattle.cms_disk.specs.declared.fault.DiskFault.TheVariants as failed
use Rattle.cms_disk.specs.declared.unit.UnitInfo.{UnitInfo}

-- ---- a device step

-- the piece of the journal that a step made on a unit in this state, with its outcome: it has the events of its unit and the syncs that
-- the outcome has, a crash within it leaves the state before or one of those after it, a crash behind it one of those after it; and
-- then the contents have the state that the machine knows, each block with its size
pub record Does (old new : Told) (disk : Disk) (before : State) (s : Step) (o : Outcome) : Type 0 where
  pub events : List Event
  pub told : new ≡ plus old events
  pub of_unit : OnlyOf (unit_of s) events
  pub fits : FitsStep s o events
  pub covers : CoversOn disk old events (unit_of s) (set_of (Settled before)) (set_of (slot_after (Settled before) s o))
  pub left : HasState new disk (unit_of s) (state_in (slot_after (Settled before) s o))
  pub whole : IsWholeAt new disk (unit_of s)

-- ---- the two steps

-- what a machine looks at of a unit is what is told of it
abbrev pub IsSeen : Journal → UnitInfo → Type 0
IsSeen j unit = LooksAs j unit.unit.number (disk_on unit)

-- where a minidisk is made: a quiet unit in this state, whose blocks have their size
pub record IsReady (j : Journal) (unit : UnitInfo) (before : State) : Type 0 where
  pub whole : IsWhole (disk_on unit) (now j unit.unit.number)
  pub quiet : IsQuiet (disk_on unit) j unit.unit.number
  pub state : state_of (disk_on unit) (now j unit.unit.number) ≡ before

-- the minidisk that is made: it has all blocks of the unit, and no files
abbrev pub empty_on : UnitInfo → List ℕ → Minidisk
empty_on unit volid = empty_minidisk volid unit.bsize unit.unit.blocks

-- the wiping of the unit, with its outcome
abbrev pub DoesWipe : Told → Told → UnitInfo → State → Outcome → Type 0
DoesWipe old new unit before o = Does old new (disk_on unit) before (Wipe unit.unit.number before) o

-- the making on the wiped unit, which is none for the second reason
abbrev pub DoesMake : Told → Told → UnitInfo → List ℕ → Stamp → Outcome → Type 0
DoesMake old new unit volid stamp o = Does old new (disk_on unit) (Not 2) (Make unit.unit.number (Not 2) (empty_on unit volid) stamp) o

-- it was wiped, and then the making had this outcome
pub record DoesBoth (old new : Told) (unit : UnitInfo) (before : State) (volid : List ℕ) (stamp : Stamp) (o : Outcome) : Type 0 where
  pub wiped : Told
  pub wipes : DoesWipe old wiped unit before Good
  pub makes : DoesMake wiped new unit volid stamp o

-- ---- what is answered

-- both were good: the disk is the empty minidisk, and its unit is settled at it
pub record Made (old new : Told) (unit : UnitInfo) (before : State) (volid : List ℕ) (stamp : Stamp) (d : Accessed) : Type 0 where
  pub both : DoesBoth old new unit before volid stamp Good
  pub later : Journal
  pub told : new ≡ Some later
  pub minidisk : IsMinidisk later d (empty_on unit volid)

-- the device failed before the label was written: the unit is wiped
pub record Emptied (old new : Told) (unit : UnitInfo) (before : State) (volid : List ℕ) (stamp : Stamp) : Type 0 where
  pub both : DoesBoth old new unit before volid stamp OldFault
  pub later : Journal
  pub told : new ≡ Some later
  pub none : IsFirm (disk_on unit) later unit.unit.number (Not 2)

-- the device failed in the wiping, or with the label: the contents have the state of this side
pub record Doubted (old new : Told) (unit : UnitInfo) (before : State) (volid : List ℕ) (stamp : Stamp) : Type 0 where
  pub side : Side
  pub step : DoesWipe old new unit before (EitherFault side) ⊎ DoesBoth old new unit before volid stamp (EitherFault side)

-- what the making of an empty minidisk comes to, with this volume id and this stamp, on a unit in this state
abbrev pub Formats : Told → Told → UnitInfo → State → List ℕ → Stamp → Result Accessed DiskFault → Type 0
Formats old new unit before volid stamp (Ok d) = Made old new unit before volid stamp d
Formats old new unit before volid stamp (Err failed.Device) = Emptied old new unit before volid stamp
Formats old new unit before volid stamp (Err failed.InDoubt) = Doubted old new unit before volid stamp
Formats old new unit before volid stamp (Err failed.Memory) = new ≡ old
Formats old new unit before volid stamp (Err failed.NotFound) = ⊥
Formats old new unit before volid stamp (Err failed.Exists) = ⊥
Formats old new unit before volid stamp (Err failed.ReadOnly) = ⊥
Formats old new unit before volid stamp (Err failed.Altered) = ⊥
Formats old new unit before volid stamp (Err (failed.Limit k)) = ⊥
Formats old new unit before volid stamp (Err (failed.Full need free)) = ⊥

-- the unit is quiet then, unless it is in doubt
abbrev pub LeavesQuiet : Told → UnitInfo → Result Accessed DiskFault → Type 0
LeavesQuiet told unit (Err failed.InDoubt) = ⊤
LeavesQuiet None unit _ = ⊥
LeavesQuiet (Some j) unit _ = IsQuiet (disk_on unit) j unit.unit.number

-- ---- in every world

-- these are the faults that it may have
abbrev pub IsMakeFault : DiskFault → Type 0
IsMakeFault failed.Device = ⊤
IsMakeFault failed.InDoubt = ⊤
IsMakeFault failed.Memory = ⊤
IsMakeFault failed.NotFound = ⊥
IsMakeFault failed.Exists = ⊥
IsMakeFault failed.ReadOnly = ⊥
IsMakeFault failed.Altered = ⊥
IsMakeFault (failed.Limit k) = ⊥
IsMakeFault (failed.Full need free) = ⊥

-- the volume that it gives has this volume id, all blocks of the unit, of which the first five and those of the map are in use, and
-- no files
pub record IsEmptyOn (unit : UnitInfo) (volid : List ℕ) (d : Accessed) : Type 0 where
  pub label : d.volume.label ≡ empty_label volid (disk_on unit)
  pub files : d.volume.files ≡ []

-- no event was added but those of this unit
pub record GrownOf (u : ℕ) (old new : Told) : Type 0 where
  pub events : List Event
  pub told : new ≡ plus old events
  pub of_unit : OnlyOf u events
