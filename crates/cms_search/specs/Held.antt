-- What is held of the units of a table, a line for each.
use Rattle.std.specs.Prelude.{◌≡◌, ℕ, ◌==◌, Bool, true, false, if◌then◌else◌, List, [], ◌∷◌, drop, length, slice_get, Option, Some, None, IfSome, ⊤}
use Rattle.cms_journal.specs.Journal.{Journal, HasBlocks, IsWritable}
use Rattle.cms_model.specs.Changes.{file_named}
use Rattle.cms_model.specs.Minidisks.{File, Minidisk, State, Volume}
use Rattle.cms_model.specs.Trees.{Image}
use Rattle.cms_model.specs.LawsSizes.{IsWhole}
use Rattle.cms_model.specs.LawsUpdates.{now}
use Rattle.cms_model.specs.Slots.{Slot, Settled, Doubt, IsAmong, set_of, state_in}
use Rattle.cms_model.specs.Points.{LeavesIn, HasNowIn}
use Rattle.cms_disk.specs.Cursors.{HasLeft}
use Rattle.cms_disk.specs.Disks.{IsMinidisk, IsOn, IsQuiet, disk_on}
use Rattle.cms_disk.specs.EmptyMinidisks.{IsSeen}
use Rattle.cms_disk.specs.declared.unit.UnitInfo.{UnitInfo}
use Rattle.cms_search.specs.Tables.{AccessTable, IsTable, Seated}
use Rattle.cms_search.specs.declared.readings.KeptReading.{KeptReading}

-- the disk of a unit, where it is accessed
abbrev pub disk_of : ℕ → List (Option Seated) → Option Seated
disk_of u [] = None
disk_of u (None ∷ seats) = disk_of u seats
disk_of u (Some s ∷ seats) = if s.letter.unit == u then Some s else disk_of u seats

-- a unit is settled at a state
abbrev pub IsSettledSlot : Slot → Type 0
IsSettledSlot (Settled state) = ⊤
IsSettledSlot (Doubt before after side) = ⊥

-- a unit is in doubt
abbrev pub IsDoubtSlot : Slot → Type 0
IsDoubtSlot (Settled state) = ⊥
IsDoubtSlot (Doubt before after side) = ⊤

-- in this image a reading has left what the file of its name has behind so many of its records
pub record IsLeftOf (image : Image) (m : Minidisk) (r : KeptReading) : Type 0 where
  pub file : File
  pub named : file_named r.name m.files ≡ Some file
  pub left : HasLeft image r.cursor (drop r.count file.records)

-- so has the one that a disk keeps, in the contents of its unit
abbrev pub KeepsWhatIsLeft : Journal → Minidisk → Seated → Type 0
KeepsWhatIsLeft j m s = IfSome s.reading (IsLeftOf (now j s.disk.volume.unit) m)

-- a unit that is in doubt has a slot in doubt; one that is accessed is settled at the minidisk that its disk is, and a reading that the
-- disk keeps has left what that has; any other is quiet
abbrev pub StandsAs : Journal → ℕ → UnitInfo → Slot → Bool → Option Seated → Type 0
StandsAs j u unit slot true seat = IsDoubtSlot slot
StandsAs j u unit slot false None = IsSettledSlot slot × IsQuiet (disk_on unit) j u
StandsAs j u unit slot false (Some s) = (m : Minidisk) × (slot ≡ Settled (Volume m)) × IsOn unit s.disk × IsMinidisk j s.disk m
    × KeepsWhatIsLeft j m s

-- the line of a unit: its number is its place, it has its blocks and no more are looked at, a crash leaves it in a state of its
-- slot's set, and its contents have the slot's state
pub record HoldsUnit (j : Journal) (units : List Slot) (t : AccessTable) (u : ℕ) (unit : UnitInfo) : Type 0 where
  pub number : unit.unit.number ≡ u
  pub blocks : HasBlocks j.units u unit.unit.blocks unit.bsize
  pub writable : unit.writable ≡ true → IsWritable j.units u
  pub seen : IsSeen j unit
  pub whole : IsWhole (disk_on unit) (now j u)
  pub slot : Slot
  pub there : slice_get units u ≡ Some slot
  pub doubt : Bool
  pub marked : slice_get t.doubts u ≡ Some doubt
  pub stands : StandsAs j u unit slot doubt (disk_of u t.seats)
  pub crash : (state : State) → LeavesIn j u state → IsAmong state (set_of slot)
  pub has : (state : State) → HasNowIn j u state → state_in slot ≡ state

-- the machine's units are those of the table and of the journal, and each has its line
pub record HoldsTable (j : Journal) (units : List Slot) (t : AccessTable) : Type 0 where
  pub table : IsTable t
  pub same : length units ≡ length t.units
  pub all : length t.units ≡ length j.units
  pub each : (u : ℕ) (unit : UnitInfo) → slice_get t.units u ≡ Some unit → HoldsUnit j units t u unit

-- ---- what a call leaves that touches one unit

-- a unit's slot, its mark and its disk are as before
pub record SameUnit (units units' : List Slot) (t t' : AccessTable) (u : ℕ) : Type 0 where
  pub slot : slice_get units' u ≡ slice_get units u
  pub doubt : slice_get t'.doubts u ≡ slice_get t.doubts u
  pub disk : disk_of u t'.seats ≡ disk_of u t.seats
