-- An empty volume is made on the unit of a device and accessed as a letter, as a table does it.
use Rattle.std.specs.Prelude.{◌≡◌, ◌≤◌, ◌==◌, ℕ, true, false, List, Some, None, IfErr, IfOk, Result, Ok, Err, ⊤}
use Rattle.std.specs.Option.{ForSome}
use Rattle.cms_journal.specs.Journal.{Journal, HasBlocks, IsWritable}
use Rattle.cms_journal.specs.Told.{Told}
use Rattle.cms_fields.specs.declared.time.Stamp.{Stamp}
use Rattle.cms_model.specs.Minidisks.{State}
use Rattle.cms_world.specs.Seen.{ChangesUnits, Seen}
use Rattle.cms_disk.specs.Changes.{IsDevices}
use Rattle.cms_disk.specs.Disks.{Accessed, IsOn}
use Rattle.cms_disk.specs.EmptyMinidisks.{Formats, GrownOf, IsEmptyOn, IsMakeFault, IsReady}
use Rattle.cms_disk.specs.declared.fault.DiskFault.{DiskFault}
use Rattle.cms_disk.specs.declared.fault.DiskFault.TheVariants as failed
use Rattle.cms_disk.specs.declared.unit.UnitInfo.{UnitInfo}
use Rattle.cms_search.specs.Tables.{AccessTable, cleared, letter_for, marked, table_after, without}

-- the unit is large enough, and its blocks may be read and written
pub record MayFormat (told : Told) (unit : UnitInfo) : Type 0 where
  pub least : 8 ≤ unit.unit.blocks
  pub blocks : ForSome told (λ j. HasBlocks j.units unit.unit.number unit.unit.blocks unit.bsize)
  pub writable : ForSome told (λ j. IsWritable j.units unit.unit.number)

-- unit u stands on no letter any more, and letter n has no disk
abbrev pub vacated : ℕ → ℕ → AccessTable → AccessTable
vacated u n t = record t { seats = without (λ e. e.letter.unit == u) (cleared n t.seats) }

-- the table behind the making on unit u: both are released, and the new disk is seated on letter n; where the device failed then it isn't,
-- and the unit may be in doubt; without memory nothing was done
abbrev pub table_made : AccessTable → ℕ → UnitInfo → ℕ → Result Accessed DiskFault → AccessTable
table_made t u unit n (Ok d) = table_after t u (letter_for u unit.writable n None) n (Ok d)
table_made t u unit n (Err failed.Memory) = t
table_made t u unit n (Err failed.InDoubt) = vacated u n (marked u true t)
table_made t u unit n (Err why) = vacated u n (marked u false t)

-- what making a minidisk answered, without the disk
abbrev pub answer_made : Result Accessed DiskFault → Result ⊤ DiskFault
answer_made (Ok d) = Ok tt
answer_made (Err why) = Err why

-- an empty minidisk with this volume id and this stamp was made on unit u, for letter n
pub record FormatsUnit (before now : Seen) (t t' : AccessTable) (u n : ℕ) (unit : UnitInfo) (volid : List ℕ) (stamp : Stamp)
    (result : Result ⊤ DiskFault) : Type 0 where
  pub made : Result Accessed DiskFault
  pub answer : result ≡ answer_made made
  pub table : t' ≡ table_made t u unit n made
  pub on : IfOk made (IsOn unit)
  pub empty : IfOk made (IsEmptyOn unit volid)
  pub formats : (j : Journal) (state : State) → before.told ≡ Some j → IsReady j unit state
      → Formats before.told now.told unit state volid stamp made
  pub fault : IfErr made IsMakeFault
  pub nothing : IfErr made (λ e. e ≡ failed.Memory → now.told ≡ before.told)
  pub of_unit : GrownOf unit.unit.number before.told now.told
  pub changes : ChangesUnits before now IsDevices made
