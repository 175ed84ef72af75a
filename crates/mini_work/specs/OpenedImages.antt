-- Images that are attached and opened.
use Rattle.std.specs.Prelude.{◌≡◌, ℕ, ◌<◌, true, List, [], ◌∷◌, length, All, Some}
use Rattle.std.specs.Option.{ForSome}
use Rattle.cms_journal.specs.declared.event.Access.{Access}
use Rattle.cms_journal.specs.declared.event.Attached.{Attached}
use Rattle.cms_journal.specs.declared.event.Event.{Event}
use Rattle.cms_journal.specs.Journal.{HasBlocks, IsBlockSize, IsMade, IsWritable, may_write}
use Rattle.cms_journal.specs.Told.{NoDisk, Told}
use Rattle.cms_model.specs.Minidisks.{Minidisk, Volume}
use Rattle.cms_model.specs.Trees.{image_of}
use Rattle.cms_model.specs.Volumes.{disk_of, state_of}
use Rattle.cms_disk.specs.Disks.{Accessed}
use Rattle.mini_work.specs.Stands.{Stands}
use Rattle.cms_disk.specs.declared.unit.UnitInfo.{UnitInfo}

-- a world that tells its journal, in which nothing is attached and nothing happened yet
abbrev pub IsNew : Told → Type 0
IsNew told = told ≡ Some (record { units = []; events = [] })

-- there is room for one more unit
abbrev pub HasRoom : Told → Type 0
HasRoom told = ForSome told (λ j. length j.units < 256)

-- an image is the only unit, attached so, and nothing happened to it yet
pub record IsAlone (name : List ℕ) (size : ℕ) (access : Access) (told : Told) : Type 0 where
  pub unit : Attached
  pub told_is : told ≡ Some (record { units = unit ∷ []; events = [] })
  pub name_is : unit.name ≡ name
  pub size_is : unit.bsize ≡ size
  pub size_fits : IsBlockSize size
  pub writable : unit.writable ≡ may_write access
  pub sizes : All (λ block. length block ≡ size) unit.start
  pub made : IsMade access size unit.start

-- what is looked at of it
pub record IsUnitOf (unit : Attached) (info : UnitInfo) : Type 0 where
  pub number : info.unit.number ≡ 0
  pub blocks : info.unit.blocks ≡ (disk_of unit).count
  pub bsize : info.bsize ≡ unit.bsize
  pub writable : info.writable ≡ unit.writable

-- it was attached
pub record Attaches (name : List ℕ) (size : ℕ) (access : Access) (told : Told) (info : UnitInfo) : Type 0 where
  pub alone : IsAlone name size access told
  pub unit : IsUnitOf alone.unit info

-- a unit of a world that tells its journal may be read, and written where it is writable
pub record MayUse (told : Told) (info : UnitInfo) : Type 0 where
  pub blocks : ForSome told (λ j. HasBlocks j.units info.unit.number info.unit.blocks info.bsize)
  pub writable : info.writable ≡ true → ForSome told (λ j. IsWritable j.units info.unit.number)

-- its blocks stand for a minidisk, and the disk is that
pub record Opens (name : List ℕ) (size : ℕ) (access : Access) (told : Told) (d : Accessed) : Type 0 where
  pub alone : IsAlone name size access told
  pub first : Minidisk
  pub holds : state_of (disk_of alone.unit) (image_of alone.unit.start) ≡ Volume first
  pub stands : Stands told d first
  pub number : d.volume.unit ≡ 0

-- nothing was written
pub record IsUnwritten (told : Told) : Type 0 where
  pub units : List Attached
  pub events : List Event
  pub told_is : told ≡ Some (record { units = units; events = events })
  pub none : NoDisk events
