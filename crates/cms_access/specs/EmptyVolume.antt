-- When an empty volume may be made on a unit, and what that comes to.
use Rattle.std.specs.Prelude.{◌≡◌, ◌≤◌, ◌<◌, ℕ, Bool, true, false, Option, Some, None, Result, Ok, Err, slice_get, unwrap_or, ⊤}
use Rattle.std.specs.Option.{option_and_then}
use Rattle.cms_disk.specs.declared.fault.DiskFault.{DiskFault}
use Rattle.cms_disk.specs.declared.fault.DiskFault.TheVariants as failed
use Rattle.cms_disk.specs.declared.unit.UnitInfo.{UnitInfo}
use Rattle.cms_search.specs.Machine.{Places}
use Rattle.cms_search.specs.Places.{after}
use Rattle.cms_search.specs.Tables.{AccessTable, place_of_device, unit_of_device}
use Rattle.cms_search.specs.declared.place_event.PlaceEvent.TheVariants as event
use Rattle.cms_search.specs.declared.state.End.{End}
use Rattle.cms_search.specs.declared.state.End.TheVariants.{Memory}
use Rattle.cms_search.specs.declared.state.State.{State}
use Rattle.cms_search.specs.declared.table.Seat.{Seat}
use Rattle.cms_access.specs.declared.format.FormatLine.{FormatLine}

-- the unit of a device is in doubt
abbrev pub is_marked : ℕ → AccessTable → Bool
is_marked vdev t = unwrap_or (option_and_then (λ u. slice_get t.doubts u) (place_of_device vdev t.units)) false

-- the line's device is this unit, which may be written, isn't in doubt, and is large enough; and its letter is one
pub record MayRemake (s : State) (line : FormatLine) (unit : UnitInfo) : Type 0 where
  pub unit_is : unit_of_device line.vdev s.table.units ≡ Some unit
  pub sure : is_marked line.vdev s.table ≡ false
  pub least : 8 ≤ unit.unit.blocks
  pub writable : unit.writable ≡ true
  pub letter : line.letter < 26

-- the volume was made, or the device failed; or there was no memory
abbrev pub made_of : Result ⊤ DiskFault → Result Bool End
made_of (Ok x) = Ok true
made_of (Err failed.Device) = Ok false
made_of (Err failed.InDoubt) = Ok false
made_of (Err why) = Err Memory

-- without the reading places on the disk of a letter
abbrev pub forgotten_in : Option Seat → Places → Places
forgotten_in None places = places
forgotten_in (Some seat) places = after (event.Left seat.vdev) places
