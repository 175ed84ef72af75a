-- The volume of a device is accessed as a letter.
use Rattle.std.specs.Prelude.{⊤, ℕ, false, List, Option, Some, None, Result, Ok, Err, slice_get}
use Rattle.std.specs.Option.{option_map_or}
use Rattle.cms_model.specs.Minidisks as model
use Rattle.cms_model.specs.Minidisks.{Volume, Not}
use Rattle.cms_model.specs.Volumes.{reason}
use Rattle.cms_model.specs.declared.fault.OpenFault.{OpenFault}
use Rattle.cms_model.specs.declared.fault.OpenFault.TheVariants as fails
use Rattle.cms_model.specs.Acts.{Act, Done, Does}
use Rattle.cms_model.specs.Slots.{Slot, state_in}
use Rattle.cms_model.specs.Steps.{Access, Outcome, Good, ReadFault, SyncFault, OldFault, EitherFault}
use Rattle.cms_search.specs.Calls.{machine_of}
use Rattle.cms_search.specs.Machine.{Letter, Machine, Places, after_step}
use Rattle.cms_search.specs.Places.{after}
use Rattle.cms_search.specs.Tables.{letter_for, missing_parent}
use Rattle.cms_search.specs.Units.{seated, unit_with}
use Rattle.cms_search.specs.declared.place_event.PlaceEvent.TheVariants as event
use Rattle.cms_search.specs.declared.access.AccessEnd.{AccessEnd}
use Rattle.cms_search.specs.declared.access.AccessEnd.TheVariants as ends
use Rattle.cms_search.specs.declared.fault.SearchFault.{SearchFault}
use Rattle.cms_search.specs.declared.fault.SearchFault.TheVariants as why
use Rattle.cms_search.specs.declared.state.End.{End}
use Rattle.cms_search.specs.declared.state.End.TheVariants.{Memory}
use Rattle.cms_search.specs.declared.state.State.{State}
use Rattle.cms_search.specs.declared.table.Seat.{Seat}

-- where the unit holds a minidisk the letter has it; a refusal leaves every letter as it was
abbrev pub holding : Machine → ℕ → Letter → model.State → Machine × AccessEnd
holding s n disk (Volume m) = (seated n disk s, ends.Done disk.read_only)
holding s n disk (Not k) = (s, ends.NoVolume k)

-- behind the step, which has ended a doubt where the sync was good
abbrev pub opened : Machine → ℕ → Letter → Slot → Outcome → Machine × AccessEnd
opened s n disk slot Good = holding s n disk (state_in slot)
opened s n disk slot (ReadFault j) = (s, ends.Failed)
opened s n disk slot SyncFault = (s, ends.Failed)
opened s n disk slot OldFault = (s, ends.Failed)
opened s n disk slot (EitherFault side) = (s, ends.Failed)

-- the volume on a unit is accessed as a letter by a step
abbrev pub opening : Machine → ℕ → Letter → Option Slot → Act (Machine × AccessEnd)
opening s n disk None = Done (s, ends.NoUnit)
opening s n disk (Some slot) =
    Does (Access disk.unit slot) (λ o. Done (opened (after_step s (Access disk.unit slot) o) n disk slot o))

-- the disk of unit u as letter n: with /ext it is read-only, and so is that of a unit that may not be written
abbrev pub disk_for : Machine → ℕ → ℕ → Option ℕ → Letter
disk_for s u n ext = letter_for u (option_map_or (λ d. d.writable) (slice_get s.devices u) false) n ext

-- the letter of /ext must be accessed, unless it is the new letter itself
abbrev pub on_unit : Machine → ℕ → ℕ → Option ℕ → Option ℕ → Act (Machine × AccessEnd)
on_unit s u n ext (Some parent) = Done (s, ends.NoParent parent)
on_unit s u n ext None = opening s n (disk_for s u n ext) (slice_get s.units u)

-- the same for the unit that has the device; or no unit has it
abbrev pub on_device : Machine → ℕ → Option ℕ → Option ℕ → Act (Machine × AccessEnd)
on_device s n ext None = Done (s, ends.NoUnit)
on_device s n ext (Some u) = on_unit s u n ext (missing_parent s.letters n ext)

-- the volume of device vdev is accessed as letter n, and by ext as an extension
abbrev pub accessing : Machine → ℕ → ℕ → Option ℕ → Act (Machine × AccessEnd)
accessing s vdev n ext = on_device s n ext (unit_with vdev s.devices)

-- ---- the call

-- an access, on the machine with these units
abbrev pub accessing_tree : State → ℕ → ℕ → Option ℕ → List Slot → Act (Machine × AccessEnd)
accessing_tree s vdev n ext units = accessing (machine_of s units) vdev n ext

-- a volume that doesn't open: the device failed, or it has a reason
abbrev pub no_volume : OpenFault → AccessEnd
no_volume fails.Device = ends.Failed
no_volume fault = ends.NoVolume (reason fault)

-- an access writes to no letter and finds no file, so it isn't refused for one
abbrev pub IsOfAccess : SearchFault → Type 0
IsOfAccess (why.ReadOnly n) = ⊥
IsOfAccess why.NotFound = ⊥
IsOfAccess fault = ⊤

-- what the table's refusal means
abbrev pub refused_as : SearchFault → Result AccessEnd End
refused_as (why.NoUnit vdev) = Ok ends.NoUnit
refused_as (why.NotAccessed parent) = Ok (ends.NoParent parent)
refused_as (why.Volume fault) = Ok (no_volume fault)
refused_as fault = Err Memory

-- the reading places on the disk of a device are forgotten, and those on the one whose letter it takes
abbrev pub forgetting : Option Seat → ℕ → Places → Places
forgetting None vdev places = after (event.Accessed vdev) places
forgetting (Some left) vdev places = after (event.Left left.vdev) (after (event.Accessed vdev) places)
