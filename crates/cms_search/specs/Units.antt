-- The units and letters of the machine, and what becomes of letters and reading places where a disk is released.
use Rattle.std.specs.Prelude.{ℕ, ◌==◌, List, position, slice_get, Option, Some, None}
use Rattle.std.specs.Option.{option_map_or}
use Rattle.cms_search.specs.Machine.{Letter, Machine, letter_at}
use Rattle.cms_search.specs.Places.{after}
use Rattle.cms_search.specs.Searches.{has}
use Rattle.cms_search.specs.Tables.{cleared, put_on, without}
use Rattle.cms_search.specs.declared.place_event.PlaceEvent.TheVariants as event
use Rattle.cms_search.specs.declared.state.Device.{Device}

-- the unit that has a device
abbrev pub unit_with : ℕ → List Device → Option ℕ
unit_with vdev devices = position (λ d. d.vdev == vdev) devices

-- the device of a unit
abbrev pub vdev_of : Machine → ℕ → ℕ
vdev_of s u = option_map_or (λ d. d.vdev) (slice_get s.devices u) 0

-- the first letter on which a unit stands
abbrev pub letter_with : ℕ → List (Option Letter) → Option ℕ
letter_with u letters = position (has (λ d. d.unit == u)) letters

-- no reading place is kept on a disk that is released
abbrev pub forgotten : Option Letter → Machine → Machine
forgotten None s = s
forgotten (Some d) s = record s { places = after (event.Left (vdev_of s d.unit)) s.places }

-- none is kept on a disk that takes a letter
abbrev pub taken : Letter → Machine → Machine
taken d s = record s { places = after (event.Accessed (vdev_of s d.unit)) s.places }

-- a letter is accessed no more
abbrev pub released : ℕ → Machine → Machine
released n s = record (forgotten (letter_at s n) s) { letters = cleared n s.letters }

-- a unit that is formatted stands on no letter any more
abbrev pub left_by : ℕ → Machine → Machine
left_by u s = record s { letters = without (λ d. d.unit == u) s.letters; places = after (event.Formatted (vdev_of s u)) s.places }

-- a disk takes a letter: its unit leaves its old letter, and the letter its old unit
abbrev pub seated : ℕ → Letter → Machine → Machine
seated n disk s = record (forgotten (letter_at s n) (taken disk s)) { letters = put_on (λ d. d.unit) disk n s.letters }
