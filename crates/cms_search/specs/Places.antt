-- Reading places: a finite map from a device and a name, and what forgets them.
use Rattle.std.specs.Prelude.{ℕ, ◌==◌, Bool, false, not, List, [], ◌∷◌}
use Rattle.std.specs.FinMap.{empty, remove, retain_keys}
use Rattle.cms_search.specs.Machine.{Places, place_key}
use Rattle.cms_search.specs.declared.place_event.PlaceEvent.{PlaceEvent}
use Rattle.cms_search.specs.declared.place_event.PlaceEvent.TheVariants as event

-- the key is that of a file of this device
abbrev pub is_of_device : ℕ → List ℕ → Bool
is_of_device vdev [] = false
is_of_device vdev (device ∷ name) = device == vdev

-- the places in files of other devices
abbrev pub without_device : ℕ → Places → Places
without_device vdev places = retain_keys places (λ key. not (is_of_device vdev key))

-- what is kept behind an event: it forgets the place in a file, the places in all files of a device, or all
abbrev pub after : PlaceEvent → Places → Places
after (event.Changed vdev name) places = remove places (place_key vdev name)
after (event.Finished vdev name) places = remove places (place_key vdev name)
after (event.Left vdev) places = without_device vdev places
after (event.Accessed vdev) places = without_device vdev places
after (event.Formatted vdev) places = without_device vdev places
after (event.Doubted vdev) places = without_device vdev places
after event.Ready places = empty
