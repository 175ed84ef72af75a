-- What is known of the bytes that are held.
use Rattle.std.specs.Prelude.{◌≡◌, ℕ, ◌+◌, ◌-◌, ◌≤◌, ◌⊎◌, List, length, take, drop, Option}
use Rattle.cms_host.specs.FileBytes.{HasBytes, IsApart}
use Rattle.cms_host.specs.declared.read_ahead.Place.{Place}
use Rattle.cms_host.specs.declared.read_ahead.ReadAhead.{ReadAhead}

-- what is held are bytes that its file has
abbrev pub HoldsTrue : (ℕ → Option (List ℕ)) → ReadAhead → Type 0
HoldsTrue files ahead =
    HasBytes (files ahead.from.file) ahead.from.byte (take ahead.held ahead.bytes.items)

-- these bytes are held for a place
pub record HoldsAt (ahead : ReadAhead) (place : Place) (bytes : List ℕ) : Type 0 where
  pub file : ahead.from.file ≡ place.file
  pub begins : ahead.from.byte ≤ place.byte
  pub ends : (place.byte - ahead.from.byte) + length bytes ≤ ahead.held
  pub are : bytes ≡ take (length bytes) (drop (place.byte - ahead.from.byte) ahead.bytes.items)

-- none is held of so many bytes from a place on
abbrev pub HoldsNone : ReadAhead → Place → ℕ → Type 0
HoldsNone ahead place count =
    (ahead.held ≡ 0)
    ⊎ (place.file ≡ ahead.from.file → IsApart ahead.from.byte ahead.held place.byte count)
