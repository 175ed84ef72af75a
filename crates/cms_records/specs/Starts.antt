-- Where records of varying lengths begin in the data blocks that they fill.
use Rattle.std.specs.Prelude.{◌≡◌, ◌==◌, ℕ, ◌+◌, ◌-◌, ◌*◌, ◌/◌, ◌%◌, ◌<◌, ◌^◌, nat_le, List, [], ◌∷◌, length, find, if◌then◌else◌, Option, None, Some}
use Rattle.std.specs.Option.{option_map_or}
use Rattle.cms_model.specs.Lists.{In}

-- the places at which records begin, among the bytes that they fill with their lengths, the first of them here
unfoldable pub begins : ℕ → List (List ℕ) → List ℕ
begins place [] = []
begins place (text ∷ more) = place ∷ begins (place + (2 + length text)) more

-- the first of the places that lies in a data block or behind it
abbrev pub first_from : ℕ → ℕ → List ℕ → Option ℕ
first_from bsize block places = find (λ place. nat_le (block * bsize) place) places

-- where no record begins
abbrev pub nowhere : ℕ
nowhere = 2 ^ 32 - 1

-- the place within the last of the data blocks that so many bytes fill at which the first record in it begins, by the places of all
abbrev pub last_start : ℕ → ℕ → List ℕ → ℕ
last_start bsize stored places =
    let last = (stored - 1) / bsize in
    option_map_or (λ place. place - last * bsize) (first_from bsize last places) nowhere

-- the first of the places in the data block in which the last of them lies
abbrev pub IsFirst : ℕ → List ℕ → Option ℕ → Type 0
IsFirst bsize places None = places ≡ []
IsFirst bsize places (Some first) = (first_from bsize (first / bsize) places ≡ Some first)
    × ((place : ℕ) → In place places → place < (first / bsize + 1) * bsize)

-- the same with one more place
abbrev pub with_place : ℕ → Option ℕ → ℕ → ℕ
with_place bsize None place = place
with_place bsize (Some first) place = if first / bsize == place / bsize then first else place

-- the place of the first within its data block, where that is the last of those that so many bytes fill
abbrev pub start_in : ℕ → ℕ → Option ℕ → ℕ
start_in bsize stored None = nowhere
start_in bsize stored (Some first) =
    if first / bsize == (stored - 1) / bsize then first % bsize else nowhere
