-- Room in vectors.
use Rattle.std.proofs.Common.{◌≡◌, ◌+◌, ◌≤◌, ℕ, arith}

-- a new vector has the room that was asked for
pub new_room : (len room count wanted : ℕ) → len ≡ 0 → wanted ≤ room → wanted ≡ count → len + count ≤ room
new_room len room count wanted none asked is = omega arith

-- so many more have room
pub more_room : (len more count room : ℕ) → len + more ≤ room → more ≡ count → len + count ≤ room
more_room len more count room asked is = omega arith

-- the first part of what a new vector has room for
pub front_room : (len leaves pointers old room : ℕ) → len ≡ 0 → leaves + pointers ≤ room → old ≡ leaves → len + old ≤ room
front_room len leaves pointers old room none asked is = omega arith

-- the part behind it, once no more than that stands there
pub back_room : (none len leaves pointers old count before room : ℕ) → none ≡ 0 → leaves + pointers ≤ before → len ≤ none + old → old ≡ leaves → count ≡ pointers → before ≤ room
    → len + count ≤ room
back_room none len leaves pointers old count before room empty asked put is same more = omega arith
