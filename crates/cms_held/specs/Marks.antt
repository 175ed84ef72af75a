-- Where the records of a file of V begin in its data blocks.
use Rattle.std.specs.Prelude.{◌&&◌, ℕ, ◌+◌, ◌-◌, ◌*◌, ◌/◌, nat_le, nat_lt, List, [], ◌∷◌, length, count_by, find}
use Rattle.std.specs.Option.{option_map_or}
use Rattle.cms_names.specs.declared.name.Format.{Format}
use Rattle.cms_names.specs.declared.name.Format.TheVariants.{F, V}
use Rattle.cms_model.specs.Records.{stored}
use Rattle.cms_tree.specs.declared.types.Mark.{Mark}

-- the places, among all stored bytes, at which records begin, the first of them here
abbrev pub starts_from : ℕ → List (List ℕ) → List ℕ
starts_from place [] = []
starts_from place (text ∷ more) = place ∷ starts_from (place + (2 + length text)) more

-- the place in the mark of a data block in which no record begins
abbrev pub nowhere : ℕ
nowhere = 0xFFFFFFFF

-- the mark of data block k: how many records begin up to its end, and where in it the first does
abbrev pub mark_of : ℕ → List ℕ → ℕ → Mark
mark_of bsize starts k = record {
  last = count_by (λ place. nat_lt place ((k + 1) * bsize)) starts;
  place = option_map_or (λ place. place - k * bsize)
      (find (λ place. nat_le (k * bsize) place && nat_lt place ((k + 1) * bsize)) starts) nowhere;
}

-- of a file with these records the place in the data block that they fill in part at which the first
-- of them begins there; none where none does, where they fill whole blocks, and at F
abbrev pub start_of : ℕ → Format → List (List ℕ) → ℕ
start_of bsize F records = nowhere
start_of bsize V records = (mark_of bsize (starts_from 0 records) (length (stored V records) / bsize)).place
