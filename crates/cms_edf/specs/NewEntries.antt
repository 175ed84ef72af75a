-- The entries of files of which one is another, or whose stamps are moved, told one by one.
use Rattle.std.specs.Prelude.{◌≡◌, ◌⊎◌, ℕ, ◌+◌, ◌≤◌, List, [], ◌∷◌, ◌++◌, map, slice_set, take}
use Rattle.cms_fields.specs.declared.entry.Entry.{Entry}
use Rattle.cms_held.specs.Renewals.{moved_entry}
use Rattle.cms_edf.specs.declared.new_entries.Alteration.{Alteration}
use Rattle.cms_edf.specs.declared.new_entries.Alteration.TheVariants.{Other, Moved}

-- the first so many entries, where another stands in a place or behind them
abbrev pub new_entries : List Entry → ℕ → ℕ → Entry → List Entry
new_entries entries count place e = take count (slice_set (entries ++ e ∷ []) place e)

-- they are no more than there are; one more only where the other stands behind them
abbrev pub AreNewEntries : ℕ → ℕ → ℕ → Type 0
AreNewEntries files count place = (count ≤ files) ⊎ ((count ≡ files + 1) × (place ≡ files))

-- the first so many entries, altered
abbrev pub altered : List Entry → ℕ → Alteration → List Entry
altered entries count (Other place e) = new_entries entries count place e
altered entries count (Moved pivot) = map (moved_entry pivot) entries

-- so many of them can be altered so; their stamps where these are all
abbrev pub AreAltered : ℕ → ℕ → Alteration → Type 0
AreAltered files count (Other place e) = AreNewEntries files count place
AreAltered files count (Moved pivot) = (count ≡ files) × (pivot ≤ 100)
