-- The entries of a directory by their places in its data blocks, and the data blocks that an update
-- of one file writes.
use Rattle.std.specs.Prelude.{◌≡◌, ◌⊎◌, ◌↔◌, ℕ, suc, ◌+◌, ◌*◌, ◌/◌, ◌%◌, ◌<◌, ◌≤◌, List, ◌∷◌, length, take, drop, slice_index_or, Ok}
use Rattle.cms_journal.specs.Journal.{IsBlockSize}
use Rattle.cms_fields.specs.Entries.{entry_of}
use Rattle.cms_fields.specs.declared.entry.Entry.{Entry}
use Rattle.cms_model.specs.DirectoryParts.{all_entries, blocks_with, directory_count, entry_block}
use Rattle.cms_model.specs.Lists.{In, cut}
use Rattle.cms_model.specs.SharedTrees.{MayBeWritten}
use Rattle.cms_model.specs.Trees.{Image, bytes_at}
use Rattle.cms_model.specs.Volumes.{as_read, entries_of, holder_of}
use Rattle.cms_held.specs.SharedBlocks.{AreLong}
use Rattle.cms_held.specs.Written.{all_read}

-- ---- entries by their places

-- the 64 bytes of the entry of a number
abbrev pub entry_at : ℕ → Image → List ℕ → ℕ → List ℕ
entry_at bsize image leaves number =
    take 64 (drop (number % (bsize / 64) * 64) (image (holder_of bsize leaves number)))

-- these bytes spell an entry that is read as this one
abbrev pub IsReadAs : ℕ → List ℕ → Entry → Type 0
IsReadAs bsize bytes e =
    (found : Entry) × (entry_of bsize bytes ≡ Ok found) × (as_read found ≡ as_read e)

-- each entry is read in the bytes at its place
abbrev pub AreSpelled : ℕ → Image → List ℕ → List Entry → Type 0
AreSpelled bsize image leaves entries = (k : ℕ) (d : Entry) → k < length entries
    → IsReadAs bsize (entry_at bsize image leaves (k + 2)) (slice_index_or entries k d)

-- the data blocks of a directory have these entries of files, as they are read
abbrev pub HasEntries : ℕ → Image → List ℕ → List Entry → Type 0
HasEntries bsize image leaves entries =
    entries_of bsize 2 (cut (length entries) 64 (drop 128 (bytes_at image leaves)))
    ≡ Ok (all_read entries)

-- the entries that are read are those of the bytes at their places
abbrev pub EntriesByPlace : Type 0
EntriesByPlace =
    (bsize : ℕ) (image : Image) (leaves : List ℕ) (entries : List Entry) → IsBlockSize bsize
    → AreLong bsize image leaves → 64 * (length entries + 2) ≤ length leaves * bsize
    → HasEntries bsize image leaves entries ↔ AreSpelled bsize image leaves entries

-- ---- what an update of one file writes

-- a list of entries has them where they were but for one place; where it is longer, this is a new
-- one at its end
pub record IsChangedAt (olds news : List Entry) (place : ℕ) : Type 0 where
  pub others : (k : ℕ) (d : Entry) → k < length news → (k ≡ place → ⊥)
      → slice_index_or news k d ≡ slice_index_or olds k d
  pub long : (length news ≤ length olds)
      ⊎ ((length news ≡ suc (length olds)) × (place ≡ length olds))

-- the entries in other data blocks are those that were there
abbrev pub EntriesStay : ℕ → List ℕ → List Entry → List Entry → Type 0
EntriesStay bsize written olds news = (k : ℕ) (d : Entry) → k < length news
    → (In (entry_block bsize (k + 2)) written → ⊥)
    → (k < length olds) × (slice_index_or news k d ≡ slice_index_or olds k d)

-- these data blocks are enough to be written: they may be, the first is one of them, and the
-- entries in the others are those that were there
pub record IsEnoughFor (bsize : ℕ) (olds news : List Entry) (written : List ℕ) : Type 0 where
  pub may : MayBeWritten (directory_count bsize (length olds)) (directory_count bsize (length news))
      written
  pub first : In 0 written
  pub stay : EntriesStay bsize written olds news

-- so are the first and that of the entry that changes, and any more
abbrev pub PlacesAreEnough : Type 0
PlacesAreEnough =
    (bsize : ℕ) (olds news : List Entry) (place : ℕ) (more : List ℕ) → IsBlockSize bsize
    → IsChangedAt olds news place
    → IsEnoughFor bsize olds news
    (blocks_with bsize (directory_count bsize (length news)) (0 ∷ (place + 2) ∷ more))

-- and so are all, where there are as many entries as there were
abbrev pub AllAreEnough : Type 0
AllAreEnough =
    (bsize : ℕ) (olds news : List Entry) → IsBlockSize bsize → length news ≡ length olds
    → IsEnoughFor bsize olds news
    (blocks_with bsize (directory_count bsize (length news)) (all_entries (length olds)))
