-- What the tests of an entry say of its tree and of its bytes.
use Rattle.std.specs.Prelude.{◌≡◌, ◌<◌, ◌≤◌, ℕ, ◌-◌, ◌*◌}
use Rattle.cms_fields.specs.Limits.{longest_record, most_bytes}
use Rattle.cms_names.specs.declared.name.Format.TheVariants.{F}
use Rattle.cms_fields.specs.Entries.{fan_of}
use Rattle.cms_fields.specs.declared.entry.Entry.{Entry}
use Rattle.cms_model.specs.Sizes.{levels}

-- the levels of a file's tree are those of its data blocks
abbrev pub HasShape : ℕ → Entry → Type 0
HasShape bsize e = (1 ≤ e.blocks) × (e.levels ≡ levels (fan_of bsize e.format) e.blocks)

-- so many bytes end in the last of so many data blocks
abbrev pub EndsIn : ℕ → ℕ → ℕ → Type 0
EndsIn bsize blocks bytes = ((blocks - 1) * bsize < bytes) × (bytes ≤ blocks * bsize)

-- it has a record and a data block, and its data blocks have no more than 67,108,864 bytes; at F its records have no more either, and end
-- in the last of these blocks, and each has 1 to 65,535
pub record HasSize (bsize : ℕ) (e : Entry) : Type 0 where
  pub some : 1 ≤ e.count
  pub blocks : 1 ≤ e.blocks
  pub room : e.blocks * bsize ≤ most_bytes
  pub few : e.format ≡ F → e.count * e.length ≤ most_bytes
  pub ends : e.format ≡ F → EndsIn bsize e.blocks (e.count * e.length)
  pub fits : e.format ≡ F → (1 ≤ e.length) × (e.length ≤ longest_record)
