-- Records of a file that are passed over, without being read, and readings that go on.
use Rattle.std.specs.Prelude.{◌≡◌, ◌⊎◌, ◌+◌, ℕ, pos, Bool, true, false, List, drop, Some}
use Rattle.cms_model.specs.Trees.{Image}
use Rattle.cms_names.specs.declared.name.Name.{Name}
use Rattle.cms_disk.specs.Cursors.{HasLeft, Cursor, SameFile}
use Rattle.cms_search.specs.Tables.{AccessTable, reading_on, with_reading}
use Rattle.cms_search.specs.declared.readings.KeptReading.{KeptReading}
use Rattle.cms_search.specs.declared.state.Course.{Course}
use Rattle.cms_search.specs.declared.state.Course.TheVariants.{Went}

-- so many records that were left to hand out are passed over: none, or some of a file whose records have one length
pub record IsPast (n : ℕ) (old new : Cursor) : Type 0 where
  pub some : ((n ≡ 0) × (new ≡ old)) ⊎ ((size : ℕ) × (old.begun.fixed ≡ Some size))
  pub left : n + new.left ≡ old.left
  pub rest : (image : Image) (records : List (List ℕ)) → HasLeft image old records → HasLeft image new (drop n records)
  pub file : SameFile old new

-- the reading of the file of a name that stands behind so many records
abbrev pub reading_behind : Name → ℕ → Cursor → KeptReading
reading_behind name n c = record { name = name; count = n; cursor = c }

-- the disk of letter n keeps it, or it is dropped
abbrev pub table_behind : AccessTable → ℕ → Name → ℕ → Bool → Cursor → AccessTable
table_behind t n name count true c = t
table_behind t n name count false c = with_reading n (Some (reading_behind name count c)) t

-- it keeps one that stands so
abbrev pub KeepsBehind : AccessTable → ℕ → Name → ℕ → Type 0
KeepsBehind t n name count = (c : Cursor) × (reading_on t n ≡ Some (reading_behind name count c))

-- so it does where a command ends, unless its file couldn't be read on, with code 100 or 104
abbrev pub GoesOnBehind : AccessTable → ℕ → Name → ℕ → Course → Type 0
GoesOnBehind t n name count course =
    (course ≡ Went (pos 100)) ⊎ (course ≡ Went (pos 104)) ⊎ KeepsBehind t n name count
