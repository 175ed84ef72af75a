-- What follows where the stamps of a minidisk are moved by a century.
use Rattle.std.specs.Prelude.{◌≡◌, ℕ, ◌<◌, ◌≤◌, true, length}
use Rattle.cms_journal.specs.Journal.{IsBlockSize}
use Rattle.cms_fields.specs.Stamps.{is_stamp}
use Rattle.cms_fields.specs.declared.time.Stamp.{Stamp}
use Rattle.cms_model.specs.Changes.{Century, count_after, directory_fresh, directory_written, stamp_moved}
use Rattle.cms_model.specs.DirectoryParts.{directory_count}
use Rattle.cms_model.specs.Lists.{In}
use Rattle.cms_model.specs.Minidisks.{Minidisk}
use Rattle.cms_model.specs.Sizes.{directory_more}

-- what is moved is a stamp again: a leap year stays one
abbrev pub MovedIsStamp : Type 0
MovedIsStamp = (pivot : ℕ) (stamp : Stamp) → pivot ≤ 100 → is_stamp stamp ≡ true → is_stamp (stamp_moved pivot stamp) ≡ true

-- and stays where it is when stamps are moved again
abbrev pub MovedIsLate : Type 0
MovedIsLate = (pivot : ℕ) (stamp : Stamp) → pivot ≤ 100 → is_stamp stamp ≡ true
    → stamp_moved pivot (stamp_moved pivot stamp) ≡ stamp_moved pivot stamp

-- there are as many files, all data blocks of the directory are written, and it needs as many free blocks as a whole one
pub record WritesWhole (m : Minidisk) (pivot : ℕ) : Type 0 where
  pub count : count_after m (Century pivot) ≡ length m.files
  pub written : (n : ℕ) → n < directory_count m.bsize (length m.files) → In n (directory_written m (Century pivot))
  pub fresh : directory_fresh m (Century pivot) ≡ directory_more m.bsize (length m.files)

-- so does each such change
abbrev pub CenturyIsWhole : Type 0
CenturyIsWhole = (m : Minidisk) (pivot : ℕ) → IsBlockSize m.bsize → WritesWhole m pivot
