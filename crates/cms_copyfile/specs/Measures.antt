-- What is told of records before a file of them is drafted.
use Rattle.std.specs.Prelude.{ℕ, ◌≤◌, List, length}
use Rattle.cms_names.specs.declared.name.Format.{Format}
use Rattle.cms_names.specs.declared.name.Format.TheVariants.{F, V}
use Rattle.cms_fields.specs.Limits.{longest_record}
use Rattle.cms_held.specs.Kept.{IsSized}
use Rattle.cms_model.specs.Records.{longest, stored}
use Rattle.cms_copyfile.specs.declared.measure.Measure.{Measure}
use Rattle.cms_copyfile.specs.declared.output.FileForm.{FileForm}

-- how many there are, how many bytes they fill as they are stored, and how long the longest is
abbrev pub measured : Format → List (List ℕ) → Measure
measured format records = record { count = length records; bytes = length (stored format records); longest = longest records }

-- the length of a file's records: the one given at F, the longest's at V
abbrev pub length_by : Format → ℕ → ℕ → ℕ
length_by F size most = size
length_by V size most = most

-- a file of this format can have records that are measured so: there is one, the file's length is one that records have, and the bytes are
-- those that so many fill
pub record IsMeasure (form : FileForm) (m : Measure) : Type 0 where
  pub some : 1 ≤ m.count
  pub low : 1 ≤ length_by form.format form.length m.longest
  pub high : length_by form.format form.length m.longest ≤ longest_record
  pub sized : IsSized form.format (length_by form.format form.length m.longest) m.count m.bytes
