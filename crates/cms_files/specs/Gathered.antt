-- Records that are gathered for a file.
use Rattle.std.specs.Prelude.{◌≡◌, ◌≤◌, ℕ, List, length, All}
use Rattle.cms_names.specs.declared.name.Format.{Format}
use Rattle.cms_names.specs.declared.name.Format.TheVariants.{F, V}
use Rattle.cms_fields.specs.Limits.{longest_record}
use Rattle.cms_fields.specs.declared.time.Stamp.{Stamp}
use Rattle.cms_model.specs.Records.{Fits, StandsFor, length_of, stored}
use Rattle.cms_model.specs.declared.file.FileData.{FileData}
use Rattle.cms_records.specs.Views.{fitted}
use Rattle.cms_files.specs.declared.gathered.Gathered.{Gathered}

-- the record that a text is: at F it is cut to the length of the file's records, or filled with blanks
abbrev pub record_in : Format → ℕ → List ℕ → List ℕ
record_in F size text = fitted text size 0x40
record_in V size text = text

-- these were gathered, at F each of this length
pub record IsGathered (format : Format) (size : ℕ) (records : List (List ℕ)) (g : Gathered) : Type 0 where
  pub format_is : g.format ≡ format
  pub length_is : g.length ≡ length_of format size records
  pub count_is : g.count ≡ length records
  pub bytes_are : g.bytes.items ≡ stored format records
  pub each : All (Fits format size) records

-- there is one, and they have a length that records may have
pub record AreFile (format : Format) (size : ℕ) (records : List (List ℕ)) : Type 0 where
  pub some : 1 ≤ length records
  pub low : 1 ≤ length_of format size records
  pub high : length_of format size records ≤ longest_record

-- the data of a file of them
pub record AreData (format : Format) (size number : ℕ) (stamp : Stamp) (records : List (List ℕ)) (f : FileData) : Type 0 where
  pub stands : StandsFor f records
  pub format_is : f.format ≡ format
  pub length_is : f.length ≡ length_of format size records
  pub number_is : f.number ≡ number
  pub stamp_is : f.stamp ≡ stamp
