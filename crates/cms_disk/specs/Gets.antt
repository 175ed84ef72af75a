-- A file that is read whole.
use Rattle.std.specs.Prelude.{◌≡◌, ℕ, List, length, slice_get, All, None, Some, Result, Ok, Err, ⊤}
use Rattle.cms_names.specs.declared.name.Name.{Name}
use Rattle.cms_names.specs.declared.name.Format.{Format}
use Rattle.cms_names.specs.declared.name.Format.TheVariants.{F, V}
use Rattle.cms_model.specs.Trees.{Image}
use Rattle.cms_model.specs.Minidisks.{File, Minidisk}
use Rattle.cms_model.specs.Records.{Fits, StandsFor, longest, stored}
use Rattle.cms_model.specs.Changes.{file_named}
use Rattle.cms_model.specs.declared.file.FileData.{FileData}
use Rattle.cms_disk.specs.Cursors.{Cursor}
use Rattle.cms_held.specs.HeldVolumes.{HeldVolume}
use Rattle.cms_edf.specs.FilesTold.{infos_in}
use Rattle.cms_edf.specs.declared.held.FileInfo.{FileInfo}
use Rattle.cms_disk.specs.Disks.{Accessed, StandsIn, place_of}
use Rattle.cms_disk.specs.declared.fault.DiskFault.{DiskFault}
use Rattle.cms_disk.specs.declared.fault.DiskFault.TheVariants as failed

-- the bytes are those of as many records as were left, of which this is the longest's length
pub record Gathers (format : Format) (c : Cursor) (bytes : List ℕ) (most : ℕ) (records : List (List ℕ)) : Type 0 where
  pub bytes_are : bytes ≡ stored format records
  pub most_is : most ≡ longest records
  pub count_is : length records ≡ c.left
  pub each : All (Fits format c.begun.longest) records

-- the length of a file's records: the one given at F, the longest's at V
abbrev pub data_length : Format → ℕ → ℕ → ℕ
data_length F size most = size
data_length V size most = most

-- the data are the file's: its records, and what is said of them
pub record IsDataOf (f : File) (d : FileData) : Type 0 where
  pub stands : StandsFor d f.records
  pub format_is : d.format ≡ f.format
  pub length_is : d.length ≡ f.length
  pub number_is : d.number ≡ f.number
  pub stamp_is : d.stamp ≡ f.stamp

-- what is answered for the file of a name: its data, or that there is none; it is never found altered
abbrev pub GetsFile : Name → Minidisk → Result FileData DiskFault → Type 0
GetsFile name m (Ok d) = (f : File) × (file_named name m.files ≡ Some f) × IsDataOf f d
GetsFile name m (Err failed.NotFound) = file_named name m.files ≡ None
GetsFile name m (Err failed.Device) = ⊤
GetsFile name m (Err failed.Memory) = ⊤
GetsFile name m (Err failed.Exists) = ⊥
GetsFile name m (Err failed.ReadOnly) = ⊥
GetsFile name m (Err failed.InDoubt) = ⊥
GetsFile name m (Err failed.Altered) = ⊥
GetsFile name m (Err (failed.Limit which)) = ⊥
GetsFile name m (Err (failed.Full need free)) = ⊥

-- what was read whole is the file of this name, in each image of which the disk holds the minidisk
abbrev pub GetsIn : Image → Accessed → Name → Result FileData DiskFault → Type 0
GetsIn image d name result = (m : Minidisk) → StandsIn image d m → GetsFile name m result

-- in every world the data have the format that is told of the file of a name, and where all records have one length, that
pub record IsLike (v : HeldVolume) (name : Name) (d : FileData) : Type 0 where
  pub place : ℕ
  pub place_is : place_of name v ≡ Some place
  pub info : FileInfo
  pub info_is : slice_get (infos_in v) place ≡ Some info
  pub format : d.format ≡ info.format
  pub fixed : info.format ≡ F → d.length ≡ info.length
