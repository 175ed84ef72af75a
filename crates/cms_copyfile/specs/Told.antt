-- A file that is copied, as its disk tells it before a record of it is read.
use Rattle.std.specs.Prelude.{◌≡◌, List, All, Ok}
use Rattle.cms_model.specs.Minidisks.{File}
use Rattle.cms_model.specs.Records.{Fits, length_of}
use Rattle.cms_model.specs.Trees.{Image}
use Rattle.cms_search.specs.Machine.{Machine}
use Rattle.cms_search.specs.Shows.{Shows}
use Rattle.cms_search.specs.Tables.{AccessTable}
use Rattle.cms_disk.specs.Cursors.{HasLeft, Cursor}
use Rattle.cms_files.specs.Files.{UnitFile}
use Rattle.cms_files.specs.Told.{IsInfo}
use Rattle.cms_copyfile.specs.Copyfile.{file_at}
use Rattle.cms_copyfile.specs.declared.copy.FileCopy.{FileCopy}

-- a file as it stands on a minidisk: its records fit its format, and at V the longest has its length
pub record IsStanding (f : File) : Type 0 where
  pub each : All (Fits f.format f.length) f.records
  pub long : f.length ≡ length_of f.format f.length f.records

-- the machine finds the file that is copied, and what is told of it is so
pub record IsFoundAs (s : Machine) (c : FileCopy) (x : UnitFile) : Type 0 where
  pub found : file_at s c.found ≡ Ok x
  pub info : IsInfo c.input x.file
  pub stands : IsStanding x.file

-- it is shown so, and its records are left to read
pub record IsLeftAs (t : AccessTable) (c : FileCopy) (image : Image) (r : Cursor) (x : UnitFile) : Type 0 where
  pub machine : Machine
  pub shows : Shows t machine
  pub found : IsFoundAs machine c x
  pub left : HasLeft image r x.file.records
