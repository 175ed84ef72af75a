-- The shape of a file to which copies are added.
use Rattle.std.specs.Prelude.{◌≡◌, ℕ, ◌+◌, length, max, Result, Ok, Err}
use Rattle.cms_names.specs.declared.name.Format.{Format}
use Rattle.cms_names.specs.declared.name.Format.TheVariants.{F, V}
use Rattle.cms_fields.specs.declared.time.Stamp.{Stamp}
use Rattle.cms_held.specs.declared.shape.DraftShape.{DraftShape}
use Rattle.cms_edf.specs.declared.held.FileInfo.{FileInfo}
use Rattle.cms_model.specs.Records.{stored}
use Rattle.cms_search.specs.declared.fault.SearchFault.{SearchFault}
use Rattle.cms_files.specs.Files.{UnitFile}
use Rattle.cms_copyfile.specs.declared.measure.Measure.{Measure}

-- the length of its records, at V of the longest, with others behind those of that length
abbrev pub length_behind : Format → ℕ → ℕ → ℕ
length_behind F size longest = size
length_behind V size longest = max size longest

-- the shape of a file of which this is told, with records behind its own that were measured
abbrev pub shape_behind : FileInfo → ℕ → Stamp → Measure → DraftShape
shape_behind info bytes stamp more = record {
  format = info.format;
  length = length_behind info.format info.length more.longest;
  number = info.number;
  stamp = stamp;
  count = info.count + more.count;
  bytes = bytes + more.bytes;
}

-- a shape is that of the file that is found, of which this is told, with such records behind its own
abbrev pub IsShapeBehind : FileInfo → Stamp → Measure → DraftShape → Result UnitFile SearchFault → Type 0
IsShapeBehind info stamp more shape (Ok x) = shape ≡ shape_behind info (length (stored x.file.format x.file.records)) stamp more
IsShapeBehind info stamp more shape (Err e) = ⊥
