-- The records of a file, as its stored bytes hold them.
use Rattle.std.specs.Prelude.{ℕ, List}
use Rattle.cms_names.specs.declared.name.Format.{Format}
use Rattle.cms_names.specs.declared.name.Format.TheVariants.{F, V}
use Rattle.cms_model.specs.Lists.{cut}
use Rattle.cms_model.specs.declared.file.FileData.{FileData}
use Rattle.cms_records.specs.Views.{front}
use Rattle.cms_records.specs.declared.stored.View.{View}
use Rattle.cms_records.specs.declared.stored.View.TheVariants.{Fixed, Varying}

-- so many records with which bytes begin: of one size at F, each behind its length at V
abbrev pub records_at : Format → ℕ → ℕ → List ℕ → List (List ℕ)
records_at F size count bytes = cut count size bytes
records_at V size count bytes = front count bytes

-- all records of a file
abbrev pub records_in : FileData → List (List ℕ)
records_in f = records_at f.format f.length f.count f.bytes

-- the records that a view has left
abbrev pub left_in : View → List (List ℕ)
left_in (Fixed records) = records
left_in (Varying records) = records
