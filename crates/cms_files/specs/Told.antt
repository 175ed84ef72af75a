-- What a table tells of its files.
use Rattle.std.specs.Prelude.{◌≡◌, ℕ, length, slice_get, Option, Some, Result, Ok, Err}
use Rattle.std.specs.Option.{option_and_then}
use Rattle.cms_names.specs.declared.name.Name.{Name}
use Rattle.cms_model.specs.Minidisks.{File}
use Rattle.cms_model.specs.Records.{stored}
use Rattle.cms_edf.specs.FilesTold.{infos_in, stored_in}
use Rattle.cms_edf.specs.declared.held.FileInfo.{FileInfo}
use Rattle.cms_disk.specs.Disks.{place_of}
use Rattle.cms_search.specs.Searches.{item_at}
use Rattle.cms_search.specs.Tables.{AccessTable, Seated}
use Rattle.cms_search.specs.declared.fault.SearchFault.{SearchFault}
use Rattle.cms_search.specs.declared.search.Found.{Found}
use Rattle.cms_files.specs.Files.{UnitFile}

-- what is told of the file of a name on the disk of a letter, where it is there
abbrev pub info_named : AccessTable → ℕ → Name → Option FileInfo
info_named t n name =
    option_and_then (λ s. option_and_then (λ place. slice_get (infos_in s.disk.volume) place) (place_of name s.disk.volume))
    (item_at t.seats n)

-- how many bytes are stored of it
abbrev pub stored_named : AccessTable → ℕ → Name → Option ℕ
stored_named t n name =
    option_and_then (λ s. option_and_then (λ place. slice_get (stored_in s.disk.volume) place) (place_of name s.disk.volume))
    (item_at t.seats n)

-- its place on that disk
abbrev pub place_named : AccessTable → ℕ → Name → Option ℕ
place_named t n name = option_and_then (λ s. place_of name s.disk.volume) (item_at t.seats n)

-- a file is found, and its records have so many bytes as they are stored
abbrev pub HasStored : ℕ → Result UnitFile SearchFault → Type 0
HasStored bytes (Ok x) = bytes ≡ length (stored x.file.format x.file.records)
HasStored bytes (Err e) = ⊥

-- what is told of a file that was found, where it is there
abbrev pub info_found : AccessTable → Found → Option FileInfo
info_found t found = option_and_then (λ s. slice_get (infos_in s.disk.volume) found.place) (item_at t.seats found.letter)

-- how many bytes are stored of it
abbrev pub stored_found : AccessTable → Found → Option ℕ
stored_found t found = option_and_then (λ s. slice_get (stored_in s.disk.volume) found.place) (item_at t.seats found.letter)

-- what is told of a file is so
pub record IsInfo (info : FileInfo) (f : File) : Type 0 where
  pub name : info.name ≡ f.name
  pub number : info.number ≡ f.number
  pub format : info.format ≡ f.format
  pub size : info.length ≡ f.length
  pub stamp : info.stamp ≡ f.stamp
  pub count : info.count ≡ length f.records

-- the file of a name stands where it was found
pub record IsFoundAt (t : AccessTable) (found : Found) (name : Name) : Type 0 where
  pub seat : Seated
  pub there : item_at t.seats found.letter ≡ Some seat
  pub place_is : place_of name seat.disk.volume ≡ Some found.place
