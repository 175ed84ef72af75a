-- The procedures that are found, as the table finds them.
use Rattle.std.proofs.Common.{◌≡◌, ◌∙◌, ℕ, List, Option, Some, None, Result, Ok, Err, slice_get, refl, sym, ap}
use Rattle.std.specs.Option.{option_and_then, option_map}
use Rattle.cms_names.specs.declared.name.Name.{Name}
use Rattle.cms_edf.specs.FilesTold.{infos_in}
use Rattle.cms_edf.specs.declared.held.FileInfo.{FileInfo}
use Rattle.cms_operands.specs.declared.mode.ReadMode.TheVariants.{Any}
use Rattle.cms_search.specs.Machine.{Machine}
use Rattle.cms_search.specs.Searches.{Listed, Shelf, Shelves, item_at, look_up, shelves_in}
use Rattle.cms_search.specs.Shows.{Shows}
use Rattle.cms_search.specs.Tables.{AccessTable, Seated, shelf_of, shelves_of, told_of}
use Rattle.cms_search.specs.declared.fault.SearchFault.{SearchFault}
use Rattle.cms_search.specs.declared.search.Found.{Found}
use Rattle.cms_search.proofs.Searches.{item_at_map}
use Rattle.cms_search.proofs.Shown.{shelves_shown, told_listed}
use Rattle.cms_files.specs.Told.{info_found}
use Rattle.exec2_run.specs.declared.exec.FileName.{FileName}
use Rattle.cms_exec.specs.Searches.{exec_name, file_found, file_name, found_as, listed_at, procedure_named}

-- ---- a file that was found

-- what the table tells of it
listed_shown : (t : AccessTable) (found : Found) → listed_at (shelves_of t) found ≡ option_map told_of (info_found t found)
listed_shown t found =
    ap (λ (x : Option Shelf). option_and_then (λ (shelf : Shelf). slice_get shelf.files found.place) x) (item_at_map shelf_of t.seats found.letter) ∙ cases (item_at t.seats found.letter)
  where
    cases : (x : Option Seated) → option_and_then (λ (shelf : Shelf). slice_get shelf.files found.place) (option_map shelf_of x)
        ≡ option_map told_of (option_and_then (λ (s : Seated). slice_get (infos_in s.disk.volume) found.place) x)
    cases None = refl
    cases (Some s) = told_listed s.disk.volume.files found.place

pub found_so : (t : AccessTable) (name : Name) (found : Found) (x : Option FileInfo) → x ≡ info_found t found
    → option_map (λ (info : FileInfo). file_name name found.letter (told_of info)) x ≡ file_found (shelves_of t) name found
found_so t name found x is = told x ∙ ap (λ (f : Option Listed). option_map (λ (y : Listed). file_name name found.letter y) f) (ap (option_map told_of) is ∙ sym (listed_shown t found))
  where
    told : (y : Option FileInfo) → option_map (λ (info : FileInfo). file_name name found.letter (told_of info)) y
        ≡ option_map (λ (f : Listed). file_name name found.letter f) (option_map told_of y)
    told None = refl
    told (Some info) = refl

-- ---- a procedure

pub procedure_found : (t : AccessTable) (file : List ℕ) (r : Result Found SearchFault) (found : Found) (f : Option FileName)
    → ((s : Machine) → Shows t s → r ≡ look_up (shelves_in s) Any (exec_name file)) → r ≡ Ok found → f ≡ file_found (shelves_of t) (exec_name file) found
    → (s : Machine) → Shows t s → f ≡ procedure_named s file
procedure_found t file r found f finds is there s shows =
    there ∙ (ap (λ (x : Shelves). file_found x (exec_name file) found) (shelves_shown t s shows)
    ∙ ap (λ (x : Result Found SearchFault). found_as (shelves_in s) (exec_name file) x) (sym is ∙ finds s shows))

pub procedure_unfound : (t : AccessTable) (file : List ℕ) (r : Result Found SearchFault) (why : SearchFault)
    → ((s : Machine) → Shows t s → r ≡ look_up (shelves_in s) Any (exec_name file)) → r ≡ Err why → (s : Machine) → Shows t s → None ≡ procedure_named s file
procedure_unfound t file r why finds is s shows = ap (λ (x : Result Found SearchFault). found_as (shelves_in s) (exec_name file) x) (sym is ∙ finds s shows)
