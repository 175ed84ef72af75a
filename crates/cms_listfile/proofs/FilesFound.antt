-- The files that LISTFILE lists, as the table finds them.
use Rattle.std.proofs.Common.{◌≡◌, ◌∙◌, ℕ, List, [], ◌∷◌, Result, Ok, Err, refl, sym, ap}
use Rattle.std.specs.Prelude.{⊤}
use Rattle.cms_search.specs.Machine.{Machine}
use Rattle.cms_search.specs.Searches.{Shelves, fitting, item_at, search, shelves_in}
use Rattle.cms_search.specs.Shows.{Shows}
use Rattle.cms_search.specs.Tables.{AccessTable, letters_of, shelves_of, writing}
use Rattle.cms_search.specs.declared.fault.SearchFault.{SearchFault}
use Rattle.cms_search.specs.declared.fault.SearchFault.TheVariants as why
use Rattle.cms_search.specs.declared.search.Found.{Found}
use Rattle.cms_search.proofs.Shown.{shelves_shown}
use Rattle.cms_search.proofs.Stepped.{written_at}
use Rattle.cms_files.specs.Files.{writable}
use Rattle.cms_files.proofs.TakenFiles.{no_shelf, open_shelf}
use Rattle.cms_listfile.specs.Listfile.{files_listed, has_disk, may_write}
use Rattle.cms_listfile.specs.declared.listfile.ListLine.{ListLine}

-- ---- the disk that is written

pub disk_checked : (t : AccessTable) (s : Machine) (n : ℕ) (r : Result ⊤ SearchFault) → Shows t s → r ≡ writing (item_at (letters_of t) n) n → may_write (writable (shelves_in s) n) ≡ r
disk_checked t s n (Ok tt) shows is =
    let seat = written_at t n (sym is) in
    ap (λ (x : Shelves). may_write (writable x n)) (sym (shelves_shown t s shows)) ∙ ap may_write (open_shelf t n seat.0 seat.1 (sym is))
disk_checked t s n (Err e) shows is = ap (λ (x : Shelves). may_write (writable x n)) (sym (shelves_shown t s shows)) ∙ ap may_write (no_shelf t n e (sym is))

-- ---- the files

abbrev searched : Shelves → ListLine → Result (List Found) SearchFault
searched shelves line = search shelves line.files.mode (fitting line.files.file line.files.kind)

pub not_searched : (t : AccessTable) (line : ListLine) (e : SearchFault) → searched (shelves_of t) line ≡ Err e → (s : Machine) → Shows t s → files_listed s line ≡ Err e
not_searched t line e is s shows =
    let found : searched (shelves_in s) line ≡ Err e = ap (λ (x : Shelves). searched x line) (sym (shelves_shown t s shows)) ∙ is in
    rw found refl

pub not_written : (s : Machine) (line : ListLine) (found : List Found) (e : SearchFault) → searched (shelves_in s) line ≡ Ok found → has_disk s line.style.delivery ≡ Err e
    → files_listed s line ≡ Err e
not_written s line found e is disk = rw (is, disk) refl

pub none_listed : (s : Machine) (line : ListLine) (found : List Found) (x : ⊤) → searched (shelves_in s) line ≡ Ok found → has_disk s line.style.delivery ≡ Ok x → found ≡ []
    → files_listed s line ≡ Err why.NotFound
none_listed s line found x is disk none = rw (is, disk, none) refl

pub some_listed : (s : Machine) (line : ListLine) (found : List Found) (x : ⊤) → searched (shelves_in s) line ≡ Ok found → has_disk s line.style.delivery ≡ Ok x → (found ≡ [] → ⊥)
    → files_listed s line ≡ Ok found
some_listed s line [] x is disk some = absurd (some refl)
some_listed s line (f ∷ found) x is disk some = rw (is, disk) refl
