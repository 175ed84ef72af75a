-- What a table tells of the file of a name is what the machine has.
use Rattle.std.proofs.Common.{◌≡◌, ◌∙◌, ◌<◌, ℕ, zero, suc, List, [], ◌∷◌, Result, Ok, Err, length, refl, sym, ap, subst, arith}
use Rattle.std.specs.Prelude.{Option, Some, None, IfSome, slice_get, slice_index_or}
use Rattle.std.specs.Option.{option_and_then, option_map}
use Rattle.std.proofs.lemmas.Option.{slice_get-get_or}
use Rattle.cms_names.specs.declared.name.Name.{Name}
use Rattle.cms_names.specs.declared.name.Format.TheVariants.{F}
use Rattle.cms_fields.specs.Moments.{first_moment, stamp_of}
use Rattle.cms_model.specs.Changes.{file_named}
use Rattle.cms_model.specs.LawsChanges.{IsPlace}
use Rattle.cms_model.specs.Minidisks.{File, Minidisk}
use Rattle.cms_model.specs.Trees.{Image}
use Rattle.cms_model.proofs.ListChanges.{none_added, place_changed}
use Rattle.cms_held.specs.HeldVolumes.{HeldFile, HeldVolume}
use Rattle.cms_held.specs.LawsHeld.{IsFileOf, IsFound, IsMinidiskOf}
use Rattle.cms_edf.specs.FilesTold.{info_of, infos_in, stored_in}
use Rattle.cms_edf.specs.declared.held.FileInfo.{FileInfo}
use Rattle.cms_disk.specs.Disks.{Accessed, StandsIn, place_of}
use Rattle.cms_disk.proofs.FilesFound.{stands_tells, stored_told}
use Rattle.cms_search.specs.Machine.{Letter, Machine, letter_at, minidisk_in}
use Rattle.cms_search.specs.Searches.{item_at}
use Rattle.cms_search.specs.Shows.{Shows}
use Rattle.cms_search.specs.Tables.{AccessTable, Seated}
use Rattle.cms_search.specs.declared.fault.SearchFault.{SearchFault}
use Rattle.cms_search.specs.declared.search.Found.{Found}
use Rattle.cms_search.proofs.Released.{get_map, letter_told}
use Rattle.cms_files.specs.Files.{UnitFile, file_in, file_on, unit_file}
use Rattle.cms_files.specs.Told.{HasStored, IsFoundAt, IsInfo, info_found, info_named, stored_found}

any_file : Name → File
any_file name = record { name = name; number = 0; format = F; length = 0; stamp = stamp_of first_moment; records = [] }

-- a file stands at a place below their number
pub held_at : (hs : List HeldFile) (k : ℕ) → k < length hs → (h : HeldFile) × (slice_get hs k ≡ Some h)
held_at [] k less = absurd (omega (arith, less))
held_at (h ∷ hs) zero less = (h, refl)
held_at (h ∷ hs) (suc k) less = held_at hs k (omega (arith, less))

pub info_is : (bsize : ℕ) (image : Image) (h : HeldFile) (f : File) → IsFileOf bsize image h f → IsInfo (info_of h) f
info_is bsize image h f is = record {
  name = is.name_is;
  number = is.number_is;
  format = is.format_is;
  size = is.length_is;
  stamp = is.stamp_is;
  count = is.count_is;
}

-- what is told of a file is the machine's
abbrev pub IsTold : Result UnitFile SearchFault → Option FileInfo → Type 0
IsTold (Ok x) (Some info) = IsInfo info x.file
IsTold (Ok x) None = ⊥
IsTold (Err why) (Some info) = ⊥
IsTold (Err why) None = Unit {0}

placed_told : (u : ℕ) (image : Image) (name : Name) (v : HeldVolume) (m : Minidisk) (place : Option ℕ) → IsMinidiskOf image v m → IsFound name m.files place
    → IsTold (unit_file u (file_named name m.files)) (option_and_then (λ (k : ℕ). slice_get (infos_in v) k) place)
placed_told u image name v m None held none = let absent = (none_added name m.files none).absent in rw absent tt
placed_told u image name v m (Some k) held place =
    let f = slice_index_or m.files k (any_file name) in
    let there : slice_get m.files k ≡ Some f = slice_get-get_or m.files k (any_file name) place.within in
    let named = (place_changed name m.files k place).found (any_file name) in
    let within = place.within in
    let count = held.count_is in
    let h = held_at v.files k (omega arith) in
    let is = held.files_are k h.0 f h.1 there in
    let info : slice_get (infos_in v) k ≡ Some (info_of h.0) = get_map info_of v.files k ∙ ap (λ (x : Option HeldFile). option_map info_of x) h.1 in
    subst (λ (x : Option File). IsTold (unit_file u x) (slice_get (infos_in v) k)) (sym named)
    (subst (λ (x : Option FileInfo). IsTold (unit_file u (Some f)) x) (sym info) (info_is m.bsize image h.0 f is))

seat_told : (s : Machine) (name : Name) (n : ℕ) (seat : Seated) (image : Image) (m : Minidisk) → letter_at s n ≡ Some seat.letter
    → minidisk_in (slice_get s.units seat.letter.unit) ≡ Some m → StandsIn image seat.disk m
    → IsTold (file_on s name (letter_at s n)) (option_and_then (λ (k : ℕ). slice_get (infos_in seat.disk.volume) k) (place_of name seat.disk.volume))
seat_told s name n seat image m letter has stands =
    let tells = stands_tells image seat.disk m stands in
    let file : file_on s name (letter_at s n) ≡ unit_file seat.letter.unit (file_named name m.files) =
    ap (λ (x : Option Letter). file_on s name x) letter ∙ ap (λ (x : Option Minidisk). file_in seat.letter.unit name x) has in
    subst (λ (x : Result UnitFile SearchFault). IsTold x (option_and_then (λ (k : ℕ). slice_get (infos_in seat.disk.volume) k) (place_of name seat.disk.volume))) (sym file)
    (placed_told seat.letter.unit image name seat.disk.volume m (place_of name seat.disk.volume) tells.held (tells.found name))

abbrev named_in : Name → Option Seated → Option FileInfo
named_in name x = option_and_then (λ s. option_and_then (λ place. slice_get (infos_in s.disk.volume) place) (place_of name s.disk.volume)) x

pub file_told : (t : AccessTable) (s : Machine) (n : ℕ) (name : Name) → Shows t s → IsTold (file_on s name (letter_at s n)) (info_named t n name)
file_told t s n name shows = cases (item_at t.seats n) refl
  where
    letter : letter_at s n ≡ option_map (λ (x : Seated). x.letter) (item_at t.seats n)
    letter = ap (λ (ls : List (Option Letter)). item_at ls n) (sym shows.letters) ∙ letter_told t.seats n

    cases : (x : Option Seated) → item_at t.seats n ≡ x → IsTold (file_on s name (letter_at s n)) (named_in name x)
    cases None at =
        let none : letter_at s n ≡ None = letter ∙ ap (λ (y : Option Seated). option_map (λ (x : Seated). x.letter) y) at in
        rw none tt
    cases (Some seat) at =
        let e = shows.each n seat at in
        seat_told s name n seat e.0 e.1 (letter ∙ ap (λ (y : Option Seated). option_map (λ (x : Seated). x.letter) y) at) e.2 e.3

-- ---- how many bytes are stored of it

has_stored : (u : ℕ) (image : Image) (name : Name) (d : Accessed) (m : Minidisk) (k bytes : ℕ) → StandsIn image d m → place_of name d.volume ≡ Some k → slice_get (stored_in d.volume) k ≡ Some bytes
    → HasStored bytes (unit_file u (file_named name m.files))
has_stored u image name d m k bytes stands at told =
    let tells = stands_tells image d m stands in
    let place : IsPlace name m.files k = subst (IsFound name m.files) at (tells.found name) in
    let f = slice_index_or m.files k (any_file name) in
    let there : slice_get m.files k ≡ Some f = slice_get-get_or m.files k (any_file name) place.within in
    let named = (place_changed name m.files k place).found (any_file name) in
    subst (λ (x : Option File). HasStored bytes (unit_file u x)) (sym named) (stored_told image d m f k bytes stands there told)

-- of the file of a name where it was found
pub found_stored : (t : AccessTable) (s : Machine) (found : Found) (name : Name) (bytes : ℕ) → IsFoundAt t found name → Some bytes ≡ stored_found t found → Shows t s
    → HasStored bytes (file_on s name (letter_at s found.letter))
found_stored t s found name bytes here is shows =
    let seat = here.seat in
    let n = found.letter in
    let e = shows.each n seat here.there in
    let own : letter_at s n ≡ Some seat.letter =
    ap (λ (ls : List (Option Letter)). item_at ls n) (sym shows.letters) ∙ (letter_told t.seats n ∙ ap (λ (x : Option Seated). option_map (λ (y : Seated). y.letter) x) here.there) in
    let file : file_on s name (letter_at s n) ≡ unit_file seat.letter.unit (file_named name e.1.files) =
    ap (λ (x : Option Letter). file_on s name x) own ∙ ap (λ (x : Option Minidisk). file_in seat.letter.unit name x) e.2 in
    let told : slice_get (stored_in seat.disk.volume) found.place ≡ Some bytes =
    sym (is ∙ ap (λ (x : Option Seated). option_and_then (λ (y : Seated). slice_get (stored_in y.disk.volume) found.place) x) here.there) in
    subst (HasStored bytes) (sym file) (has_stored seat.letter.unit e.0 name seat.disk e.1 found.place bytes e.3 here.place_is told)

-- ---- what is told of the file in a place, in every world

pub found_if : (t : AccessTable) (found : Found) (d : Accessed) (P : FileInfo → Type 0) → Some d ≡ option_map (λ (s : Seated). s.disk) (item_at t.seats found.letter)
    → IfSome (slice_get (infos_in d.volume) found.place) P → IfSome (info_found t found) P
found_if t found d P is holds = cases (item_at t.seats found.letter) is
  where
    cases : (x : Option Seated) → Some d ≡ option_map (λ (s : Seated). s.disk) x → IfSome (option_and_then (λ (y : Seated). slice_get (infos_in y.disk.volume) found.place) x) P
    cases None is = absurd (cc is)
    cases (Some s) is =
        let same : d ≡ s.disk = cc is in
        subst (λ (a : Accessed). IfSome (slice_get (infos_in a.volume) found.place) P) same holds
