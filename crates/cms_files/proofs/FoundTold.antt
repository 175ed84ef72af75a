-- The file of a name where a search found it, as the table tells of it.
use Rattle.std.proofs.Common.{◌≡◌, ◌∙◌, Bool, true, false, ℕ, ◌<◌, length, List, [], ◌∷◌, Option, Some, None, Result, Ok, Err, slice_get, map, arith, refl, sym, ap, subst}
use Rattle.std.specs.Prelude.{IsSome, position, if◌then◌else◌}
use Rattle.std.specs.Option.{option_and_then, option_map, option_map_or}
use Rattle.std.proofs.lemmas.Option.{same_Some}
use Rattle.std.proofs.lemmas.List.{length-map}
use Rattle.std.proofs.lemmas.List.Quantifiers.{position-Some}
use Rattle.cms_names.specs.declared.name.Name.{Name}
use Rattle.cms_model.specs.Minidisks.{same_name}
use Rattle.cms_model.proofs.Results.{ok_same}
use Rattle.cms_held.specs.HeldVolumes.{HeldFile, HeldVolume, names_in}
use Rattle.cms_edf.specs.FilesTold.{info_of, infos_in, stored_in}
use Rattle.cms_edf.specs.declared.held.FileInfo.{FileInfo}
use Rattle.cms_disk.specs.Disks.{Accessed, place_of}
use Rattle.cms_operands.specs.declared.mode.ReadMode.{ReadMode}
use Rattle.cms_search.specs.Searches.{Listed, Shelf, find_first, first_among, first_placed, found_at, has, item_at, letters_of_mode, may_find, placed_in, placed_on}
use Rattle.cms_search.specs.Tables.{AccessTable, Seated, listed_held, shelf_of, shelves_of}
use Rattle.cms_search.specs.declared.fault.SearchFault.{SearchFault}
use Rattle.cms_search.specs.declared.search.Found.{Found}
use Rattle.cms_search.proofs.Released.{get_map, position_map}
use Rattle.cms_search.proofs.Searches.{item_at_map}
use Rattle.cms_files.proofs.FileTold.{held_at}
use Rattle.cms_files.specs.Told.{IsFoundAt, info_found, info_named, place_named, stored_found, stored_named}

-- ---- where the search found it

placed_at : (placed : ℕ → Option ℕ) (ns : List ℕ) (x : Found) → first_placed placed ns ≡ Ok x → placed x.letter ≡ Some x.place
placed_at placed [] x is = absurd (cc is)
placed_at placed (n ∷ ns) x is = cases (placed n) refl (placed_at placed ns x) is
  where
    cases : (k : Option ℕ) → placed n ≡ k → (first_placed placed ns ≡ Ok x → placed x.letter ≡ Some x.place)
        → option_map_or (λ (p : ℕ). Ok (found_at n p)) k (first_placed placed ns) ≡ Ok x → placed x.letter ≡ Some x.place
    cases None at later e = later e
    cases (Some k) at later e = let same : found_at n k ≡ x = ok_same (found_at n k) x e in subst (λ (f : Found). placed f.letter ≡ Some f.place) same at

among_at : (placed : ℕ → Option ℕ) (letters : Result (List ℕ) SearchFault) (x : Found) → first_among placed letters ≡ Ok x → placed x.letter ≡ Some x.place
among_at placed (Ok ns) x is = placed_at placed ns x is
among_at placed (Err e) x is = absurd (cc is)

-- ---- it has the name

kept_place : (b : Bool) (k place : ℕ) → (if b then Some k else None) ≡ Some place → k ≡ place
kept_place true k place is = same_Some k place is
kept_place false k place is = absurd (cc is)

shelf_place : (mode : ReadMode) (name : Name) (shelf : Shelf) (place : ℕ) → placed_in mode name shelf ≡ Some place → position (λ (f : Listed). same_name name f.name) shelf.files ≡ Some place
shelf_place mode name shelf place is = cases (position (λ (f : Listed). same_name name f.name) shelf.files) is
  where
    cases : (p : Option ℕ) → option_and_then (λ (k : ℕ). if has (λ (f : Listed). may_find mode shelf.letter f.number) (slice_get shelf.files k) then Some k else None) p ≡ Some place → p ≡ Some place
    cases None e = absurd (cc e)
    cases (Some k) e = ap (λ (n : ℕ). Some n) (kept_place (has (λ (f : Listed). may_find mode shelf.letter f.number) (slice_get shelf.files k)) k place e)

-- its place is that of the name
held_place : (name : Name) (v : HeldVolume) → position (λ (f : Listed). same_name name f.name) (map listed_held v.files) ≡ place_of name v
held_place name v =
    position_map listed_held (λ (f : Listed). same_name name f.name) v.files ∙ sym (position_map (λ (h : HeldFile). h.entry.name) (same_name name) v.files)

file_at : (hs : List HeldFile) (name : Name) (k : ℕ) → position (same_name name) (map (λ (h : HeldFile). h.entry.name) hs) ≡ Some k → (h : HeldFile) × (slice_get hs k ≡ Some h)
file_at hs name k is =
    let within = (position-Some (same_name name) (map (λ (h : HeldFile). h.entry.name) hs) k name is).0 in
    let long = length-map hs (λ (h : HeldFile). h.entry.name) in
    held_at hs k (omega (arith, within, long))

module _ (t : AccessTable) (mode : ReadMode) (name : Name) (x : Found) where
  seated_at : (seat : Option Seated) → option_and_then (λ (shelf : Shelf). placed_in mode name shelf) (option_map shelf_of seat) ≡ Some x.place
      → (s : Seated) × (seat ≡ Some s) × (place_of name s.disk.volume ≡ Some x.place)
  seated_at None is = absurd (cc is)
  seated_at (Some s) is = (s, refl, sym (held_place name s.disk.volume) ∙ shelf_place mode name (shelf_of s) x.place is)

  pub found_there : find_first (shelves_of t) mode name ≡ Ok x → IsFoundAt t x name
  found_there is =
      let on : placed_on (shelves_of t) mode name x.letter ≡ Some x.place = among_at (λ n. placed_on (shelves_of t) mode name n) (letters_of_mode (shelves_of t) mode) x is in
      let shelf = item_at_map shelf_of t.seats x.letter in
      let seat = seated_at (item_at t.seats x.letter) (sym (ap (λ (o : Option Shelf). option_and_then (λ (shelf : Shelf). placed_in mode name shelf) o) shelf) ∙ on) in
      record { seat = seat.0; there = seat.1; place_is = seat.2 }

-- ---- what is told of what was found

-- it is told of the file in its place
pub info_there : (t : AccessTable) (found : Found) (seat : Seated) → item_at t.seats found.letter ≡ Some seat → info_found t found ≡ slice_get (infos_in seat.disk.volume) found.place
info_there t found seat there = ap (λ (x : Option Seated). option_and_then (λ (y : Seated). slice_get (infos_in y.disk.volume) found.place) x) there

-- it is told of the file of that name
pub same_info : (t : AccessTable) (found : Found) (name : Name) → IsFoundAt t found name → info_found t found ≡ info_named t found.letter name
same_info t found name is =
    let v = is.seat.disk.volume in
    let named : info_named t found.letter name ≡ slice_get (infos_in v) found.place =
    ap (λ (x : Option Seated). option_and_then (λ (y : Seated). option_and_then (λ (k : ℕ). slice_get (infos_in y.disk.volume) k) (place_of name y.disk.volume)) x) is.there
    ∙ ap (λ (p : Option ℕ). option_and_then (λ (k : ℕ). slice_get (infos_in v) k) p) is.place_is in
    info_there t found is.seat is.there ∙ sym named

pub told_as : (t : AccessTable) (found : Found) (name : Name) (info : FileInfo) → IsFoundAt t found name → info_found t found ≡ Some info → info_named t found.letter name ≡ Some info
told_as t found name info is told = sym (same_info t found name is) ∙ told

-- on its disk the name has that place
pub on_disk : (t : AccessTable) (found : Found) (name : Name) (d : Accessed) → IsFoundAt t found name → Some d ≡ option_map (λ (s : Seated). s.disk) (item_at t.seats found.letter)
    → place_of name d.volume ≡ Some found.place
on_disk t found name d here is =
    let same : d ≡ here.seat.disk = same_Some d here.seat.disk (is ∙ ap (λ (x : Option Seated). option_map (λ (s : Seated). s.disk) x) here.there) in
    subst (λ (a : Accessed). place_of name a.volume ≡ Some found.place) (sym same) here.place_is

-- as many bytes are stored of it
pub same_stored : (t : AccessTable) (found : Found) (name : Name) → IsFoundAt t found name → stored_found t found ≡ stored_named t found.letter name
same_stored t found name is =
    let v = is.seat.disk.volume in
    let there : stored_found t found ≡ slice_get (stored_in v) found.place =
    ap (λ (x : Option Seated). option_and_then (λ (y : Seated). slice_get (stored_in y.disk.volume) found.place) x) is.there in
    let named : stored_named t found.letter name ≡ slice_get (stored_in v) found.place =
    ap (λ (x : Option Seated). option_and_then (λ (y : Seated). option_and_then (λ (k : ℕ). slice_get (stored_in y.disk.volume) k) (place_of name y.disk.volume)) x) is.there
    ∙ ap (λ (p : Option ℕ). option_and_then (λ (k : ℕ). slice_get (stored_in v) k) p) is.place_is in
    there ∙ sym named

-- something is told of it
pub is_found : (t : AccessTable) (found : Found) (name : Name) → IsFoundAt t found name → IsSome (info_found t found)
is_found t found name is =
    let v = is.seat.disk.volume in
    let file = file_at v.files name found.place is.place_is in
    let info : slice_get (infos_in v) found.place ≡ Some (info_of file.0) = get_map info_of v.files found.place ∙ ap (λ (h : Option HeldFile). option_map info_of h) file.1 in
    subst (λ (x : Option FileInfo). IsSome x) (sym (info_there t found is.seat is.there ∙ info)) refl

-- ---- the file of a name

-- it is in the place that is told of it
pub placed_named : (t : AccessTable) (n : ℕ) (name : Name) (k : ℕ) → place_named t n name ≡ Some k → IsFoundAt t (found_at n k) name
placed_named t n name k is = cases (item_at t.seats n) refl is
  where
    cases : (x : Option Seated) → item_at t.seats n ≡ x → option_and_then (λ (s : Seated). place_of name s.disk.volume) x ≡ Some k → IsFoundAt t (found_at n k) name
    cases None at e = absurd (cc e)
    cases (Some s) at e = record { seat = s; there = at; place_is = e }

-- one of which something is told has a place
pub named_placed : (t : AccessTable) (n : ℕ) (name : Name) (info : FileInfo) → Some info ≡ info_named t n name → IsSome (place_named t n name)
named_placed t n name info is = cases (item_at t.seats n) is
  where
    placed : (v : HeldVolume) (p : Option ℕ) → Some info ≡ option_and_then (λ (k : ℕ). slice_get (infos_in v) k) p → IsSome p
    placed v None e = absurd (cc e)
    placed v (Some k) e = refl

    cases : (x : Option Seated) → Some info ≡ option_and_then (λ (s : Seated). option_and_then (λ (k : ℕ). slice_get (infos_in s.disk.volume) k) (place_of name s.disk.volume)) x
        → IsSome (option_and_then (λ (s : Seated). place_of name s.disk.volume) x)
    cases None e = absurd (cc e)
    cases (Some s) e = placed s.disk.volume (place_of name s.disk.volume) e
