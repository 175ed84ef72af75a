-- What a table finds is what the machine finds.
use Rattle.std.proofs.Common.{◌≡◌, ◌≢◌, ℕ, zero, suc, ◌+◌, ◌<◌, List, [], ◌∷◌, ◌++◌, length, map, refl, sym, ap, subst, ◌∙◌, arith}
use Rattle.std.specs.Prelude.{Bool, true, false, cond, not, Option, Some, None, Result, Ok, Err, slice_get, slice_index_or, position}
use Rattle.std.specs.List.{flat_map, prefix_len}
use Rattle.std.specs.Option.{option_map, option_map_or, option_and_then}
use Rattle.std.proofs.lemmas.Option.{same_Some}
use Rattle.cms_names.specs.declared.name.Name.{Name}
use Rattle.cms_model.specs.Minidisks.{File, Minidisk, same_name}
use Rattle.cms_model.specs.Trees.{Image}
use Rattle.cms_model.specs.LawsChanges.{NoneNamed, AreDistinct, IsPlace}
use Rattle.cms_model.proofs.ListChanges.{names_told, name_other}
use Rattle.cms_model.proofs.OpenedNames.{opened_distinct}
use Rattle.cms_model.specs.Slots.{Slot}
use Rattle.cms_held.specs.HeldVolumes.{HeldFile, HeldVolume, names_in}
use Rattle.cms_edf.specs.FilesTold.{info_of, infos_in}
use Rattle.cms_held.specs.LawsHeld.{IsFound}
use Rattle.cms_edf.specs.declared.held.FileInfo.{FileInfo}
use Rattle.cms_disk.specs.Disks.{Accessed, StandsIn, place_of}
use Rattle.cms_disk.proofs.FilesFound.{stands_tells}
use Rattle.cms_search.specs.Machine.{Letter, Machine, minidisk_in}
use Rattle.cms_search.specs.Searches.{Listed, Shelf, Shelves, has, is_searched, item_at, places_from, places_where, listed, shelf_in, shelves_in, may_find, is_found, found_at, found_in, found_on, found_among, first_found, look_up, placed_in, placed_on, first_placed, first_among, find_first, letters_of_mode}
use Rattle.cms_search.specs.Tables.{AccessTable, Seated, listed_held, told_of, shelf_of, shelves_of, letters_in}
use Rattle.cms_search.specs.Shows.{Shows}
use Rattle.cms_search.specs.declared.fault.SearchFault.{SearchFault}
use Rattle.cms_operands.specs.declared.mode.ReadMode.{ReadMode}
use Rattle.cms_search.proofs.Searches.{item_at_map}

-- ---- the disk of a letter

pub shelf_at : (t : AccessTable) (n : ℕ) (s : Seated) → item_at t.seats n ≡ Some s → item_at (shelves_of t) n ≡ Some (shelf_of s)
shelf_at t n s at = item_at_map shelf_of t.seats n ∙ ap (λ (x : Option Seated). option_map shelf_of x) at

pub shelf_none : (t : AccessTable) (n : ℕ) → item_at t.seats n ≡ None → item_at (shelves_of t) n ≡ None
shelf_none t n at = item_at_map shelf_of t.seats n ∙ ap (λ (x : Option Seated). option_map shelf_of x) at

-- whether it is searched
pub searched_none : (t : AccessTable) (n : ℕ) (base : Option ℕ) → item_at t.seats n ≡ None → false ≡ has (is_searched base) (item_at (shelves_of t) n)
searched_none t n base at = let e = shelf_none t n at in rw e refl

pub searched_some : (t : AccessTable) (n : ℕ) (s : Seated) (base : Option ℕ) → item_at t.seats n ≡ Some s
    → is_searched base (shelf_of s) ≡ has (is_searched base) (item_at (shelves_of t) n)
searched_some t n s base at = let e = shelf_at t n s at in rw e refl

-- ---- the place of a name

prefix_named : (name : Name) (hs : List HeldFile) → prefix_len (λ f. not (same_name name f.name)) (map listed_held hs) ≡ prefix_len (λ n. not (same_name name n)) (names_in hs)
prefix_named name [] = refl
prefix_named name (h ∷ hs) = cases (same_name name h.entry.name) (prefix_named name hs)
  where
    cases : (b : Bool) → prefix_len (λ f. not (same_name name f.name)) (map listed_held hs) ≡ prefix_len (λ n. not (same_name name n)) (names_in hs)
        → cond (not b) (1 + prefix_len (λ f. not (same_name name f.name)) (map listed_held hs)) 0 ≡ cond (not b) (1 + prefix_len (λ n. not (same_name name n)) (names_in hs)) 0
    cases true h = refl
    cases false h = ap (λ (k : ℕ). 1 + k) h

lengths_named : (hs : List HeldFile) → length (map listed_held hs) ≡ length (names_in hs)
lengths_named [] = refl
lengths_named (h ∷ hs) = ap suc (lengths_named hs)

pub position_named : (name : Name) (v : HeldVolume) → position (λ f. same_name name f.name) (map listed_held v.files) ≡ place_of name v
position_named name v = rw (prefix_named name v.files, lengths_named v.files) refl

-- what is told of a file is what a search sees
pub told_listed : (hs : List HeldFile) (k : ℕ) → slice_get (map listed_held hs) k ≡ option_map told_of (slice_get (map info_of hs) k)
told_listed [] k = refl
told_listed (h ∷ hs) zero = refl
told_listed (h ∷ hs) (suc k) = told_listed hs k

pub placed_none : (t : AccessTable) (mode : ReadMode) (name : Name) (n : ℕ) (s : Seated) → item_at t.seats n ≡ Some s → place_of name s.disk.volume ≡ None
    → placed_on (shelves_of t) mode name n ≡ None
placed_none t mode name n s at none =
    let e = shelf_at t n s at in let p = position_named name s.disk.volume ∙ none in rw (e, p) refl

pub placed_absent : (t : AccessTable) (mode : ReadMode) (name : Name) (n : ℕ) → item_at t.seats n ≡ None → placed_on (shelves_of t) mode name n ≡ None
placed_absent t mode name n at = let e = shelf_none t n at in rw e refl

pub placed_some : (t : AccessTable) (mode : ReadMode) (name : Name) (n : ℕ) (s : Seated) (k : ℕ) (info : FileInfo) (b : Bool) → item_at t.seats n ≡ Some s
    → place_of name s.disk.volume ≡ Some k → slice_get (infos_in s.disk.volume) k ≡ Some info → may_find mode s.letter info.number ≡ b
    → placed_on (shelves_of t) mode name n ≡ cond b (Some k) None
placed_some t mode name n s k info b at some told finds =
    let e = shelf_at t n s at in
    let p = position_named name s.disk.volume ∙ some in
    let f = told_listed s.disk.volume.files k ∙ ap (λ (x : Option FileInfo). option_map told_of x) told in
    rw (e, p, f, finds) refl

-- ---- distinct names

module _ (mode : ReadMode) (name : Name) (letter : Letter) where
  abbrev passes : Listed → Bool
  passes f = is_found mode (same_name name) letter f

  other_passes : (f : File) → f.name ≢ name → passes (listed f) ≡ false
  other_passes f apart = let e = name_other name f.name apart in rw e refl

  same_passes : (f : File) → f.name ≡ name → passes (listed f) ≡ may_find mode letter f.number
  same_passes f is = let e = (names_told name f.name).1 (sym is) in rw e refl

  none_places : (n : ℕ) (fs : List File) → NoneNamed name fs → places_from (is_found mode (same_name name) letter) n (map listed fs) ≡ []
  unfolding places_from
  none_places n [] none = refl
  none_places n (f ∷ fs) none = let e = other_passes f none.0 in rw e (none_places (suc n) fs none.1)

  one_place : (n : ℕ) (fs : List File) (k : ℕ) (d : File) → IsPlace name fs k → AreDistinct fs
      → places_from (is_found mode (same_name name) letter) n (map listed fs) ≡ cond (may_find mode letter (slice_index_or fs k d).number) ((n + k) ∷ []) []
  unfolding places_from
  one_place n [] k d p distinct = absurd (let w = p.within in omega (arith, w))
  one_place n (f ∷ fs) zero d p distinct =
      let e = same_passes f (p.named d) in
      let at : n + 0 ≡ n = omega arith in
      let rest = none_places (suc n) fs (subst (λ (x : Name). NoneNamed x fs) (p.named d) distinct.0) in
      rw (e, rest, at) refl
  one_place n (f ∷ fs) (suc k) d p distinct =
      let e = other_passes f p.first.0 in
      let at : n + suc k ≡ suc n + k = omega arith in
      let w = p.within in
      rw (e, at) (one_place (suc n) fs k d (record { within = omega (arith, w); named = p.named; first = p.first.1 }) distinct.1)

-- ---- one disk

abbrev to_list : Option ℕ → List ℕ
to_list None = []
to_list (Some k) = k ∷ []

-- the files of a name on the disk are the one in its place
abbrev IsSingle : ReadMode → Name → Shelf → Type 0
IsSingle mode name shelf = places_where (is_found mode (same_name name) shelf.letter) shelf.files ≡ to_list (placed_in mode name shelf)

same_listed : (hs : List HeldFile) (fs : List File) → names_in hs ≡ map (λ f. f.name) fs
    → ((k : ℕ) (h : HeldFile) (f : File) → slice_get hs k ≡ Some h → slice_get fs k ≡ Some f → h.entry.number ≡ f.number) → map listed_held hs ≡ map listed fs
same_listed [] [] names numbers = refl
same_listed [] (f ∷ fs) names numbers = absurd (cc names)
same_listed (h ∷ hs) [] names numbers = absurd (cc names)
same_listed (h ∷ hs) (f ∷ fs) names numbers =
    let rest = same_listed hs fs (tail names) (λ k x y is_x is_y. numbers (suc k) x y is_x is_y) in
    let first = head names in
    let number = numbers 0 h f refl refl in
    rw (first, number, rest) refl
  where
    head : {A : Type 0} {a b : A} {xs ys : List A} → a ∷ xs ≡ b ∷ ys → a ≡ b
    head e = cc e

    tail : {A : Type 0} {a b : A} {xs ys : List A} → a ∷ xs ≡ b ∷ ys → xs ≡ ys
    tail e = cc e

pub stands_listed : (image : Image) (d : Accessed) (m : Minidisk) → StandsIn image d m → map listed_held d.volume.files ≡ map listed m.files
stands_listed image d m s =
    let held = (stands_tells image d m s).held in
    same_listed d.volume.files m.files held.names_are (λ k h f is_h is_f. (held.files_are k h f is_h is_f).number_is)

stands_distinct : (image : Image) (d : Accessed) (m : Minidisk) → StandsIn image d m → AreDistinct m.files
stands_distinct image d m s = subst (λ (x : Minidisk). AreDistinct x.files) (sym s.minidisk_is) (opened_distinct d.volume.disk image s.opened s.opens)

listed_at : (fs : List File) (k : ℕ) (d : File) → k < length fs → slice_get (map listed fs) k ≡ Some (listed (slice_index_or fs k d))
listed_at [] k d less = absurd (omega (arith, less))
listed_at (f ∷ fs) zero d less = refl
listed_at (f ∷ fs) (suc k) d less = listed_at fs k d (omega (arith, less))

single : (mode : ReadMode) (name : Name) (image : Image) (s : Seated) (m : Minidisk) → StandsIn image s.disk m → IsSingle mode name (shelf_of s)
single mode name image s m stands = cases (place_of name s.disk.volume) refl ((stands_tells image s.disk m stands).found name)
  where
    files : map listed_held s.disk.volume.files ≡ map listed m.files
    files = stands_listed image s.disk m stands

    cases : (place : Option ℕ) → place_of name s.disk.volume ≡ place → IsFound name m.files place → IsSingle mode name (shelf_of s)
    cases None at none =
        let p = position_named name s.disk.volume ∙ at in
        let e = none_places mode name s.letter 0 m.files none in
        rw (p, files, e) refl
    cases (Some k) at is = some m.files refl
      where
        chosen : (b : Bool) → cond b ((0 + k) ∷ []) [] ≡ to_list (cond b (Some k) None)
        chosen true = let z : 0 + k ≡ k = omega arith in rw z refl
        chosen false = refl

        some : (fs : List File) → m.files ≡ fs → IsSingle mode name (shelf_of s)
        some [] same = let w = is.within in let e : length m.files ≡ 0 = ap length same in absurd (omega (arith, w, e))
        some (d ∷ fs) same =
            let p = position_named name s.disk.volume ∙ at in
            let e = one_place mode name s.letter 0 m.files k d is (stands_distinct image s.disk m stands) in
            let f = listed_at m.files k d is.within in
            rw (p, files, e, f) (chosen (may_find mode s.letter (slice_index_or m.files k d).number))

-- ---- the machine

files_shown : (units : List Slot) (s : Seated) (m : Minidisk) → minidisk_in (slice_get units s.letter.unit) ≡ Some m → map listed_held s.disk.volume.files ≡ map listed m.files
    → shelf_of s ≡ shelf_in units s.letter
files_shown units s m at same = rw (at, same) refl

shelves_same : (units : List Slot) (seats : List (Option Seated)) → ((n : ℕ) (s : Seated) → item_at seats n ≡ Some s → shelf_of s ≡ shelf_in units s.letter)
    → map (λ x. option_map shelf_of x) seats ≡ map (λ x. option_map (λ letter. shelf_in units letter) x) (letters_in seats)
shelves_same units [] each = refl
shelves_same units (None ∷ seats) each = ap (λ (l : Shelves). None ∷ l) (shelves_same units seats (λ n s at. each (suc n) s at))
shelves_same units (Some s ∷ seats) each =
    let first = each 0 s refl in
    let rest = shelves_same units seats (λ n x at. each (suc n) x at) in
    rw (first, rest) refl

pub shelves_shown : (t : AccessTable) (s : Machine) → Shows t s → shelves_of t ≡ shelves_in s
shelves_shown t s shows =
    shelves_same s.units t.seats (λ n seat at. let e = shows.each n seat at in files_shown s.units seat e.1 e.2 (stands_listed e.0 seat.disk e.1 e.3))
    ∙ ap (λ (ls : List (Option Letter)). map (λ x. option_map (λ letter. shelf_in s.units letter) x) ls) shows.letters

-- ---- a look-up

module _ (shelves : Shelves) (mode : ReadMode) (name : Name) (each : (n : ℕ) (shelf : Shelf) → item_at shelves n ≡ Some shelf → IsSingle mode name shelf) where
  on_letter : (n : ℕ) (x : Option Shelf) → item_at shelves n ≡ x
      → option_map_or (λ shelf. found_in mode (same_name name) n shelf) x [] ≡ map (λ k. found_at n k) (to_list (option_and_then (λ shelf. placed_in mode name shelf) x))
  on_letter n None at = refl
  on_letter n (Some shelf) at = ap (map (λ k. found_at n k)) (each n shelf at)

  first_is : (ns : List ℕ) → first_placed (λ n. placed_on shelves mode name n) ns ≡ first_found (Ok (flat_map (λ n. found_on shelves mode (same_name name) n) ns))
  first_is [] = refl
  first_is (n ∷ ns) =
      let e = on_letter n (item_at shelves n) refl in
      rw e (cases (placed_on shelves mode name n) (first_is ns))
    where
      cases : (x : Option ℕ) → first_placed (λ n. placed_on shelves mode name n) ns ≡ first_found (Ok (flat_map (λ n. found_on shelves mode (same_name name) n) ns))
          → option_map_or (λ k. Ok (found_at n k)) x (first_placed (λ n. placed_on shelves mode name n) ns)
          ≡ first_found (Ok (map (λ k. found_at n k) (to_list x) ++ flat_map (λ n. found_on shelves mode (same_name name) n) ns))
      cases None h = h
      cases (Some k) h = refl

  among_is : (r : Result (List ℕ) SearchFault) → first_among (λ n. placed_on shelves mode name n) r ≡ first_found (found_among shelves mode (same_name name) r)
  among_is (Ok ns) = first_is ns
  among_is (Err e) = refl

seat_shelf : (t : AccessTable) (n : ℕ) (x : Option Seated) (shelf : Shelf) → item_at t.seats n ≡ x → option_map shelf_of x ≡ Some shelf
    → (s : Seated) × (item_at t.seats n ≡ Some s) × (shelf_of s ≡ shelf)
seat_shelf t n None shelf at is = absurd (cc is)
seat_shelf t n (Some s) shelf at is = (s, at, same_Some (shelf_of s) shelf is)

pub finds_shown : (t : AccessTable) (s : Machine) (mode : ReadMode) (name : Name) → Shows t s → find_first (shelves_of t) mode name ≡ look_up (shelves_in s) mode name
finds_shown t s mode name shows =
    among_is (shelves_of t) mode name each (letters_of_mode (shelves_of t) mode) ∙ ap (λ (x : Shelves). look_up x mode name) (shelves_shown t s shows)
  where
    each : (n : ℕ) (shelf : Shelf) → item_at (shelves_of t) n ≡ Some shelf → IsSingle mode name shelf
    each n shelf at =
        let seat = seat_shelf t n (item_at t.seats n) shelf refl (sym (item_at_map shelf_of t.seats n) ∙ at) in
        let e = shows.each n seat.0 seat.1 in
        subst (IsSingle mode name) seat.2 (single mode name e.0 seat.0 e.1 e.3)
