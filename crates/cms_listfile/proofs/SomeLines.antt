-- Each file that a search finds is there, whatever world the disks are in.
use Rattle.std.proofs.Common.{◌≡◌, ◌∙◌, ℕ, suc, ◌+◌, ◌<◌, Bool, true, false, cond, List, [], ◌∷◌, length, Result, Ok, Err, refl, sym, ap, subst, arith}
use Rattle.std.specs.Prelude.{All, Option, Some, None, slice_get}
use Rattle.std.specs.List.{flat_map}
use Rattle.std.specs.Option.{option_and_then, option_map, option_map_or}
use Rattle.std.proofs.lemmas.List.{length-append, length-map}
use Rattle.std.proofs.lemmas.List.Elements.{All-append, All-cons, All-head, All-map, All-nil, All-weaker}
use Rattle.cms_names.specs.declared.name.Name.{Name}
use Rattle.cms_edf.specs.FilesTold.{info_of, infos_in}
use Rattle.cms_operands.specs.declared.mode.ReadMode.{ReadMode}
use Rattle.cms_search.specs.Searches.{Shelf, found_among, found_at, found_in, found_on, is_found, item_at, letters_of_mode, places_from, places_where, search}
use Rattle.cms_search.specs.Tables.{AccessTable, Seated, listed_held, shelf_of, shelves_of}
use Rattle.cms_search.specs.declared.fault.SearchFault.{SearchFault}
use Rattle.cms_search.specs.declared.search.Found.{Found}
use Rattle.cms_search.proofs.Searches.{item_at_map}
use Rattle.cms_model.proofs.Results.{ok_same}
use Rattle.cms_search.proofs.Tables.{get_some as some_at}
use Rattle.cms_listfile.specs.Told.{HasLines, line_told, lines_told, listed_at, listed_on}
use Rattle.cms_listfile.specs.declared.columns.Columns.{Columns}
use Rattle.cms_listfile.specs.declared.line.ListedFile.{ListedFile}
use Rattle.cms_listfile.proofs.Delivered.{told_line}

-- ---- places

all_if : (P : ℕ → Type 0) (b : Bool) (n : ℕ) (ns : List ℕ) → P n → All P ns → All P (cond b (n ∷ ns) ns)
all_if P true n ns here rest = All-cons P n ns here rest
all_if P false n ns here rest = rest

places_below : {A : Type 0} (p : A → Bool) (n : ℕ) (xs : List A) → All (λ k. k < n + length xs) (places_from p n xs)
unfolding places_from
places_below p n [] = All-nil (λ k. k < n + 0)
places_below p n (x ∷ xs) =
    let more : suc n + length xs ≡ n + suc (length xs) = omega arith in
    let here : n < n + suc (length xs) = omega arith in
    all_if (λ k. k < n + suc (length xs)) (p x) n (places_from p (suc n) xs) here
    (subst (λ (m : ℕ). All (λ k. k < m) (places_from p (suc n) xs)) more (places_below p (suc n) xs))

-- ---- files

-- the file that was found is there
abbrev IsThere : AccessTable → Found → Type 0
IsThere t found = (f : ListedFile) × (listed_at t found ≡ Some f)

on_seat : (t : AccessTable) (n k : ℕ) (s : Seated) → item_at t.seats n ≡ Some s → k < length s.disk.volume.files → IsThere t (found_at n k)
on_seat t n k s at less =
    let v = s.disk.volume in
    let long = length-map v.files info_of in
    let info = some_at (infos_in v) k (omega (arith, long, less)) in (
      listed_on n v info.0,
      ap (λ (x : Option Seated). option_and_then (λ (y : Seated). option_map (listed_on n y.disk.volume) (slice_get (infos_in y.disk.volume) k)) x) at
          ∙ ap (option_map (listed_on n v)) info.1,
    )

on_shelf : (t : AccessTable) (mode : ReadMode) (names : Name → Bool) (n : ℕ) → All (IsThere t) (found_on (shelves_of t) mode names n)
on_shelf t mode names n = cases (item_at t.seats n) refl
  where
    shown : (x : Option Seated) → item_at t.seats n ≡ x
        → option_map_or (λ (shelf : Shelf). found_in mode names n shelf) (option_map shelf_of x) [] ≡ found_on (shelves_of t) mode names n
    shown x at =
        ap (λ (y : Option Shelf). option_map_or (λ (shelf : Shelf). found_in mode names n shelf) y [])
        (sym (item_at_map shelf_of t.seats n ∙ ap (option_map shelf_of) at))

    cases : (x : Option Seated) → item_at t.seats n ≡ x → All (IsThere t) (found_on (shelves_of t) mode names n)
    cases None at = subst (All (IsThere t)) (shown None at) (All-nil (IsThere t))
    cases (Some s) at =
        let files = (shelf_of s).files in
        let places = places_where (is_found mode names s.letter) files in
        let long = length-map s.disk.volume.files listed_held in
        subst (All (IsThere t)) (shown (Some s) at)
        (All-map (IsThere t) (found_at n) places
        (All-weaker (λ k. k < 0 + length files) (λ k. IsThere t (found_at n k)) (λ k less. on_seat t n k s at (omega (arith, less, long))) places
        (places_below (is_found mode names s.letter) 0 files)))

on_letters : (t : AccessTable) (mode : ReadMode) (names : Name → Bool) (letters : List ℕ) → All (IsThere t) (flat_map (λ n. found_on (shelves_of t) mode names n) letters)
on_letters t mode names [] = All-nil (IsThere t)
on_letters t mode names (n ∷ ns) =
    All-append (IsThere t) (found_on (shelves_of t) mode names n) (flat_map (λ n. found_on (shelves_of t) mode names n) ns) (on_shelf t mode names n) (on_letters t mode names ns)

found_there : (t : AccessTable) (mode : ReadMode) (names : Name → Bool) (found : List Found) → search (shelves_of t) mode names ≡ Ok found → All (IsThere t) found
found_there t mode names found = cases (letters_of_mode (shelves_of t) mode)
  where
    cases : (r : Result (List ℕ) SearchFault) → found_among (shelves_of t) mode names r ≡ Ok found → All (IsThere t) found
    cases (Ok letters) is = subst (All (IsThere t)) (ok_same (flat_map (λ n. found_on (shelves_of t) mode names n) letters) found is) (on_letters t mode names letters)
    cases (Err e) is = absurd (cc is)

-- ---- lines

-- where files were found there is a line
pub lines_some : (t : AccessTable) (mode : ReadMode) (names : Name → Bool) (found : List Found) (last : Columns) → search (shelves_of t) mode names ≡ Ok found → (found ≡ [] → ⊥)
    → HasLines last t found
lines_some t mode names [] last is some = absurd (some refl)
lines_some t mode names (f ∷ fs) last is some =
    let here = All-head (IsThere t) f fs (found_there t mode names (f ∷ fs) is) in
    let one = ap length (told_line last t f here.0 _ here.1 refl) in
    let both : length (lines_told last t (f ∷ fs)) ≡ length (line_told last t f) + length (lines_told last t fs) = length-append (line_told last t f) (lines_told last t fs) in
    omega (arith, one, both)
