-- Searches: which disks are looked at, and which of their files are found.
use Rattle.std.specs.Prelude.{ℕ, suc, Bool, true, false, not, ◌==◌, ◌&&◌, if◌then◌else◌, List, [], ◌∷◌, map, position, slice_get, Option, Some, None, is_some, Result, Ok, Err}
use Rattle.std.specs.List.{flat_map}
use Rattle.std.specs.Option.{option_map, option_map_or, option_and_then}
use Rattle.cms_names.specs.declared.name.Name.{Name}
use Rattle.cms_names.specs.Patterns.{fits}
use Rattle.cms_model.specs.Minidisks.{File, Minidisk, same_name}
use Rattle.cms_model.specs.Slots.{Slot}
use Rattle.cms_operands.specs.ReadModes.{admits}
use Rattle.cms_search.specs.Machine.{Letter, Machine, minidisk_in}
use Rattle.cms_search.specs.declared.fault.SearchFault.{SearchFault}
use Rattle.cms_search.specs.declared.fault.SearchFault.TheVariants.{NotAccessed, NotFound}
use Rattle.cms_search.specs.declared.search.Found.{Found}
use Rattle.cms_operands.specs.declared.mode.ReadMode.{ReadMode}
use Rattle.cms_operands.specs.declared.mode.ReadMode.TheVariants as mode

-- ---- places in lists

-- what stands in a place of a list, of which some are empty
abbrev pub item_at : {A : Type 0} → List (Option A) → ℕ → Option A
item_at xs n = option_and_then (λ x. x) (slice_get xs n)

-- a place isn't empty, and what stands there passes
abbrev pub has : {A : Type 0} → (A → Bool) → Option A → Bool
has passes x = option_map_or passes x false

-- the places of the items that pass, in their order; the first item's place is n
unfoldable pub places_from : {A : Type 0} → (A → Bool) → ℕ → List A → List ℕ
places_from passes n [] = []
places_from passes n (x ∷ xs) = if passes x then n ∷ places_from passes (suc n) xs else places_from passes (suc n) xs

-- the places of the items that pass
abbrev pub places_where : {A : Type 0} → (A → Bool) → List A → List ℕ
places_where passes xs = places_from passes 0 xs

-- ---- what is searched

-- a file as a search sees it
pub record Listed : Type 0 where
  pub name : Name
  pub number : ℕ

-- the disk of a letter, with its files in the directory's order
pub record Shelf : Type 0 where
  pub letter : Letter
  pub files : List Listed

-- a disk for each letter that is accessed
abbrev pub Shelves : Type 0
Shelves = List (Option Shelf)

-- a file as a search sees it
abbrev pub listed : File → Listed
listed f = record { name = f.name; number = f.number }

-- the files of a minidisk, none where there is no minidisk
abbrev pub files_in : Option Minidisk → List Listed
files_in m = option_map_or (λ m. map listed m.files) m []

-- a letter's disk as a search sees it, on these units
abbrev pub shelf_in : List Slot → Letter → Shelf
shelf_in units letter = record { letter = letter; files = files_in (minidisk_in (slice_get units letter.unit)) }

-- what the machine searches
abbrev pub shelves_in : Machine → Shelves
shelves_in s = map (λ x. option_map (λ letter. shelf_in s.units letter) x) s.letters

-- ---- the letters of a search

-- behind a letter its extensions are searched; with no letter, all disks
abbrev pub is_searched : Option ℕ → Shelf → Bool
is_searched None shelf = true
is_searched (Some n) shelf = has (λ parent. parent == n) shelf.letter.parent

-- the letters that are searched behind one, or all
abbrev pub searched : Option ℕ → Shelves → List ℕ
searched base shelves = places_where (has (is_searched base)) shelves

-- a letter, which must be accessed, and then its extensions in order
abbrev pub with_extensions : Shelves → ℕ → Result (List ℕ) SearchFault
with_extensions shelves n = if is_some (item_at shelves n) then Ok (n ∷ searched (Some n) shelves) else Err (NotAccessed n)

-- the letters that a mode searches, in their order
abbrev pub letters_of_mode : Shelves → ReadMode → Result (List ℕ) SearchFault
letters_of_mode shelves mode.Any = Ok (searched None shelves)
letters_of_mode shelves (mode.Letter n) = with_extensions shelves n
letters_of_mode shelves (mode.Numbered n k) = with_extensions shelves n

-- ---- the files of a search

-- a file of mode number 0 isn't seen on a read-only disk
abbrev pub shows : Letter → ℕ → Bool
shows disk number = not (disk.read_only && (number == 0))

-- a file is seen on its disk, and the mode admits it
abbrev pub may_find : ReadMode → Letter → ℕ → Bool
may_find mode disk number = shows disk number && admits mode number

-- a search of this mode and these names finds the file
abbrev pub is_found : ReadMode → (Name → Bool) → Letter → Listed → Bool
is_found mode names disk f = names f.name && may_find mode disk f.number

-- a file by its letter and its place
abbrev pub found_at : ℕ → ℕ → Found
found_at n place = record { letter = n; place = place }

-- the files of a disk that are found, as letter n, in the directory's order
abbrev pub found_in : ReadMode → (Name → Bool) → ℕ → Shelf → List Found
found_in mode names n shelf = map (λ place. found_at n place) (places_where (is_found mode names shelf.letter) shelf.files)

-- the files of letter n that are found
abbrev pub found_on : Shelves → ReadMode → (Name → Bool) → ℕ → List Found
found_on shelves mode names n = option_map_or (λ shelf. found_in mode names n shelf) (item_at shelves n) []

-- a search: the files of the first letter, then those of the next
abbrev pub found_among : Shelves → ReadMode → (Name → Bool) → Result (List ℕ) SearchFault → Result (List Found) SearchFault
found_among shelves mode names (Ok letters) = Ok (flat_map (λ n. found_on shelves mode names n) letters)
found_among shelves mode names (Err e) = Err e

-- the files that are found, letter by letter, or why none is looked for
abbrev pub search : Shelves → ReadMode → (Name → Bool) → Result (List Found) SearchFault
search shelves mode names = found_among shelves mode names (letters_of_mode shelves mode)

-- the names that two patterns fit
abbrev pub fitting : List ℕ → List ℕ → Name → Bool
fitting file kind name = fits file name.file && fits kind name.kind

-- ---- a look-up

-- the first of a search, or that nothing was found
abbrev pub first_found : Result (List Found) SearchFault → Result Found SearchFault
first_found (Ok []) = Err NotFound
first_found (Ok (f ∷ fs)) = Ok f
first_found (Err e) = Err e

-- the first file of a name that is found
abbrev pub look_up : Shelves → ReadMode → Name → Result Found SearchFault
look_up shelves mode name = first_found (search shelves mode (same_name name))

-- ---- a look-up disk by disk, as names are distinct

-- the place of the file of a name, where it may be found
abbrev pub placed_in : ReadMode → Name → Shelf → Option ℕ
placed_in mode name shelf = option_and_then
    (λ k. if has (λ f. may_find mode shelf.letter f.number) (slice_get shelf.files k) then Some k else None)
    (position (λ f. same_name name f.name) shelf.files)

-- the place of a name on letter n, where it may be found
abbrev pub placed_on : Shelves → ReadMode → Name → ℕ → Option ℕ
placed_on shelves mode name n = option_and_then (λ shelf. placed_in mode name shelf) (item_at shelves n)

-- the first of these letters that has a place
abbrev pub first_placed : (ℕ → Option ℕ) → List ℕ → Result Found SearchFault
first_placed placed [] = Err NotFound
first_placed placed (n ∷ ns) = option_map_or (λ k. Ok (found_at n k)) (placed n) (first_placed placed ns)

-- the first of some letters on which it is
abbrev pub first_among : (ℕ → Option ℕ) → Result (List ℕ) SearchFault → Result Found SearchFault
first_among placed (Ok letters) = first_placed placed letters
first_among placed (Err e) = Err e

-- the first file of a name, letter by letter: the same as a look-up
abbrev pub find_first : Shelves → ReadMode → Name → Result Found SearchFault
find_first shelves mode name = first_among (λ n. placed_on shelves mode name n) (letters_of_mode shelves mode)
