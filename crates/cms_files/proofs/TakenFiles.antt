-- The files of a disk that is written, as a table tells them.
use Rattle.std.proofs.Common.{◌≡◌, ◌<◌, ◌∙◌, ◌+◌, ℕ, List, [], ◌∷◌, ◌++◌, Result, Ok, Err, length, map, take, refl, sym, ap, append-nil, subst}
use Rattle.std.specs.Prelude.{⊤, Bool, true, false, cond, if◌then◌else◌, IsSome, Option, Some, None, get_or, is_some, slice_get}
use Rattle.std.specs.List.{filter}
use Rattle.std.specs.Option.{ForSome, option_map}
use Rattle.std.proofs.lemmas.List.Elements.{filter_more}
use Rattle.std.proofs.lemmas.Option.{get_or_from_slice_get, same_Some, slice_get_within}
use Rattle.cms_fields.specs.Steps.{◌>>=◌}
use Rattle.cms_names.specs.declared.name.Name.{Name}
use Rattle.cms_disk.specs.Disks.{Accessed, place_of}
use Rattle.cms_operands.specs.declared.operand.WriteMode.{WriteMode}
use Rattle.cms_search.specs.Machine.{Letter}
use Rattle.cms_search.specs.Searches.{Listed, Shelf, Shelves, item_at}
use Rattle.cms_search.specs.Tables.{AccessTable, Seated, letters_in, letters_of, listed_held, shelf_of, shelves_of, writing}
use Rattle.cms_search.specs.declared.fault.SearchFault.{SearchFault}
use Rattle.cms_search.specs.declared.fault.SearchFault.TheVariants as why
use Rattle.cms_search.proofs.LetterDisks.{letter_is}
use Rattle.cms_search.proofs.Searches.{item_at_map}
use Rattle.cms_search.proofs.Shown.{position_named, shelf_at, shelf_none}
use Rattle.cms_search.proofs.Stepped.{written_at}
use Rattle.cms_files.specs.Files.{files_written, found_shelf, has_name, is_taken, shelf_with, some_found, with_name, writable, writable_shelf}
use Rattle.cms_files.specs.declared.identifier.NameChoice.{NameChoice}
use Rattle.cms_files.proofs.OpenedFiles.{seat_with}

-- ---- from the front

module _ {A : Type 0} (p : A → Bool) (xs now : List A) (k : ℕ) (is : now ≡ filter p (take k xs)) where
  more : (x : A) → slice_get xs k ≡ Some x → filter p (take (k + 1) xs) ≡ filter p (take k xs) ++ cond (p x) (x ∷ []) []
  more x at =
      let within : k < length xs = slice_get_within xs k x at in
      let there : get_or xs k x ≡ x = get_or_from_slice_get xs k x x at in
      filter_more p xs k x within ∙ ap (λ (y : A). filter p (take k xs) ++ cond (p y) (y ∷ []) []) there

  pub one_taken : (x : A) → slice_get xs k ≡ Some x → p x ≡ true → now ++ x ∷ [] ≡ filter p (take (k + 1) xs)
  one_taken x at taken = rw (more x at, taken, is) refl

  pub none_taken : (x : A) → slice_get xs k ≡ Some x → p x ≡ false → now ≡ filter p (take (k + 1) xs)
  none_taken x at left = rw (more x at, left, append-nil) is

-- ---- the disk of a letter that may be written

-- by whether it may only be read
abbrev write_by : Bool → ℕ → Result ⊤ SearchFault
write_by b n = if b then Err (why.ReadOnly n) else Ok tt

abbrev shelf_by : Bool → ℕ → Shelf → Result Shelf SearchFault
shelf_by b n shelf = if b then Err (why.ReadOnly n) else Ok shelf

-- a fault that is refused is one alone
abbrev fault_of : SearchFault → Result ⊤ SearchFault
fault_of x = Err x

fault_same : (a b : SearchFault) → fault_of a ≡ fault_of b → a ≡ b
fault_same a b e = cc e

locked : (b : Bool) (n : ℕ) (shelf : Shelf) (e : SearchFault) → write_by b n ≡ Err e → shelf_by b n shelf ≡ Err e
locked true n shelf e is = ap {B = Result Shelf SearchFault} (λ (x : SearchFault). Err x) (fault_same (why.ReadOnly n) e is)
locked false n shelf e is = absurd (cc is)

opened : (b : Bool) (n : ℕ) (shelf : Shelf) → write_by b n ≡ Ok tt → shelf_by b n shelf ≡ Ok shelf
opened true n shelf is = absurd (cc is)
opened false n shelf is = refl

-- it isn't
pub no_shelf : (t : AccessTable) (n : ℕ) (e : SearchFault) → writing (item_at (letters_of t) n) n ≡ Err e → writable (shelves_of t) n ≡ Err e
no_shelf t n e is = cases (item_at t.seats n) refl
  where
    cases : (x : Option Seated) → item_at t.seats n ≡ x → writable (shelves_of t) n ≡ Err e
    cases None at =
        let letter : item_at (letters_in t.seats) n ≡ None = item_at_map (λ (s : Seated). s.letter) t.seats n ∙ ap (λ (x : Option Seated). option_map (λ (s : Seated). s.letter) x) at in
        let w : writing None n ≡ Err e = ap (λ (x : Option Letter). writing x n) (sym letter) ∙ is in
        let same = fault_same (why.NotAccessed n) e w in
        ap (λ (x : Option Shelf). writable_shelf n x) (shelf_none t n at) ∙ ap {B = Result Shelf SearchFault} (λ (x : SearchFault). Err x) same
    cases (Some s) at =
        let w : writing (Some s.letter) n ≡ Err e = ap (λ (x : Option Letter). writing x n) (sym (letter_is t n s at)) ∙ is in
        ap (λ (x : Option Shelf). writable_shelf n x) (shelf_at t n s at) ∙ locked s.letter.read_only n (shelf_of s) e w

-- it is
pub open_shelf : (t : AccessTable) (n : ℕ) (s : Seated) → item_at t.seats n ≡ Some s → writing (item_at (letters_of t) n) n ≡ Ok tt → writable (shelves_of t) n ≡ Ok (shelf_of s)
open_shelf t n s at is =
    let w : writing (Some s.letter) n ≡ Ok tt = ap (λ (x : Option Letter). writing x n) (sym (letter_is t n s at)) ∙ is in
    ap (λ (x : Option Shelf). writable_shelf n x) (shelf_at t n s at) ∙ opened s.letter.read_only n (shelf_of s) w

pub may_be : (x : ⊤) (r : Result ⊤ SearchFault) → Ok x ≡ r → r ≡ Ok tt
may_be tt r e = sym e

-- a letter that may be written has a disk
pub never_empty : (t : AccessTable) (n : ℕ) → writing (item_at (letters_of t) n) n ≡ Ok tt → None ≡ option_map (λ (s : Seated). s.disk) (item_at t.seats n) → ⊥
never_empty t n is none =
    let s = written_at t n is in
    let e : None ≡ Some s.0.disk = none ∙ ap (λ (x : Option Seated). option_map (λ (y : Seated). y.disk) x) s.1 in
    cc e

-- ---- the files that are taken

some_listed : {A : Type 0} (xs : List A) → (xs ≡ [] → ⊥) → some_found xs ≡ Ok xs
some_listed [] some = absurd (some refl)
some_listed (x ∷ xs) some = refl

abbrev pub AreTaken : NameChoice → WriteMode → Accessed → List Listed → Type 0
AreTaken names mode d files = files ≡ filter (is_taken names mode.number) (map listed_held d.volume.files)

taken_on : (t : AccessTable) (names : NameChoice) (mode : WriteMode) (d : Accessed) (files : List Listed) → writing (item_at (letters_of t) mode.letter) mode.letter ≡ Ok tt
    → Some d ≡ option_map (λ (s : Seated). s.disk) (item_at t.seats mode.letter) → AreTaken names mode d files → files_written (shelves_of t) names mode ≡ some_found files
taken_on t names mode d files may there taken =
    let s = seat_with (item_at t.seats mode.letter) d there in
    let shelf = open_shelf t mode.letter s.0 s.1 may in
    let list : filter (is_taken names mode.number) (map listed_held s.0.disk.volume.files) ≡ files =
    ap (λ (x : Accessed). filter (is_taken names mode.number) (map listed_held x.volume.files)) s.2 ∙ sym taken in
    rw shelf (ap (λ (xs : List Listed). some_found xs) list)

pub files_found : (t : AccessTable) (names : NameChoice) (mode : WriteMode) (d : Accessed) (files : List Listed) → writing (item_at (letters_of t) mode.letter) mode.letter ≡ Ok tt
    → Some d ≡ option_map (λ (s : Seated). s.disk) (item_at t.seats mode.letter) → AreTaken names mode d files → (files ≡ [] → ⊥) → files_written (shelves_of t) names mode ≡ Ok files
files_found t names mode d files may there taken some = taken_on t names mode d files may there taken ∙ some_listed files some

pub no_files : (t : AccessTable) (names : NameChoice) (mode : WriteMode) (d : Accessed) (files : List Listed) → writing (item_at (letters_of t) mode.letter) mode.letter ≡ Ok tt
    → Some d ≡ option_map (λ (s : Seated). s.disk) (item_at t.seats mode.letter) → AreTaken names mode d files → files ≡ [] → files_written (shelves_of t) names mode ≡ Err why.NotFound
no_files t names mode d files may there taken none = taken_on t names mode d files may there taken ∙ ap (λ (xs : List Listed). some_found xs) none

pub files_refused : (t : AccessTable) (names : NameChoice) (mode : WriteMode) (e : SearchFault) → writing (item_at (letters_of t) mode.letter) mode.letter ≡ Err e
    → files_written (shelves_of t) names mode ≡ Err e
files_refused t names mode e is = let shelf = no_shelf t mode.letter e is in rw shelf refl

-- ---- a file of a name

abbrev shelf_where : Bool → Shelf → Result Shelf SearchFault
shelf_where there shelf = if there then Ok shelf else Err why.NotFound

pub file_there : (t : AccessTable) (n : ℕ) (name : Name) (d : Accessed) → writing (item_at (letters_of t) n) n ≡ Ok tt → Some d ≡ option_map (λ (s : Seated). s.disk) (item_at t.seats n)
    → IsSome (place_of name d.volume) → IsSome (found_shelf (shelf_with (shelves_of t) n name))
file_there t n name d may there some =
    let s = seat_with (item_at t.seats n) d there in
    let shelf = open_shelf t n s.0 s.1 may in
    let place = position_named name s.0.disk.volume ∙ ap (λ (x : Accessed). place_of name x.volume) s.2 in
    rw (shelf, place) (found (place_of name d.volume) some)
  where
    found : (x : Option ℕ) → IsSome x → IsSome (found_shelf (shelf_where (is_some x) (shelf_of (seat_with (item_at t.seats n) d there).0)))
    found None is = absurd (cc is)
    found (Some k) is = refl

pub file_gone : (t : AccessTable) (n : ℕ) (name : Name) (d : Accessed) → writing (item_at (letters_of t) n) n ≡ Ok tt → Some d ≡ option_map (λ (s : Seated). s.disk) (item_at t.seats n)
    → (IsSome (place_of name d.volume) → ⊥) → shelf_with (shelves_of t) n name ≡ Err why.NotFound
file_gone t n name d may there none =
    let s = seat_with (item_at t.seats n) d there in
    let shelf = open_shelf t n s.0 s.1 may in
    let place = position_named name s.0.disk.volume ∙ ap (λ (x : Accessed). place_of name x.volume) s.2 in
    rw (shelf, place) (missing (place_of name d.volume) none)
  where
    missing : (x : Option ℕ) → (IsSome x → ⊥) → shelf_where (is_some x) (shelf_of (seat_with (item_at t.seats n) d there).0) ≡ Err why.NotFound
    missing None is = refl
    missing (Some k) is = absurd (is refl)

pub file_refused : (t : AccessTable) (n : ℕ) (name : Name) (e : SearchFault) → writing (item_at (letters_of t) n) n ≡ Err e → shelf_with (shelves_of t) n name ≡ Err e
file_refused t n name e is = let shelf = no_shelf t n e is in rw shelf refl

-- the file is there in the disk that is changed
pub there_on : (t : AccessTable) (n : ℕ) (name : Name) (d : Accessed) → Some d ≡ option_map (λ (s : Seated). s.disk) (item_at t.seats n) → IsSome (place_of name d.volume)
    → ForSome (item_at t.seats n) (λ s. IsSome (place_of name s.disk.volume))
there_on t n name d there some s at =
    let e : Some d ≡ Some s.disk = there ∙ ap (λ (x : Option Seated). option_map (λ (y : Seated). y.disk) x) at in
    let same = same_Some d s.disk e in
    subst (λ (x : Accessed). IsSome (place_of name x.volume)) same some

-- the shelf that was found is the letter's
pub shelf_there : (shelves : Shelves) (n : ℕ) (name : Name) (shelf : Shelf) → shelf_with shelves n name ≡ Ok shelf → item_at shelves n ≡ Some shelf
shelf_there shelves n name shelf is = cases (item_at shelves n) is
  where
    cases : (x : Option Shelf) → (writable_shelf n x >>= with_name name) ≡ Ok shelf → x ≡ Some shelf
    cases None is = absurd (cc is)
    cases (Some s) is = by s.letter.read_only is
      where
        last : (b : Bool) → cond b (Ok s) (Err why.NotFound) ≡ Ok shelf → Some s ≡ Some shelf
        last true is = cc is
        last false is = absurd (cc is)

        by : (b : Bool) → (shelf_by b n s >>= with_name name) ≡ Ok shelf → Some s ≡ Some shelf
        by true is = absurd (cc is)
        by false is = last (has_name name s.files) is
