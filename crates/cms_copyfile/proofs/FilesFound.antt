-- The files that a line copies, as the table finds them.
use Rattle.std.proofs.Common.{◌≡◌, ◌∙◌, ◌≤◌, ◌∷◌, ◌++◌, ℕ, suc, List, [], Option, Some, None, Result, Ok, Err, length, refl, sym, ap, map, slice_get, arith}
use Rattle.std.specs.Prelude.{⊤, Bool, true, false, cond, if◌then◌else◌, ◌==◌, ◌&&◌, nat_le, nat_lt, IfSome}
use Rattle.std.specs.List.{flat_map, list_all}
use Rattle.std.specs.Option.{option_and_then, option_map, option_map_or}
use Rattle.std.specs.Str.{bytes_eq}
use Rattle.std.proofs.lemmas.Bool.{and_from, and_parts, eqb-true, leb-true}
use Rattle.std.proofs.lemmas.Bool.Decides.{nat_tests}
use Rattle.cms_fields.specs.Steps.{◌>>=◌}
use Rattle.cms_names.specs.Names.{is_between, is_name_character, is_part, is_pattern_character, is_text_of, pattern_of, text_of}
use Rattle.cms_names.specs.Patterns.{fits, one_and_then, some_suffix}
use Rattle.cms_names.specs.declared.fault.NameFault.TheVariants.{BadChar, Empty, TooLong}
use Rattle.cms_names.specs.declared.name.Name.{Name}
use Rattle.cms_edf.specs.FilesTold.{infos_in}
use Rattle.cms_edf.specs.declared.held.FileInfo.{FileInfo}
use Rattle.cms_operands.specs.declared.mode.ReadMode.{ReadMode}
use Rattle.cms_operands.specs.declared.operand.WriteMode.{WriteMode}
use Rattle.cms_search.specs.Machine.{Letter, Machine}
use Rattle.cms_search.specs.Searches.{Listed, Shelf, Shelves, fitting, found_among, found_at, found_in, found_on, is_found, item_at, letters_of_mode, may_find, places_from, search, shelves_in}
use Rattle.cms_search.specs.Shows.{Shows}
use Rattle.cms_search.specs.Tables.{AccessTable, Seated, letters_of, shelf_of, shelves_of, told_of, writing}
use Rattle.cms_search.specs.declared.fault.SearchFault.{SearchFault}
use Rattle.cms_search.specs.declared.fault.SearchFault.TheVariants as why
use Rattle.cms_search.specs.declared.search.Found.{Found}
use Rattle.cms_search.proofs.Searches.{item_at_map}
use Rattle.cms_search.proofs.Shown.{shelves_shown, told_listed}
use Rattle.cms_search.proofs.Stepped.{written_at}
use Rattle.cms_files.specs.Files.{some_found, writable}
use Rattle.cms_files.specs.Identifiers.{takes_name, takes_part}
use Rattle.cms_files.specs.Told.{info_found}
use Rattle.cms_files.specs.declared.identifier.NameChoice.{NameChoice}
use Rattle.cms_files.proofs.TakenFiles.{no_shelf, open_shelf}
use Rattle.cms_fields.proofs.Parts.{none_bad as all_before}
use Rattle.cms_edf.proofs.NamesMet.{eq_sym}
use Rattle.cms_copyfile.specs.Copyfile.{files_copied, files_named, listed_at, named_at, output_is_written}
use Rattle.cms_copyfile.specs.NamedFiles.{pattern_for}
use Rattle.cms_copyfile.specs.declared.named_files.NamedFile.{NamedFile}
use Rattle.cms_copyfile.specs.declared.line.CopyLine.{CopyLine}

-- ---- patterns

name_fits : (c : ℕ) → is_name_character c ≡ true → is_pattern_character c ≡ true
unfolding is_pattern_character
name_fits c is = rw is refl

all_fit : (text : List ℕ) → list_all is_name_character text ≡ true → list_all is_pattern_character text ≡ true
all_fit [] is = refl
all_fit (c ∷ text) is =
    let both = and_parts (is_name_character c) (list_all is_name_character text) is in
    and_from (is_pattern_character c) (list_all is_pattern_character text) (name_fits c both.0) (all_fit text both.1)

not_less : (a b : ℕ) → b ≤ a → nat_lt a b ≡ false
not_less a b low = grind (arith, nat_tests)

not_none : (n : ℕ) → 1 ≤ n → (n == 0) ≡ false
not_none n some = grind (arith, nat_tests)

read_so : (none many bad : Bool) (place : ℕ) (word : List ℕ) → none ≡ false → many ≡ false → bad ≡ false
    → cond none (Err Empty) (cond many (Err TooLong) (option_map_or (λ k. Err (BadChar k)) (cond bad (Some place) None) (Ok word))) ≡ Ok word
read_so true many bad place word a b c = absurd (cc a)
read_so false true bad place word a b c = absurd (cc b)
read_so false false true place word a b c = absurd (cc c)
read_so false false false place word a b c = refl

-- a part is read as a pattern
pub pattern_read : (part : List ℕ) → is_part part ≡ true → pattern_of part ≡ Ok part
unfolding text_of is_text_of
pattern_read part is =
    let both = and_parts (is_between 1 8 (length part)) (list_all is_name_character part) is in
    let range = and_parts (nat_le 1 (length part)) (nat_le (length part) 8) both.0 in
    let low : 1 ≤ length part = leb-true 1 (length part) range.0 in
    let high : length part ≤ 8 = leb-true (length part) 8 range.1 in
    let whole = all_before is_pattern_character part (all_fit part both.1) in
    read_so (length part == 0) (nat_lt 8 (length part)) _ _ part (not_none (length part) low) (not_less 8 (length part) high) (not_less _ (length part) (omega (arith, whole)))

pub star_read : pattern_of (0x5C ∷ []) ≡ Ok (0x5C ∷ [])
unfolding text_of is_pattern_character is_name_character
star_read = refl

-- * fits each
suffix_any : (text : List ℕ) → some_suffix (fits []) text ≡ true
unfolding fits
suffix_any [] = refl
suffix_any (c ∷ text) = suffix_any text

any_fits : (text : List ℕ) → fits (0x5C ∷ []) text ≡ true
unfolding fits
any_fits text = suffix_any text

no_sign : (p sign : ℕ) → is_name_character p ≡ true → is_name_character sign ≡ false → (p == sign) ≡ false
no_sign p sign is other = cases (p == sign) refl
  where
    cases : (b : Bool) → (p == sign) ≡ b → (p == sign) ≡ false
    cases false at = at
    cases true at =
        let same : p ≡ sign = eqb-true p sign at in
        let e : true ≡ false = sym is ∙ (ap is_name_character same ∙ other) in
        absurd (cc e)

star_is_none : is_name_character 0x5C ≡ false
unfolding is_name_character
star_is_none = refl

percent_is_none : is_name_character 0x6C ≡ false
unfolding is_name_character
percent_is_none = refl

-- a part fits itself alone
part_fits : (part text : List ℕ) → list_all is_name_character part ≡ true → fits part text ≡ bytes_eq part text
unfolding fits
part_fits [] [] is = refl
part_fits [] (c ∷ text) is = refl
part_fits (p ∷ rest) text is =
    let both = and_parts (is_name_character p) (list_all is_name_character rest) is in
    let star = no_sign p 0x5C both.0 star_is_none in
    let percent = no_sign p 0x6C both.0 percent_is_none in
    rw (star, percent) (cases text (λ t. part_fits rest t both.1))
  where
    cases : (text : List ℕ) → ((t : List ℕ) → fits rest t ≡ bytes_eq rest t) → one_and_then (λ c. c == p) (fits rest) text ≡ bytes_eq (p ∷ rest) text
    cases [] deeper = refl
    cases (c ∷ text) deeper = ap (λ (b : Bool). b && fits rest text) (eq_sym c p) ∙ ap (λ (b : Bool). (p == c) && b) (deeper text)

abbrev pub IsPartOf : Option (List ℕ) → Type 0
IsPartOf part = IfSome part (λ text. is_part text ≡ true)

fits_so : (part : Option (List ℕ)) (text : List ℕ) → IsPartOf part → fits (pattern_for part) text ≡ takes_part part text
unfolding is_text_of
fits_so None text is = any_fits text
fits_so (Some part) text is = part_fits part text (and_parts (is_between 1 8 (length part)) (list_all is_name_character part) is).1

names_so : (names : NameChoice) (name : Name) → IsPartOf names.file → IsPartOf names.kind → fitting (pattern_for names.file) (pattern_for names.kind) name ≡ takes_name names name
names_so names name file kind =
    ap (λ (b : Bool). b && fits (pattern_for names.kind) name.kind) (fits_so names.file name.file file)
    ∙ ap (λ (b : Bool). takes_part names.file name.file && b) (fits_so names.kind name.kind kind)

-- ---- a search by names that mean the same

module _ (p q : Name → Bool) (same : (name : Name) → p name ≡ q name) where
  places_so : (mode : ReadMode) (disk : Letter) (n : ℕ) (fs : List Listed) → places_from (is_found mode p disk) n fs ≡ places_from (is_found mode q disk) n fs
  unfolding places_from
  places_so mode disk n [] = refl
  places_so mode disk n (f ∷ fs) =
      ap (λ (b : Bool). if b && may_find mode disk f.number then n ∷ places_from (is_found mode p disk) (suc n) fs else places_from (is_found mode p disk) (suc n) fs) (same f.name)
      ∙ ap (λ (l : List ℕ). if is_found mode q disk f then n ∷ l else l) (places_so mode disk (suc n) fs)

  shelf_so : (mode : ReadMode) (n : ℕ) (x : Option Shelf) → option_map_or (λ shelf. found_in mode p n shelf) x [] ≡ option_map_or (λ shelf. found_in mode q n shelf) x []
  shelf_so mode n None = refl
  shelf_so mode n (Some shelf) = ap (map (found_at n)) (places_so mode shelf.letter 0 shelf.files)

  letters_so : (shelves : Shelves) (mode : ReadMode) (ns : List ℕ) → flat_map (λ n. found_on shelves mode p n) ns ≡ flat_map (λ n. found_on shelves mode q n) ns
  letters_so shelves mode [] = refl
  letters_so shelves mode (n ∷ ns) =
      ap (λ (l : List Found). l ++ flat_map (λ n. found_on shelves mode p n) ns) (shelf_so mode n (item_at shelves n))
      ∙ ap (λ (l : List Found). found_on shelves mode q n ++ l) (letters_so shelves mode ns)

  among_so : (shelves : Shelves) (mode : ReadMode) (r : Result (List ℕ) SearchFault) → found_among shelves mode p r ≡ found_among shelves mode q r
  among_so shelves mode (Ok ns) = ap {B = Result (List Found) SearchFault} (λ (l : List Found). Ok l) (letters_so shelves mode ns)
  among_so shelves mode (Err e) = refl

  pub search_so : (shelves : Shelves) (mode : ReadMode) → search shelves mode p ≡ search shelves mode q
  search_so shelves mode = among_so shelves mode (letters_of_mode shelves mode)

-- ---- the output's disk

abbrev checked : Result Shelf SearchFault → Result ⊤ SearchFault
checked x = do
  shelf ← x
  Ok tt

pub output_checked : (t : AccessTable) (s : Machine) (mode : WriteMode) (r : Result ⊤ SearchFault) → Shows t s → r ≡ writing (item_at (letters_of t) mode.letter) mode.letter
    → output_is_written (shelves_in s) (Some mode) ≡ r
output_checked t s mode (Ok tt) shows is =
    let seat = written_at t mode.letter (sym is) in
    ap (λ (x : Shelves). checked (writable x mode.letter)) (sym (shelves_shown t s shows)) ∙ ap checked (open_shelf t mode.letter seat.0 seat.1 (sym is))
output_checked t s mode (Err e) shows is =
    ap (λ (x : Shelves). checked (writable x mode.letter)) (sym (shelves_shown t s shows)) ∙ ap checked (no_shelf t mode.letter e (sym is))

-- ---- a file that was found

-- what the table tells of it
listed_shown : (t : AccessTable) (found : Found) → listed_at (shelves_of t) found ≡ option_map told_of (info_found t found)
listed_shown t found =
    ap (λ (x : Option Shelf). option_and_then (λ (shelf : Shelf). slice_get shelf.files found.place) x) (item_at_map shelf_of t.seats found.letter) ∙ cases (item_at t.seats found.letter)
  where
    cases : (x : Option Seated) → option_and_then (λ (shelf : Shelf). slice_get shelf.files found.place) (option_map shelf_of x)
        ≡ option_map told_of (option_and_then (λ (s : Seated). slice_get (infos_in s.disk.volume) found.place) x)
    cases None = refl
    cases (Some s) = told_listed s.disk.volume.files found.place

abbrev by_name : Found → Listed → NamedFile
by_name found f = record { letter = found.letter; name = f.name }

-- its name
pub found_none : (t : AccessTable) (found : Found) → None ≡ info_found t found → None ≡ named_at (shelves_of t) found
found_none t found none = ap (λ (x : Option FileInfo). option_map (by_name found) (option_map told_of x)) none ∙ sym (ap (option_map (by_name found)) (listed_shown t found))

pub found_named : (t : AccessTable) (found : Found) (info : FileInfo) → Some info ≡ info_found t found → Some (record { letter = found.letter; name = info.name }) ≡ named_at (shelves_of t) found
found_named t found info is = ap (λ (x : Option FileInfo). option_map (by_name found) (option_map told_of x)) is ∙ sym (ap (option_map (by_name found)) (listed_shown t found))

-- ---- the files

abbrev searched : Shelves → CopyLine → Result (List Found) SearchFault
searched shelves line = search shelves line.files.mode (takes_name line.files.names)

-- by the patterns that the table is searched for
pub record AreParts (line : CopyLine) : Type 0 where
  pub file : IsPartOf line.files.names.file
  pub kind : IsPartOf line.files.names.kind

pub searched_so : (line : CopyLine) (shelves : Shelves) → AreParts line
    → search shelves line.files.mode (fitting (pattern_for line.files.names.file) (pattern_for line.files.names.kind)) ≡ searched shelves line
searched_so line shelves are =
    search_so (fitting (pattern_for line.files.names.file) (pattern_for line.files.names.kind)) (takes_name line.files.names)
    (λ name. names_so line.files.names name are.file are.kind) shelves line.files.mode

-- those of the table are the machine's
pub searched_shown : (t : AccessTable) (line : CopyLine) (r : Result (List Found) SearchFault) → AreParts line
    → search (shelves_of t) line.files.mode (fitting (pattern_for line.files.names.file) (pattern_for line.files.names.kind)) ≡ r
    → (s : Machine) → Shows t s → searched (shelves_in s) line ≡ r
searched_shown t line r are is s shows =
    ap (λ (x : Shelves). searched x line) (sym (shelves_shown t s shows)) ∙ (sym (searched_so line (shelves_of t) are) ∙ is)

pub not_searched : (s : Machine) (line : CopyLine) (e : SearchFault) → searched (shelves_in s) line ≡ Err e → files_copied s line ≡ Err e
not_searched s line e is = rw is refl

pub not_written : (s : Machine) (line : CopyLine) (found : List Found) (e : SearchFault) → searched (shelves_in s) line ≡ Ok found
    → output_is_written (shelves_in s) line.files.output.mode ≡ Err e → files_copied s line ≡ Err e
not_written s line found e is output = rw (is, output) refl

-- by the names of those that were found
named_shown : (t : AccessTable) (s : Machine) (line : CopyLine) (found : List Found) (files : List NamedFile) (x : ⊤) → Shows t s → searched (shelves_in s) line ≡ Ok found
    → output_is_written (shelves_in s) line.files.output.mode ≡ Ok x → files ≡ files_named (shelves_of t) found → files_copied s line ≡ some_found files
named_shown t s line found files x shows is output named =
    let same : files_named (shelves_in s) found ≡ files = ap (λ (y : Shelves). files_named y found) (sym (shelves_shown t s shows)) ∙ sym named in
    rw (is, output, same) refl

-- a vector without items, and one with some
pub no_items : (files : List NamedFile) (n : ℕ) → n ≡ length files → (n == 0) ≡ true → files ≡ []
no_items [] n long none = refl
no_items (f ∷ files) n long none = let is = eqb-true n 0 none in absurd (omega (arith, is, long))

pub some_items : (files : List NamedFile) (n : ℕ) → n ≡ length files → (n == 0) ≡ false → files ≡ [] → ⊥
some_items [] n long some none = absurd (cc (sym (ap (λ (k : ℕ). k == 0) long) ∙ some))
some_items (f ∷ files) n long some none = absurd (cc none)

pub none_copied : (t : AccessTable) (s : Machine) (line : CopyLine) (found : List Found) (files : List NamedFile) (x : ⊤) → Shows t s → searched (shelves_in s) line ≡ Ok found
    → output_is_written (shelves_in s) line.files.output.mode ≡ Ok x → files ≡ files_named (shelves_of t) found → files ≡ [] → files_copied s line ≡ Err why.NotFound
none_copied t s line found files x shows is output named none = named_shown t s line found files x shows is output named ∙ ap (λ (l : List NamedFile). some_found l) none

some_of : (files : List NamedFile) → (files ≡ [] → ⊥) → some_found files ≡ Ok files
some_of [] some = absurd (some refl)
some_of (f ∷ files) some = refl

pub some_copied : (t : AccessTable) (s : Machine) (line : CopyLine) (found : List Found) (files : List NamedFile) (x : ⊤) → Shows t s → searched (shelves_in s) line ≡ Ok found
    → output_is_written (shelves_in s) line.files.output.mode ≡ Ok x → files ≡ files_named (shelves_of t) found → (files ≡ [] → ⊥) → files_copied s line ≡ Ok files
some_copied t s line found files x shows is output named some = named_shown t s line found files x shows is output named ∙ some_of files some
