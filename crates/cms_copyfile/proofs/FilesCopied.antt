-- The file that is copied and its output, as the table tells them and as the machine has them.
use Rattle.std.proofs.Common.{◌≡◌, ◌∙◌, ℕ, List, Option, Some, None, Result, Ok, Err, length, slice_get, refl, sym, ap, subst}
use Rattle.std.specs.Prelude.{Bool, true, false, if◌then◌else◌, nat_lt}
use Rattle.std.specs.Option.{option_map}
use Rattle.cms_names.specs.declared.name.Name.{Name}
use Rattle.cms_model.specs.Changes.{file_named}
use Rattle.cms_model.specs.Minidisks.{File, Minidisk}
use Rattle.cms_model.specs.Acts.{Act, bind}
use Rattle.cms_model.specs.Slots.{Slot}
use Rattle.cms_line.specs.declared.token.Token.{Token}
use Rattle.cms_edf.specs.declared.held.FileInfo.{FileInfo}
use Rattle.cms_search.specs.Calls.{Acts, Meaning, Spot, holds, machine_of}
use Rattle.cms_search.specs.DeviceSteps.{Stepped}
use Rattle.cms_search.specs.Machine.{Letter, Machine, letter_at, minidisk_in}
use Rattle.cms_search.specs.Searches.{Shelf, Shelves, item_at, shelves_in}
use Rattle.cms_search.specs.Shows.{Shows}
use Rattle.cms_search.specs.Tables.{AccessTable, letters_of, shelf_of, writing}
use Rattle.cms_search.specs.declared.fault.SearchFault.{SearchFault}
use Rattle.cms_search.specs.declared.fault.SearchFault.TheVariants.{NotFound}
use Rattle.cms_search.specs.declared.state.End.{End}
use Rattle.cms_search.proofs.Acts.{acts_same}
use Rattle.cms_search.proofs.LetterDisks.{holds_shows}
use Rattle.cms_search.proofs.Shown.{shelves_shown}
use Rattle.cms_search.proofs.Stepped.{written_at}
use Rattle.cms_files.specs.Files.{UnitFile, file_in, file_on, search_refused, unit_file, writable}
use Rattle.cms_files.specs.Told.{IsInfo, info_named}
use Rattle.cms_files.specs.Updates.{on_step, stopping, telling}
use Rattle.cms_files.specs.declared.update.Updated.{Updated}
use Rattle.cms_files.proofs.FileTold.{IsTold, file_told}
use Rattle.cms_files.proofs.TakenFiles.{no_shelf, open_shelf}
use Rattle.cms_copyfile.specs.Copyfile.{Copying, copy_erased, copy_found, copy_into, copy_of, copy_records, copy_told, copying_of, file_at, input_shown, is_refused, letter_for, output_shown, there_already, there_is, too_few, with_copying}
use Rattle.cms_copyfile.specs.FileCopies.{IsCopying, IsFileCopy, IsInfoOf, copied_to, copy_number}
use Rattle.cms_copyfile.specs.Shown.{copy_text}
use Rattle.cms_copyfile.specs.declared.copy.FileCopy.{FileCopy}
use Rattle.cms_copyfile.specs.declared.named_files.NamedFile.{NamedFile}
use Rattle.cms_copyfile.specs.declared.line.CopyLine.{CopyLine}
use Rattle.cms_copyfile.specs.declared.line.Existing.{Existing}
use Rattle.cms_copyfile.specs.declared.line.Existing.TheVariants.{Extended, Refused, Replaced}
use Rattle.cms_copyfile.specs.declared.shown.FileShown.{FileShown}

-- ---- the machine has the files

told_there : (x : Result UnitFile SearchFault) (info : Option FileInfo) → IsTold x info → IsInfoOf info (there_is x)
told_there (Ok x) (Some info) is = is
told_there (Ok x) None is = absurd is
told_there (Err why) (Some info) is = absurd is
told_there (Err why) None is = tt

-- so is the file of the output's name
there_told : (t : AccessTable) (s : Machine) (n : ℕ) (name : Name) → Shows t s → IsInfoOf (info_named t n name) (there_is (file_on s name (letter_at s n)))
there_told t s n name shows = told_there (file_on s name (letter_at s n)) (info_named t n name) (file_told t s n name shows)

-- a file of which this is told is there
told_found : (x : Result UnitFile SearchFault) (info : FileInfo) → IsTold x (Some info) → (y : UnitFile) × (x ≡ Ok y) × IsInfo info y.file
told_found (Ok y) info is = (y, refl, is)
told_found (Err why) info is = absurd is

pub copying_shown : (t : AccessTable) (s : Machine) (line : CopyLine) (c : FileCopy) → IsFileCopy t line c → Shows t s → IsCopying s line c
copying_shown t s line c is shows =
    let told : IsTold (file_at s c.found) (Some c.input) = subst (IsTold (file_at s c.found)) (sym is.input) (file_told t s c.found.letter c.found.name shows) in
    let x = told_found (file_at s c.found) c.input told in
    record {
      file = x.0;
      found = x.1;
      input = x.2;
      to = is.letter;
      name = is.name;
      there = subst (λ (n : Name). IsInfoOf c.there (there_is (file_on s n (letter_at s (letter_for line.files.output.mode c.found.letter))))) is.name
          (subst (λ (n : ℕ). IsInfoOf c.there (there_is (file_on s c.name (letter_at s n)))) is.letter
          (subst (λ (o : Option FileInfo). IsInfoOf o (there_is (file_on s c.name (letter_at s c.letter)))) (sym is.there) (there_told t s c.letter c.name shows)));
    }

-- at a spot
pub copying_at : (spot : Spot) (line : CopyLine) (c : FileCopy) → IsFileCopy spot.state.table line c → (units : List Slot) → holds spot units → IsCopying (machine_of spot.state units) line c
copying_at spot line c is units h = copying_shown spot.state.table (machine_of spot.state units) line c is (holds_shows spot units h)

-- ---- no file

none_in : (u : ℕ) (x : Option File) → IsTold (unit_file u x) None → unit_file u x ≡ Err NotFound
none_in u None told = refl
none_in u (Some f) told = absurd told

none_of : (u : ℕ) (name : Name) (x : Option Minidisk) → IsTold (file_in u name x) None → file_in u name x ≡ Err NotFound
none_of u name None told = refl
none_of u name (Some m) told = none_in u (file_named name m.files) told

none_on : (s : Machine) (name : Name) (x : Option Letter) → IsTold (file_on s name x) None → file_on s name x ≡ Err NotFound
none_on s name None told = refl
none_on s name (Some disk) told = none_of disk.unit name (minidisk_in (slice_get s.units disk.unit)) told

pub copy_missing : (t : AccessTable) (s : Machine) (file : NamedFile) → None ≡ info_named t file.letter file.name → Shows t s → file_at s file ≡ Err NotFound
copy_missing t s file none shows =
    none_on s file.name (letter_at s file.letter) (subst (IsTold (file_at s file)) (sym none) (file_told t s file.letter file.name shows))

-- ---- what is done with it

pub copying_is : (words : List Token) (line : CopyLine) (s : Machine) (c : FileCopy) (next : Copying → Act Stepped) (is : IsCopying s line c)
    → with_copying words line s c.found next ≡ next (copying_of s line c.found is.file)
copying_is words line s c next is = let found = is.found in rw found refl

-- a call does it where it does what that comes to
pub acts_copying : (old new : Spot) (words : List Token) (line : CopyLine) (c : FileCopy) (next : Machine → Copying → Act Stepped) (tree : List Slot → Act Stepped) (r : Result Updated End)
    (d : Meaning Updated Stepped) → IsFileCopy old.state.table line c
    → ((units : List Slot) (x : IsCopying (machine_of old.state units) line c) → holds old units
    → next (machine_of old.state units) (copying_of (machine_of old.state units) line c.found x.file) ≡ tree units)
    → Acts old new tree r d → Acts old new (λ units. with_copying words line (machine_of old.state units) c.found (next (machine_of old.state units))) r d
acts_copying old new words line c next tree r d is same a =
    acts_same old new (λ units. with_copying words line (machine_of old.state units) c.found (next (machine_of old.state units))) tree r d
    (λ units h.
    (let s = machine_of old.state units in
    let x = copying_at old line c is units h in
    copying_is words line s c (next s) x ∙ same units x h)) a

-- ---- one that is refused

refused_told : (existing : Existing) (x : Option FileInfo) (y : Option File) → IsInfoOf x y → is_refused existing x ≡ is_refused existing y
refused_told Refused None None is = refl
refused_told Refused (Some i) (Some f) is = refl
refused_told Refused None (Some f) is = absurd is
refused_told Refused (Some i) None is = absurd is
refused_told Replaced None None is = refl
refused_told Replaced (Some i) (Some f) is = refl
refused_told Replaced None (Some f) is = refl
refused_told Replaced (Some i) None is = refl
refused_told Extended None None is = refl
refused_told Extended (Some i) (Some f) is = refl
refused_told Extended None (Some f) is = refl
refused_told Extended (Some i) None is = refl

is_so : (s : Machine) (line : CopyLine) (c : FileCopy) (x : IsCopying s line c) (b : Bool) → is_refused line.style.existing c.there ≡ b
    → is_refused line.style.existing (copied_to s line c x).there ≡ b
is_so s line c x b is = sym (refused_told line.style.existing c.there (copied_to s line c x).there x.there) ∙ is

few_so : (s : Machine) (line : CopyLine) (c : FileCopy) (x : IsCopying s line c) (b : Bool) → nat_lt c.input.count line.style.first ≡ b
    → nat_lt (length (copied_to s line c x).input.file.records) line.style.first ≡ b
few_so s line c x b is = ap (λ (n : ℕ). nat_lt n line.style.first) (sym x.input.count) ∙ is

-- a file that has the output's name isn't to be touched
pub into_there : (s : Machine) (words : List Token) (line : CopyLine) (c : FileCopy) (x : IsCopying s line c) → is_refused line.style.existing c.there ≡ true
    → copy_into s words line (copied_to s line c x) ≡ there_already s words line c.letter c.name
into_there s words line c x is =
    let made = copied_to s line c x in
    ap (λ (b : Bool). if b then there_already s words line made.to made.name
    else (if nat_lt (length made.input.file.records) line.style.first then stopping (too_few s (length made.input.file.records)) else copy_records s line made)) (is_so s line c x true is)
    ∙ (ap (λ (n : ℕ). there_already s words line n made.name) (sym x.to) ∙ ap (λ (n : Name). there_already s words line c.letter n) (sym x.name))

into_next : (s : Machine) (words : List Token) (line : CopyLine) (c : FileCopy) (x : IsCopying s line c) (b : Bool) → is_refused line.style.existing c.there ≡ false
    → nat_lt c.input.count line.style.first ≡ b
    → copy_into s words line (copied_to s line c x)
    ≡ (if b then stopping (too_few s (length (copied_to s line c x).input.file.records)) else copy_records s line (copied_to s line c x))
into_next s words line c x b is few =
    let made = copied_to s line c x in
    ap (λ (b : Bool). if b then there_already s words line made.to made.name
    else (if nat_lt (length made.input.file.records) line.style.first then stopping (too_few s (length made.input.file.records)) else copy_records s line made)) (is_so s line c x false is)
    ∙ ap (λ (b : Bool). if b then stopping (too_few s (length made.input.file.records)) else copy_records s line made) (few_so s line c x b few)

-- it has no record that is copied
pub into_few : (s : Machine) (words : List Token) (line : CopyLine) (c : FileCopy) (x : IsCopying s line c) → is_refused line.style.existing c.there ≡ false
    → nat_lt c.input.count line.style.first ≡ true → copy_into s words line (copied_to s line c x) ≡ stopping (too_few s c.input.count)
into_few s words line c x is few = into_next s words line c x true is few ∙ ap (λ (n : ℕ). stopping (too_few s n)) (sym x.input.count)

-- else its records are copied
pub into_copied : (s : Machine) (words : List Token) (line : CopyLine) (c : FileCopy) (x : IsCopying s line c) → is_refused line.style.existing c.there ≡ false
    → nat_lt c.input.count line.style.first ≡ false
    → copy_into s words line (copied_to s line c x) ≡ with_copying words line s c.found (copy_records s line)
into_copied s words line c x is few = into_next s words line c x false is few ∙ sym (copying_is words line s c (copy_records s line) x)

-- ---- the line that is typed

pub number_told : (x : Option FileInfo) (y : Option File) → IsInfoOf x y → option_map (λ (i : FileInfo). i.number) x ≡ option_map (λ (f : File). f.number) y
number_told None None is = refl
number_told (Some i) (Some f) is = ap (λ (n : ℕ). Some n) is.number
number_told None (Some f) is = absurd is
number_told (Some i) None is = absurd is

abbrev pub shown_input : FileCopy → FileShown
shown_input c = record { letter = c.found.letter; name = c.input.name; number = c.input.number }

abbrev pub shown_output : CopyLine → FileCopy → FileShown
shown_output line c = record { letter = c.letter; name = c.name; number = copy_number line c }

text_so : (s : Machine) (line : CopyLine) (c : FileCopy) (x : IsCopying s line c)
    → copy_text (input_shown (copied_to s line c x)) (output_shown line (copied_to s line c x)) ≡ copy_text (shown_input c) (shown_output line c)
text_so s line c x =
    let name = x.input.name in
    let number = x.input.number in
    let to = x.to in
    let called = x.name in
    let there = number_told c.there (copied_to s line c x).there x.there in
    rw (name, number, to, called, there) refl

pub told_so : (s : Machine) (words : List Token) (line : CopyLine) (c : FileCopy) (x : IsCopying s line c) (text : List ℕ) → text ≡ copy_text (shown_input c) (shown_output line c)
    → copy_told s words line (copied_to s line c x) ≡ bind (with_copying words line s c.found (copy_erased s words line)) (telling line.style.types text)
told_so s words line c x text is =
    ap (λ (t : List ℕ). bind (copy_erased s words line (copied_to s line c x)) (telling line.style.types t)) (text_so s line c x ∙ sym is)
    ∙ ap (λ (a : Act Stepped). bind a (telling line.style.types text)) (sym (copying_is words line s c (copy_erased s words line) x))

-- ---- the output's disk

shelf_shown : (t : AccessTable) (s : Machine) (n : ℕ) → Shows t s → writing (item_at (letters_of t) n) n ≡ Ok tt → (shelf : Shelf) × (writable (shelves_in s) n ≡ Ok shelf)
shelf_shown t s n shows is =
    let seat = written_at t n is in
    (shelf_of seat.0, ap (λ (x : Shelves). writable x n) (sym (shelves_shown t s shows)) ∙ open_shelf t n seat.0 seat.1 is)

pub of_written : (t : AccessTable) (s : Machine) (words : List Token) (line : CopyLine) (c : FileCopy) (x : IsCopying s line c) → Shows t s
    → writing (item_at (letters_of t) c.letter) c.letter ≡ Ok tt → copy_of s words line (copied_to s line c x) ≡ with_copying words line s c.found (copy_told s words line)
of_written t s words line c x shows is =
    let shelf = shelf_shown t s c.letter shows is in
    let found : writable (shelves_in s) (copied_to s line c x).to ≡ Ok shelf.0 = ap (λ (n : ℕ). writable (shelves_in s) n) (sym x.to) ∙ shelf.1 in
    ap (λ (r : Result Shelf SearchFault). on_step s words 1 (λ shelf. copy_told s words line (copied_to s line c x)) r) found
    ∙ sym (copying_is words line s c (copy_told s words line) x)

pub of_unwritten : (t : AccessTable) (s : Machine) (words : List Token) (line : CopyLine) (c : FileCopy) (x : IsCopying s line c) (e : SearchFault) → Shows t s
    → writing (item_at (letters_of t) c.letter) c.letter ≡ Err e → copy_of s words line (copied_to s line c x) ≡ stopping (search_refused s words 1 e)
of_unwritten t s words line c x e shows is =
    let none = ap (λ (x : Shelves). writable x c.letter) (sym (shelves_shown t s shows)) ∙ no_shelf t c.letter e is in
    ap (λ (r : Result Shelf SearchFault). on_step s words 1 (λ shelf. copy_told s words line (copied_to s line c x)) r)
    (ap (λ (n : ℕ). writable (shelves_in s) n) (sym x.to) ∙ none)

-- ---- no file

pub acts_missing : (old new : Spot) (words : List Token) (line : CopyLine) (found : NamedFile) (r : Result Updated End) (d : Meaning Updated Stepped)
    → ((s : Machine) → Shows old.state.table s → file_at s found ≡ Err NotFound)
    → Acts old new (λ units. stopping (search_refused (machine_of old.state units) words 1 NotFound)) r d
    → Acts old new (λ units. copy_found words line (machine_of old.state units) found) r d
acts_missing old new words line found r d none a =
    acts_same old new (λ units. copy_found words line (machine_of old.state units) found) (λ units. stopping (search_refused (machine_of old.state units) words 1 NotFound)) r d
    (λ units h. (let missing = none (machine_of old.state units) (holds_shows old units h) in rw missing refl)) a
