-- The numbers and the names that files get.
use Rattle.std.proofs.Common.{◌≡◌, ◌∙◌, ℕ, ◌≤◌, List, Bool, true, false, Option, Some, None, Result, Ok, Err, inl, inr, refl, subst, sym, ap}
use Rattle.std.specs.Prelude.{⊤, ◌⊎◌, ◌↔◌, cond, not, ◌==◌, ◌&&◌, is_some, IfSome, IsSome, IsTrue, unwrap_or}
use Rattle.std.specs.Option.{option_map}
use Rattle.cms_fields.specs.Steps.{◌>>=◌, ◌>>◌}
use Rattle.cms_names.specs.declared.name.Name.{Name}
use Rattle.cms_names.specs.declared.output.OutId.{OutId}
use Rattle.cms_model.specs.Minidisks.{same_name}
use Rattle.cms_model.proofs.ListChanges.{names_told}
use Rattle.cms_disk.specs.Disks.{Accessed, place_of}
use Rattle.cms_line.specs.declared.token.Token.{Token}
use Rattle.cms_operands.specs.Choices.{chosen_of}
use Rattle.cms_operands.specs.Operands.{ended, needed, operands_of, output_mode, writing_mode}
use Rattle.cms_operands.specs.declared.options.ChosenOption.{ChosenOption}
use Rattle.cms_operands.specs.declared.operand.WriteMode.{WriteMode}
use Rattle.cms_operands.specs.declared.refusal.Refusal.{Refusal}
use Rattle.cms_operands.specs.declared.refusal.Refusal.TheVariants.{BadMode}
use Rattle.cms_search.specs.Searches.{Listed, Shelf, item_at}
use Rattle.cms_search.specs.Tables.{AccessTable, Seated, shelves_of}
use Rattle.cms_search.proofs.Shown.{position_named, shelf_at, shelf_none}
use Rattle.cms_files.specs.Identifiers.{name_choice, output_name}
use Rattle.cms_files.specs.declared.identifier.NameChoice.{NameChoice}
use Rattle.cms_files.proofs.OpenedFiles.{seat_with}
use Rattle.cms_files.proofs.OutputModes.{HasNumber, mode_out}
use Rattle.cms_fileops.specs.Rename.{AreOthers, HasMode, is_others, number_for, options, rename_line, rename_operands, renaming_of, types_of}
use Rattle.cms_fileops.specs.declared.rename.RenameFiles.{RenameFiles}
use Rattle.cms_fileops.specs.declared.rename.RenameLine.{RenameLine}
use Rattle.cms_fileops.specs.declared.rename.RenameOption.{RenameOption}

-- ---- the number of the line

number_out : (n : ℕ) (out : Option WriteMode) (number : Option ℕ) → HasNumber out → number_for n out ≡ Ok number → HasMode number
number_out n None number has is = let same : ◌≡◌ {A = Option ℕ} None number = cc is in subst HasMode same tt
number_out n (Some m) number has is = cases (m.letter == n) is
  where
    cases : (b : Bool) → cond b (Ok m.number) (Err (BadMode 6)) ≡ Ok number → HasMode number
    cases true is = let same : m.number ≡ number = cc is in subst HasMode same has
    cases false is = absurd (cc is)

-- what came before an answer
before : {A B : Type 0} (r : Result A Refusal) (f : A → Result B Refusal) (y : B) → (r >>= f) ≡ Ok y → (x : A) × (r ≡ Ok x) × (f x ≡ Ok y)
before (Ok x) f y is = (x, refl, is)
before (Err e) f y is = absurd (cc is)

last_is : (r : Result ⊤ Refusal) (x y : RenameFiles) → (r >> Ok x) ≡ Ok y → x ≡ y
last_is (Ok t) x y is = cc is
last_is (Err e) x y is = absurd (cc is)

operands_number : (operands : List Token) (files : RenameFiles) → rename_operands operands ≡ Ok files → HasMode files.number
unfolding rename_operands
operands_number operands files is =
    let at_end : NameChoice → WriteMode → OutId → Option ℕ → Result RenameFiles Refusal = λ names m output number.
    ended operands 7 >> Ok (record { names = names; mode = m; output = output; number = number }) in
    let at_out : NameChoice → WriteMode → OutId → Option WriteMode → Result RenameFiles Refusal = λ names m output out. number_for m.letter out >>= at_end names m output in
    let at_out_word : NameChoice → WriteMode → OutId → List ℕ → Result RenameFiles Refusal = λ names m output word. output_mode 6 word >>= at_out names m output in
    let at_output : NameChoice → WriteMode → OutId → Result RenameFiles Refusal = λ names m output. needed operands 6 >>= at_out_word names m output in
    let at_mode : NameChoice → WriteMode → Result RenameFiles Refusal = λ names m. output_name operands 4 >>= at_output names m in
    let at_word : NameChoice → List ℕ → Result RenameFiles Refusal = λ names word. writing_mode 3 word >>= at_mode names in
    let at_names : NameChoice → Result RenameFiles Refusal = λ names. needed operands 3 >>= at_word names in
    let names = before (name_choice operands 1) at_names files is in
    let word = before (needed operands 3) (at_word names.0) files names.2 in
    let m = before (writing_mode 3 word.0) (at_mode names.0) files word.2 in
    let output = before (output_name operands 4) (at_output names.0 m.0) files m.2 in
    let out_word = before (needed operands 6) (at_out_word names.0 m.0 output.0) files output.2 in
    let out = before (output_mode 6 out_word.0) (at_out names.0 m.0 output.0) files out_word.2 in
    let number = before (number_for m.0.letter out.0) (at_end names.0 m.0 output.0) files out.2 in
    let made : RenameFiles = record { names = names.0; mode = m.0; output = output.0; number = number.0 } in
    let same : made ≡ files = last_is (ended operands 7) made files number.2 in
    subst (λ (f : RenameFiles). HasMode f.number) {x = made} same (number_out m.0.letter out.0 number.0 (mode_out 6 out_word.0 out.0 (sym out.1)) number.1)

-- that of RENAME's line
pub line_number : (words : List Token) (line : RenameLine) → rename_line words ≡ Ok line → HasMode line.files.number
line_number words line is =
    let at_chosen : RenameFiles → List (ChosenOption RenameOption) → Result RenameLine Refusal = λ files chosen. Ok (record { files = files; types = types_of chosen }) in
    let at_files : RenameFiles → Result RenameLine Refusal = λ files. chosen_of options words >>= at_chosen files in
    let files = before (rename_operands (operands_of words)) at_files line is in
    let chosen = before (chosen_of options words) (at_chosen files.0) line files.2 in
    let same : ◌≡◌ {A = RenameLine} (record { files = files.0; types = types_of chosen.0 }) line = cc chosen.2 in
    subst (λ (l : RenameLine). HasMode l.files.number) same (operands_number (operands_of words) files.0 files.1)

-- ---- the numbers that files get

pub renamed_number : (files : RenameFiles) (f : Listed) → HasMode files.number → f.number ≤ 6 → (renaming_of files f).number ≤ 6
renamed_number files f given own = cases files.number given
  where
    cases : (x : Option ℕ) → HasMode x → unwrap_or x f.number ≤ 6
    cases None given = own
    cases (Some k) given = given

-- ---- the names of others

pub has_is : (b : Bool) (x : Option ℕ) → (IsTrue b ↔ IsSome x) → b ≡ is_some x
has_is true x has = sym (has.0 refl)
has_is false None has = refl
has_is false (Some k) has = has.1 refl

-- the names are the same
pub none_other : (t : AccessTable) (n : ℕ) (from to : Name) → same_name from to ≡ true → AreOthers t n from to false
none_other t n from to same = cases (item_at (shelves_of t) n)
  where
    cases : (x : Option Shelf) → IfSome x (λ shelf. false ≡ is_others from to shelf.files)
    cases None = tt
    cases (Some shelf) = rw same refl

-- or the disk has the new one, or not
pub others_on : (t : AccessTable) (n : ℕ) (from to : Name) (d : Accessed) (b : Bool) → same_name from to ≡ false → Some d ≡ option_map (λ (s : Seated). s.disk) (item_at t.seats n)
    → (IsTrue b ↔ IsSome (place_of to d.volume)) → AreOthers t n from to b
others_on t n from to d b other there has =
    let s = seat_with (item_at t.seats n) d there in
    let shelf = shelf_at t n s.0 s.1 in
    let place = position_named to s.0.disk.volume in
    let same : place_of to s.0.disk.volume ≡ place_of to d.volume = ap (λ (x : Accessed). place_of to x.volume) s.2 in
    rw (shelf, other, place, same) (has_is b (place_of to d.volume) has)

-- no disk has the letter
pub no_others : (t : AccessTable) (n : ℕ) (from to : Name) → None ≡ option_map (λ (s : Seated). s.disk) (item_at t.seats n) → AreOthers t n from to false
no_others t n from to none = cases (item_at t.seats n) refl
  where
    cases : (x : Option Seated) → item_at t.seats n ≡ x → AreOthers t n from to false
    cases None at = let e = shelf_none t n at in rw e tt
    cases (Some s) at = absurd (let e : None ≡ Some s.disk = none ∙ ap (λ (x : Option Seated). option_map (λ (y : Seated). y.disk) x) at in cc e)

-- where the new name is no other file's the file may have it
pub may_have : (t : AccessTable) (n : ℕ) (from to : Name) (b : Bool) → AreOthers t n from to b → b ≡ false → (s : Seated) → item_at t.seats n ≡ Some s
    → (place_of to s.disk.volume ≡ None) ⊎ (to ≡ from)
may_have t n from to b others free s at = cases (same_name from to) (place_of to s.disk.volume) refl refl told
  where
    told : not (same_name from to) && is_some (place_of to s.disk.volume) ≡ false
    told =
        let shelf = shelf_at t n s at in
        let place = position_named to s.disk.volume in
        let o = rw shelf at others in
        sym (rw place at o) ∙ free

    cases : (a : Bool) (x : Option ℕ) → same_name from to ≡ a → place_of to s.disk.volume ≡ x → not a && is_some x ≡ false → (place_of to s.disk.volume ≡ None) ⊎ (to ≡ from)
    cases true x same at none = inr (sym ((names_told from to).0 same))
    cases false None same at none = inl at
    cases false (Some k) same at none = absurd (cc none)

-- the answer of a shelf that is there
pub at_shelf : (x : Option Shelf) (shelf : Shelf) (b : Bool) (from to : Name) → x ≡ Some shelf → IfSome x (λ s. b ≡ is_others from to s.files) → b ≡ is_others from to shelf.files
at_shelf x shelf b from to is others = rw is at others
