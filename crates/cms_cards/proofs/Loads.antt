-- A file that is written from the first deck.
use Rattle.std.proofs.Common.{◌≡◌, ◌∙◌, ◌+◌, ◌<◌, ◌≤◌, ◌++◌, get_or, length, take, true, false, Bool, ℕ, List, [], ◌∷◌, map, pos, Option, Some, None, Result, Ok, Err, refl, sym, ap, subst}
use Rattle.std.specs.Prelude.{◌==◌, IfOk, IfSome, cond}
use Rattle.std.specs.Option.{ok_or, option_map}
use Rattle.std.specs.declared.alloc.AllocError.{AllocError}
use Rattle.std.proofs.lemmas.List.{map-append, take_more}
use Rattle.cms_names.specs.Modes.{letter_of, mode_number_of, mode_word_of, numbered_mode, short_mode_of}
use Rattle.cms_names.specs.declared.mode.ModeWord.TheVariants as mode
use Rattle.cms_names.specs.declared.name.Format.TheVariants.{F}
use Rattle.cms_names.specs.declared.name.Name.{Name}
use Rattle.cms_fields.specs.Moments.{stamp_of}
use Rattle.cms_fields.specs.Steps.{◌>>=◌, ◌>>◌}
use Rattle.cms_fields.specs.declared.time.Stamp.{Stamp}
use Rattle.cms_model.specs.Changes.{Put}
use Rattle.cms_model.specs.Minidisks.{File}
use Rattle.cms_model.specs.declared.file.FileData.{FileData}
use Rattle.cms_model.specs.Acts.{Act, saying, typed_line}
use Rattle.cms_model.specs.Slots.{Slot}
use Rattle.cms_line.specs.Messages.{message_text}
use Rattle.cms_line.specs.declared.message.Message.TheVariants.{M124, M125}
use Rattle.cms_line.specs.declared.token.Token.{Token}
use Rattle.cms_operands.specs.Choices.{chosen_of, no_forms}
use Rattle.cms_operands.specs.Operands.{ended, given, operands_of, or_refused, writing_mode, writing_of}
use Rattle.cms_operands.specs.Optional.{on_a, read_or, writing_mode_or_a}
use Rattle.cms_operands.specs.declared.operand.WriteMode.{WriteMode}
use Rattle.cms_operands.specs.declared.refusal.Refusal.{Refusal}
use Rattle.cms_operands.specs.declared.refusal.Refusal.TheVariants.{BadMode}
use Rattle.cms_edf.specs.declared.held.FileInfo.{FileInfo}
use Rattle.cms_disk.specs.Drafts as drafts
use Rattle.cms_disk.specs.Drafts.{shape_of}
use Rattle.cms_search.specs.Calls.{Acts, Does, Meaning, Spot, course_of, machine_of, said}
use Rattle.cms_search.specs.Machine.{Course, Machine, letter_at}
use Rattle.cms_search.specs.declared.fault.SearchFault.{SearchFault}
use Rattle.cms_search.specs.declared.state.Course as declared
use Rattle.cms_search.specs.declared.state.Course.TheVariants as course
use Rattle.cms_search.specs.declared.state.End.{End}
use Rattle.cms_search.proofs.Acts.{acts_same}
use Rattle.cms_search.proofs.LetterDisks.{holds_shows}
use Rattle.cms_search.proofs.StateCalls.{acts_refused}
use Rattle.cms_files.specs.Files.{UnitFile, file_on, no_file_code}
use Rattle.cms_files.specs.Gathered.{AreData, IsGathered}
use Rattle.cms_files.specs.declared.gathered.Gathered.{Gathered}
use Rattle.cms_files.specs.Identifiers.{full_name}
use Rattle.cms_files.specs.Told.{info_named}
use Rattle.cms_files.specs.Updates.{last_update}
use Rattle.cms_files.proofs.FileTold.{IsTold, file_told}
use Rattle.cms_files.proofs.LastUpdates.{acts_changed, last_tree}
use Rattle.cms_cards.specs.Dumps.{load}
use Rattle.cms_files.proofs.OutputModes.{number_below}
use Rattle.cms_cards.specs.Calls.{number_told}
use Rattle.cms_cards.specs.Fetch.{not_taken}
use Rattle.cms_cards.specs.FirstDeck.{cards_file, number_for, on_deck, on_dump, read_file, write_cards, write_dump}
use Rattle.cms_cards.specs.Lines.{read_line, read_operands}
use Rattle.cms_cards.specs.PunchedCards.{Deck, card_of, record_cards}
use Rattle.cms_cards.specs.declared.line.ReadTarget.{ReadTarget}

-- ---- the number of READCARD's line

abbrev pub HasMode : Option ℕ → Type 0
HasMode number = IfSome number (λ k. k ≤ 6)

short_written : (c : ℕ) (out : WriteMode) → writing_of (short_mode_of c) ≡ Some out → HasMode out.number
unfolding short_mode_of
short_written c out is = cases (c == 0x5C) (c == 0x7E) (letter_of c) is
  where
    cases : (a b : Bool) (x : Option ℕ) → writing_of (cond a (Some mode.Any) (cond b (Some mode.Same) (option_map (λ l. mode.Letter l) x))) ≡ Some out → HasMode out.number
    cases true b x is = absurd (cc is)
    cases false true x is = absurd (cc is)
    cases false false None is = absurd (cc is)
    cases false false (Some l) is =
        let same : ◌≡◌ {A = WriteMode} (record { letter = l; number = None }) out = cc is in subst (λ (m : WriteMode). HasMode m.number) same tt

word_written : (text : List ℕ) (out : WriteMode) → writing_of (mode_word_of text) ≡ Some out → HasMode out.number
unfolding mode_word_of
word_written [] out is = absurd (cc is)
word_written (c ∷ []) out is = short_written c out is
word_written (c ∷ d ∷ []) out is = cases (letter_of c) (mode_number_of d) refl is
  where
    cases : (x y : Option ℕ) → mode_number_of d ≡ y → writing_of (numbered_mode x y) ≡ Some out → HasMode out.number
    cases None y at is = absurd (cc is)
    cases (Some x) None at is = absurd (cc is)
    cases (Some x) (Some k) at is =
        let same : ◌≡◌ {A = WriteMode} (record { letter = x; number = Some k }) out = cc is in
        subst (λ (m : WriteMode). HasMode m.number) same (number_below d k at)
word_written (c ∷ d ∷ e ∷ more) out is = absurd (cc is)

mode_written : (text : List ℕ) (out : WriteMode) → writing_mode 3 text ≡ Ok out → HasMode out.number
unfolding writing_mode
mode_written text out is = cases (writing_of (mode_word_of text)) refl is
  where
    cases : (x : Option WriteMode) → writing_of (mode_word_of text) ≡ x → or_refused x (BadMode 3) ≡ Ok out → HasMode out.number
    cases None at is = absurd (cc is)
    cases (Some o) at is = let same : o ≡ out = cc is in subst (λ (m : WriteMode). HasMode m.number) same (word_written text o at)

-- what came before an answer
before : {A B : Type 0} (r : Result A Refusal) (f : A → Result B Refusal) (y : B) → (r >>= f) ≡ Ok y → (x : A) × (r ≡ Ok x) × (f x ≡ Ok y)
before (Ok x) f y is = (x, refl, is)
before (Err e) f y is = absurd (cc is)

last_is : {A : Type 0} (r : Result A Refusal) (x y : ReadTarget) → (r >> Ok x) ≡ Ok y → x ≡ y
last_is (Ok t) x y is = cc is
last_is (Err e) x y is = absurd (cc is)

mode_given : (text : Option (List ℕ)) (out : WriteMode) → read_or on_a (writing_mode 3) text ≡ Ok out → HasMode out.number
mode_given None out is = let same : on_a ≡ out = cc is in subst (λ (m : WriteMode). HasMode m.number) same tt
mode_given (Some text) out is = mode_written text out is

operands_number : (operands : List Token) (target : ReadTarget) → read_operands operands ≡ Ok target → HasMode target.mode.number
unfolding read_operands
operands_number operands target is =
    let at_end : Name → WriteMode → Result ReadTarget Refusal = λ name m. ended operands 4 >> Ok (record { name = name; mode = m }) in
    let at_name : Name → Result ReadTarget Refusal = λ name. writing_mode_or_a operands 3 >>= at_end name in
    let name = before (full_name operands 1) at_name target is in
    let m = before (writing_mode_or_a operands 3) (at_end name.0) target name.2 in
    let made : ReadTarget = record { name = name.0; mode = m.0 } in
    let same : made ≡ target = last_is (ended operands 4) made target m.2 in
    subst (λ (t : ReadTarget). HasMode t.mode.number) {x = made} same (mode_given (given operands 3) m.0 m.1)

pub line_number : (words : List Token) (target : ReadTarget) → read_line words ≡ Ok target → HasMode target.mode.number
line_number words target is =
    let at_target : ReadTarget → Result ReadTarget Refusal = λ t. chosen_of no_forms words >> Ok t in
    let t = before (read_operands (operands_of words)) at_target target is in
    let same : t.0 ≡ target = last_is (chosen_of no_forms words) t.0 target t.2 in
    subst (λ (x : ReadTarget). HasMode x.mode.number) same (operands_number (operands_of words) t.0 t.1)

-- ---- the first deck

module _ (old new : Spot) (next : Machine → Deck → Act Course) (first : Option Deck) where
  abbrev pub on_first : List Slot → Act Course
  on_first units = on_deck (machine_of old.state units) (next (machine_of old.state units)) first

  pub deck_there : (deck : Deck) (r : Result declared.Course End) (d : Meaning declared.Course Course) → Some deck ≡ first
      → Acts old new (λ units. next (machine_of old.state units) deck) r d → Acts old new on_first r d
  deck_there deck r d is a =
      acts_same old new on_first (λ units. next (machine_of old.state units) deck) r d
      (λ units h. ap (on_deck (machine_of old.state units) (next (machine_of old.state units))) (sym is)) a

  pub deck_missing : (r : Result declared.Course End) → None ≡ first → Does old.world new.world (saying (typed_line (message_text M124))) r said
      → IfOk r (λ c. c ≡ course.Went (pos no_file_code)) → new.state ≡ old.state → Acts old new on_first r (course_of new.state)
  deck_missing r none does went same =
      acts_refused old new on_first M124 (pos no_file_code) r does went same
      (λ units h. ap (on_deck (machine_of old.state units) (next (machine_of old.state units))) (sym none))

-- ---- READCARD

-- one card more
pub gathers_next : (cards : List (List ℕ)) (k : ℕ) (g : Gathered) → k < length cards → IsGathered F 80 (map card_of (take k cards) ++ card_of (get_or cards k []) ∷ []) g
    → IsGathered F 80 (map card_of (take (k + 1) cards)) g
gathers_next cards k g less gathered =
    let more : take (k + 1) cards ≡ take k cards ++ get_or cards k [] ∷ [] = take_more cards k [] less in
    subst (λ (rs : List (List ℕ)). IsGathered F 80 rs g) (sym (map-append card_of (take k cards) (get_or cards k [] ∷ [])) ∙ ap (map card_of) (sym more)) gathered

-- the data of a file, where there are any
pub made_ok : (o : Option FileData) (r : Result FileData AllocError) (e : AllocError) (P : FileData → Type 0) → r ≡ ok_or o e → IfSome o P → IfOk r P
made_ok None r e P is made = rw is tt
made_ok (Some file) r e P is made = rw is made

number_is : (given : Option ℕ) (x : Result UnitFile SearchFault) (i : Option FileInfo) → IsTold x i → number_for given x ≡ number_told given i
number_is given (Ok x) (Some info) is = sym is.number
number_is given (Ok x) None is = absurd is
number_is given (Err why) (Some info) is = absurd is
number_is given (Err why) None is = refl

file_is : (s : Machine) (name : Name) (number : ℕ) (stamp : Stamp) (file : FileData) (cards : List (List ℕ)) → stamp ≡ stamp_of s.moment
    → AreData F 80 number stamp (map card_of cards) file → Put (cards_file s name number cards) ≡ Put (drafts.file_with name (shape_of file) (map card_of cards))
file_is s name number stamp file cards when whole =
    let number' = whole.number_is in
    let format = whole.format_is in
    let size = whole.length_is in
    let stamp' = whole.stamp_is in
    rw (number', format, size, stamp', when) refl

pub cards_written : (old new : Spot) (target : ReadTarget) (deck : Deck) (number : ℕ) (stamp : Stamp) (file : FileData) (r : Result declared.Course End)
    → number ≡ number_told target.mode.number (info_named old.state.table target.mode.letter target.name) → stamp ≡ stamp_of old.state.moment
    → AreData F 80 number stamp (map card_of (record_cards deck)) file
    → Acts old new (last_tree old target.mode.letter (λ units. Put (drafts.file_with target.name (shape_of file) (map card_of (record_cards deck))))) r (course_of new.state)
    → Acts old new (λ units. write_cards (machine_of old.state units) target deck) r (course_of new.state)
cards_written old new target deck number stamp file r is when whole a =
    let n = target.mode.letter in
    let name = target.name in
    let there : List Slot → Result UnitFile SearchFault = λ units. file_on (machine_of old.state units) name (letter_at (machine_of old.state units) n) in
    acts_changed old new n (λ units. Put (read_file (machine_of old.state units) target deck))
    (λ units. Put (drafts.file_with name (shape_of file) (map card_of (record_cards deck)))) r
    (λ units h.
    let s = machine_of old.state units in
    let number' : number_for target.mode.number (there units) ≡ number =
    number_is target.mode.number (there units) (info_named old.state.table n name) (file_told old.state.table s n name (holds_shows old units h)) ∙ sym is in
    ap (λ (k : ℕ). Put (cards_file s name k (record_cards deck))) number' ∙ file_is s name number stamp file (record_cards deck) when whole) a

-- ---- DISK LOAD

module _ (old new : Spot) (n : ℕ) (deck : Deck) where
  abbrev pub dumps : List Slot → Act Course
  dumps units = write_dump (machine_of old.state units) n deck

  abbrev then_put : List Slot → File → Act Course
  then_put units f = last_update (machine_of old.state units) n (Put f)

  pub dump_written : (f : File) (r : Result declared.Course End) → load deck ≡ Some f → Acts old new (λ units. then_put units f) r (course_of new.state)
      → Acts old new dumps r (course_of new.state)
  dump_written f r is a =
      acts_same old new dumps (λ units. then_put units f) r (course_of new.state)
      (λ units h. ap (on_dump (machine_of old.state units) (then_put units)) is) a

  pub dump_missing : (r : Result declared.Course End) → load deck ≡ None → Does old.world new.world (saying (typed_line (message_text M125))) r said
      → IfOk r (λ c. c ≡ course.Went (pos not_taken)) → new.state ≡ old.state → Acts old new dumps r (course_of new.state)
  dump_missing r none does went same =
      acts_refused old new dumps M125 (pos not_taken) r does went same (λ units h. ap (on_dump (machine_of old.state units) (then_put units)) none)
