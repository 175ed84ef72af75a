-- Commands on cards: what they come to, with the decks that they leave.
use Rattle.std.proofs.Common.{◌≡◌, ◌∙◌, ℕ, zero, suc, pos, negsuc, Bool, false, List, [], ◌∷◌, ◌++◌, Result, Ok, Err, refl, sym, ap, subst}
use Rattle.cms_names.specs.declared.name.Name.{Name}
use Rattle.cms_model.specs.Minidisks.{File}
use Rattle.cms_model.specs.Records.{IsValid}
use Rattle.cms_model.specs.declared.file.FileData.{FileData}
use Rattle.cms_model.specs.Acts.{Act, Done, bind}
use Rattle.cms_model.specs.Slots.{Slot}
use Rattle.cms_line.specs.declared.token.Token.{Token}
use Rattle.cms_operands.specs.Choices.{AnswersLine}
use Rattle.cms_operands.specs.Refusals.{code_of, message_of}
use Rattle.cms_operands.specs.declared.options.CommandFault.{CommandFault}
use Rattle.cms_operands.specs.declared.options.CommandFault.TheVariants as line
use Rattle.cms_operands.specs.declared.refusal.Refusal.{Refusal}
use Rattle.cms_records.specs.Stored.{records_in}
use Rattle.cms_records.proofs.StoredRecords.{records_are}
use Rattle.cms_search.specs.Calls.{Acts, Meaning, Spot, course_of, machine_of, refusal_tree, spot_at}
use Rattle.cms_search.specs.LineRefused.{RefusesLine}
use Rattle.cms_search.specs.Machine.{Course, Machine}
use Rattle.cms_search.specs.declared.state.Course as declared
use Rattle.cms_search.specs.declared.state.Course.TheVariants as course
use Rattle.cms_search.specs.declared.state.End.{End}
use Rattle.cms_search.specs.declared.state.End.TheVariants.{Memory}
use Rattle.cms_search.specs.declared.state.State.{State}
use Rattle.cms_search.proofs.Acts.{acts_done, acts_same, acts_stop, comes_in, comes_none, comes_same, comes_then, no_memory, refused}
use Rattle.cms_world.specs.Seen.{Seen}
use Rattle.cms_cards.specs.Dumps.{IsDumpOf, dump, file_with}
use Rattle.cms_cards.specs.Calls.{IsTaken, dealt_of, decks_left, fetched_of}
use Rattle.cms_cards.specs.Cards.{Dealt, adding, dealt, decks_behind, keeping, on_said, taking}
use Rattle.cms_cards.specs.Fetch.{Fetched}
use Rattle.cms_cards.specs.PunchedCards.{Deck, Decks}
use Rattle.cms_cards.specs.declared.fetch.Fetched as came
use Rattle.cms_cards.specs.declared.fetch.Fetched.TheVariants as came'

-- ---- a command that leaves the decks

pub keeps : (old new : Spot) (decks : Decks) (t : List Slot → Act Course) (r : Result declared.Course End) → Acts old new t r (course_of new.state)
    → Acts old new (λ units. keeping decks (t units)) r (dealt_of new.state decks)
keeps old new decks t (Ok c) a =
    acts_done old new (λ units. keeping decks (t units)) c (dealt_of new.state decks)
    (comes_in old new t (λ course. Done (dealt decks course)) c (course_of new.state) a)
keeps old new decks t (Err e) a = acts_stop old new t (λ course. Done (dealt decks course)) e (course_of new.state) (dealt_of new.state decks) a

-- ---- what a line says

module _ {A : Type 0} (old new : Spot) (decks : Decks) (words : List Token) (next : Machine → A → Act Dealt) (read : Result A Refusal) where
  abbrev pub says : List Slot → Act Dealt
  says units = on_said (machine_of old.state units) decks words (next (machine_of old.state units)) read

  -- it is read so
  pub said_so : (x : A) (r : Result declared.Course End) (d : Meaning declared.Course Dealt) → read ≡ Ok x
      → Acts old new (λ units. next (machine_of old.state units) x) r d → Acts old new says r d
  said_so x r d is a =
      acts_same old new says (λ units. next (machine_of old.state units) x) r d
      (λ units h. ap (on_said (machine_of old.state units) decks words (next (machine_of old.state units))) is) a

  -- or it isn't taken
  pub said_fault : (fault : CommandFault) (r : Result declared.Course End) → AnswersLine read (Err fault) → RefusesLine old.world new.world words fault r
      → new.state ≡ old.state → Acts old new says r (dealt_of new.state decks)
  said_fault (line.Refused why) r is done same =
      acts_same old new says (λ units. keeping decks (refusal_tree old.state (message_of words why) (pos (code_of why)) units)) r (dealt_of new.state decks)
      (λ units h. ap (on_said (machine_of old.state units) decks words (next (machine_of old.state units))) is)
      (keeps old new decks (refusal_tree old.state (message_of words why) (pos (code_of why))) r
      (refused old new (message_of words why) (pos (code_of why)) r done.0 done.1 same))
  said_fault line.Memory r is done same =
      let starved = done.0 in
      rw starved
      (subst (λ (w : Seen). Acts {T = declared.Course} old (spot_at w new.state) says (Err Memory) (dealt_of new.state decks)) (sym done.1)
      (subst (λ (s : State). Acts {T = declared.Course} old (spot_at old.world s) says (Err Memory) (dealt_of s decks)) (sym same)
      (no_memory old old says says (dealt_of old.state decks) (comes_none old says))))

-- ---- a deck that is punched

module _ (old mid : Spot) (name : Name) (decks : Decks) (deck_of : ℕ → File → Deck) (fetch : List Slot → Act Fetched) where
  abbrev pub adds : List Slot → Act Dealt
  adds units = bind (fetch units) (adding decks deck_of)

  -- the file's deck comes behind the others
  pub added_so : (letter : ℕ) (file : FileData) (x : came.Fetched) (left : Decks) → Acts old mid fetch (Ok x) (fetched_of mid.state name) → x ≡ came'.File letter file
      → left ≡ decks ++ deck_of letter (file_with name file (records_in file)) ∷ [] → Acts old mid adds (Ok (course.Went (pos 0))) (dealt_of mid.state left)
  added_so letter file x left a is so =
      subst (λ (ds : Decks). Acts old mid adds (Ok (course.Went (pos 0))) (dealt_of mid.state ds)) (sym so)
      (acts_done old mid adds (course.Went (pos 0)) (dealt_of mid.state (decks ++ deck_of letter (file_with name file (records_in file)) ∷ []))
      (comes_in old mid fetch (adding decks deck_of) (came'.File letter file) (fetched_of mid.state name)
      (subst (λ (y : came.Fetched). Acts old mid fetch (Ok y) (fetched_of mid.state name)) is a)))

  -- or there is no memory for it
  pub added_starved : (x : came.Fetched) (left : Decks) → Acts old mid fetch (Ok x) (fetched_of mid.state name)
      → Acts {T = declared.Course} old mid adds (Err Memory) (dealt_of mid.state left)
  added_starved x left a =
      no_memory {T = declared.Course} old mid adds (λ units. adding decks deck_of (fetched_of mid.state name units x)) (dealt_of mid.state left)
      (comes_in old mid fetch (adding decks deck_of) x (fetched_of mid.state name) a)

  -- the file was refused
  pub added_none : (c : declared.Course) (x : came.Fetched) → Acts old mid fetch (Ok x) (fetched_of mid.state name) → x ≡ came'.Refused c
      → Acts old mid adds (Ok c) (dealt_of mid.state decks)
  added_none c x a is =
      acts_done old mid adds c (dealt_of mid.state decks)
      (comes_in old mid fetch (adding decks deck_of) (came'.Refused c) (fetched_of mid.state name)
      (subst (λ (y : came.Fetched). Acts old mid fetch (Ok y) (fetched_of mid.state name)) is a))

  -- or fetching it was cut off
  pub added_off : (e : End) (left : Decks) → Acts {T = came.Fetched} old mid fetch (Err e) (fetched_of mid.state name)
      → Acts {T = declared.Course} old mid adds (Err e) (dealt_of mid.state left)
  added_off e left a = acts_stop old mid fetch (adding decks deck_of) e (fetched_of mid.state name) (dealt_of mid.state left) a

-- the deck of a file that was read whole
pub dumped_so : (full : Bool) (name : Name) (x : came.Fetched) (letter : ℕ) (file : FileData) (deck : Deck) → IsTaken full x → x ≡ came'.File letter file → IsDumpOf name file deck
    → deck ≡ dump (file_with name file (records_in file))
dumped_so full name x letter file deck taken there is =
    let whole : (full ≡ false) × IsValid file = subst (λ (y : came.Fetched). IsTaken full y) there taken in
    let valid = whole.1 in
    is valid.records valid.stands ∙ ap (λ (rs : List (List ℕ)). dump (file_with name file rs)) (sym (records_are file valid.records valid.stands))

-- ---- a deck that is taken

left_is : (s : State) (units : List Slot) (decks : Decks) (c : declared.Course) → decks_behind decks (course_of s units c) ≡ decks_left decks c
left_is s units decks (course.Went (pos zero)) = refl
left_is s units decks (course.Went (pos (suc code))) = refl
left_is s units decks (course.Went (negsuc code)) = refl
left_is s units decks course.OutOfTurns = refl

module _ (old new : Spot) (decks : Decks) (t : List Slot → Act Course) where
  abbrev pub takes : List Slot → Act Dealt
  takes units = taking decks (t units)

  pub taken_so : (c : declared.Course) (left : Decks) → Acts old new t (Ok c) (course_of new.state) → left ≡ decks_left decks c
      → Acts old new takes (Ok c) (dealt_of new.state left)
  taken_so c left a so =
      let then' : Course → Act Dealt = λ course. Done (dealt (decks_behind decks course) course) in
      acts_done old new takes c (dealt_of new.state left)
      (comes_then old new new takes (λ units. then' (course_of new.state units c)) (λ units. Done (dealt_of new.state left units c))
      (comes_in old new t then' c (course_of new.state) a)
      (comes_same new (λ units. then' (course_of new.state units c)) (λ units. Done (dealt_of new.state left units c))
      (λ units h. ap (λ (ds : Decks). Done (dealt ds (course_of new.state units c))) (left_is new.state units decks c ∙ sym so))))

  pub taken_off : (e : End) (left : Decks) → Acts {T = declared.Course} old new t (Err e) (course_of new.state)
      → Acts {T = declared.Course} old new takes (Err e) (dealt_of new.state left)
  taken_off e left a =
      acts_stop old new t (λ course. Done (dealt (decks_behind decks course) course)) e (course_of new.state) (dealt_of new.state left) a
