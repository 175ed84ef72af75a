-- CENTURY's tree, as the table says what is done.
use Rattle.std.proofs.Common.{◌≡◌, ◌∙◌, ◌≤◌, ℕ, List, Result, Ok, arith, sym, ap, subst, refl}
use Rattle.std.specs.Prelude.{Bool, true, false, if◌then◌else◌, Option, Some, None, IfOk, option_map, pos}
use Rattle.std.specs.Option.{option_and_then}
use Rattle.std.proofs.lemmas.Bool.{and_parts, leb-true}
use Rattle.cms_model.specs.Acts.{Act, saying, typed_line}
use Rattle.cms_model.specs.Slots.{Slot}
use Rattle.cms_line.specs.Messages.{message_text}
use Rattle.cms_line.specs.declared.message.Message.TheVariants.{M037, M069}
use Rattle.cms_line.specs.declared.token.Token.{Token}
use Rattle.cms_names.specs.Names.{is_between}
use Rattle.cms_operands.specs.Choices.{chosen_of, no_forms}
use Rattle.cms_operands.specs.Operands.{ended, given, letter, needed, number, number_in, number_within, operands_of, or_refused}
use Rattle.cms_operands.specs.Optional.{number_or, read_or}
use Rattle.cms_operands.specs.declared.refusal.Refusal.TheVariants.{BadOperand}
use Rattle.cms_world.specs.Seen.{Seen}
use Rattle.cms_search.specs.Calls.{Acts, Does, Meaning, Spot, course_of, machine_of, said, spot_at}
use Rattle.cms_search.specs.Machine.{Course, Letter}
use Rattle.cms_search.specs.Refusals.{no_disk}
use Rattle.cms_search.specs.Searches.{item_at}
use Rattle.cms_search.specs.Tables.{Seated}
use Rattle.cms_search.specs.Texts.{letter_text}
use Rattle.cms_search.specs.declared.state.Course as declared
use Rattle.cms_search.specs.declared.state.Course.TheVariants as course
use Rattle.cms_search.specs.declared.state.End.{End}
use Rattle.cms_search.specs.declared.state.State.{State}
use Rattle.cms_search.specs.declared.table.Seat.{Seat}
use Rattle.cms_search.proofs.Acts.{acts_same}
use Rattle.cms_search.proofs.Released.{letter_told}
use Rattle.cms_search.proofs.StateCalls.{acts_refused}
use Rattle.cms_access.specs.Century.{century_disk, century_letter, century_line, century_operands, moving_stamps}
use Rattle.cms_access.specs.declared.century.CenturyLine.{CenturyLine}
use Rattle.cms_access.proofs.Formats.{IsTold, there}
use Rattle.cms_access.proofs.Lines.{bind_ok, then_ok}

-- ---- the line's pivot

within_range : (from to n m : ℕ) → (if is_between from to n then Some n else None) ≡ Some m → m ≤ to
within_range from to n m is = go (is_between from to n) refl is
  where
    go : (b : Bool) → is_between from to n ≡ b → (if b then Some n else None) ≡ Some m → m ≤ to
    go true holds e = subst (λ (k : ℕ). k ≤ to) (cc e) (leb-true n to (and_parts _ _ holds).1)
    go false fails e = absurd (cc e)

number_small : (from to place : ℕ) (text : List ℕ) (n : ℕ) → number from to place text ≡ Ok n → n ≤ to
unfolding number number_within
number_small from to place text n is = go (number_in text) is
  where
    go : (x : Option ℕ) → or_refused (option_and_then (λ k. if is_between from to k then Some k else None) x) (BadOperand place) ≡ Ok n → n ≤ to
    go None e = absurd (cc e)
    go (Some k) e = deeper (if is_between from to k then Some k else None) refl e
      where
        deeper : (y : Option ℕ) → (if is_between from to k then Some k else None) ≡ y → or_refused y (BadOperand place) ≡ Ok n → n ≤ to
        deeper None same e = absurd (cc e)
        deeper (Some m) same e = within_range from to k n (same ∙ ap (λ (l : ℕ). Some l) (cc e))

given_small : (text : Option (List ℕ)) (n : ℕ) → read_or {A = ℕ} 70 (number 0 100 2) text ≡ Ok n → n ≤ 100
given_small None n is = let same : 70 ≡ n = cc is in subst (λ (k : ℕ). k ≤ 100) same (omega arith)
given_small (Some text) n is = number_small 0 100 2 text n is

pub operands_small : (operands : List Token) (line : CenturyLine) → century_operands operands ≡ Ok line → line.pivot ≤ 100
unfolding century_operands
operands_small operands line is =
    let a = bind_ok (needed operands 1) _ line is in
    let b = bind_ok (letter 1 a.0) _ line a.2 in
    let c = bind_ok (number_or 0 100 operands 2 70) _ line b.2 in
    let made : record { letter = b.0; pivot = c.0 } ≡ line = cc (then_ok (ended operands 3) (Ok (record { letter = b.0; pivot = c.0 })) line c.2) in
    subst (λ (l : CenturyLine). l.pivot ≤ 100) made (given_small (given operands 2) c.0 c.1)

pub line_small : (words : List Token) (line : CenturyLine) → century_line words ≡ Ok line → line.pivot ≤ 100
line_small words line is =
    let a = bind_ok (century_operands (operands_of words)) _ line is in
    let made : a.0 ≡ line = cc (then_ok (chosen_of no_forms words) (Ok a.0) line a.2) in
    subst (λ (l : CenturyLine). l.pivot ≤ 100) made (operands_small (operands_of words) a.0 a.1)

-- ---- the disk

abbrev century_tree : State → CenturyLine → List Slot → Act Course
century_tree st line units = century_letter (machine_of st units) line

letter_is : (st : State) (units : List Slot) (line : CenturyLine) (x : Option Seated) → item_at st.table.seats line.letter ≡ x
    → century_tree st line units ≡ century_disk (machine_of st units) line (option_map (λ (s : Seated). s.letter) x)
letter_is st units line x at =
    ap (λ (y : Option Letter). century_disk (machine_of st units) line y)
    (letter_told st.table.seats line.letter ∙ ap (λ (y : Option Seated). option_map (λ (s : Seated). s.letter) y) at)

-- no disk has the letter
pub century_missing : (before now : Seen) (st : State) (line : CenturyLine) (r : Result declared.Course End) → item_at st.table.seats line.letter ≡ None
    → Does before now (saying (typed_line (message_text (M069 (letter_text line.letter))))) r said → IfOk r (λ c. c ≡ course.Went (pos no_disk))
    → Acts (spot_at before st) (spot_at now st) (century_tree st line) r (course_of st)
century_missing before now st line r none does went =
    acts_refused (spot_at before st) (spot_at now st) (century_tree st line) (M069 (letter_text line.letter)) (pos no_disk) r does went refl
    (λ units h. letter_is st units line None none)

-- it may only be read
pub century_locked : (before now : Seen) (st : State) (line : CenturyLine) (told : Seat) (r : Result declared.Course End) → (item_at st.table.seats line.letter ≡ None → ⊥)
    → IsTold st line.letter told → told.read_only ≡ true
    → Does before now (saying (typed_line (message_text (M037 (letter_text line.letter))))) r said → IfOk r (λ c. c ≡ course.Went (pos no_disk))
    → Acts (spot_at before st) (spot_at now st) (century_tree st line) r (course_of st)
century_locked before now st line told r some is locked does went =
    let seat = there (item_at st.table.seats line.letter) some in
    acts_refused (spot_at before st) (spot_at now st) (century_tree st line) (M037 (letter_text line.letter)) (pos no_disk) r does went refl
    (λ units h. let only = sym (is seat.0 seat.1).1 ∙ locked in letter_is st units line (Some seat.0) seat.1 ∙ (rw only refl))

-- it may be written
pub century_goes : (old new : Spot) (line : CenturyLine) (told : Seat) (r : Result declared.Course End) (d : Meaning declared.Course Course)
    → (item_at old.state.table.seats line.letter ≡ None → ⊥) → IsTold old.state line.letter told → told.read_only ≡ false
    → Acts old new (λ units. moving_stamps line (machine_of old.state units)) r d → Acts old new (century_tree old.state line) r d
century_goes old new line told r d some is free a =
    let st = old.state in
    let seat = there (item_at st.table.seats line.letter) some in
    acts_same old new (century_tree st line) (λ units. moving_stamps line (machine_of st units)) r d
    (λ units h. let only = sym (is seat.0 seat.1).1 ∙ free in letter_is st units line (Some seat.0) seat.1 ∙ (rw only refl)) a
