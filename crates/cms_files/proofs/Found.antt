-- What follows a search, and its refusals.
use Rattle.std.proofs.Common.{◌≡◌, ◌≤◌, ⊎_elim, inl, inr, ℕ, List, Result, Ok, Err, arith, length, refl, subst, sym, true}
use Rattle.std.specs.Prelude.{◌⊎◌, IfOk, nat_le, pos}
use Rattle.std.proofs.lemmas.Bool.{and_parts, leb-true}
use Rattle.std.specs.List.{list_all}
use Rattle.cms_names.specs.Names.{is_between, is_name_character, is_part, is_text_of}
use Rattle.cms_model.specs.Acts.{Act, saying, typed_line}
use Rattle.cms_model.specs.Slots.{Slot}
use Rattle.cms_line.specs.Messages.{message_text}
use Rattle.cms_line.specs.declared.token.Token.{Token}
use Rattle.cms_search.specs.Calls.{Acts, Does, Meaning, Spot, course_of, holds, machine_of, said, spot_at}
use Rattle.cms_search.specs.Machine.{Course, Machine}
use Rattle.cms_search.specs.Shows.{Shows}
use Rattle.cms_search.specs.declared.fault.SearchFault.{SearchFault}
use Rattle.cms_search.specs.declared.fault.SearchFault.TheVariants as why
use Rattle.cms_search.specs.declared.state.Course as declared
use Rattle.cms_search.specs.declared.state.Course.TheVariants as course
use Rattle.cms_search.specs.declared.state.End.{End}
use Rattle.cms_search.specs.declared.state.End.TheVariants.{Memory}
use Rattle.cms_search.specs.declared.state.State.{State}
use Rattle.cms_world.specs.Seen.{Seen}
use Rattle.cms_search.proofs.Acts.{acts_same}
use Rattle.cms_search.proofs.LetterDisks.{holds_shows}
use Rattle.cms_search.proofs.StateCalls.{acts_refused, acts_starved}
use Rattle.cms_files.specs.Files.{on_found, search_code, search_message}
use Rattle.cms_files.specs.Unfound.{RefusesSearch}

-- what is found on a table that shows the machine is found on the machine that is held
pub found_held : {A : Type 0} (old : Spot) (find : Machine → A) (x : A) → ((s : Machine) → Shows old.state.table s → x ≡ find s)
    → (units : List Slot) → holds old units → find (machine_of old.state units) ≡ x
found_held old find x is units h = sym (is (machine_of old.state units) (holds_shows old units h))

-- something was found
pub acts_found : {A : Type 0} (old new : Spot) (words : List Token) (place : ℕ) (next : Machine → A → Act Course) (find : Machine → Result A SearchFault) (x : A)
    (r : Result declared.Course End) (d : Meaning declared.Course Course) → ((units : List Slot) → holds old units → find (machine_of old.state units) ≡ Ok x)
    → Acts old new (λ units. next (machine_of old.state units) x) r d
    → Acts old new (λ units. on_found (machine_of old.state units) words place (next (machine_of old.state units)) (find (machine_of old.state units))) r d
acts_found old new words place next find x r d is a =
    acts_same old new (λ units. on_found (machine_of old.state units) words place (next (machine_of old.state units)) (find (machine_of old.state units)))
    (λ units. next (machine_of old.state units) x) r d (λ units h. (let e = is units h in rw e refl)) a

-- or the search was refused
pub acts_unfound : {A : Type 0} (old new : Spot) (words : List Token) (place : ℕ) (next : Machine → A → Act Course) (find : Machine → Result A SearchFault) (fault : SearchFault)
    (r : Result declared.Course End) → ((units : List Slot) → holds old units → find (machine_of old.state units) ≡ Err fault)
    → Does old.world new.world (saying (typed_line (message_text (search_message words place fault)))) r said → IfOk r (λ c. c ≡ course.Went (pos (search_code fault)))
    → new.state ≡ old.state
    → Acts old new (λ units. on_found (machine_of old.state units) words place (next (machine_of old.state units)) (find (machine_of old.state units))) r (course_of new.state)
acts_unfound old new words place next find fault r is does went same =
    acts_refused old new (λ units. on_found (machine_of old.state units) words place (next (machine_of old.state units)) (find (machine_of old.state units)))
    (search_message words place fault) (pos (search_code fault)) r does went same (λ units h. (let e = is units h in rw e refl))

pub memory_or_other : (fault : SearchFault) → (fault ≡ why.Memory) ⊎ (fault ≡ why.Memory → ⊥)
memory_or_other (why.NoUnit vdev) = inr (λ is. cc is)
memory_or_other (why.NotAccessed n) = inr (λ is. cc is)
memory_or_other (why.ReadOnly n) = inr (λ is. cc is)
memory_or_other why.NotFound = inr (λ is. cc is)
memory_or_other (why.Volume fault) = inr (λ is. cc is)
memory_or_other why.Memory = inl refl

-- or it wasn't answered
pub acts_search_fault : {A : Type 0} (old new : Spot) (words : List Token) (place : ℕ) (next : Machine → A → Act Course) (find : Machine → Result A SearchFault) (fault : SearchFault)
    (r : Result declared.Course End) → ((fault ≡ why.Memory → ⊥) → (units : List Slot) → holds old units → find (machine_of old.state units) ≡ Err fault)
    → RefusesSearch old.world new.world words place fault r → new.state ≡ old.state
    → Acts old new (λ units. on_found (machine_of old.state units) words place (next (machine_of old.state units)) (find (machine_of old.state units))) r (course_of new.state)
acts_search_fault old new words place next find fault r is refuses same = ⊎_elim none other (memory_or_other fault)
  where
    tree : List Slot → Act Course
    tree units = on_found (machine_of old.state units) words place (next (machine_of old.state units)) (find (machine_of old.state units))

    none : fault ≡ why.Memory → Acts old new tree r (course_of new.state)
    none memory =
        let starved = refuses.starved memory in
        let failed = starved.0 in
        rw failed
        (subst (λ (w : Seen). Acts {T = declared.Course} old (spot_at w new.state) tree (Err Memory) (course_of new.state)) (sym starved.1)
        (subst (λ (s : State). Acts {T = declared.Course} old (spot_at old.world s) tree (Err Memory) (course_of s)) (sym same)
        (acts_starved old tree (course_of old.state))))

    other : (fault ≡ why.Memory → ⊥) → Acts old new tree r (course_of new.state)
    other memory = acts_unfound old new words place next find fault r (is memory) (refuses.does memory) (refuses.went memory) same

-- it was refused, as there was memory
pub with_memory : {A : Type 0} (r : Result A SearchFault) (fault : SearchFault) → (fault ≡ why.Memory) ⊎ (r ≡ Err fault) → (fault ≡ why.Memory → ⊥) → r ≡ Err fault
with_memory r fault refused other = ⊎_elim (λ (none : fault ≡ why.Memory). absurd (other none)) (λ (is : r ≡ Err fault). is) refused

-- a part of a name has room in a word
pub part_is_short : (part : List ℕ) → is_part part ≡ true → length part ≤ 255
unfolding is_text_of
part_is_short part is =
    let range = and_parts (is_between 1 8 (length part)) (list_all is_name_character part) is in
    let few : length part ≤ 8 = leb-true (length part) 8 (and_parts (nat_le 1 (length part)) (nat_le (length part) 8) range.0).1 in
    omega (arith, few)
