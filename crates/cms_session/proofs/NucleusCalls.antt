-- NUCXDROP and NUCXMAP: an object is dropped, and the words are typed.
use Rattle.std.proofs.Common.{◌≡◌, ◌<◌, ◌≤◌, ◌∙◌, ℕ, pos, List, length, Option, Some, None, Result, Ok, Err, refl, sym, ap, subst}
use Rattle.std.specs.Prelude.{remove}
use Rattle.std.proofs.lemmas.List.{length-map}
use Rattle.cms_model.specs.Acts.{Act, Done, bind}
use Rattle.cms_model.specs.Objects.{Object}
use Rattle.cms_model.specs.Slots.{Slot}
use Rattle.cms_model.proofs.Single.{ran_drop}
use Rattle.cms_line.specs.declared.message.Message.TheVariants.{M122}
use Rattle.cms_line.specs.declared.token.Token.{Token}
use Rattle.cms_operands.specs.Choices.{AnswersLine}
use Rattle.cms_operands.specs.Refusals.{code_of, message_of}
use Rattle.cms_operands.specs.declared.options.CommandFault.{CommandFault}
use Rattle.cms_operands.specs.declared.options.CommandFault.TheVariants as fault
use Rattle.cms_operands.specs.declared.refusal.Refusal.{Refusal}
use Rattle.cms_search.specs.Calls.{Acts, Does, SpotWith, at, course_of, machine_of, refusal_tree, said, spot_at}
use Rattle.cms_search.specs.LineRefused.{RefusesLine}
use Rattle.cms_search.specs.Machine.{Course, Went, typing}
use Rattle.cms_search.specs.declared.state.Course as declared
use Rattle.cms_search.specs.declared.state.Course.TheVariants as course
use Rattle.cms_search.specs.declared.state.End.{End}
use Rattle.cms_search.specs.declared.state.End.TheVariants.{Memory}
use Rattle.cms_search.specs.declared.state.State.{State}
use Rattle.cms_search.proofs.Acts.{acts_done, acts_same, comes_does, comes_none, comes_same, comes_then, does_stop, later_none, no_memory, refused}
use Rattle.cms_search.proofs.Lined.{nothing, typing_then}
use Rattle.cms_world.specs.Seen.{Seen}
use Rattle.cms_ext.specs.Calls.{desk_of, ended_of}
use Rattle.cms_ext.specs.Extensions.{Ended}
use Rattle.cms_ext.specs.Objects.{place_of, words_of}
use Rattle.cms_session.specs.RoundCalls.{nucxdrop_tree}
use Rattle.cms_session.specs.Nucleus.{drop_line, dropped_by, dropping, ended_with, leaving_to, mapping, none_there}
use Rattle.cms_session.proofs.Alone.{alone, leaves_off, leaves_so, standing}

-- ---- a command beside objects

ended_same : (s : State) (os : List Object) (units : List Slot) (c : declared.Course) → ended_with os (course_of s units c) ≡ ended_of s os units c
ended_same s os units (course.Went code) = refl
ended_same s os units course.OutOfTurns = refl

pub left_to : (os : List Object) (old new : SpotWith os) (t : List Slot → Act Course) (r : Result declared.Course End)
    → Acts (alone old) (alone new) t r (course_of new.state) → Acts old new (λ units. leaving_to os (t units)) r (ended_of new.state os)
left_to os old new t (Ok c) acts =
    leaves_so old new t (ended_with os) c (course_of new.state) c (ended_of new.state os) acts (λ units. ended_same new.state os units c)
left_to os old new t (Err e) acts =
    leaves_off {T = declared.Course} {U = declared.Course} old new t (ended_with os) e (course_of new.state) (ended_of new.state os) acts

-- ---- NUCXDROP

dropped_there : (os : List Object) (word : List ℕ) (place : ℕ) (w : Seen) (s : State) → place < length os
    → Acts (standing os w s) (standing (remove os place) w s) (λ units. dropping (desk_of s os units) word (Some place)) (Ok (course.Went (pos 0)))
    (ended_of s (remove os place))
dropped_there os word place w s there =
    let old = standing os w s in
    let new = standing (remove os place) w s in
    let done : List Slot → Act Ended = λ units. Done (ended_of s (remove os place) units (course.Went (pos 0))) in
    acts_done old new (λ units. dropping (desk_of s os units) word (Some place)) (course.Went (pos 0)) (ended_of s (remove os place)) (record {
      each = λ units h. (units, (h, ran_drop (at old units) place (done units) there));
      later = later_none w;
      usable = λ u. u;
    })

pub dropped_so : (os new : List Object) (word : List ℕ) (place : ℕ) (found : Option ℕ) (w : Seen) (s : State) → found ≡ place_of word os → found ≡ Some place
    → place < length os → new ≡ remove os place
    → Acts (standing os w s) (standing new w s) (λ units. dropping (desk_of s os units) word (place_of word os)) (Ok (course.Went (pos 0))) (ended_of s new)
dropped_so os new word place found w s is some there left =
    subst (λ (x : Option ℕ). Acts (standing os w s) (standing new w s) (λ units. dropping (desk_of s os units) word x) (Ok (course.Went (pos 0))) (ended_of s new))
    (sym some ∙ is)
    (subst (λ (l : List Object). Acts (standing os w s) (standing l w s) (λ units. dropping (desk_of s os units) word (Some place)) (Ok (course.Went (pos 0))) (ended_of s l))
    (sym left) (dropped_there os word place w s there))

pub absent_so : (os : List Object) (old new : SpotWith os) (word : List ℕ) (found : Option ℕ) (r : Result declared.Course End) → found ≡ place_of word os → found ≡ None
    → Acts (alone old) (alone new) (refusal_tree old.state (M122 word) (pos none_there)) r (course_of new.state)
    → Acts old new (λ units. dropping (desk_of old.state os units) word (place_of word os)) r (ended_of new.state os)
absent_so os old new word found r is none acts =
    acts_same old new (λ units. dropping (desk_of old.state os units) word (place_of word os))
    (λ units. leaving_to os (refusal_tree old.state (M122 word) (pos none_there) units)) r (ended_of new.state os)
    (λ units h. ap (λ (x : Option ℕ). dropping (desk_of old.state os units) word x) (sym is ∙ none))
    (left_to os old new (refusal_tree old.state (M122 word) (pos none_there)) r acts)

-- the line was read
pub drop_read : (a b : List Object) (old : SpotWith a) (new : SpotWith b) (words : List Token) (word : List ℕ) (r : Result declared.Course End) → drop_line words ≡ Ok word
    → Acts old new (λ units. dropping (desk_of old.state a units) word (place_of word a)) r (ended_of new.state b)
    → Acts old new (nucxdrop_tree old.state a words) r (ended_of new.state b)
drop_read a b old new words word r is acts =
    acts_same old new (nucxdrop_tree old.state a words) (λ units. dropping (desk_of old.state a units) word (place_of word a)) r (ended_of new.state b)
    (λ units h. ap (λ (x : Result (List ℕ) Refusal). dropped_by (desk_of old.state a units) words x) is) acts

refused_by : (os : List Object) (old new : SpotWith os) (words : List Token) (read : Result (List ℕ) Refusal) (f : CommandFault) (r : Result declared.Course End)
    → AnswersLine read (Err f) → RefusesLine old.world new.world words f r → new.state ≡ old.state
    → Acts old new (λ units. dropped_by (desk_of old.state os units) words read) r (ended_of new.state os)
refused_by os old new words read (fault.Refused why) r is done same =
    acts_same old new (λ units. dropped_by (desk_of old.state os units) words read)
    (λ units. leaving_to os (refusal_tree old.state (message_of words why) (pos (code_of why)) units)) r (ended_of new.state os)
    (λ units h. ap (λ (x : Result (List ℕ) Refusal). dropped_by (desk_of old.state os units) words x) is)
    (left_to os old new (refusal_tree old.state (message_of words why) (pos (code_of why))) r
    (refused (alone old) (alone new) (message_of words why) (pos (code_of why)) r done.0 done.1 same))
refused_by os old new words read fault.Memory r is done same =
    let t : List Slot → Act Ended = λ units. dropped_by (desk_of old.state os units) words read in
    let starved = done.0 in
    rw starved
    (subst (λ (w : Seen). Acts {T = declared.Course} old (standing os w new.state) t (Err Memory) (ended_of new.state os)) (sym done.1)
    (subst (λ (s : State). Acts {T = declared.Course} old (standing os old.world s) t (Err Memory) (ended_of s os)) (sym same)
    (no_memory old old t t (ended_of old.state os) (comes_none old t))))

-- it isn't taken
pub drop_refused : (os : List Object) (old new : SpotWith os) (words : List Token) (f : CommandFault) (r : Result declared.Course End) → AnswersLine (drop_line words) (Err f)
    → RefusesLine old.world new.world words f r → new.state ≡ old.state → Acts old new (nucxdrop_tree old.state os words) r (ended_of new.state os)
drop_refused os old new words f r is done same = refused_by os old new words (drop_line words) f r is done same

-- ---- NUCXMAP

-- behind the last object all words are typed
pub words_typed : (os : List Object) (n k : ℕ) → n ≡ length os → n ≤ k → length (words_of os) ≤ k
words_typed os n k is over = subst (λ (m : ℕ). m ≤ k) (is ∙ sym (length-map os (λ (o : Object). o.word))) over

abbrev maps : List (List ℕ) → State → List Slot → Act Course
maps under s units = mapping under (machine_of s units) tt

abbrev mapped : State → List Slot → Unit {0} → Act Course
mapped s units x = Done (Went (machine_of s units) (pos 0))

as_typed : (under : List (List ℕ)) (s : State) (units : List Slot) → maps under s units ≡ bind (typing under nothing) (mapped s units)
as_typed under s units = typing_then under (Done (Went (machine_of s units) (pos 0)))

pub maps_so : (before now : Seen) (s : State) (under : List (List ℕ)) (x : Unit {0}) → Does before now (typing under nothing) (Ok x) said
    → Acts (spot_at before s) (spot_at now s) (maps under s) (Ok (course.Went (pos 0))) (course_of s)
maps_so before now s under x does =
    let old = spot_at before s in
    let new = spot_at now s in
    acts_done old new (maps under s) (course.Went (pos 0)) (course_of s)
    (comes_then old old new (maps under s) (λ units. bind (typing under nothing) (mapped s units)) (λ units. Done (course_of s units (course.Went (pos 0))))
    (comes_same old (maps under s) (λ units. bind (typing under nothing) (mapped s units)) (λ units h. as_typed under s units))
    (comes_does old new (typing under nothing) (mapped s) x said does refl))

pub maps_off : (before now : Seen) (s : State) (under : List (List ℕ)) (e : End) → Does {T = Unit {0}} before now (typing under nothing) (Err e) said
    → Acts {T = declared.Course} (spot_at before s) (spot_at now s) (maps under s) (Err e) (course_of s)
maps_off before now s under e does =
    let old = spot_at before s in
    let new = spot_at now s in
    acts_same old new (maps under s) (λ units. bind (typing under nothing) (mapped s units)) (Err e) (course_of s) (λ units h. as_typed under s units)
    (does_stop {T = Unit {0}} {U = declared.Course} old new (typing under nothing) (mapped s) e said (course_of s) does refl)
