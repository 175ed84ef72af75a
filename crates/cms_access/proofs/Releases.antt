-- RELEASE's tree, as the table says what is done.
use Rattle.std.proofs.Common.{◌≡◌, ◌<◌, ◌∙◌, ℕ, List, [], ◌∷◌, Result, Ok, refl, sym, ap, subst}
use Rattle.std.specs.Prelude.{Bool, true, ◌==◌, Option, Some, None, IsSome, IfOk, get_or, length, position, pos, slice_get}
use Rattle.std.specs.Option.{option_and_then, option_map}
use Rattle.std.proofs.lemmas.List.Quantifiers.{position-Some}
use Rattle.std.proofs.lemmas.Option.{slice_get-get_or}
use Rattle.cms_model.specs.Acts.{Act, Done, saying, typed_line}
use Rattle.cms_model.specs.Slots.{Slot}
use Rattle.cms_line.specs.Messages.{message_text}
use Rattle.cms_line.specs.declared.message.Message.TheVariants.{M069, M113}
use Rattle.cms_disk.specs.declared.unit.UnitInfo.{UnitInfo}
use Rattle.cms_search.specs.Calls.{Acts, Does, Spot, course_of, machine_of, said}
use Rattle.cms_search.specs.Machine.{Course, Letter, Went, letter_at}
use Rattle.cms_search.specs.Refusals.{no_disk}
use Rattle.cms_search.specs.Release.{without_letter}
use Rattle.cms_search.specs.Searches.{has, item_at}
use Rattle.cms_search.specs.Tables.{Seated, letters_of, place_of_device, unit_of_device}
use Rattle.cms_search.specs.Texts.{device_text, letter_text}
use Rattle.cms_search.specs.Units.{letter_with, unit_with}
use Rattle.cms_search.specs.declared.state.Course as declared
use Rattle.cms_search.specs.declared.state.Course.TheVariants as course
use Rattle.cms_search.specs.declared.state.End.{End}
use Rattle.cms_search.specs.declared.state.State.{State}
use Rattle.cms_world.specs.Seen.{Seen}
use Rattle.cms_search.proofs.Released.{letter_told, machine_left, some_of, unit_told}
use Rattle.cms_search.proofs.StateCalls.{acts_refused, acts_stayed, holds_released, usable_released}
use Rattle.cms_search.proofs.Acts.{acts_same}
use Rattle.cms_search.proofs.Tables.{get_some}
use Rattle.cms_access.specs.Release.{release_device, release_letter, release_unit}

-- ---- a letter

abbrev letter_tree : State → ℕ → List Slot → Act Course
letter_tree s n units = release_letter (machine_of s units) n (letter_at (machine_of s units) n)

letter_is : (s : State) (n : ℕ) (seat : Seated) → item_at s.table.seats n ≡ Some seat → item_at (letters_of s.table) n ≡ Some seat.letter
letter_is s n seat at = letter_told s.table.seats n ∙ ap (λ (x : Option Seated). option_map (λ s. s.letter) x) at

no_letter : (s : State) (n : ℕ) → item_at s.table.seats n ≡ None → item_at (letters_of s.table) n ≡ None
no_letter s n at = letter_told s.table.seats n ∙ ap (λ (x : Option Seated). option_map (λ s. s.letter) x) at

abbrev standing : Seen → State → Spot
standing w s = record { world = w; state = s }

-- it is accessed no more
pub letter_done : (w : Seen) (s s' : State) (n : ℕ) → IsSome (item_at s.table.seats n) → s' ≡ without_letter n s
    → Acts (standing w s) (standing w s') (letter_tree s n) (Ok (course.Went (pos 0))) (course_of s')
letter_done w s s' n is left =
    let seat = some_of (item_at s.table.seats n) is in
    let new = without_letter n s in
    let there = letter_is s n seat.0 seat.1 in
    subst (λ (x : State). Acts (standing w s) (standing w x) (letter_tree s n) (Ok (course.Went (pos 0))) (course_of x)) (sym left)
    (acts_stayed (standing w s) (standing w new) (letter_tree s n) (course.Went (pos 0)) (course_of new) refl refl
    (λ units h. (
      holds_released w.told s.table n units h,
      ap (λ (x : Option Letter). release_letter (machine_of s units) n x) there
          ∙ ap (λ m. Done (Went m (pos 0))) (sym (machine_left n s units)),
    ))
    (λ usable. usable_released w.told s.table n usable))

-- it isn't accessed
pub letter_missing : (before now : Seen) (s s' : State) (n : ℕ) (r : Result declared.Course End) → item_at s.table.seats n ≡ None → s' ≡ s
    → Does before now (saying (typed_line (message_text (M069 (letter_text n))))) r said → IfOk r (λ c. c ≡ course.Went (pos no_disk))
    → Acts (standing before s) (standing now s') (letter_tree s n) r (course_of s')
letter_missing before now s s' n r none same does went =
    let there = no_letter s n none in
    acts_refused (standing before s) (standing now s') (letter_tree s n) (M069 (letter_text n)) (pos no_disk) r does went same
    (λ units h. ap (λ (x : Option Letter). release_letter (machine_of s units) n x) there)

-- ---- a device

abbrev device_tree : State → ℕ → List Slot → Act Course
device_tree s vdev units = release_device (machine_of s units) vdev (unit_with vdev (machine_of s units).devices)

position_within : {A : Type 0} (p : A → Bool) (xs : List A) (i : ℕ) → position p xs ≡ Some i → i < length xs
position_within p [] i is = absurd (cc is)
position_within p (x ∷ xs) i is = (position-Some p (x ∷ xs) i x is).0

-- no unit has it, or the unit in this place
pub no_place : (vdev : ℕ) (units : List UnitInfo) → unit_of_device vdev units ≡ None → place_of_device vdev units ≡ None
no_place vdev units none = cases (place_of_device vdev units) refl none
  where
    cases : (p : Option ℕ) → place_of_device vdev units ≡ p → option_and_then (λ u. slice_get units u) p ≡ None → p ≡ None
    cases None at is = refl
    cases (Some u) at is =
        let unit = get_some units u (position_within (λ (x : UnitInfo). x.vdev == vdev) units u at) in
        absurd (cc (sym unit.1 ∙ is))

pub some_place : (vdev : ℕ) (units : List UnitInfo) (unit : UnitInfo) → unit_of_device vdev units ≡ Some unit → (u : ℕ) × (place_of_device vdev units ≡ Some u)
some_place vdev units unit is = cases (place_of_device vdev units) is
  where
    cases : (p : Option ℕ) → option_and_then (λ u. slice_get units u) p ≡ Some unit → (u : ℕ) × (p ≡ Some u)
    cases None is = absurd (cc is)
    cases (Some u) is = (u, refl)

pub device_missing : (before now : Seen) (s : State) (vdev : ℕ) (r : Result declared.Course End) → unit_of_device vdev s.table.units ≡ None
    → Does before now (saying (typed_line (message_text (M113 (device_text vdev))))) r said → IfOk r (λ c. c ≡ course.Went (pos no_disk))
    → Acts (standing before s) (standing now s) (device_tree s vdev) r (course_of s)
device_missing before now s vdev r none does went =
    let there = unit_told vdev s.table.units ∙ no_place vdev s.table.units none in
    acts_refused (standing before s) (standing now s) (device_tree s vdev) (M113 (device_text vdev)) (pos no_disk) r does went refl
    (λ units h. ap (λ (x : Option ℕ). release_device (machine_of s units) vdev x) there)

-- a letter was found
found_letter : (u n : ℕ) (letters : List (Option Letter)) → letter_with u letters ≡ Some n → (d : Letter) × (item_at letters n ≡ Some d)
found_letter u n letters is =
    let h = position-Some (has (λ (d : Letter). d.unit == u)) letters n None is in
    let at = slice_get-get_or letters n None h.0 in
    cases (get_or letters n None) (ap (λ (x : Option (Option Letter)). option_and_then (λ y. y) x) at) h.1
  where
    cases : (x : Option Letter) → item_at letters n ≡ x → has (λ (d : Letter). d.unit == u) x ≡ true → (d : Letter) × (item_at letters n ≡ Some d)
    cases None at is = absurd (cc is)
    cases (Some d) at is = (d, at)

-- its device isn't accessed, or as this letter
pub device_unaccessed : (old new : Spot) (vdev : ℕ) (unit : UnitInfo) (r : Result declared.Course End) → unit_of_device vdev old.state.table.units ≡ Some unit
    → None ≡ option_and_then (λ u. letter_with u (letters_of old.state.table)) (place_of_device vdev old.state.table.units)
    → Acts old new (λ units. release_unit (machine_of old.state units) vdev None) r (course_of new.state) → Acts old new (device_tree old.state vdev) r (course_of new.state)
device_unaccessed old new vdev unit r is none a =
    let t = old.state.table in
    let place = some_place vdev t.units unit is in
    let there = unit_told vdev t.units ∙ place.1 in
    let free : letter_with place.0 (letters_of t) ≡ None = sym (none ∙ ap (λ (p : Option ℕ). option_and_then (λ u. letter_with u (letters_of t)) p) place.1) in
    acts_same old new (device_tree old.state vdev) (λ units. release_unit (machine_of old.state units) vdev None) r (course_of new.state)
    (λ units h. ap (λ (x : Option ℕ). release_device (machine_of old.state units) vdev x) there
    ∙ ap (λ (x : Option ℕ). release_unit (machine_of old.state units) vdev x) free)
    a

pub device_accessed : (old new : Spot) (vdev n : ℕ) (unit : UnitInfo) (r : Result declared.Course End) → unit_of_device vdev old.state.table.units ≡ Some unit
    → Some n ≡ option_and_then (λ u. letter_with u (letters_of old.state.table)) (place_of_device vdev old.state.table.units)
    → Acts old new (letter_tree old.state n) r (course_of new.state) → Acts old new (device_tree old.state vdev) r (course_of new.state)
device_accessed old new vdev n unit r is found a =
    let t = old.state.table in
    let place = some_place vdev t.units unit is in
    let there = unit_told vdev t.units ∙ place.1 in
    let on : letter_with place.0 (letters_of t) ≡ Some n = sym (found ∙ ap (λ (p : Option ℕ). option_and_then (λ u. letter_with u (letters_of t)) p) place.1) in
    let letter = found_letter place.0 n (letters_of t) on in
    acts_same old new (device_tree old.state vdev) (letter_tree old.state n) r (course_of new.state)
    (λ units h. ap (λ (x : Option ℕ). release_device (machine_of old.state units) vdev x) there
    ∙ ap (λ (x : Option ℕ). release_unit (machine_of old.state units) vdev x) on
    ∙ sym (ap (λ (x : Option Letter). release_letter (machine_of old.state units) n x) letter.1))
    a

-- it is told with its device
pub unaccessed : (before now : Seen) (s : State) (vdev : ℕ) (r : Result declared.Course End)
    → Does before now (saying (typed_line (message_text (M069 (device_text vdev))))) r said → IfOk r (λ c. c ≡ course.Went (pos no_disk))
    → Acts (standing before s) (standing now s) (λ units. release_unit (machine_of s units) vdev None) r (course_of s)
unaccessed before now s vdev r does went =
    acts_refused (standing before s) (standing now s) (λ units. release_unit (machine_of s units) vdev None) (M069 (device_text vdev)) (pos no_disk) r does went refl
    (λ units h. refl)
