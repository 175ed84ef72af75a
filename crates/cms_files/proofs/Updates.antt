-- Updates of files, as calls do them.
use Rattle.std.proofs.Common.{◌≡◌, ◌∙◌, ◌<◌, ◌≤◌, ◌+◌, suc, ℕ, ℤ, List, [], ◌∷◌, Option, Some, Result, Ok, Err, add-one, drop, drop-cons, get_or, length, pos, refl, ap, subst, sym}
use Rattle.std.specs.Prelude.{Bool, true, false, IfOk, IsSome, slice_get}
use Rattle.std.specs.Option.{option_map}
use Rattle.std.proofs.lemmas.List.{drop_all}
use Rattle.cms_fields.specs.Moments.{is_moment}
use Rattle.cms_model.specs.Changes.{Change}
use Rattle.cms_model.specs.Acts.{Act, Done, bind, saying, typed_line}
use Rattle.cms_model.specs.Slots.{Slot}
use Rattle.cms_line.specs.Messages.{message_text}
use Rattle.cms_line.specs.declared.message.Message.{Message}
use Rattle.cms_disk.specs.declared.unit.UnitInfo.{UnitInfo}
use Rattle.cms_search.specs.Calls.{Acts, Comes, Does, Meaning, Spot, course_of, holds, itself, machine_of, refusal_tree, said}
use Rattle.cms_search.specs.ChangeTold.{told_tree}
use Rattle.cms_search.specs.Machine.{Course, Letter, Machine, letter_at}
use Rattle.cms_line.specs.declared.token.Token.{Token}
use Rattle.cms_search.specs.DeviceSteps.{Changing, Did, Failed, Stepped, changing_of, changing_tree, unless_failed}
use Rattle.cms_search.specs.Searches.{Shelf, Shelves, item_at, shelves_in}
use Rattle.cms_search.specs.Tables.{Seated, shelves_of}
use Rattle.cms_search.specs.declared.fault.SearchFault.{SearchFault}
use Rattle.cms_search.specs.declared.state.Course as declared
use Rattle.cms_search.specs.declared.state.Course.TheVariants as course
use Rattle.cms_search.specs.declared.state.End.{End}
use Rattle.cms_search.specs.declared.state.State.{State}
use Rattle.cms_search.specs.declared.device_step.Changed as declared_changed
use Rattle.cms_search.specs.declared.device_step.Changed.TheVariants as was
use Rattle.cms_search.proofs.Acts.{acts_after, acts_done, acts_same, acts_stop, comes_does, comes_in, comes_same, comes_then, does_stop, refused}
use Rattle.cms_search.proofs.LetterDisks.{holds_shows, letter_is}
use Rattle.cms_search.proofs.Released.{vdev_is}
use Rattle.cms_search.proofs.Shown.{shelves_shown}
use Rattle.cms_search.proofs.StateCalls.{acts_stayed}
use Rattle.cms_files.specs.Files.{found_shelf, search_refused}
use Rattle.cms_files.specs.Updates.{names_of, on_step, places_without, stopping, telling, updated, updated_of, updating_each, updating_tree, vdev_at, with_stopped}
use Rattle.cms_files.specs.declared.update.Updated as declared_updated
use Rattle.cms_files.specs.declared.update.Updated.TheVariants as came

-- ---- an update that ends the command

abbrev failed : Course → Act Stepped
failed course = Done (Failed course)

-- the command was refused as a tree says
pub acts_stopping : (old new : Spot) (tree : List Slot → Act Course) (r : Result declared.Course End) (u : Result declared_updated.Updated End) → Acts old new tree r (course_of new.state)
    → u ≡ with_stopped r → Acts old new (λ units. stopping (tree units)) u (updated_of new.state)
acts_stopping old new tree (Ok c) u a is =
    rw is (acts_done old new (λ units. stopping (tree units)) (came.Stopped c) (updated_of new.state) (comes_in old new tree failed c (course_of new.state) a))
acts_stopping old new tree (Err e) u a is = rw is (acts_stop old new tree failed e (course_of new.state) (updated_of new.state) a)

-- with a message
pub stop_so : (old new : Spot) (message : Message) (code : ℤ) (r : Result declared.Course End) (u : Result declared_updated.Updated End)
    → Does old.world new.world (saying (typed_line (message_text message))) r said → IfOk r (λ c. c ≡ course.Went code) → new.state ≡ old.state → u ≡ with_stopped r
    → Acts old new (λ units. stopping (refusal_tree old.state message code units)) u (updated_of new.state)
stop_so old new message code r u does went same is =
    acts_stopping old new (refusal_tree old.state message code) r u (refused old new message code r does went same) is

-- ---- a change

-- what follows the change
abbrev pub then_updated : State → ℕ → Change → Changing → Act Stepped
then_updated s n change = updated n (vdev_at (machine_of s []) (letter_at (machine_of s []) n)) change

pub update_comes : (old mid : Spot) (n : ℕ) (change : Change) (x : declared_changed.Changed) → Acts old mid (changing_tree old.state n change) (Ok x) (changing_of mid.state)
    → Comes old mid (updating_tree old.state n change) (λ units. then_updated old.state n change (changing_of mid.state units x))
update_comes old mid n change x a = comes_in old mid (changing_tree old.state n change) (then_updated old.state n change) x (changing_of mid.state) a

pub update_cut : (old mid : Spot) (n : ℕ) (change : Change) (e : End) → Acts {T = declared_changed.Changed} old mid (changing_tree old.state n change) (Err e) (changing_of mid.state)
    → Acts {T = declared_updated.Updated} old mid (updating_tree old.state n change) (Err e) (updated_of mid.state)
update_cut old mid n change e a = acts_stop old mid (changing_tree old.state n change) (then_updated old.state n change) e (changing_of mid.state) (updated_of mid.state) a

-- the device of a letter's disk
pub device_at : (st : State) (n vdev : ℕ) (s : Seated) → item_at st.table.seats n ≡ Some s
    → option_map (λ (unit : UnitInfo). unit.vdev) (slice_get st.table.units s.letter.unit) ≡ Some vdev → vdev_at (machine_of st []) (letter_at (machine_of st []) n) ≡ vdev
device_at st n vdev s at is = ap (λ (x : Option Letter). vdev_at (machine_of st []) x) (letter_is st.table n s at) ∙ vdev_is st [] s.letter.unit vdev is

-- what follows the change was done
pub update_ends : (old mid new : Spot) (n vdev : ℕ) (change : Change) (x : declared_changed.Changed) (r : Result declared_updated.Updated End)
    → Acts old mid (changing_tree old.state n change) (Ok x) (changing_of mid.state) → vdev_at (machine_of old.state []) (letter_at (machine_of old.state []) n) ≡ vdev
    → Acts mid new (λ units. updated n vdev change (changing_of mid.state units x)) r (updated_of new.state) → Acts old new (updating_tree old.state n change) r (updated_of new.state)
update_ends old mid new n vdev change x r a device rest =
    acts_after old mid new (updating_tree old.state n change) (λ units. then_updated old.state n change (changing_of mid.state units x)) r (updated_of new.state)
    (update_comes old mid n change x a)
    (acts_same mid new (λ units. then_updated old.state n change (changing_of mid.state units x)) (λ units. updated n vdev change (changing_of mid.state units x)) r (updated_of new.state)
    (λ units h. rw device refl) rest)

-- no reading place is kept in the files then
abbrev pub forgot : State → ℕ → Change → State
forgot s vdev change = record s { places = places_without vdev (names_of change) s.places }

abbrev pub with_state : Spot → State → Spot
with_state spot s = record { world = spot.world; state = s }

pub update_done : (old mid : Spot) (n vdev : ℕ) (change : Change) (x : declared_changed.Changed) → Acts old mid (changing_tree old.state n change) (Ok x) (changing_of mid.state) → x ≡ was.Done
    → vdev_at (machine_of old.state []) (letter_at (machine_of old.state []) n) ≡ vdev
    → Acts old (with_state mid (forgot mid.state vdev change)) (updating_tree old.state n change) (Ok came.Done) (updated_of (forgot mid.state vdev change))
update_done old mid n vdev change x a is device =
    let new = with_state mid (forgot mid.state vdev change) in
    acts_after old mid new (updating_tree old.state n change) (λ units. then_updated old.state n change (changing_of mid.state units x)) (Ok came.Done) (updated_of new.state)
    (update_comes old mid n change x a)
    (acts_stayed mid new (λ units. then_updated old.state n change (changing_of mid.state units x)) came.Done (updated_of new.state) refl refl
    (λ units h. (h, rw (is, device) refl)) (λ usable. usable))

-- what a change comes to that isn't done
not_updated : (s : State) (n vdev : ℕ) (change : Change) (x : declared_changed.Changed) (units : List Slot) → (x ≡ was.Done → ⊥)
    → updated n vdev change (changing_of s units x) ≡ stopping (told_tree s n x units)
not_updated s n vdev change was.Done units other = absurd (other refl)
not_updated s n vdev change (was.Limited which) units other = refl
not_updated s n vdev change (was.Full need free) units other = refl
not_updated s n vdev change (was.Failed course) units other = refl

pub ends_told : (old new : Spot) (n vdev : ℕ) (change : Change) (x : declared_changed.Changed) (r : Result declared.Course End) (u : Result declared_updated.Updated End) → (x ≡ was.Done → ⊥)
    → Acts old new (told_tree old.state n x) r (course_of new.state) → u ≡ with_stopped r
    → Acts old new (λ units. updated n vdev change (changing_of old.state units x)) u (updated_of new.state)
ends_told old new n vdev change x r u other a is =
    acts_same old new (λ units. updated n vdev change (changing_of old.state units x)) (λ units. stopping (told_tree old.state n x units)) u (updated_of new.state)
    (λ units h. not_updated old.state n vdev change x units other) (acts_stopping old new (told_tree old.state n x) r u a is)

-- ---- files, one after another

module _ {A : Type 0} (update : Machine → A → Act Stepped) where
  abbrev pub each_of : List A → State → List Slot → Act Course
  each_of xs s units = updating_each update xs (machine_of s units)

  -- all are done
  pub each_none : (s : State) (units : List Slot) → each_of [] s units ≡ Done (course_of s units (course.Went (pos 0)))
  unfolding updating_each
  each_none s units = refl

  each_first : (x : A) (xs : List A) (s : State) (units : List Slot) → each_of (x ∷ xs) s units ≡ bind (update (machine_of s units) x) (unless_failed (updating_each update xs))
  unfolding updating_each
  each_first x xs s units = refl

  -- one more is done
  pub each_more : (old new : Spot) (x : A) (xs : List A) → Acts old new (λ units. update (machine_of old.state units) x) (Ok came.Done) (updated_of new.state)
      → Comes old new (each_of (x ∷ xs) old.state) (each_of xs new.state)
  each_more old new x xs a =
      comes_then old old new (each_of (x ∷ xs) old.state) (λ units. bind (update (machine_of old.state units) x) (unless_failed (updating_each update xs))) (each_of xs new.state)
      (comes_same old (each_of (x ∷ xs) old.state) (λ units. bind (update (machine_of old.state units) x) (unless_failed (updating_each update xs)))
      (λ units h. each_first x xs old.state units))
      (comes_in old new (λ units. update (machine_of old.state units) x) (unless_failed (updating_each update xs)) came.Done (updated_of new.state) a)

  -- it ended the command
  pub each_stopped : (old new : Spot) (x : A) (xs : List A) (c : declared.Course) → Acts old new (λ units. update (machine_of old.state units) x) (Ok (came.Stopped c)) (updated_of new.state)
      → Acts old new (each_of (x ∷ xs) old.state) (Ok c) (course_of new.state)
  each_stopped old new x xs c a =
      acts_same old new (each_of (x ∷ xs) old.state) (λ units. bind (update (machine_of old.state units) x) (unless_failed (updating_each update xs))) (Ok c) (course_of new.state)
      (λ units h. each_first x xs old.state units)
      (acts_done old new (λ units. bind (update (machine_of old.state units) x) (unless_failed (updating_each update xs))) c (course_of new.state)
      (comes_in old new (λ units. update (machine_of old.state units) x) (unless_failed (updating_each update xs)) (came.Stopped c) (updated_of new.state) a))

  pub each_cut : (old new : Spot) (x : A) (xs : List A) (e : End) → Acts {T = declared_updated.Updated} old new (λ units. update (machine_of old.state units) x) (Err e) (updated_of new.state)
      → Acts {T = declared.Course} old new (each_of (x ∷ xs) old.state) (Err e) (course_of new.state)
  each_cut old new x xs e a =
      acts_same {T = declared.Course} old new (each_of (x ∷ xs) old.state) (λ units. bind (update (machine_of old.state units) x) (unless_failed (updating_each update xs))) (Err e)
      (course_of new.state) (λ units h. each_first x xs old.state units)
      (acts_stop old new (λ units. update (machine_of old.state units) x) (unless_failed (updating_each update xs)) e (updated_of new.state) (course_of new.state) a)

  -- those in front of a place are done, and then the one in it
  module _ (old mid new : Spot) (xs : List A) (i : ℕ) (x : A) (within : i < length xs) (at : x ≡ get_or xs i x) (far : Comes old mid (each_of xs old.state) (each_of (drop i xs) mid.state)) where
    first : drop i xs ≡ x ∷ drop (i + 1) xs
    first = rw add-one (drop-cons xs i x within ∙ ap (λ (y : A). y ∷ drop (suc i) xs) (sym at))

    so_far : Comes old mid (each_of xs old.state) (each_of (x ∷ drop (i + 1) xs) mid.state)
    so_far = subst (λ (l : List A). Comes old mid (each_of xs old.state) (each_of l mid.state)) first far

    pub each_next : (u : declared_updated.Updated) → Acts mid new (λ units. update (machine_of mid.state units) x) (Ok u) (updated_of new.state) → u ≡ came.Done
        → Comes old new (each_of xs old.state) (each_of (drop (i + 1) xs) new.state)
    each_next u a is =
        comes_then old mid new (each_of xs old.state) (each_of (x ∷ drop (i + 1) xs) mid.state) (each_of (drop (i + 1) xs) new.state) so_far
        (each_more mid new x (drop (i + 1) xs) (subst (λ (v : declared_updated.Updated). Acts mid new (λ units. update (machine_of mid.state units) x) (Ok v) (updated_of new.state)) is a))

    pub each_ends : (u : declared_updated.Updated) (c : declared.Course) → Acts mid new (λ units. update (machine_of mid.state units) x) (Ok u) (updated_of new.state) → u ≡ came.Stopped c
        → Acts old new (each_of xs old.state) (Ok c) (course_of new.state)
    each_ends u c a is =
        acts_after old mid new (each_of xs old.state) (each_of (x ∷ drop (i + 1) xs) mid.state) (Ok c) (course_of new.state) so_far
        (each_stopped mid new x (drop (i + 1) xs) c
        (subst (λ (v : declared_updated.Updated). Acts mid new (λ units. update (machine_of mid.state units) x) (Ok v) (updated_of new.state)) is a))

    pub each_broken : (e : End) → Acts {T = declared_updated.Updated} mid new (λ units. update (machine_of mid.state units) x) (Err e) (updated_of new.state)
        → Acts {T = declared.Course} old new (each_of xs old.state) (Err e) (course_of new.state)
    each_broken e a =
        acts_after {T = declared.Course} old mid new (each_of xs old.state) (each_of (x ∷ drop (i + 1) xs) mid.state) (Err e) (course_of new.state) so_far
        (each_cut mid new x (drop (i + 1) xs) e a)

  -- all are done
  pub each_done : (old new : Spot) (xs : List A) (i : ℕ) → length xs ≤ i → Comes old new (each_of xs old.state) (each_of (drop i xs) new.state)
      → Acts old new (each_of xs old.state) (Ok (course.Went (pos 0))) (course_of new.state)
  each_done old new xs i past far =
      acts_done old new (each_of xs old.state) (course.Went (pos 0)) (course_of new.state)
      (comes_then old new new (each_of xs old.state) (each_of (drop i xs) new.state) (λ units. Done (course_of new.state units (course.Went (pos 0)))) far
      (comes_same new (each_of (drop i xs) new.state) (λ units. Done (course_of new.state units (course.Went (pos 0))))
      (λ units h. ap (λ (l : List A). each_of l new.state units) (drop_all i xs past) ∙ each_none new.state units)))

-- the rest of the state stays over two calls
pub kept_then : (a b c : State) → b ≡ record a { table = b.table; places = b.places } → c ≡ record b { table = c.table; places = c.places }
    → c ≡ record a { table = c.table; places = c.places }
kept_then a b c e f = f ∙ ap (λ (s : State). record s { table = c.table; places = c.places }) e

pub moment_kept : (a b : State) → b ≡ record a { table = b.table; places = b.places } → is_moment a.moment ≡ true → is_moment b.moment ≡ true
moment_kept a b e is = ap (λ (s : State). is_moment s.moment) e ∙ is

-- ---- a file that is typed

-- what follows an update
abbrev pub telling_of : State → Bool → List ℕ → declared_updated.Updated → List Slot → Act Stepped
telling_of s types line x units = telling types line (updated_of s units x)

abbrev said_then : State → List Slot → Unit {0} → Act Stepped
said_then s units y = Done (Did (machine_of s units))

pub tell_said : (old new : Spot) (types : Bool) (line : List ℕ) (x : declared_updated.Updated) (y : Unit {0}) → types ≡ true → x ≡ came.Done
    → Does old.world new.world (saying (typed_line line)) (Ok y) itself → new.state ≡ old.state
    → Acts old new (telling_of old.state types line x) (Ok came.Done) (updated_of old.state)
tell_said old new types line x y on is does same =
    acts_same old new (telling_of old.state types line x) (λ units. bind (saying (typed_line line)) (said_then old.state units)) (Ok came.Done) (updated_of old.state)
    (λ units h. rw (is, on) refl)
    (acts_done old new (λ units. bind (saying (typed_line line)) (said_then old.state units)) came.Done (updated_of old.state)
    (comes_does old new (saying (typed_line line)) (said_then old.state) y itself does same))

pub tell_cut : (old new : Spot) (types : Bool) (line : List ℕ) (x : declared_updated.Updated) (e : End) → types ≡ true → x ≡ came.Done
    → Does {T = Unit {0}} old.world new.world (saying (typed_line line)) (Err e) itself → new.state ≡ old.state
    → Acts {T = declared_updated.Updated} old new (telling_of old.state types line x) (Err e) (updated_of old.state)
tell_cut old new types line x e on is does same =
    acts_same {T = declared_updated.Updated} old new (telling_of old.state types line x) (λ units. bind (saying (typed_line line)) (said_then old.state units)) (Err e)
    (updated_of old.state) (λ units h. rw (is, on) refl)
    (does_stop {T = Unit {0}} {U = declared_updated.Updated} old new (saying (typed_line line)) (said_then old.state) e itself (updated_of old.state) does same)

-- nothing is typed
pub tell_nothing : (old : Spot) (types : Bool) (line : List ℕ) (x : declared_updated.Updated) → types ≡ false → x ≡ came.Done
    → Acts old old (telling_of old.state types line x) (Ok came.Done) (updated_of old.state)
tell_nothing old types line x off is =
    acts_done old old (telling_of old.state types line x) came.Done (updated_of old.state)
    (comes_same old (telling_of old.state types line x) (λ units. Done (updated_of old.state units came.Done)) (λ units h. rw (is, off) refl))

pub tell_stopped : (old : Spot) (types : Bool) (line : List ℕ) (x : declared_updated.Updated) (c : declared.Course) → x ≡ came.Stopped c
    → Acts old old (telling_of old.state types line x) (Ok (came.Stopped c)) (updated_of old.state)
tell_stopped old types line x c is =
    acts_done old old (telling_of old.state types line x) (came.Stopped c) (updated_of old.state)
    (comes_same old (telling_of old.state types line x) (λ units. Done (updated_of old.state units (came.Stopped c))) (λ units h. rw is refl))

-- behind an update, in all of it or in a part
pub told_behind : (old mid new : Spot) (tree : List Slot → Act Stepped) (types : Bool) (line : List ℕ) (x : declared_updated.Updated) (r : Result declared_updated.Updated End)
    → Acts old mid tree (Ok x) (updated_of mid.state) → Acts mid new (telling_of mid.state types line x) r (updated_of new.state)
    → Acts old new (λ units. bind (tree units) (telling types line)) r (updated_of new.state)
told_behind old mid new tree types line x r a b =
    acts_after old mid new (λ units. bind (tree units) (telling types line)) (telling_of mid.state types line x) r (updated_of new.state)
    (comes_in old mid tree (telling types line) x (updated_of mid.state) a) b

pub told_never : (old new : Spot) (tree : List Slot → Act Stepped) (types : Bool) (line : List ℕ) (e : End) → Acts {T = declared_updated.Updated} old new tree (Err e) (updated_of new.state)
    → Acts {T = declared_updated.Updated} old new (λ units. bind (tree units) (telling types line)) (Err e) (updated_of new.state)
told_never old new tree types line e a = acts_stop old new tree (telling types line) e (updated_of new.state) (updated_of new.state) a

-- ---- an update behind a search

-- what was found is gone on with
pub acts_step_found : {A : Type 0} (old new : Spot) (words : List Token) (place : ℕ) (next : Machine → A → Act Stepped) (find : Machine → Result A SearchFault) (x : A)
    (r : Result declared_updated.Updated End) (d : Meaning declared_updated.Updated Stepped) → ((units : List Slot) → holds old units → find (machine_of old.state units) ≡ Ok x)
    → Acts old new (λ units. next (machine_of old.state units) x) r d
    → Acts old new (λ units. on_step (machine_of old.state units) words place (next (machine_of old.state units)) (find (machine_of old.state units))) r d
acts_step_found old new words place next find x r d is a =
    acts_same old new (λ units. on_step (machine_of old.state units) words place (next (machine_of old.state units)) (find (machine_of old.state units)))
    (λ units. next (machine_of old.state units) x) r d (λ units h. (let e = is units h in rw e refl)) a

-- or it is refused
pub acts_step_unfound : {A : Type 0} (old new : Spot) (words : List Token) (place : ℕ) (next : Machine → A → Act Stepped) (find : Machine → Result A SearchFault)
    (fault : SearchFault) (r : Result declared_updated.Updated End) (d : Meaning declared_updated.Updated Stepped)
    → ((units : List Slot) → holds old units → find (machine_of old.state units) ≡ Err fault)
    → Acts old new (λ units. stopping (search_refused (machine_of old.state units) words place fault)) r d
    → Acts old new (λ units. on_step (machine_of old.state units) words place (next (machine_of old.state units)) (find (machine_of old.state units))) r d
acts_step_unfound old new words place next find fault r d is a =
    acts_same old new (λ units. on_step (machine_of old.state units) words place (next (machine_of old.state units)) (find (machine_of old.state units)))
    (λ units. stopping (search_refused (machine_of old.state units) words place fault)) r d (λ units h. (let e = is units h in rw e refl)) a

-- what is found on the table's disks is found on the machine's
pub found_on_disks : {A : Type 0} (old : Spot) (find : Shelves → A) (x : A) → find (shelves_of old.state.table) ≡ x
    → (units : List Slot) → holds old units → find (shelves_in (machine_of old.state units)) ≡ x
found_on_disks old find x is units h =
    ap find (sym (shelves_shown old.state.table (machine_of old.state units) (holds_shows old units h))) ∙ is

pub shelf_from : (r : Result Shelf SearchFault) → IsSome (found_shelf r) → (shelf : Shelf) × (r ≡ Ok shelf)
shelf_from (Ok shelf) is = (shelf, refl)
shelf_from (Err why) is = absurd (cc is)
