-- FORMAT's questions and refusals, as parts of its tree.
use Rattle.std.proofs.Common.{◌≡◌, ◌≤◌, ◌∙◌, ℕ, List, length, Result, Ok, Err, refl, ap, arith}
use Rattle.std.specs.Prelude.{⊤, Bool, true, false, ◌&&◌, ◌-◌, nat_le, take, Option, Some, None, pos, option_map, slice_get}
use Rattle.std.specs.Option.{option_and_then}
use Rattle.std.proofs.lemmas.Bool.{leb-true}
use Rattle.std.proofs.lemmas.List.{length-drop, length-take}
use Rattle.std.specs.List.{list_all, prefix_len, suffix_len}
use Rattle.cms_text.specs.Texts.{is_blank, without_leading_blanks, without_trailing_blanks}
use Rattle.cms_names.specs.Names.{is_name_character}
use Rattle.cms_model.specs.Acts.{Act, Done, Out, bind, saying, typed_line}
use Rattle.cms_model.specs.Slots.{Slot}
use Rattle.cms_line.specs.Messages.{message_text}
use Rattle.cms_line.specs.declared.message.Message.{Message}
use Rattle.cms_line.specs.declared.message.Message.TheVariants.{M062}
use Rattle.cms_disk.specs.declared.unit.UnitInfo.{UnitInfo}
use Rattle.cms_search.specs.Asks as asking
use Rattle.cms_search.specs.Calls.{Acts, Does, Meaning, Spot, course_of, itself, machine_of, said, spot_at}
use Rattle.cms_search.specs.Machine.{Course, Machine, Went}
use Rattle.cms_search.specs.Shows.{device_of, devices_of}
use Rattle.cms_search.specs.Tables.{AccessTable, place_of_device, unit_of_device}
use Rattle.cms_search.specs.declared.state.Course as declared
use Rattle.cms_search.specs.declared.state.Course.TheVariants as course
use Rattle.cms_search.specs.declared.state.Device.{Device}
use Rattle.cms_search.specs.declared.state.End.{End}
use Rattle.cms_search.specs.declared.state.State.{State}
use Rattle.cms_world.specs.Seen.{Seen}
use Rattle.cms_search.proofs.Acts.{acts_after, acts_done, acts_same, acts_stop, comes_does, comes_in, comes_none, does_stop}
use Rattle.cms_search.proofs.Released.{get_map, unit_told}
use Rattle.cms_access.specs.Format.{Ended, Labelling, goes_on, is_label, labelled, on_reply, reply, size_of, with_label}
use Rattle.cms_access.specs.Questions.{label_tree, labelling_of}
use Rattle.cms_access.specs.declared.questions.Label as answers
use Rattle.cms_access.specs.declared.questions.Label.TheVariants as label

-- ---- the line

pub size_told : (t : AccessTable) (vdev : ℕ) → size_of (devices_of t) vdev ≡ option_map (λ (unit : UnitInfo). unit.bsize) (unit_of_device vdev t.units)
size_told t vdev =
    ap (λ (p : Option ℕ). option_map (λ (d : Device). d.bsize) (option_and_then (λ u. slice_get (devices_of t) u) p)) (unit_told vdev t.units)
    ∙ go (place_of_device vdev t.units)
  where
    sized : (x : Option UnitInfo) → option_map (λ (d : Device). d.bsize) (option_map device_of x) ≡ option_map (λ (unit : UnitInfo). unit.bsize) x
    sized None = refl
    sized (Some unit) = refl

    go : (p : Option ℕ) → option_map (λ (d : Device). d.bsize) (option_and_then (λ u. slice_get (devices_of t) u) p)
        ≡ option_map (λ (unit : UnitInfo). unit.bsize) (option_and_then (λ u. slice_get t.units u) p)
    go None = refl
    go (Some u) = ap (λ (x : Option Device). option_map (λ (d : Device). d.bsize) x) (get_map device_of t.units u) ∙ sized (slice_get t.units u)

-- ---- a label's text

first_of : (a b c : Bool) → ((a && b) && c) ≡ true → b ≡ true
first_of true true c is = refl
first_of true false c is = absurd (cc is)
first_of false b c is = absurd (cc is)

pub short_label : (text : List ℕ) → is_label text ≡ true → length text ≤ 6
unfolding is_label
short_label text is = leb-true (length text) 6 (first_of (nat_le 1 (length text)) (nat_le (length text) 6) (list_all is_name_character text) is)

pub short_reply : (text : List ℕ) → length text ≤ 255 → length (without_leading_blanks (without_trailing_blanks text)) ≤ 255
short_reply text short =
    let front = take (length text - suffix_len is_blank text) text in
    let a = length-drop (prefix_len is_blank front) front in
    let b = length-take (length text - suffix_len is_blank text) text in
    omega (arith, a, b, short)

-- ---- calls within a tree

-- a line is typed, and then
pub acts_said : {R T : Type 0} (old mid new : Spot) (message : Message) (t : List Slot → Act R) (x : ⊤) (r : Result T End) (d : Meaning T R)
    → Does old.world mid.world (saying (typed_line (message_text message))) (Ok x) itself → mid.state ≡ old.state → Acts mid new t r d
    → Acts old new (λ units. Out (typed_line (message_text message)) (t units)) r d
acts_said old mid new message t x r d does same a =
    acts_after old mid new (λ units. Out (typed_line (message_text message)) (t units)) t r d
    (comes_does old mid (saying (typed_line (message_text message))) (λ units y. t units) x itself does same) a

-- or the typing was cut off
pub said_stops : {R T : Type 0} (old new : Spot) (message : Message) (t : List Slot → Act R) (e : End) (d : Meaning T R)
    → Does {T = ⊤} old.world new.world (saying (typed_line (message_text message))) (Err e) itself → new.state ≡ old.state
    → Acts {T = T} old new (λ units. Out (typed_line (message_text message)) (t units)) (Err e) d
said_stops old new message t e d does same = does_stop {T = ⊤} old new (saying (typed_line (message_text message))) (λ units y. t units) e itself d does same

-- a call, and then
pub acts_bind : {A R T U : Type 0} (old mid new : Spot) (s : List Slot → Act A) (f : A → Act R) (x : U) (m : Meaning U A) (r : Result T End) (d : Meaning T R)
    → Acts old mid s (Ok x) m → Acts mid new (λ units. f (m units x)) r d → Acts old new (λ units. bind (s units) f) r d
acts_bind old mid new s f x m r d a b = acts_after old mid new (λ units. bind (s units) f) (λ units. f (m units x)) r d (comes_in old mid s f x m a) b

-- the tree is done already
pub acts_over : {R T : Type 0} (old : Spot) (t : List Slot → Act R) (x : T) (d : Meaning T R) → ((units : List Slot) → t units ≡ Done (d units x)) → Acts old old t (Ok x) d
acts_over old t x d is = acts_same old old t (λ units. Done (d units x)) (Ok x) d (λ units h. is units) (acts_done old old (λ units. Done (d units x)) x d (comes_none old (λ units. Done (d units x))))

-- ---- the label

abbrev refusing_label : State → List ℕ → List Slot → Act Labelling
refusing_label s text units = Out (typed_line (message_text (M062 text))) (Done (Ended (Went (machine_of s units) (pos 20))))

refusing_is : (s : State) (text : List ℕ) (units : List Slot) → is_label text ≡ false → labelled (machine_of s units) text ≡ refusing_label s text units
refusing_is s text units is = rw is refl

pub label_refused : (before now : Seen) (s : State) (text : List ℕ) (c : declared.Course) → is_label text ≡ false
    → Does before now (saying (typed_line (message_text (M062 text)))) (Ok c) said → c ≡ course.Went (pos 20)
    → Acts (spot_at before s) (spot_at now s) (λ units. labelled (machine_of s units) text) (Ok (label.Ended c)) (labelling_of s)
label_refused before now s text c is does went =
    let old : Spot = record { world = before; state = s } in
    let new : Spot = record { world = now; state = s } in
    acts_same old new (λ units. labelled (machine_of s units) text) (refusing_label s text) (Ok (label.Ended c)) (labelling_of s) (λ units h. refusing_is s text units is)
    (rw went
    (acts_done old new (refusing_label s text) (label.Ended (course.Went (pos 20))) (labelling_of s)
    (comes_does old new (saying (typed_line (message_text (M062 text)))) (λ units y. Done (Ended (Went (machine_of s units) (pos 20)))) c said does refl)))

pub label_stops : (before now : Seen) (s : State) (text : List ℕ) (e : End) → is_label text ≡ false
    → Does {T = declared.Course} before now (saying (typed_line (message_text (M062 text)))) (Err e) said
    → Acts {T = answers.Label} (spot_at before s) (spot_at now s) (λ units. labelled (machine_of s units) text) (Err e) (labelling_of s)
label_stops before now s text e is does =
    let old : Spot = record { world = before; state = s } in
    let new : Spot = record { world = now; state = s } in
    acts_same {T = answers.Label} old new (λ units. labelled (machine_of s units) text) (refusing_label s text) (Err e) (labelling_of s) (λ units h. refusing_is s text units is)
    (does_stop {T = declared.Course} old new (saying (typed_line (message_text (M062 text)))) (λ units y. Done (Ended (Went (machine_of s units) (pos 20)))) e said (labelling_of s) does refl)

-- ---- the first question

-- it is gone on, or not
pub goes : (s : State) (line : List ℕ) (next : Machine → Act Course) (units : List Slot) → goes_on (reply line) ≡ true
    → on_reply next (asking.Given (machine_of s units) line) ≡ next (machine_of s units)
goes s line next units is = rw is refl

pub stays_so : (s : State) (line : List ℕ) (next : Machine → Act Course) (units : List Slot) → goes_on (reply line) ≡ false
    → on_reply next (asking.Given (machine_of s units) line) ≡ Done (Went (machine_of s units) (pos 8))
stays_so s line next units is = rw is refl

-- ---- what follows the volume id

-- none was asked for in the end
pub acts_unlabelled : (old new : Spot) (next : Machine → List ℕ → Act Course) (e : End) → Acts {T = answers.Label} old new (label_tree old.state) (Err e) (labelling_of new.state)
    → Acts {T = declared.Course} old new (λ units. bind (label_tree old.state units) (with_label next)) (Err e) (course_of new.state)
acts_unlabelled old new next e a = acts_stop old new (label_tree old.state) (with_label next) e (labelling_of new.state) (course_of new.state) a

-- one is given
pub acts_labelled : (old mid new : Spot) (next : Machine → List ℕ → Act Course) (volid : List ℕ) (r : Result declared.Course End)
    → Acts old mid (label_tree old.state) (Ok (label.Given volid)) (labelling_of mid.state) → Acts mid new (λ units. next (machine_of mid.state units) volid) r (course_of new.state)
    → Acts old new (λ units. bind (label_tree old.state units) (with_label next)) r (course_of new.state)
acts_labelled old mid new next volid r a b = acts_bind old mid new (label_tree old.state) (with_label next) (label.Given volid) (labelling_of mid.state) r (course_of new.state) a b

-- or the command ends with the ask
pub acts_ended : (old new : Spot) (next : Machine → List ℕ → Act Course) (c : declared.Course) → Acts old new (label_tree old.state) (Ok (label.Ended c)) (labelling_of new.state)
    → Acts old new (λ units. bind (label_tree old.state units) (with_label next)) (Ok c) (course_of new.state)
acts_ended old new next c a =
    acts_bind old new new (label_tree old.state) (with_label next) (label.Ended c) (labelling_of new.state) (Ok c) (course_of new.state) a
    (acts_over new (λ units. with_label next (labelling_of new.state units (label.Ended c))) c (course_of new.state) (λ units. refl))
