-- What the making of a volume came to, as the command goes on with it.
use Rattle.std.proofs.Common.{◌≡◌, ◌≤◌, ◌⊎◌, ◌∙◌, inl, inr, ⊎_elim, ℕ, List, [], Result, Ok, Err, arith, refl, sym, ap, subst}
use Rattle.std.specs.Prelude.{Bool, true, false, ◌==◌, ◌↔◌, Option, Some, None, IfErr, IfOk, IfSome, pos, option_map, slice_get, unwrap_or, ⊤}
use Rattle.std.specs.Option.{ForSome, option_and_then}
use Rattle.std.proofs.lemmas.Bool.{eqb-true}
use Rattle.std.proofs.lemmas.List.Quantifiers.{position-Some}
use Rattle.std.proofs.lemmas.Option.{get_or_from_slice_get, same_Some}
use Rattle.cms_journal.specs.Told.{Told}
use Rattle.cms_fields.specs.Moments.{stamp_of}
use Rattle.cms_fields.specs.declared.time.Stamp.{Stamp}
use Rattle.cms_text.specs.Numbers.{decimal_of}
use Rattle.cms_model.specs.Acts.{saying, typed_line}
use Rattle.cms_line.specs.Messages.{message_text}
use Rattle.cms_line.specs.declared.message.Message.TheVariants.{M105, M733}
use Rattle.cms_world.specs.Seen.{Seen}
use Rattle.cms_disk.specs.Disks.{Accessed}
use Rattle.cms_disk.specs.EmptyMinidisks.{Formats, IsMakeFault}
use Rattle.cms_disk.specs.declared.fault.DiskFault.{DiskFault}
use Rattle.cms_disk.specs.declared.fault.DiskFault.TheVariants as failed
use Rattle.cms_disk.specs.declared.unit.UnitInfo.{UnitInfo}
use Rattle.cms_search.specs.Calls.{Acts, Comes, Does, Spot, Usable, course_of, machine_of, said, spot_at}
use Rattle.cms_search.specs.Format.{FormatsUnit, MayFormat, answer_made, table_made}
use Rattle.cms_search.specs.Machine.{Course, Letter, Places}
use Rattle.cms_search.specs.Places.{without_device}
use Rattle.cms_search.specs.Searches.{item_at}
use Rattle.cms_search.specs.Tables.{AccessTable, Seated, cleared, letters_of, place_of_device, unit_of_device}
use Rattle.cms_search.specs.Texts.{device_text, letter_text}
use Rattle.cms_search.specs.Units.{forgotten, left_by, vdev_of}
use Rattle.cms_search.specs.declared.state.Course as declared
use Rattle.cms_search.specs.declared.state.Course.TheVariants as course
use Rattle.cms_search.specs.declared.state.End.{End}
use Rattle.cms_search.specs.declared.state.End.TheVariants.{Memory}
use Rattle.cms_search.specs.declared.state.State.{State}
use Rattle.cms_search.specs.declared.table.Seat.{Seat}
use Rattle.cms_search.proofs.Acts.{acts_after, cut_off, refused}
use Rattle.cms_search.proofs.Released.{letter_told, vdev_is}
use Rattle.cms_access.specs.EmptyVolume.{MayRemake, forgotten_in, is_marked, made_of}
use Rattle.cms_access.specs.declared.format.FormatLine.{FormatLine}
use Rattle.cms_access.proofs.Releases.{some_place}
use Rattle.cms_access.proofs.Remade.{Remade, failed_tree, finished_tree, places_left, remade_done, remade_doubted, remade_emptied, remaking_tree}

-- ---- the unit of a device

unit_there : (units : List UnitInfo) (vdev u : ℕ) (unit : UnitInfo) → unit_of_device vdev units ≡ Some unit → place_of_device vdev units ≡ Some u → slice_get units u ≡ Some unit
unit_there units vdev u unit is place = ap (λ (p : Option ℕ). option_and_then (λ v. slice_get units v) p) (sym place) ∙ is

-- it has the device
device_there : (units : List UnitInfo) (vdev u : ℕ) (unit : UnitInfo) → place_of_device vdev units ≡ Some u → slice_get units u ≡ Some unit → unit.vdev ≡ vdev
device_there units vdev u unit place has =
    let h = position-Some (λ (x : UnitInfo). x.vdev == vdev) units u unit place in
    let one = get_or_from_slice_get units u unit unit has in
    eqb-true unit.vdev vdev (ap (λ (x : UnitInfo). x.vdev == vdev) (sym one) ∙ h.1)

sure_there : (t : AccessTable) (vdev u : ℕ) → place_of_device vdev t.units ≡ Some u → is_marked vdev t ≡ false → (doubt : Bool) → slice_get t.doubts u ≡ Some doubt → doubt ≡ false
sure_there t vdev u place sure doubt has =
    sym (ap (λ (x : Option Bool). unwrap_or x false) has) ∙ ap (λ (p : Option ℕ). unwrap_or (option_and_then (λ v. slice_get t.doubts v) p) false) (sym place) ∙ sure

-- it may be formatted
pub may_format : (told : Told) (t : AccessTable) (vdev : ℕ) (unit : UnitInfo) → unit_of_device vdev t.units ≡ Some unit → 8 ≤ unit.unit.blocks → unit.writable ≡ true → Usable told t
    → ForSome (unit_of_device vdev t.units) (MayFormat told)
may_format told t vdev unit is least writable usable other at =
    let place = some_place vdev t.units unit is in
    let has = unit_there t.units vdev place.0 unit is place.1 in
    let may : MayFormat told unit = record {
      least = least;
      blocks = λ j told'. ((usable j told').units place.0 unit has).blocks;
      writable = λ j told'. ((usable j told').units place.0 unit has).writable writable;
    } in
    subst (MayFormat told) (same_Some unit other (sym is ∙ at)) may

-- ---- the reading places

places_of : State → ℕ → ℕ → Option Letter → Places
places_of st u n x = (left_by u (record (forgotten x (machine_of st [])) { letters = cleared n (letters_of st.table) })).places

pub places_so : (st : State) (u n vdev : ℕ) (seat : Option Seat) (unit : UnitInfo) → place_of_device vdev st.table.units ≡ Some u → slice_get st.table.units u ≡ Some unit
    → (seat ≡ None) ↔ (item_at st.table.seats n ≡ None)
    → IfSome seat (λ told. ForSome (item_at st.table.seats n) (λ s. (told.parent ≡ s.letter.parent) × (told.read_only ≡ s.letter.read_only)
    × (option_map (λ (x : UnitInfo). x.vdev) (slice_get st.table.units s.letter.unit) ≡ Some told.vdev)))
    → without_device vdev (forgotten_in seat st.places) ≡ places_left st u n
places_so st u n vdev seat unit place has none some = cases seat (item_at st.table.seats n) refl none some
  where
    own : vdev_of (machine_of st []) u ≡ vdev
    own = vdev_is st [] u vdev (ap (λ (x : Option UnitInfo). option_map (λ (i : UnitInfo). i.vdev) x) has ∙ ap (λ (v : ℕ). Some v) (device_there st.table.units vdev u unit place has))

    letter : item_at (letters_of st.table) n ≡ option_map (λ (s : Seated). s.letter) (item_at st.table.seats n)
    letter = letter_told st.table.seats n

    cases : (seat : Option Seat) (x : Option Seated) → item_at st.table.seats n ≡ x → (seat ≡ None) ↔ (item_at st.table.seats n ≡ None)
        → IfSome seat (λ told. ForSome (item_at st.table.seats n) (λ s. (told.parent ≡ s.letter.parent) × (told.read_only ≡ s.letter.read_only)
        × (option_map (λ (x : UnitInfo). x.vdev) (slice_get st.table.units s.letter.unit) ≡ Some told.vdev)))
        → without_device vdev (forgotten_in seat st.places) ≡ places_left st u n
    cases None None at none some =
        ap (λ (v : ℕ). without_device v st.places) (sym own)
        ∙ ap (λ (x : Option Letter). (left_by u (record (forgotten x (machine_of st [])) { letters = cleared n (letters_of st.table) })).places)
        (sym (letter_told st.table.seats n ∙ ap (λ (y : Option Seated). option_map (λ (s : Seated). s.letter) y) at))
    cases None (Some s) at none some = absurd (cc (sym at ∙ none.0 refl))
    cases (Some seat) None at none some = absurd (cc (none.1 at))
    cases (Some seat) (Some s) at none some =
        let other = vdev_is st [] s.letter.unit seat.vdev (some s at).2 in
        ap (λ (v : ℕ). without_device v (without_device seat.vdev st.places)) (sym own)
        ∙ ap (λ (v : ℕ). without_device (vdev_of (machine_of st []) u) (without_device v st.places)) (sym other)
        ∙ ap (λ (x : Option Letter). (left_by u (record (forgotten x (machine_of st [])) { letters = cleared n (letters_of st.table) })).places)
        (sym (letter_told st.table.seats n ∙ ap (λ (y : Option Seated). option_map (λ (s : Seated). s.letter) y) at))

-- ---- what was answered

was_made : (m : Result Accessed DiskFault) → made_of (answer_made m) ≡ Ok true → (d : Accessed) × (m ≡ Ok d)
was_made (Ok d) is = (d, refl)
was_made (Err failed.NotFound) is = absurd (cc is)
was_made (Err failed.Exists) is = absurd (cc is)
was_made (Err failed.ReadOnly) is = absurd (cc is)
was_made (Err failed.Device) is = absurd (cc is)
was_made (Err failed.InDoubt) is = absurd (cc is)
was_made (Err failed.Altered) is = absurd (cc is)
was_made (Err (failed.Limit k)) is = absurd (cc is)
was_made (Err (failed.Full need free)) is = absurd (cc is)
was_made (Err failed.Memory) is = absurd (cc is)

has_failed : (m : Result Accessed DiskFault) → made_of (answer_made m) ≡ Ok false → (m ≡ Err failed.Device) ⊎ (m ≡ Err failed.InDoubt)
has_failed (Ok d) is = absurd (cc is)
has_failed (Err failed.NotFound) is = absurd (cc is)
has_failed (Err failed.Exists) is = absurd (cc is)
has_failed (Err failed.ReadOnly) is = absurd (cc is)
has_failed (Err failed.Device) is = inl refl
has_failed (Err failed.InDoubt) is = inr refl
has_failed (Err failed.Altered) is = absurd (cc is)
has_failed (Err (failed.Limit k)) is = absurd (cc is)
has_failed (Err (failed.Full need free)) is = absurd (cc is)
has_failed (Err failed.Memory) is = absurd (cc is)

was_starved : (m : Result Accessed DiskFault) (e : End) → made_of (answer_made m) ≡ Err e → IfErr m IsMakeFault → (m ≡ Err failed.Memory) × (e ≡ Memory)
was_starved (Ok d) e is may = absurd (cc is)
was_starved (Err failed.NotFound) e is may = absurd may
was_starved (Err failed.Exists) e is may = absurd may
was_starved (Err failed.ReadOnly) e is may = absurd may
was_starved (Err failed.Device) e is may = absurd (cc is)
was_starved (Err failed.InDoubt) e is may = absurd (cc is)
was_starved (Err failed.Altered) e is may = absurd may
was_starved (Err (failed.Limit k)) e is may = absurd may
was_starved (Err (failed.Full need free)) e is may = absurd may
was_starved (Err failed.Memory) e is may = (refl, sym (cc is))

-- ---- the call

-- what `AccessTable::format` said, which came to r; now is the world behind it
abbrev pub Formatted : Spot → Seen → AccessTable → FormatLine → List ℕ → UnitInfo → Stamp → Result ⊤ DiskFault → Type 0
Formatted old now t line volid unit stamp r = (place : ℕ) (info : UnitInfo) → place_of_device line.vdev old.state.table.units ≡ Some place → slice_get old.state.table.units place ≡ Some info
    → FormatsUnit old.world now old.state.table t place line.letter info volid stamp r

-- the unit's place and mark
pub record Placed (st : State) (line : FormatLine) (unit : UnitInfo) : Type 0 where
  pub place : ℕ
  pub place_is : place_of_device line.vdev st.table.units ≡ Some place
  pub unit_is : slice_get st.table.units place ≡ Some unit

placed : (st : State) (line : FormatLine) (unit : UnitInfo) → MayRemake st line unit → Placed st line unit
placed st line unit may =
    let place = some_place line.vdev st.table.units unit may.unit_is in
    record { place = place.0; place_is = place.1; unit_is = unit_there st.table.units line.vdev place.0 unit may.unit_is place.1 }

-- what is known of the call where the table was changed
abbrev pub left : Spot → Seen → AccessTable → Places → Spot
left old now t places = record { world = now; state = record old.state { table = t; places = places } }

remade_so : (old : Spot) (now : Seen) (t : AccessTable) (places : Places) (line : FormatLine) (volid : List ℕ) (unit : UnitInfo) (stamp : Stamp) (r : Result ⊤ DiskFault) (m : Result Accessed DiskFault)
    → (may : MayRemake old.state line unit) → stamp ≡ stamp_of old.state.moment → (p : Placed old.state line unit)
    → (f : FormatsUnit old.world now old.state.table t p.place line.letter unit volid stamp r) → f.made ≡ m
    → places ≡ places_left old.state p.place line.letter → Remade old (left old now t places) line volid unit m
remade_so old now t places line volid unit stamp r m may when p f is kept =
    subst (λ (x : Result Accessed DiskFault). Remade old (left old now t places) line volid unit x) is
    (record {
      place = p.place;
      place_is = p.place_is;
      unit_is = p.unit_is;
      sure = sure_there old.state.table line.vdev p.place p.place_is may.sure;
      writable = may.writable;
      letter = may.letter;
      on = f.on;
      formats = λ j state told ready. subst (λ (z : Stamp). Formats old.world.told now.told unit state volid z f.made) when (f.formats j state told ready);
      changes = f.changes;
      state = ap (λ (x : AccessTable). record old.state { table = x; places = places }) f.table
          ∙ ap (λ (x : Places). record old.state { table = table_made old.state.table p.place unit line.letter f.made; places = x }) kept;
    })

-- the volume was made, and that is typed
pub made_good : (old : Spot) (now last : Seen) (t : AccessTable) (places : Places) (line : FormatLine) (volid : List ℕ) (unit : UnitInfo) (stamp : Stamp) (r : Result ⊤ DiskFault)
    (x : Result declared.Course End) → (may : MayRemake old.state line unit) → stamp ≡ stamp_of old.state.moment → Formatted old now t line volid unit stamp r → made_of r ≡ Ok true
    → ((p : Placed old.state line unit) → places ≡ places_left old.state p.place line.letter)
    → Does now last (saying (typed_line (message_text (M733 (decimal_of unit.unit.blocks) (letter_text line.letter) (device_text line.vdev))))) x said → IfOk x (λ c. c ≡ course.Went (pos 0))
    → Acts old (left old last t places) (remaking_tree old.state line volid) x (course_of (left old last t places).state)
made_good old now last t places line volid unit stamp r x may when formatted is kept does went =
    let p = placed old.state line unit may in
    let f = formatted p.place unit p.place_is p.unit_is in
    let w = was_made f.made (ap made_of (sym f.answer) ∙ is) in
    let mid = left old now t places in
    let new = left old last t places in
    let m = remade_so old now t places line volid unit stamp r (Ok w.0) may when p f w.1 (kept p) in
    acts_after old mid new (remaking_tree old.state line volid) (finished_tree mid.state line unit.unit.blocks) x (course_of new.state) (remade_done old mid line volid unit w.0 m)
    (refused mid new (M733 (decimal_of unit.unit.blocks) (letter_text line.letter) (device_text line.vdev)) (pos 0) x does went refl)

-- or the device failed, and that is typed
pub made_bad : (old : Spot) (now last : Seen) (t : AccessTable) (places : Places) (line : FormatLine) (volid : List ℕ) (unit : UnitInfo) (stamp : Stamp) (r : Result ⊤ DiskFault)
    (x : Result declared.Course End) → (may : MayRemake old.state line unit) → stamp ≡ stamp_of old.state.moment → Formatted old now t line volid unit stamp r → made_of r ≡ Ok false
    → ((p : Placed old.state line unit) → places ≡ places_left old.state p.place line.letter)
    → Does now last (saying (typed_line (message_text (M105 (device_text line.vdev))))) x said → IfOk x (λ c. c ≡ course.Went (pos 100))
    → Acts old (left old last t places) (remaking_tree old.state line volid) x (course_of (left old last t places).state)
made_bad old now last t places line volid unit stamp r x may when formatted is kept does went =
    let p = placed old.state line unit may in
    let f = formatted p.place unit p.place_is p.unit_is in
    let mid = left old now t places in
    let new = left old last t places in
    let comes : Comes old mid (remaking_tree old.state line volid) (failed_tree mid.state line) = ⊎_elim
    (λ (w : f.made ≡ Err failed.Device). remade_emptied old mid line volid unit (remade_so old now t places line volid unit stamp r (Err failed.Device) may when p f w (kept p)))
    (λ (w : f.made ≡ Err failed.InDoubt). remade_doubted old mid line volid unit (remade_so old now t places line volid unit stamp r (Err failed.InDoubt) may when p f w (kept p)))
    (has_failed f.made (ap made_of (sym f.answer) ∙ is)) in
    acts_after old mid new (remaking_tree old.state line volid) (failed_tree mid.state line) x (course_of new.state) comes
    (refused mid new (M105 (device_text line.vdev)) (pos 100) x does went refl)

-- or there was no memory
pub made_starved : (old : Spot) (now : Seen) (t : AccessTable) (st : State) (line : FormatLine) (volid : List ℕ) (unit : UnitInfo) (stamp : Stamp) (r : Result ⊤ DiskFault) (e : End)
    → MayRemake old.state line unit → Formatted old now t line volid unit stamp r → made_of r ≡ Err e → st.table ≡ t
    → Acts {T = declared.Course} old (spot_at now st) (remaking_tree old.state line volid) (Err e) (course_of st)
made_starved old now t st line volid unit stamp r e may formatted is there =
    let p = placed old.state line unit may in
    let f = formatted p.place unit p.place_is p.unit_is in
    let w = was_starved f.made e (ap made_of (sym f.answer) ∙ is) f.fault in
    let told = subst (λ (x : Result Accessed DiskFault). IfErr x (λ why. why ≡ failed.Memory → now.told ≡ old.world.told)) w.0 f.nothing refl in
    let edges = f.changes.edges in
    let none = w.1 in
    let same = there ∙ f.table ∙ ap (λ (m : Result Accessed DiskFault). table_made old.state.table p.place unit line.letter m) w.0 in
    rw none (cut_off old (spot_at now st) (remaking_tree old.state line volid) (course_of st) told f.changes.faults (omega (arith, edges)) same)
