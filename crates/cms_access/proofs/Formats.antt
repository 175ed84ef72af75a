-- FORMAT's tree, as the table says what is done.
use Rattle.std.proofs.Common.{◌≡◌, ◌≢◌, ◌<◌, ◌∙◌, ℕ, List, Result, Ok, refl, sym, ap, subst}
use Rattle.std.specs.Prelude.{Bool, true, false, Option, Some, None, IfOk, option_map, pos, slice_get, unwrap_or}
use Rattle.std.specs.Option.{option_and_then}
use Rattle.std.proofs.lemmas.Bool.{eq-eqb, ne_eqb}
use Rattle.cms_model.specs.Acts.{Act, saying, typed_line}
use Rattle.cms_model.specs.Slots.{Settled, Doubt, Slot}
use Rattle.cms_model.specs.Steps.{is_doubt}
use Rattle.cms_journal.specs.Journal.{Journal}
use Rattle.cms_line.specs.Messages.{message_text}
use Rattle.cms_line.specs.declared.message.Message.TheVariants.{M037, M069, M113, M115}
use Rattle.cms_line.specs.declared.token.Token.{Token}
use Rattle.cms_operands.specs.Operands.{device, ended, letter, needed, operands_of}
use Rattle.cms_world.specs.Seen.{Seen}
use Rattle.cms_disk.specs.declared.unit.UnitInfo.{UnitInfo}
use Rattle.cms_search.specs.Calls.{Acts, Does, Meaning, Spot, course_of, holds, machine_of, said, spot_at}
use Rattle.cms_search.specs.Held.{StandsAs, disk_of}
use Rattle.cms_search.specs.Machine.{Course, Letter, letter_at}
use Rattle.cms_search.specs.Refusals.{no_disk}
use Rattle.cms_search.specs.Searches.{item_at}
use Rattle.cms_search.specs.Shows.{device_of}
use Rattle.cms_search.specs.Tables.{AccessTable, Seated, letters_of, place_of_device, unit_of_device, writing}
use Rattle.cms_search.specs.Texts.{device_text, letter_text}
use Rattle.cms_search.specs.declared.state.Course as declared
use Rattle.cms_search.specs.declared.state.Course.TheVariants as course
use Rattle.cms_search.specs.declared.state.Device.{Device}
use Rattle.cms_search.specs.declared.state.End.{End}
use Rattle.cms_search.specs.declared.state.State.{State}
use Rattle.cms_search.specs.declared.table.Seat.{Seat}
use Rattle.cms_search.proofs.Acts.{acts_same}
use Rattle.cms_search.proofs.IdleEvents.{holds_some}
use Rattle.cms_search.proofs.Released.{get_map, letter_told, unit_told, vdev_is}
use Rattle.cms_search.proofs.StateCalls.{acts_refused}
use Rattle.cms_search.proofs.Letters.{letter_read as letter_below}
use Rattle.cms_access.specs.EmptyVolume.{is_marked}
use Rattle.cms_access.specs.Format.{asking_relabel, format_disk, format_line, format_operands, format_unit, formatting, in_place, in_slot, on_device, relabel, relabels, size_of}
use Rattle.cms_access.specs.declared.format.FormatLine.{FormatLine}
use Rattle.cms_access.specs.declared.format.Formatting.{Formatting}
use Rattle.cms_access.proofs.Lines.{bind_ok, then_ok}
use Rattle.cms_access.proofs.Releases.{no_place, some_place}

-- ---- the line's letter

pub operands_below : (operands : List Token) (line : FormatLine) → format_operands operands ≡ Ok line → line.letter < 26
unfolding format_operands
operands_below operands line is =
    let a = bind_ok (needed operands 1) _ line is in
    let b = bind_ok (device 1 a.0) _ line a.2 in
    let c = bind_ok (needed operands 2) _ line b.2 in
    let d = bind_ok (letter 2 c.0) _ line c.2 in
    let made : record { vdev = b.0; letter = d.0 } ≡ line = cc (then_ok (ended operands 3) _ line d.2) in
    subst (λ (l : FormatLine). l.letter < 26) made (letter_below 2 c.0 d.0 d.1)

pub line_below : (devices : List Device) (words : List Token) (asked : Formatting) → format_line devices words ≡ Ok asked → asked.line.letter < 26
line_below devices words asked is =
    let a = bind_ok (format_operands (operands_of words)) _ asked is in
    let b = bind_ok (relabels (size_of devices a.0.vdev) words) _ asked a.2 in
    let made : record { line = a.0; relabels = b.0 } ≡ asked = cc b.2 in
    subst (λ (f : Formatting). f.line.letter < 26) made (operands_below (operands_of words) a.0 a.1)

-- ---- the unit of a device

-- no unit has it
pub no_device_is : (st : State) (units : List Slot) (vdev : ℕ) (next : ℕ → Device → Slot → Act Course) → unit_of_device vdev st.table.units ≡ None
    → on_device (machine_of st units) vdev next ≡ in_place (machine_of st units) vdev next None
no_device_is st units vdev next none = ap (λ (x : Option ℕ). in_place (machine_of st units) vdev next x) (unit_told vdev st.table.units ∙ no_place vdev st.table.units none)

-- the unit in this place has it
device_is : (st : State) (units : List Slot) (vdev u : ℕ) (unit : UnitInfo) (slot : Slot) (next : ℕ → Device → Slot → Act Course) → place_of_device vdev st.table.units ≡ Some u
    → slice_get st.table.units u ≡ Some unit → slice_get units u ≡ Some slot → on_device (machine_of st units) vdev next ≡ next u (device_of unit) slot
device_is st units vdev u unit slot next place has there =
    let s = machine_of st units in
    ap (λ (x : Option ℕ). in_place s vdev next x) (unit_told vdev st.table.units ∙ place)
    ∙ ap (λ (x : Option Device). in_slot s vdev next u x (slice_get units u)) (get_map device_of st.table.units u ∙ ap (λ (x : Option UnitInfo). option_map device_of x) has)
    ∙ ap (λ (x : Option Slot). in_slot s vdev next u (Some (device_of unit)) x) there

mark_is : (t : AccessTable) (vdev u : ℕ) (b doubt : Bool) → place_of_device vdev t.units ≡ Some u → is_marked vdev t ≡ b → slice_get t.doubts u ≡ Some doubt → doubt ≡ b
mark_is t vdev u b doubt place marked has =
    sym (ap (λ (x : Option Bool). unwrap_or x false) has) ∙ ap (λ (p : Option ℕ). unwrap_or (option_and_then (λ v. slice_get t.doubts v) p) false) (sym place) ∙ marked

slot_is : (j : Journal) (u : ℕ) (unit : UnitInfo) (slot : Slot) (b : Bool) (x : Option Seated) → StandsAs j u unit slot b x → is_doubt slot ≡ b
slot_is j u unit (Settled state) true x is = absurd is
slot_is j u unit (Doubt before after side) true x is = refl
slot_is j u unit (Settled state) false x is = refl
slot_is j u unit (Doubt before after side) false None is = absurd is.0
slot_is j u unit (Doubt before after side) false (Some s) is = absurd (cc is.1)

-- the machine has the unit, and has it in doubt as the table does
record Met (st : State) (units : List Slot) (f : Formatting) (unit : UnitInfo) (b : Bool) : Type 0 where
  pub place : ℕ
  pub slot : Slot
  pub goes : format_disk (machine_of st units) f ≡ format_unit (machine_of st units) f place (device_of unit) slot
  pub doubt : is_doubt slot ≡ b

met : (old : Spot) (units : List Slot) (f : Formatting) (unit : UnitInfo) (b : Bool) → unit_of_device f.line.vdev old.state.table.units ≡ Some unit → is_marked f.line.vdev old.state.table ≡ b
    → holds old units → Met old.state units f unit b
met old units f unit b is marked h =
    let st = old.state in
    let t = st.table in
    let place = some_place f.line.vdev t.units unit is in
    let u = place.0 in
    let has : slice_get t.units u ≡ Some unit = ap (λ (p : Option ℕ). option_and_then (λ v. slice_get t.units v) p) (sym place.1) ∙ is in
    let held = holds_some old.world.told t units h in
    let line = held.2.each u unit has in
    let mark = mark_is t f.line.vdev u b line.doubt place.1 marked line.marked in
    record {
      place = u;
      slot = line.slot;
      goes = device_is st units f.line.vdev u unit line.slot (format_unit (machine_of st units) f) place.1 has line.there;
      doubt = slot_is held.0 u unit line.slot line.doubt (disk_of u t.seats) line.stands ∙ mark;
    }

abbrev disk_tree : State → Formatting → List Slot → Act Course
disk_tree st f units = format_disk (machine_of st units) f

pub format_missing : (before now : Seen) (st : State) (f : Formatting) (r : Result declared.Course End) → unit_of_device f.line.vdev st.table.units ≡ None
    → Does before now (saying (typed_line (message_text (M113 (device_text f.line.vdev))))) r said → IfOk r (λ c. c ≡ course.Went (pos no_disk))
    → Acts (spot_at before st) (spot_at now st) (disk_tree st f) r (course_of st)
format_missing before now st f r none does went =
    acts_refused (spot_at before st) (spot_at now st) (disk_tree st f) (M113 (device_text f.line.vdev)) (pos no_disk) r does went refl
    (λ units h. no_device_is st units f.line.vdev (format_unit (machine_of st units) f) none)

pub format_doubted : (before now : Seen) (st : State) (f : Formatting) (unit : UnitInfo) (r : Result declared.Course End) → unit_of_device f.line.vdev st.table.units ≡ Some unit
    → is_marked f.line.vdev st.table ≡ true
    → Does before now (saying (typed_line (message_text (M115 (device_text f.line.vdev))))) r said → IfOk r (λ c. c ≡ course.Went (pos no_disk))
    → Acts (spot_at before st) (spot_at now st) (disk_tree st f) r (course_of st)
format_doubted before now st f unit r is marked does went =
    let old : Spot = record { world = before; state = st } in
    acts_refused old (spot_at now st) (disk_tree st f) (M115 (device_text f.line.vdev)) (pos no_disk) r does went refl
    (λ units h. let m = met old units f unit true is marked h in m.goes ∙ (let e = m.doubt in rw e refl))

pub format_relabels : (old new : Spot) (f : Formatting) (unit : UnitInfo) (r : Result declared.Course End) (d : Meaning declared.Course Course)
    → unit_of_device f.line.vdev old.state.table.units ≡ Some unit → is_marked f.line.vdev old.state.table ≡ false → f.relabels ≡ true
    → Acts old new (λ units. relabel (machine_of old.state units) f.line (letter_at (machine_of old.state units) f.line.letter)) r d → Acts old new (disk_tree old.state f) r d
format_relabels old new f unit r d is marked chosen a =
    acts_same old new (disk_tree old.state f) (λ units. relabel (machine_of old.state units) f.line (letter_at (machine_of old.state units) f.line.letter)) r d
    (λ units h. let m = met old units f unit false is marked h in m.goes ∙ (let e = m.doubt in rw (e, chosen) refl)) a

pub format_makes : (old new : Spot) (f : Formatting) (unit : UnitInfo) (r : Result declared.Course End) (d : Meaning declared.Course Course)
    → unit_of_device f.line.vdev old.state.table.units ≡ Some unit → is_marked f.line.vdev old.state.table ≡ false → f.relabels ≡ false
    → Acts old new (λ units. formatting (machine_of old.state units) f.line (device_of unit)) r d → Acts old new (disk_tree old.state f) r d
format_makes old new f unit r d is marked chosen a =
    acts_same old new (disk_tree old.state f) (λ units. formatting (machine_of old.state units) f.line (device_of unit)) r d
    (λ units h. let m = met old units f unit false is marked h in m.goes ∙ (let e = m.doubt in rw (e, chosen) refl)) a

-- ---- a letter that is relabelled

abbrev relabel_tree : State → FormatLine → List Slot → Act Course
relabel_tree st line units = relabel (machine_of st units) line (letter_at (machine_of st units) line.letter)

-- what is told of the letter's disk
abbrev pub IsTold : State → ℕ → Seat → Type 0
IsTold st n told = (s : Seated) → item_at st.table.seats n ≡ Some s → (told.parent ≡ s.letter.parent) × (told.read_only ≡ s.letter.read_only)
    × (option_map (λ (unit : UnitInfo). unit.vdev) (slice_get st.table.units s.letter.unit) ≡ Some told.vdev)

pub there : (x : Option Seated) → (x ≡ None → ⊥) → (s : Seated) × (x ≡ Some s)
there None some = absurd (some refl)
there (Some s) some = (s, refl)

relabel_on : (st : State) (units : List Slot) (line : FormatLine) (s : Seated) → item_at st.table.seats line.letter ≡ Some s
    → relabel_tree st line units ≡ relabel (machine_of st units) line (Some s.letter)
relabel_on st units line s at =
    ap (λ (x : Option Letter). relabel (machine_of st units) line x) (letter_told st.table.seats line.letter ∙ ap (λ (y : Option Seated). option_map (λ (z : Seated). z.letter) y) at)

pub relabel_missing : (before now : Seen) (st : State) (line : FormatLine) (r : Result declared.Course End) → item_at st.table.seats line.letter ≡ None
    → Does before now (saying (typed_line (message_text (M069 (letter_text line.letter))))) r said → IfOk r (λ c. c ≡ course.Went (pos no_disk))
    → Acts (spot_at before st) (spot_at now st) (relabel_tree st line) r (course_of st)
relabel_missing before now st line r none does went =
    acts_refused (spot_at before st) (spot_at now st) (relabel_tree st line) (M069 (letter_text line.letter)) (pos no_disk) r does went refl
    (λ units h. ap (λ (x : Option Letter). relabel (machine_of st units) line x)
    (letter_told st.table.seats line.letter ∙ ap (λ (y : Option Seated). option_map (λ (z : Seated). z.letter) y) none))

-- it has another device
pub relabel_other : (before now : Seen) (st : State) (line : FormatLine) (told : Seat) (r : Result declared.Course End) → (item_at st.table.seats line.letter ≡ None → ⊥)
    → IsTold st line.letter told → told.vdev ≢ line.vdev
    → Does before now (saying (typed_line (message_text (M069 (letter_text line.letter))))) r said → IfOk r (λ c. c ≡ course.Went (pos no_disk))
    → Acts (spot_at before st) (spot_at now st) (relabel_tree st line) r (course_of st)
relabel_other before now st line told r some is other does went =
    let seat = there (item_at st.table.seats line.letter) some in
    acts_refused (spot_at before st) (spot_at now st) (relabel_tree st line) (M069 (letter_text line.letter)) (pos no_disk) r does went refl
    (λ units h.
    let vdev = vdev_is st units seat.0.letter.unit told.vdev (is seat.0 seat.1).2 in
    let no = ne_eqb told.vdev line.vdev other in
    relabel_on st units line seat.0 seat.1 ∙ (rw (vdev, no) refl))

-- it may only be read
pub relabel_locked : (before now : Seen) (st : State) (line : FormatLine) (told : Seat) (r : Result declared.Course End) → (item_at st.table.seats line.letter ≡ None → ⊥)
    → IsTold st line.letter told → told.vdev ≡ line.vdev → told.read_only ≡ true
    → Does before now (saying (typed_line (message_text (M037 (letter_text line.letter))))) r said → IfOk r (λ c. c ≡ course.Went (pos no_disk))
    → Acts (spot_at before st) (spot_at now st) (relabel_tree st line) r (course_of st)
relabel_locked before now st line told r some is same locked does went =
    let seat = there (item_at st.table.seats line.letter) some in
    acts_refused (spot_at before st) (spot_at now st) (relabel_tree st line) (M037 (letter_text line.letter)) (pos no_disk) r does went refl
    (λ units h.
    let vdev = vdev_is st units seat.0.letter.unit told.vdev (is seat.0 seat.1).2 in
    let yes = eq-eqb told.vdev line.vdev same in
    let only = sym (is seat.0 seat.1).1 ∙ locked in
    relabel_on st units line seat.0 seat.1 ∙ (rw (vdev, yes, only) refl))

-- it may be relabelled
pub relabel_writes : (st : State) (n : ℕ) (told : Seat) → (item_at st.table.seats n ≡ None → ⊥) → IsTold st n told → told.read_only ≡ false → writing (item_at (letters_of st.table) n) n ≡ Ok tt
relabel_writes st n told some is free =
    let seat = there (item_at st.table.seats n) some in
    let letter = letter_told st.table.seats n ∙ ap (λ (y : Option Seated). option_map (λ (z : Seated). z.letter) y) seat.1 in
    let only = sym (is seat.0 seat.1).1 ∙ free in
    ap (λ (x : Option Letter). writing x n) letter ∙ (rw only refl)

pub relabel_goes : (old new : Spot) (line : FormatLine) (told : Seat) (r : Result declared.Course End) (d : Meaning declared.Course Course)
    → (item_at old.state.table.seats line.letter ≡ None → ⊥) → IsTold old.state line.letter told → told.vdev ≡ line.vdev → told.read_only ≡ false
    → Acts old new (λ units. asking_relabel line.letter (machine_of old.state units)) r d → Acts old new (relabel_tree old.state line) r d
relabel_goes old new line told r d some is same free a =
    let st = old.state in
    let seat = there (item_at st.table.seats line.letter) some in
    acts_same old new (relabel_tree st line) (λ units. asking_relabel line.letter (machine_of st units)) r d
    (λ units h.
    let vdev = vdev_is st units seat.0.letter.unit told.vdev (is seat.0 seat.1).2 in
    let yes = eq-eqb told.vdev line.vdev same in
    let only = sym (is seat.0 seat.1).1 ∙ free in
    relabel_on st units line seat.0 seat.1 ∙ (rw (vdev, yes, only) refl)) a
