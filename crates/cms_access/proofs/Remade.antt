-- An empty volume is made on a unit, as the machine's two steps, and what is held behind them.
use Rattle.std.proofs.Common.{◌≡◌, ◌≢◌, ◌<◌, ◌∙◌, inl, inr, ⊎_elim, ℕ, zero, suc, List, [], ◌∷◌, ◌++◌, length, Result, Ok, Err, refl, sym, ap, subst, arith, true≢false}
use Rattle.std.specs.Prelude.{IfOk, Bool, true, false, ◌==◌, Option, Some, None, pos, option_map, slice_get, slice_set}
use Rattle.std.proofs.lemmas.Bool.{eq-eqb}
use Rattle.std.proofs.lemmas.Option.{same_Some, slice_get_within}
use Rattle.cms_journal.specs.declared.event.Event.{Event}
use Rattle.cms_journal.specs.Causes.{Counted}
use Rattle.cms_journal.specs.Journal.{Journal}
use Rattle.cms_journal.specs.Told.{IsOfUnit, OnlyOf, Told, plus}
use Rattle.cms_journal.proofs.Counts.{counted_none, counted_one}
use Rattle.cms_journal.proofs.Events.{all_join}
use Rattle.cms_journal.proofs.Pieces.{plus_plus}
use Rattle.cms_fields.specs.Moments.{stamp_of}
use Rattle.cms_text.specs.Numbers.{decimal_of}
use Rattle.cms_model.specs.LawsSizes.{IsWhole}
use Rattle.cms_model.specs.LawsUpdates.{after, now}
use Rattle.cms_model.specs.Minidisks as disks
use Rattle.cms_model.specs.Minidisks.{Not, Volume}
use Rattle.cms_model.specs.Settled.{IsFirm}
use Rattle.cms_model.specs.Volumes as volumes
use Rattle.cms_model.specs.Volumes.{state_of}
use Rattle.cms_model.specs.Acts.{Act, Done, Does, Out, typed_line}
use Rattle.cms_model.specs.Beats.{Covers, KeepsConsole}
use Rattle.cms_model.specs.Points.{HasNow, Leaves, Point}
use Rattle.cms_model.specs.Runs.{Ran}
use Rattle.cms_model.specs.Slots.{Doubt, IsAmong, Side, Settled, Slot, set_of, state_in, unit_set}
use Rattle.cms_model.specs.Steps.{EitherFault, Good, IsOf, Make, OldFault, Outcome, Step, Wipe, faults_in, new_slot, slot_after, unit_of, units_after}
use Rattle.cms_model.proofs.Join.{ran_then}
use Rattle.cms_model.proofs.Single.{ran_step}
use Rattle.cms_model.proofs.Units.{get_other, get_same, other_slot, units_put}
use Rattle.cms_line.specs.ConsoleState.{Console}
use Rattle.cms_line.specs.Messages.{message_text}
use Rattle.cms_line.specs.declared.message.Message.TheVariants.{M105, M733}
use Rattle.cms_world.specs.Seen.{ChangesUnits}
use Rattle.cms_disk.specs.Changes.{HasState, IsDevices, IsWholeAt}
use Rattle.cms_disk.specs.CrashStates.{LooksAs}
use Rattle.cms_disk.specs.Disks.{Accessed, IsMinidisk, IsOn, IsQuiet, disk_on}
use Rattle.cms_disk.specs.EmptyMinidisks as makes
use Rattle.cms_disk.specs.EmptyMinidisks.{Doubted, Emptied, Formats, IsReady, Made, empty_on}
use Rattle.cms_disk.specs.declared.fault.DiskFault.{DiskFault}
use Rattle.cms_disk.specs.declared.fault.DiskFault.TheVariants as failed
use Rattle.cms_disk.specs.declared.unit.UnitInfo.{UnitInfo}
use Rattle.cms_disk.proofs.CrashStates.{covers_looked}
use Rattle.cms_search.specs.Calls.{Comes, Holds, IsLater, IsSeatOf, IsUsable, IsUsableTable, Spot, Usable, at, holds, machine_of, refusal_tree}
use Rattle.cms_search.specs.Format as formatting
use Rattle.cms_search.specs.Format.{table_made}
use Rattle.cms_search.specs.Held.{HoldsTable, HoldsUnit, IsDoubtSlot, IsSettledSlot, StandsAs, disk_of}
use Rattle.cms_search.specs.Machine.{Course, Letter, Machine, Places, Went, after_step, letter_at}
use Rattle.cms_search.specs.Searches.{item_at}
use Rattle.cms_search.specs.Shows.{device_of}
use Rattle.cms_search.specs.Tables as tables
use Rattle.cms_search.specs.Tables.{AccessTable, IsTable, Seated, cleared, letter_for, letters_of, marked, place_of_device, without}
use Rattle.cms_search.specs.Texts.{device_text, letter_text}
use Rattle.cms_search.specs.Units.{forgotten, left_by, released}
use Rattle.cms_search.specs.declared.state.Device.{Device}
use Rattle.cms_search.specs.declared.state.State.{State}
use Rattle.cms_search.proofs.Changes.{slot_there, told_after}
use Rattle.cms_search.proofs.Frames.{holds_touched}
use Rattle.cms_search.proofs.IdleEvents.{holds_some, usable_grown}
use Rattle.cms_search.proofs.Released.{disk_none, get_map, holds_left, quiet_seated, unit_told}
use Rattle.cms_search.proofs.Seats.{letters_cleared}
use Rattle.cms_search.proofs.SeatsTaken.{disk_beside, disk_seated, disk_without, letters_seated, letters_without}
use Rattle.cms_search.proofs.Tables.{get_some, item_put, item_without, stays, table_accessed, table_vacated}
use Rattle.cms_access.specs.Format.{accessed, in_place, in_slot, made, remaking, remaking_in, vacated, wiped, wiping}
use Rattle.cms_access.specs.declared.format.FormatLine.{FormatLine}

-- ---- a unit and a letter that are released

abbrev of_unit : ℕ → Letter → Bool
of_unit u d = d.unit == u

item_gone : {A : Type 0} (p : A → Bool) (xs : List (Option A)) (n : ℕ) → item_at (without p (cleared n xs)) n ≡ None
item_gone p [] n = refl
item_gone p (x ∷ xs) zero = refl
item_gone p (x ∷ xs) (suc n) = item_gone p xs n

gone_twice : {A : Type 0} (p : A → Bool) (xs : List (Option A)) (n : ℕ) → cleared n (without p (cleared n xs)) ≡ without p (cleared n xs)
gone_twice p [] n = refl
gone_twice p (x ∷ xs) zero = refl
gone_twice {A = A} p (x ∷ xs) (suc n) = ap (λ (l : List (Option A)). without p (x ∷ []) ++ l) (gone_twice p xs n)

put_gone : {A : Type 0} (p : A → Bool) (xs : List (Option A)) (n : ℕ) (v : Option A) → slice_set (without p (cleared n xs)) n v ≡ slice_set (without p xs) n v
put_gone p [] n v = refl
put_gone p (x ∷ xs) zero v = refl
put_gone {A = A} p (x ∷ xs) (suc n) v = ap (λ (l : List (Option A)). without p (x ∷ []) ++ l) (put_gone p xs n v)

-- the letters and the reading places then
abbrev letters_left : State → ℕ → ℕ → List (Option Letter)
letters_left st u n = without (of_unit u) (cleared n (letters_of st.table))

abbrev pub places_left : State → ℕ → ℕ → Places
places_left st u n = (vacated u n (machine_of st [])).places

abbrev machine_left : State → ℕ → ℕ → List Slot → Machine
machine_left st u n units = record (machine_of st units) { letters = letters_left st u n; places = places_left st u n }

vacated_is : (st : State) (u n : ℕ) (units : List Slot) → vacated u n (machine_of st units) ≡ machine_left st u n units
vacated_is st u n units = go (item_at (letters_of st.table) n)
  where
    go : (x : Option Letter) → left_by u (record (forgotten x (machine_of st units)) { letters = cleared n (letters_of st.table) })
        ≡ record (machine_of st units) {
          letters = letters_left st u n;
          places = (left_by u (record (forgotten x (machine_of st [])) { letters = cleared n (letters_of st.table) })).places;
        }
    go None = refl
    go (Some d) = refl

-- a letter that has no disk is released
released_none : (s : Machine) (n : ℕ) → letter_at s n ≡ None → cleared n s.letters ≡ s.letters → released n s ≡ s
released_none s n none same =
    ap (λ (x : Option Letter). record (forgotten x s) { letters = cleared n s.letters }) none ∙ ap (λ (l : List (Option Letter)). record s { letters = l }) same

released_left : (st : State) (u n : ℕ) (units : List Slot) → released n (machine_left st u n units) ≡ machine_left st u n units
released_left st u n units =
    released_none (machine_left st u n units) n (item_gone (of_unit u) (letters_of st.table) n) (gone_twice (of_unit u) (letters_of st.table) n)

-- the program's state then
abbrev pub state_made : State → ℕ → UnitInfo → ℕ → Result Accessed DiskFault → State
state_made st u unit n made = record st { table = table_made st.table u unit n made; places = places_left st u n }

letters_failed : (t : AccessTable) (u n : ℕ) (doubt : Bool) → letters_of (formatting.vacated u n (marked u doubt t)) ≡ without (of_unit u) (cleared n (letters_of t))
letters_failed t u n doubt = letters_without u (cleared n t.seats) ∙ ap (λ (l : List (Option Letter)). without (of_unit u) l) (letters_cleared t.seats n)

machine_failed : (st : State) (u n : ℕ) (doubt : Bool) (units : List Slot)
    → machine_of (record st { table = formatting.vacated u n (marked u doubt st.table); places = places_left st u n }) units ≡ machine_left st u n units
machine_failed st u n doubt units =
    ap (λ (l : List (Option Letter)). record (machine_of st units) { letters = l; places = places_left st u n }) (letters_failed st.table u n doubt)

machine_made : (st : State) (u n : ℕ) (unit : UnitInfo) (d : Accessed) (units : List Slot) → unit.writable ≡ true
    → machine_of (state_made st u unit n (Ok d)) units ≡ accessed u n (machine_left st u n units)
machine_made st u n unit d units writable =
    let letter : letter_for u unit.writable n None ≡ letter_for u true n None = ap (λ (b : Bool). letter_for u b n None) writable in
    let seat : Seated = record { letter = letter_for u unit.writable n None; disk = d; reading = None } in
    let letters = letters_seated st.table.seats n seat
    ∙ ap (λ (l : Letter). slice_set (without (of_unit u) (letters_of st.table)) n (Some l)) letter
    ∙ sym (put_gone (of_unit u) (letters_of st.table) n (Some (letter_for u true n None))) in
    ap (λ (l : List (Option Letter)). record (machine_of st units) { letters = l; places = places_left st u n }) letters

-- ---- the unit at the start

-- the line of a unit that isn't in doubt, and what is on it
record Found (old : Spot) (units : List Slot) (u : ℕ) (unit : UnitInfo) : Type 0 where
  pub journal : Journal
  pub told : old.world.told ≡ Some journal
  pub table : HoldsTable journal units old.state.table
  pub line : HoldsUnit journal units old.state.table u unit
  pub before : disks.State
  pub slot : slice_get units u ≡ Some (Settled before)
  pub ready : IsReady journal unit before

is_settled : (slot : Slot) → IsSettledSlot slot → slot ≡ Settled (state_in slot)
is_settled (Settled state) is = refl
is_settled (Doubt before after side) is = absurd is

found : (old : Spot) (units : List Slot) (u : ℕ) (unit : UnitInfo) → slice_get old.state.table.units u ≡ Some unit
    → ((doubt : Bool) → slice_get old.state.table.doubts u ≡ Some doubt → doubt ≡ false) → holds old units → Found old units u unit
found old units u unit has sure h =
    let held = holds_some old.world.told old.state.table units h in
    let j = held.0 in
    let t = old.state.table in
    let line = held.2.each u unit has in
    let mark : line.doubt ≡ false = sure line.doubt line.marked in
    let stands = alone j u unit line.slot (disk_of u t.seats) line.number (subst (λ (b : Bool). StandsAs j u unit line.slot b (disk_of u t.seats)) mark line.stands) in
    let within = slice_get_within t.units u unit has in
    let long = held.2.all in
    let attached = get_some j.units u (omega (arith, within, long)) in
    let seen = line.seen attached.0 (subst (λ (v : ℕ). slice_get j.units v ≡ Some attached.0) (sym line.number) attached.1) in
    let state : state_in line.slot ≡ state_of (volumes.disk_of attached.0) (now j u) = line.has _ (record { unit = attached.0; attached = attached.1; state = refl }) in
    record {
      journal = j;
      told = held.1;
      table = held.2;
      line = line;
      before = state_in line.slot;
      slot = line.there ∙ ap (λ (x : Slot). Some x) (is_settled line.slot stands.0);
      ready = record {
        whole = subst (λ (v : ℕ). IsWhole (disk_on unit) (now j v)) (sym line.number) line.whole;
        quiet = subst (λ (v : ℕ). IsQuiet (disk_on unit) j v) (sym line.number) stands.1;
        state = ap (λ (v : ℕ). state_of (disk_on unit) (now j v)) line.number ∙ ap (λ (k : volumes.Disk). state_of k (now j u)) (sym seen) ∙ sym state;
      };
    }
  where
    alone : (j : Journal) (u : ℕ) (unit : UnitInfo) (slot : Slot) (x : Option Seated) → unit.unit.number ≡ u → StandsAs j u unit slot false x → StandsAs j u unit slot false None
    alone j u unit slot None number is = is
    alone j u unit slot (Some s) number is = quiet_seated j u unit slot s number is

-- ---- a step on the unit

-- what is looked at of the unit
abbrev Sees : Journal → ℕ → UnitInfo → Type 0
Sees j u unit = LooksAs j u (disk_on unit)

-- its contents have the state that is told of them
has_state : (new : Told) (j : Journal) (es : List Event) (u : ℕ) (unit : UnitInfo) (state x : disks.State) → new ≡ Some (after j es) → Sees j u unit → HasState new (disk_on unit) u state
    → HasNow new u x → state ≡ x
has_state new j es u unit state x is sees left has =
    let seen = subst (λ (t : Told). HasNow t u x) is has in
    let state_is = subst (λ (t : Told). HasState t (disk_on unit) u state) is left in
    sym state_is ∙ ap (λ (k : volumes.Disk). state_of k (now (after j es) u)) (sym (sees seen.unit seen.attached)) ∙ seen.state

sees_own : (old : Spot) (units : List Slot) (u : ℕ) (unit : UnitInfo) (f : Found old units u unit) → Sees f.journal u unit
sees_own old units u unit f attached is = f.line.seen attached (subst (λ (v : ℕ). slice_get f.journal.units v ≡ Some attached) (sym f.line.number) is)

-- the slot of the unit behind it
slot_then : (units : List Slot) (before : disks.State) (s : Step) (o : Outcome) → slice_get units (unit_of s) ≡ Some (Settled before)
    → slice_get (units_after units s o) (unit_of s) ≡ Some (slot_after (Settled before) s o)
slot_then units before s o there = slot_there units (unit_of s) (Settled before) (new_slot s o) there

did_ran : {R : Type 0} (p m : Point) (j : Journal) (unit : UnitInfo) (before : disks.State) (s : Step) (o : Outcome) (k : Outcome → Act R) → p.journal ≡ Some j → Sees j (unit_of s) unit
    → makes.Does p.journal m.journal (disk_on unit) before s o → slice_get p.units (unit_of s) ≡ Some (Settled before) → IsOf s (slice_get p.units (unit_of s)) → m.units ≡ units_after p.units s o
    → Counted p.faults (faults_in (o ∷ [])) m.faults → KeepsConsole p m → m.objects ≡ p.objects → Ran p m (Does s k) (k o)
did_ran p m j unit before s o k is sees d there speaks units counted console objects =
    let u = unit_of s in
    let slot : slice_get m.units u ≡ Some (slot_after (Settled before) s o) = ap (λ (l : List Slot). slice_get l u) units ∙ slot_then p.units before s o there in
    let first : unit_set p.units u ≡ set_of (Settled before) = rw there refl in
    let behind : unit_set m.units u ≡ set_of (slot_after (Settled before) s o) = rw slot refl in
    let seen = covers_looked (disk_on unit) p.journal j d.events u (set_of (Settled before)) (set_of (slot_after (Settled before) s o)) is sees d.covers in
    let covers : Covers p.journal d.events u (unit_set p.units u) (unit_set m.units u) = rw (first, behind) seen in
    ran_step p m s o k d.events d.told counted d.of_unit d.fits speaks units console objects (λ sound. covers)
    (λ sound x has. ap (λ (z : Option Slot). option_map state_in z) slot
    ∙ ap (λ (y : disks.State). Some y) (has_state m.journal j d.events u unit (state_in (slot_after (Settled before) s o)) x (told_after p.journal m.journal j d.events is d.told) sees d.left has))

-- ---- the unit behind the steps

record Touched (old new : Told) (units units' : List Slot) (u : ℕ) (unit : UnitInfo) (slot : Slot) : Type 0 where
  pub events : List Event
  pub told : new ≡ plus old events
  pub only : OnlyOf u events
  pub there : slice_get units' u ≡ Some slot
  pub others : (v : ℕ) → u ≢ v → slice_get units' v ≡ slice_get units v
  pub long : length units' ≡ length units
  pub whole : IsWholeAt new (disk_on unit) u
  pub crash : (x : disks.State) → Leaves new u x → IsAmong x (set_of slot)
  pub has : (x : disks.State) → HasNow new u x → state_in slot ≡ x

touched : (old new : Told) (j : Journal) (units : List Slot) (unit : UnitInfo) (before : disks.State) (s : Step) (o : Outcome) → old ≡ Some j → Sees j (unit_of s) unit
    → makes.Does old new (disk_on unit) before s o → slice_get units (unit_of s) ≡ Some (Settled before)
    → Touched old new units (units_after units s o) (unit_of s) unit (slot_after (Settled before) s o)
touched old new j units unit before s o is sees d there = record {
  events = d.events;
  told = d.told;
  only = d.of_unit;
  there = slot_then units before s o there;
  others = λ v apart. other_slot units (unit_of s) v (new_slot s o) apart;
  long = units_put units (unit_of s) (new_slot s o);
  whole = d.whole;
  crash = λ x left. (covers_looked (disk_on unit) old j d.events (unit_of s) (set_of (Settled before)) (set_of (slot_after (Settled before) s o)) is sees d.covers).whole x (subst (λ (t : Told). Leaves t (unit_of s) x) d.told left);
  has = λ x has. has_state new j d.events (unit_of s) unit (state_in (slot_after (Settled before) s o)) x (told_after old new j d.events is d.told) sees d.left has;
}

touched_then : (old mid new : Told) (units units' units'' : List Slot) (u : ℕ) (unit : UnitInfo) (slot slot' : Slot)
    → Touched old mid units units' u unit slot → Touched mid new units' units'' u unit slot'
    → Touched old new units units'' u unit slot'
touched_then old mid new units units' units'' u unit slot slot' a b = record {
  events = a.events ++ b.events;
  told = b.told ∙ ap (λ (t : Told). plus t b.events) a.told ∙ plus_plus old a.events b.events;
  only = all_join (IsOfUnit u) a.events b.events a.only b.only;
  there = b.there;
  others = λ v apart. b.others v apart ∙ a.others v apart;
  long = b.long ∙ a.long;
  whole = b.whole;
  crash = b.crash;
  has = b.has;
}

-- other units have the marks and disks that they have where letter n is released
abbrev KeepsOthers : AccessTable → AccessTable → ℕ → ℕ → Type 0
KeepsOthers t t' u n = (v : ℕ) → u ≢ v → (slice_get t'.doubts v ≡ slice_get t.doubts v) × (disk_of v t'.seats ≡ disk_of v (cleared n t.seats))

-- what is held then
holds_then : (old new : Told) (j : Journal) (units units' : List Slot) (t t' : AccessTable) (u n : ℕ) (unit : UnitInfo) (slot : Slot) (doubt : Bool) → old ≡ Some j → HoldsTable j units t
    → slice_get t.units u ≡ Some unit → (x : Touched old new units units' u unit slot) → IsTable t' → t'.units ≡ t.units → KeepsOthers t t' u n → slice_get t'.doubts u ≡ Some doubt
    → StandsAs (after j x.events) u unit slot doubt (disk_of u t'.seats) → Holds new t' units'
holds_then old new j units units' t t' u n unit slot doubt is h has x table same others marked' stands =
    let told = told_after old new j x.events is x.told in
    let first = holds_left j units t n h in
    let line = first.each u unit has in
    rw told
    (holds_touched j x.events units units' (tables.released n t) t' u unit x.only table same x.long has
    (λ v apart. record { slot = x.others v apart; doubt = (others v apart).0; disk = (others v apart).1 })
    (record {
      number = line.number;
      blocks = line.blocks;
      writable = line.writable;
      seen = line.seen;
      whole = subst (λ (t : Told). IsWholeAt t (disk_on unit) u) told x.whole;
      slot = slot;
      there = x.there;
      doubt = doubt;
      marked = marked';
      stands = stands;
      crash = λ y left. x.crash y (subst (λ (t : Told). Leaves t u y) (sym told) left);
      has = λ y has. x.has y (subst (λ (t : Told). HasNow t u y) (sym told) has);
    })
    first)

-- ---- the table then

others_failed : (t : AccessTable) (u n : ℕ) (doubt : Bool) → KeepsOthers t (formatting.vacated u n (marked u doubt t)) u n
others_failed t u n doubt v apart = (get_other t.doubts u v doubt (λ same. apart (sym same)), disk_without u v (cleared n t.seats) apart)

others_made : (t : AccessTable) (u n : ℕ) (s : Seated) → s.letter.unit ≡ u → KeepsOthers t (tables.seated n s (marked u false t)) u n
others_made t u n s own v apart =
    (get_other t.doubts u v false (λ same. apart (sym same)), disk_beside v n s t.seats (λ same. apart (sym own ∙ same)))

-- the unit stands on no letter
none_failed : (t : AccessTable) (u n : ℕ) (doubt : Bool) → disk_of u (formatting.vacated u n (marked u doubt t)).seats ≡ None
none_failed t u n doubt = disk_none u (formatting.vacated u n (marked u doubt t)).seats
    (λ a x is same. true≢false (sym (eq-eqb x.letter.unit u same) ∙ (item_without (λ (e : Seated). e.letter.unit == u) (cleared n t.seats) a x is).1))

marked_there : (t : AccessTable) (u : ℕ) (unit : UnitInfo) (doubt : Bool) → IsTable t → slice_get t.units u ≡ Some unit → slice_get (slice_set t.doubts u doubt) u ≡ Some doubt
marked_there t u unit doubt is has =
    let within = slice_get_within t.units u unit has in
    let long = is.doubts in
    get_same t.doubts u u doubt (omega (arith, within, long)) refl

-- what may be used may be used still
usable_failed : (j : Journal) (t : AccessTable) (u n : ℕ) (doubt : Bool) → IsUsableTable j t → IsUsableTable j (formatting.vacated u n (marked u doubt t))
usable_failed j t u n doubt usable = record {
  units = usable.units;
  seats = λ a x unit is has. usable.seats a x unit (stays t n a x (item_without (λ (e : Seated). e.letter.unit == u) (cleared n t.seats) a x is).0).1 has;
}

usable_made : (j : Journal) (t : AccessTable) (u n : ℕ) (unit : UnitInfo) (s : Seated) → s.letter.unit ≡ u → slice_get t.units u ≡ Some unit → IsSeatOf unit s → IsUsableTable j t
    → IsUsableTable j (tables.seated n s (marked u false t))
usable_made j t u n unit s own has seat usable = record {
  units = usable.units;
  seats = λ a x info is has_info. ⊎_elim
      (λ (h : (a ≡ n) × (Some s ≡ Some x)).
      let one = same_Some s x h.1 in
      let same : unit ≡ info = same_Some unit info
      (sym has ∙ ap (λ (v : ℕ). slice_get t.units v) (sym own ∙ ap (λ (y : Seated). y.letter.unit) one) ∙ has_info) in
      subst (λ (i : UnitInfo). IsSeatOf i x) same (subst (IsSeatOf unit) one seat))
      (λ (h : (a ≢ n) × (item_at (without (λ (e : Seated). e.letter.unit == s.letter.unit) t.seats) a ≡ Some x)).
      usable.seats a x info (item_without (λ (e : Seated). e.letter.unit == s.letter.unit) t.seats a x h.1).0 has_info)
      (item_put (without (λ (e : Seated). e.letter.unit == s.letter.unit) t.seats) n (Some s) a x is);
}

-- ---- what was asked for

-- the volume was made on the unit of the line's device, or the device failed; mid is behind that
pub record Remade (old mid : Spot) (line : FormatLine) (volid : List ℕ) (unit : UnitInfo) (made : Result Accessed DiskFault) : Type 0 where
  pub place : ℕ
  pub place_is : place_of_device line.vdev old.state.table.units ≡ Some place
  pub unit_is : slice_get old.state.table.units place ≡ Some unit
  pub sure : (doubt : Bool) → slice_get old.state.table.doubts place ≡ Some doubt → doubt ≡ false
  pub writable : unit.writable ≡ true
  pub letter : line.letter < 26
  pub on : IfOk made (IsOn unit)
  pub formats : (j : Journal) (state : disks.State) → old.world.told ≡ Some j → IsReady j unit state
      → Formats old.world.told mid.world.told unit state volid (stamp_of old.state.moment) made
  pub changes : ChangesUnits old.world mid.world IsDevices made
  pub state : mid.state ≡ state_made old.state place unit line.letter made

tree_is : (st : State) (units : List Slot) (line : FormatLine) (volid : List ℕ) (u : ℕ) (unit : UnitInfo) (before : disks.State) → place_of_device line.vdev st.table.units ≡ Some u
    → slice_get st.table.units u ≡ Some unit → slice_get units u ≡ Some (Settled before)
    → remaking line (machine_of st units) volid ≡ wiping (machine_left st u line.letter units) u line (empty_on unit volid) (Wipe u before)
tree_is st units line volid u unit before place has slot =
    let s = machine_of st units in
    let next = remaking_in s line volid in
    ap (λ (x : Option ℕ). in_place s line.vdev next x) (unit_told line.vdev st.table.units ∙ place)
    ∙ ap (λ (x : Option Device). in_slot s line.vdev next u x (slice_get units u)) (get_map device_of st.table.units u ∙ ap (λ (x : Option UnitInfo). option_map device_of x) has)
    ∙ ap (λ (x : Option Slot). in_slot s line.vdev next u (Some (device_of unit)) x) slot
    ∙ ap (λ (z : Machine). wiping z u line (empty_on unit volid) (Wipe u before)) (vacated_is st u line.letter units)

-- the console is as before
keeps_console : (old mid : Spot) (p m : Point) → p.unread ≡ old.state.console.unread → p.ended ≡ old.state.console.ended → m.unread ≡ mid.state.console.unread
    → m.ended ≡ mid.state.console.ended → mid.state.console ≡ old.state.console → KeepsConsole p m
keeps_console old mid p m unread ended unread' ended' console = record {
  unread = unread' ∙ ap (λ (c : Console). c.unread) console ∙ sym unread;
  ended = ended' ∙ ap (λ (c : Console). c.ended) console ∙ sym ended;
}

abbrev wiped_units : List Slot → ℕ → disks.State → List Slot
wiped_units units u before = units_after units (Wipe u before) Good

abbrev make_of : State → ℕ → UnitInfo → List ℕ → Step
make_of st u unit volid = Make u (Not 2) (empty_on unit volid) (stamp_of st.moment)

-- the units behind both steps
abbrev made_units : State → List Slot → ℕ → UnitInfo → List ℕ → disks.State → Outcome → List Slot
made_units st units u unit volid before o = units_after (wiped_units units u before) (make_of st u unit volid) o

-- the wiping failed
wipe_ran : (old mid : Spot) (units : List Slot) (line : FormatLine) (volid : List ℕ) (u : ℕ) (unit : UnitInfo) (f : Found old units u unit) (side : Side)
    → makes.DoesWipe old.world.told mid.world.told unit f.before (EitherFault side) → Counted old.world.faults 1 mid.world.faults → mid.state.console ≡ old.state.console
    → Ran (at old units) (at mid (units_after units (Wipe u f.before) (EitherFault side)))
    (wiping (machine_left old.state u line.letter units) u line (empty_on unit volid) (Wipe u f.before))
    (wiped (machine_left old.state u line.letter (units_after units (Wipe u f.before) (EitherFault side))) u line (empty_on unit volid) (EitherFault side))
wipe_ran old mid units line volid u unit f side d counted console =
    let z = machine_left old.state u line.letter units in
    let m = empty_on unit volid in
    let step = Wipe u f.before in
    did_ran (at old units) (at mid (units_after units step (EitherFault side))) f.journal unit f.before step (EitherFault side) (λ o. wiped (after_step z step o) u line m o) f.told
    (sees_own old units u unit f) (subst (λ (v : ℕ). makes.Does old.world.told mid.world.told (disk_on unit) f.before (Wipe v f.before) (EitherFault side)) f.line.number d)
    f.slot f.slot refl counted (keeps_console old mid (at old units) (at mid (units_after units step (EitherFault side))) refl refl refl refl console) refl

-- both steps were done, the second with this outcome
both_ran : (old mid : Spot) (units : List Slot) (line : FormatLine) (volid : List ℕ) (u : ℕ) (unit : UnitInfo) (f : Found old units u unit) (o : Outcome)
    → makes.DoesBoth old.world.told mid.world.told unit f.before volid (stamp_of old.state.moment) o → Counted old.world.faults (faults_in (o ∷ [])) mid.world.faults
    → mid.state.console ≡ old.state.console
    → Ran (at old units) (at mid (made_units old.state units u unit volid f.before o))
    (wiping (machine_left old.state u line.letter units) u line (empty_on unit volid) (Wipe u f.before))
    (made (machine_left old.state u line.letter (made_units old.state units u unit volid f.before o)) u line unit.unit.blocks o)
both_ran old mid units line volid u unit f o d counted console =
    let z = machine_left old.state u line.letter units in
    let m = empty_on unit volid in
    let first = Wipe u f.before in
    let second = make_of old.state u unit volid in
    let units' = wiped_units units u f.before in
    let p = at old units in
    let mid' : Point = record { journal = d.wiped; faults = old.world.faults; units = units'; unread = old.state.console.unread; ended = old.state.console.ended; objects = [] } in
    let wipes = subst (λ (v : ℕ). makes.Does old.world.told d.wiped (disk_on unit) f.before (Wipe v f.before) Good) f.line.number d.wipes in
    let does = subst (λ (v : ℕ). makes.Does d.wiped mid.world.told (disk_on unit) (Not 2) (Make v (Not 2) m (stamp_of old.state.moment)) o) f.line.number d.makes in
    let slot = slot_then units f.before first Good f.slot in
    ran_then
    (did_ran p mid' f.journal unit f.before first Good (λ q. wiped (after_step z first q) u line m q) f.told (sees_own old units u unit f) wipes f.slot f.slot refl
    (counted_none old.world.faults old.world.faults (omega arith)) (record { unread = refl; ended = refl }) refl)
    (did_ran mid' (at mid (units_after units' second o)) (after f.journal wipes.events) unit (Not 2) second o (λ q. made (after_step (after_step z first Good) second q) u line m.total q)
    (told_after old.world.told d.wiped f.journal wipes.events f.told wipes.told) (sees_own old units u unit f) does slot slot refl counted
    (keeps_console old mid mid' (at mid (units_after units' second o)) refl refl refl refl console) refl)

both_touched : (old mid : Spot) (units : List Slot) (volid : List ℕ) (u : ℕ) (unit : UnitInfo) (f : Found old units u unit) (o : Outcome)
    → makes.DoesBoth old.world.told mid.world.told unit f.before volid (stamp_of old.state.moment) o
    → Touched old.world.told mid.world.told units (made_units old.state units u unit volid f.before o) u unit (slot_after (Settled (Not 2)) (make_of old.state u unit volid) o)
both_touched old mid units volid u unit f o d =
    let first = Wipe u f.before in
    let second = make_of old.state u unit volid in
    let units' = wiped_units units u f.before in
    let wipes = subst (λ (v : ℕ). makes.Does old.world.told d.wiped (disk_on unit) f.before (Wipe v f.before) Good) f.line.number d.wipes in
    let does = subst (λ (v : ℕ). makes.Does d.wiped mid.world.told (disk_on unit) (Not 2) (Make v (Not 2) (empty_on unit volid) (stamp_of old.state.moment)) o) f.line.number d.makes in
    let slot = slot_then units f.before first Good f.slot in
    touched_then old.world.told d.wiped mid.world.told units units' (units_after units' second o) u unit (Settled (Not 2)) (slot_after (Settled (Not 2)) second o)
    (touched old.world.told d.wiped f.journal units unit f.before first Good f.told (sees_own old units u unit f) wipes f.slot)
    (touched d.wiped mid.world.told (after f.journal wipes.events) units' unit (Not 2) second o (told_after old.world.told d.wiped f.journal wipes.events f.told wipes.told)
    (sees_own old units u unit f) does slot)

-- ---- what follows it

-- the number of blocks is typed
abbrev pub finished_tree : State → FormatLine → ℕ → List Slot → Act Course
finished_tree st line blocks = refusal_tree st (M733 (decimal_of blocks) (letter_text line.letter) (device_text line.vdev)) (pos 0)

-- the fault is typed
abbrev pub failed_tree : State → FormatLine → List Slot → Act Course
failed_tree st line = refusal_tree st (M105 (device_text line.vdev)) (pos 100)

abbrev pub remaking_tree : State → FormatLine → List ℕ → List Slot → Act Course
remaking_tree st line volid units = remaking line (machine_of st units) volid

abbrev fault_at : FormatLine → Machine → Act Course
fault_at line z = Out (typed_line (message_text (M105 (device_text line.vdev)))) (Done (Went z (pos 100)))

console_is : (old mid : Spot) (line : FormatLine) (volid : List ℕ) (unit : UnitInfo) (made : Result Accessed DiskFault) → Remade old mid line volid unit made
    → mid.state.console ≡ old.state.console
console_is old mid line volid unit made r = ap (λ (st : State). st.console) r.state

later_made : (old mid : Spot) (line : FormatLine) (volid : List ℕ) (unit : UnitInfo) (made : Result Accessed DiskFault) → Remade old mid line volid unit made → IsLater old.world mid.world
later_made old mid line volid unit made r =
    let edges = r.changes.edges in
    record { grown = r.changes.grown; faults = r.changes.faults; edges = omega (arith, edges) }

usable_then : (old mid : Spot) (line : FormatLine) (volid : List ℕ) (unit : UnitInfo) (made : Result Accessed DiskFault) → (r : Remade old mid line volid unit made)
    → ((j : Journal) → IsUsableTable j old.state.table → IsUsableTable j (state_made old.state r.place unit line.letter made).table) → IsUsable old → IsUsable mid
usable_then old mid line volid unit made r keeps usable =
    let grown = usable_grown old.world.told mid.world.told old.state.table r.changes.grown usable in
    subst (λ (st : State). Usable mid.world.told st.table) (sym r.state) (λ j is. keeps j (grown j is))

-- it was made
pub remade_done : (old mid : Spot) (line : FormatLine) (volid : List ℕ) (unit : UnitInfo) (d : Accessed) → Remade old mid line volid unit (Ok d)
    → Comes old mid (remaking_tree old.state line volid) (finished_tree mid.state line unit.unit.blocks)
remade_done old mid line volid unit d r = record {
  each = λ units h.
      let u = r.place in
      let n = line.letter in
      let st = old.state in
      let f = found old units u unit r.unit_is r.sure h in
      let fm : Made old.world.told mid.world.told unit f.before volid (stamp_of st.moment) d = r.formats f.journal f.before f.told f.ready in
      let units' = made_units st units u unit volid f.before Good in
      let x = both_touched old mid units volid u unit f Good fm.both in
      let ran = both_ran old mid units line volid u unit f Good fm.both (counted_none old.world.faults mid.world.faults r.changes.faults) (console_is old mid line volid unit (Ok d) r) in
      let seat : Seated = record { letter = letter_for u unit.writable n None; disk = d; reading = None } in
      let t = st.table in
      let within = slice_get_within t.units u unit r.unit_is in
      let table = table_accessed t u n seat f.table.table within refl refl in
      let letters = f.table.table.letters in
      let less = r.letter in
      let there : disk_of u (tables.seated n seat (marked u false t)).seats ≡ Some seat = disk_seated (marked u false t) n seat (omega (arith, letters, less)) table in
      let later : fm.later ≡ after f.journal x.events =
      same_Some fm.later (after f.journal x.events) (sym fm.told ∙ told_after old.world.told mid.world.told f.journal x.events f.told x.told) in
      let stands : StandsAs (after f.journal x.events) u unit (Settled (Volume (empty_on unit volid))) false (Some seat) =
      (empty_on unit volid, refl, r.on, subst (λ (j : Journal). IsMinidisk j d (empty_on unit volid)) later fm.minidisk, tt) in
      let held = holds_then old.world.told mid.world.told f.journal units units' t (tables.seated n seat (marked u false t)) u n unit (Settled (Volume (empty_on unit volid))) false f.told f.table
      r.unit_is x table refl (others_made t u n seat refl) (marked_there t u unit false f.table.table r.unit_is)
      (subst (λ (y : Option Seated). StandsAs (after f.journal x.events) u unit (Settled (Volume (empty_on unit volid))) false y) (sym there) stands) in
      let machine : accessed u n (machine_left st u n units') ≡ machine_of mid.state units' =
      sym (machine_made st u n unit d units' r.writable) ∙ ap (λ (s : State). machine_of s units') (sym r.state) in
      let end' : made (machine_left st u n units') u line unit.unit.blocks Good ≡ finished_tree mid.state line unit.unit.blocks units' =
      ap (λ (z : Machine). Out (typed_line (message_text (M733 (decimal_of unit.unit.blocks) (letter_text n) (device_text line.vdev)))) (Done (Went z (pos 0)))) machine in
      let start = tree_is st units line volid u unit f.before r.place_is r.unit_is f.slot in (
        units',
        (
          subst (λ (s : State). Holds mid.world.told s.table units') (sym r.state) held,
          subst (λ (z : Act Course). Ran (at old units) (at mid units') (remaking_tree st line volid units) z) end'
              (subst (λ (z : Act Course). Ran (at old units) (at mid units') z (made (machine_left st u n units') u line unit.unit.blocks Good)) (sym start) ran),
        ),
      );
  later = later_made old mid line volid unit (Ok d) r;
  usable = usable_then old mid line volid unit (Ok d) r
      (λ j usable. usable_made j old.state.table r.place line.letter unit (record { letter = letter_for r.place unit.writable line.letter None; disk = d; reading = None }) refl r.unit_is
      (record { on = r.on; marked = λ locked. absurd (true≢false (sym r.writable ∙ locked)) }) usable);
}

-- the device failed behind the wiping
pub remade_emptied : (old mid : Spot) (line : FormatLine) (volid : List ℕ) (unit : UnitInfo) → Remade old mid line volid unit (Err failed.Device)
    → Comes old mid (remaking_tree old.state line volid) (failed_tree mid.state line)
remade_emptied old mid line volid unit r = record {
  each = λ units h.
      let u = r.place in
      let n = line.letter in
      let st = old.state in
      let t = st.table in
      let f = found old units u unit r.unit_is r.sure h in
      let fm : Emptied old.world.told mid.world.told unit f.before volid (stamp_of st.moment) = r.formats f.journal f.before f.told f.ready in
      let units' = made_units st units u unit volid f.before OldFault in
      let x = both_touched old mid units volid u unit f OldFault fm.both in
      let ran = both_ran old mid units line volid u unit f OldFault fm.both (counted_one old.world.faults mid.world.faults r.changes.faults (r.changes.cause (inl refl)))
      (console_is old mid line volid unit (Err failed.Device) r) in
      let later : fm.later ≡ after f.journal x.events =
      same_Some fm.later (after f.journal x.events) (sym fm.told ∙ told_after old.world.told mid.world.told f.journal x.events f.told x.told) in
      let firm : IsFirm (disk_on unit) (after f.journal x.events) u (Not 2) =
      subst (λ (v : ℕ). IsFirm (disk_on unit) (after f.journal x.events) v (Not 2)) f.line.number (subst (λ (j : Journal). IsFirm (disk_on unit) j unit.unit.number (Not 2)) later fm.none) in
      let stands : StandsAs (after f.journal x.events) u unit (Settled (Not 2)) false None = (tt, inr (2, firm)) in
      let held = holds_then old.world.told mid.world.told f.journal units units' t (formatting.vacated u n (marked u false t)) u n unit (Settled (Not 2)) false f.told f.table
      r.unit_is x (table_vacated t u n false f.table.table) refl (others_failed t u n false) (marked_there t u unit false f.table.table r.unit_is)
      (subst (λ (y : Option Seated). StandsAs (after f.journal x.events) u unit (Settled (Not 2)) false y) (sym (none_failed t u n false)) stands) in
      let machine : machine_left st u n units' ≡ machine_of mid.state units' = sym (machine_failed st u n false units') ∙ ap (λ (s : State). machine_of s units') (sym r.state) in
      let end' : fault_at line (machine_left st u n units') ≡ failed_tree mid.state line units' = ap (fault_at line) machine in
      let start = tree_is st units line volid u unit f.before r.place_is r.unit_is f.slot in (
        units',
        (
          subst (λ (s : State). Holds mid.world.told s.table units') (sym r.state) held,
          subst (λ (z : Act Course). Ran (at old units) (at mid units') (remaking_tree st line volid units) z) end'
              (subst (λ (z : Act Course). Ran (at old units) (at mid units') z (fault_at line (machine_left st u n units'))) (sym start) ran),
        ),
      );
  later = later_made old mid line volid unit (Err failed.Device) r;
  usable = usable_then old mid line volid unit (Err failed.Device) r (λ j usable. usable_failed j old.state.table r.place line.letter false usable);
}

-- it failed, and the unit is in doubt: what is held where the steps came so far
doubt_held : (old mid : Spot) (line : FormatLine) (volid : List ℕ) (unit : UnitInfo) (r : Remade old mid line volid unit (Err failed.InDoubt)) (units units' : List Slot)
    (f : Found old units r.place unit) (slot : Slot) → IsDoubtSlot slot → Touched old.world.told mid.world.told units units' r.place unit slot → holds mid units'
doubt_held old mid line volid unit r units units' f slot doubt x =
    let u = r.place in
    let n = line.letter in
    let t = old.state.table in
    let held = holds_then old.world.told mid.world.told f.journal units units' t (formatting.vacated u n (marked u true t)) u n unit slot true f.told f.table r.unit_is x
    (table_vacated t u n true f.table.table) refl (others_failed t u n true) (marked_there t u unit true f.table.table r.unit_is) doubt in
    subst (λ (s : State). Holds mid.world.told s.table units') (sym r.state) held

doubt_end : (old mid : Spot) (line : FormatLine) (volid : List ℕ) (unit : UnitInfo) (r : Remade old mid line volid unit (Err failed.InDoubt)) (units' : List Slot)
    → fault_at line (released line.letter (machine_left old.state r.place line.letter units')) ≡ failed_tree mid.state line units'
doubt_end old mid line volid unit r units' =
    ap (fault_at line) (released_left old.state r.place line.letter units' ∙ sym (machine_failed old.state r.place line.letter true units') ∙ ap (λ (s : State). machine_of s units') (sym r.state))

pub remade_doubted : (old mid : Spot) (line : FormatLine) (volid : List ℕ) (unit : UnitInfo) → Remade old mid line volid unit (Err failed.InDoubt)
    → Comes old mid (remaking_tree old.state line volid) (failed_tree mid.state line)
remade_doubted old mid line volid unit r = record {
  each = λ units h.
      let f = found old units r.place unit r.unit_is r.sure h in
      let fm : Doubted old.world.told mid.world.told unit f.before volid (stamp_of old.state.moment) = r.formats f.journal f.before f.told f.ready in
      ⊎_elim (in_wiping units f fm.side) (in_making units f fm.side) fm.step;
  later = later_made old mid line volid unit (Err failed.InDoubt) r;
  usable = usable_then old mid line volid unit (Err failed.InDoubt) r (λ j usable. usable_failed j old.state.table r.place line.letter true usable);
}
  where
    in_wiping : (units : List Slot) (f : Found old units r.place unit) (side : Side) → makes.DoesWipe old.world.told mid.world.told unit f.before (EitherFault side)
        → (now : List Slot) × (holds mid now × Ran (at old units) (at mid now) (remaking_tree old.state line volid units) (failed_tree mid.state line now))
    in_wiping units f side d =
        let u = r.place in
        let n = line.letter in
        let st = old.state in
        let step = Wipe u f.before in
        let units' = units_after units step (EitherFault side) in
        let does = subst (λ (v : ℕ). makes.Does old.world.told mid.world.told (disk_on unit) f.before (Wipe v f.before) (EitherFault side)) f.line.number d in
        let x = touched old.world.told mid.world.told f.journal units unit f.before step (EitherFault side) f.told (sees_own old units u unit f) does f.slot in
        let ran = wipe_ran old mid units line volid u unit f side d
        (counted_one old.world.faults mid.world.faults r.changes.faults (r.changes.cause (inr refl))) (console_is old mid line volid unit (Err failed.InDoubt) r) in
        let start = tree_is st units line volid u unit f.before r.place_is r.unit_is f.slot in (
          units',
          (
            doubt_held old mid line volid unit r units units' f (Doubt f.before (Not 2) side) tt x,
            subst (λ (z : Act Course). Ran (at old units) (at mid units') (remaking_tree st line volid units) z) (doubt_end old mid line volid unit r units')
                (subst (λ (z : Act Course). Ran (at old units) (at mid units') z (fault_at line (released n (machine_left st u n units')))) (sym start) ran),
          ),
        )

    in_making : (units : List Slot) (f : Found old units r.place unit) (side : Side)
        → makes.DoesBoth old.world.told mid.world.told unit f.before volid (stamp_of old.state.moment) (EitherFault side)
        → (now : List Slot) × (holds mid now × Ran (at old units) (at mid now) (remaking_tree old.state line volid units) (failed_tree mid.state line now))
    in_making units f side d =
        let u = r.place in
        let n = line.letter in
        let st = old.state in
        let units' = made_units st units u unit volid f.before (EitherFault side) in
        let x = both_touched old mid units volid u unit f (EitherFault side) d in
        let ran = both_ran old mid units line volid u unit f (EitherFault side) d
        (counted_one old.world.faults mid.world.faults r.changes.faults (r.changes.cause (inr refl))) (console_is old mid line volid unit (Err failed.InDoubt) r) in
        let start = tree_is st units line volid u unit f.before r.place_is r.unit_is f.slot in (
          units',
          (
            doubt_held old mid line volid unit r units units' f (Doubt (Not 2) (Volume (empty_on unit volid)) side) tt x,
            subst (λ (z : Act Course). Ran (at old units) (at mid units') (remaking_tree st line volid units) z) (doubt_end old mid line volid unit r units')
                (subst (λ (z : Act Course). Ran (at old units) (at mid units') z (fault_at line (released n (machine_left st u n units')))) (sym start) ran),
          ),
        )
