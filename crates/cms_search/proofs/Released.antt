-- A disk is released: the machine's, and what is held and usable then.
use Rattle.std.proofs.Common.{◌≡◌, inl, inr, ℕ, zero, suc, ◌+◌, List, [], ◌∷◌, map, refl, sym, ap, ◌∙◌, subst}
use Rattle.std.specs.Prelude.{Bool, true, false, cond, not, ◌==◌, position, Option, Some, None, IsSome, slice_get}
use Rattle.std.specs.List.{prefix_len}
use Rattle.std.specs.Option.{option_map, option_map_or}
use Rattle.std.proofs.lemmas.Bool.Decides.{eqb_tells}
use Rattle.std.proofs.lemmas.List.{length-map}
use Rattle.std.proofs.lemmas.Option.{same_Some}
use Rattle.cms_journal.specs.Journal.{Journal}
use Rattle.cms_model.specs.Slots.{Slot}
use Rattle.cms_model.specs.Volumes.{Disk}
use Rattle.cms_disk.specs.Disks.{IsQuiet}
use Rattle.cms_disk.specs.declared.unit.UnitInfo.{UnitInfo}
use Rattle.cms_search.specs.Calls.{IsUsableTable, machine_of}
use Rattle.cms_search.specs.Held.{HoldsTable, HoldsUnit, StandsAs, disk_of}
use Rattle.cms_search.specs.Machine.{Letter, Places}
use Rattle.cms_search.specs.Places.{without_device}
use Rattle.cms_search.specs.Release.{without_letter}
use Rattle.cms_search.specs.Searches.{has, item_at}
use Rattle.cms_search.specs.Shows.{device_of}
use Rattle.cms_search.specs.Tables.{AccessTable, IsTable, Seated, StandOnce, cleared, letters_in, letters_of, place_of_device, released}
use Rattle.cms_search.specs.Units as releasing
use Rattle.cms_search.specs.Units.{forgotten, letter_with, unit_with, vdev_of}
use Rattle.cms_search.specs.declared.state.State.{State}
use Rattle.cms_search.specs.declared.state.Device.{Device}
use Rattle.cms_search.proofs.Searches.{item_at_map}
use Rattle.cms_search.proofs.Seats.{disk_there, letters_cleared}
use Rattle.cms_search.proofs.Tables.{stays, table_released}

-- ---- lists

pub get_map : {A B : Type 0} (f : A → B) (xs : List A) (n : ℕ) → slice_get (map f xs) n ≡ option_map f (slice_get xs n)
get_map f [] n = refl
get_map f (x ∷ xs) zero = refl
get_map f (x ∷ xs) (suc n) = get_map f xs n

pub prefix_map : {A B : Type 0} (f : A → B) (p : B → Bool) (xs : List A) → prefix_len (λ x. not (p x)) (map f xs) ≡ prefix_len (λ x. not (p (f x))) xs
prefix_map f p [] = refl
prefix_map f p (x ∷ xs) = cases (p (f x)) (prefix_map f p xs)
  where
    cases : (b : Bool) → prefix_len (λ x. not (p x)) (map f xs) ≡ prefix_len (λ x. not (p (f x))) xs
        → cond (not b) (1 + prefix_len (λ x. not (p x)) (map f xs)) 0 ≡ cond (not b) (1 + prefix_len (λ x. not (p (f x))) xs) 0
    cases true h = refl
    cases false h = ap (λ (k : ℕ). 1 + k) h

pub position_map : {A B : Type 0} (f : A → B) (p : B → Bool) (xs : List A) → position p (map f xs) ≡ position (λ x. p (f x)) xs
position_map f p xs = rw (prefix_map f p xs, length-map xs f) refl

prefix_letters : (u : ℕ) (seats : List (Option Seated))
    → prefix_len (λ x. not (has (λ (d : Letter). d.unit == u) x)) (letters_in seats) ≡ prefix_len (λ x. not (has (λ (s : Seated). s.letter.unit == u) x)) seats
prefix_letters u [] = refl
prefix_letters u (None ∷ seats) = ap (λ (k : ℕ). 1 + k) (prefix_letters u seats)
prefix_letters u (Some s ∷ seats) = cases (s.letter.unit == u) (prefix_letters u seats)
  where
    cases : (b : Bool)
        → prefix_len (λ x. not (has (λ (d : Letter). d.unit == u) x)) (letters_in seats) ≡ prefix_len (λ x. not (has (λ (s : Seated). s.letter.unit == u) x)) seats
        → cond (not b) (1 + prefix_len (λ x. not (has (λ (d : Letter). d.unit == u) x)) (letters_in seats)) 0
        ≡ cond (not b) (1 + prefix_len (λ x. not (has (λ (s : Seated). s.letter.unit == u) x)) seats) 0
    cases true h = refl
    cases false h = ap (λ (k : ℕ). 1 + k) h

-- the letter of a unit is that of its seat
pub letter_seated : (u : ℕ) (seats : List (Option Seated)) → letter_with u (letters_in seats) ≡ position (has (λ s. s.letter.unit == u)) seats
letter_seated u seats = rw (prefix_letters u seats, length-map seats (λ (x : Option Seated). option_map (λ s. s.letter) x)) refl

-- the unit of a device is the table's
pub unit_told : (vdev : ℕ) (units : List UnitInfo) → unit_with vdev (map device_of units) ≡ place_of_device vdev units
unit_told vdev units = position_map device_of (λ (d : Device). d.vdev == vdev) units

-- ---- the machine

-- the letters are those of the seats
pub letter_told : (seats : List (Option Seated)) (n : ℕ) → item_at (letters_in seats) n ≡ option_map (λ s. s.letter) (item_at seats n)
letter_told seats n = item_at_map (λ (s : Seated). s.letter) seats n

pub letters_left : (t : AccessTable) (n : ℕ) → letters_of (released n t) ≡ cleared n (letters_of t)
letters_left t n = letters_cleared t.seats n

forgot : (s : State) (units : List Slot) (x : Option Letter) (l : List (Option Letter))
    → record (machine_of s units) { letters = l; places = (forgotten x (machine_of s [])).places } ≡ record (forgotten x (machine_of s units)) { letters = l }
forgot s units None l = refl
forgot s units (Some d) l = refl

pub machine_left : (n : ℕ) (s : State) (units : List Slot) → machine_of (without_letter n s) units ≡ releasing.released n (machine_of s units)
machine_left n s units =
    let letter = item_at (letters_of s.table) n in
    ap (λ (l : List (Option Letter)). record (machine_of s units) { letters = l; places = (forgotten letter (machine_of s [])).places }) (letters_left s.table n)
    ∙ forgot s units letter (cleared n (letters_of s.table))

-- the places on the disk of the letter
vdev_told : (units : List UnitInfo) (u vdev : ℕ) → option_map (λ (unit : UnitInfo). unit.vdev) (slice_get units u) ≡ Some vdev
    → option_map (λ (d : Device). d.vdev) (slice_get (map device_of units) u) ≡ Some vdev
vdev_told units u vdev is = ap (λ (x : Option Device). option_map (λ (d : Device). d.vdev) x) (get_map device_of units u) ∙ cases (slice_get units u) is
  where
    cases : (x : Option UnitInfo) → option_map (λ (unit : UnitInfo). unit.vdev) x ≡ Some vdev → option_map (λ (d : Device). d.vdev) (option_map device_of x) ≡ Some vdev
    cases None is = absurd (cc is)
    cases (Some unit) is = is

pub vdev_is : (s : State) (units : List Slot) (u vdev : ℕ) → option_map (λ (unit : UnitInfo). unit.vdev) (slice_get s.table.units u) ≡ Some vdev
    → vdev_of (machine_of s units) u ≡ vdev
vdev_is s units u vdev is = cases (slice_get (map device_of s.table.units) u) (vdev_told s.table.units u vdev is)
  where
    cases : (x : Option Device) → option_map (λ (d : Device). d.vdev) x ≡ Some vdev → option_map_or (λ (d : Device). d.vdev) x 0 ≡ vdev
    cases None is = absurd (cc is)
    cases (Some d) is = cc is

pub places_left : (s : State) (n vdev : ℕ) (seat : Seated) → item_at s.table.seats n ≡ Some seat
    → option_map (λ (unit : UnitInfo). unit.vdev) (slice_get s.table.units seat.letter.unit) ≡ Some vdev
    → (releasing.released n (machine_of s [])).places ≡ without_device vdev s.places
places_left s n vdev seat at is =
    let letter : item_at (letters_of s.table) n ≡ Some seat.letter = letter_told s.table.seats n ∙ ap (λ (x : Option Seated). option_map (λ s. s.letter) x) at in
    ap (λ (x : Option Letter). (forgotten x (machine_of s [])).places) letter ∙ ap (λ (v : ℕ). without_device v s.places) (vdev_is s [] seat.letter.unit vdev is)

-- ---- the disk of a unit

-- no letter has a disk of the unit
pub disk_none : (u : ℕ) (seats : List (Option Seated)) → ((a : ℕ) (x : Seated) → item_at seats a ≡ Some x → x.letter.unit ≡ u → ⊥) → disk_of u seats ≡ None
disk_none u [] none = refl
disk_none u (None ∷ seats) none = disk_none u seats (λ a x at same. none (suc a) x at same)
disk_none u (Some s ∷ seats) none = elim (eqb_tells s.letter.unit u) [
  | inl same ↦ absurd (none 0 s refl same.1)
  | inr other ↦ rw other.0 (disk_none u seats (λ a x at same. none (suc a) x at same))
]

-- another unit's disk stays where a letter is cleared
pub disk_stays : (u n : ℕ) (seats : List (Option Seated)) → ((x : Seated) → item_at seats n ≡ Some x → x.letter.unit ≡ u → ⊥) → disk_of u (cleared n seats) ≡ disk_of u seats
disk_stays u n [] other = refl
disk_stays u zero (None ∷ seats) other = refl
disk_stays u zero (Some s ∷ seats) other = elim (eqb_tells s.letter.unit u) [
  | inl same ↦ absurd (other s refl same.1)
  | inr apart ↦ rw apart.0 refl
]
disk_stays u (suc n) (None ∷ seats) other = disk_stays u n seats other
disk_stays u (suc n) (Some s ∷ seats) other = ap (λ (x : Option Seated). cond (s.letter.unit == u) (Some s) x) (disk_stays u n seats other)

-- the unit of a letter that is cleared has none
pub disk_gone : (t : AccessTable) (n : ℕ) (s : Seated) → StandOnce t.seats → item_at t.seats n ≡ Some s → disk_of s.letter.unit (cleared n t.seats) ≡ None
disk_gone t n s once at = disk_none s.letter.unit (cleared n t.seats)
    (λ a x is same. let there = stays t n a x is in there.0 (once a n x s there.1 at same))

-- ---- what is held

-- a unit whose disk is a minidisk is quiet
pub quiet_seated : (j : Journal) (u : ℕ) (unit : UnitInfo) (slot : Slot) (s : Seated) → unit.unit.number ≡ u → StandsAs j u unit slot false (Some s) → StandsAs j u unit slot false None
quiet_seated j u unit slot s number is =
    let number' : s.disk.volume.unit ≡ u = is.2.number ∙ number in
    let settled = is.3.settled in
    let quiet : IsQuiet s.disk.volume.disk j s.disk.volume.unit = inl (is.3.stands.opened, settled) in
    (let e = is.1 in rw e tt, subst (λ (d : Disk). IsQuiet d j u) is.2.disk (subst (λ (v : ℕ). IsQuiet s.disk.volume.disk j v) number' quiet))

-- a line with the disk of its unit as it is then
pub held_with : (j : Journal) (units : List Slot) (t t' : AccessTable) (u : ℕ) (unit : UnitInfo) (h : HoldsUnit j units t u unit) → slice_get t'.doubts u ≡ slice_get t.doubts u
    → StandsAs j u unit h.slot h.doubt (disk_of u t'.seats) → HoldsUnit j units t' u unit
held_with j units t t' u unit h doubts stands = record {
  number = h.number;
  blocks = h.blocks;
  writable = h.writable;
  seen = h.seen;
  whole = h.whole;
  slot = h.slot;
  there = h.there;
  doubt = h.doubt;
  marked = doubts ∙ h.marked;
  stands = stands;
  crash = h.crash;
  has = h.has;
}

pub stands_left : (j : Journal) (u : ℕ) (unit : UnitInfo) (slot : Slot) (doubt : Bool) (t : AccessTable) (n : ℕ) → unit.unit.number ≡ u → IsTable t
    → slice_get t.doubts u ≡ Some doubt → StandsAs j u unit slot doubt (disk_of u t.seats) → StandsAs j u unit slot doubt (disk_of u (cleared n t.seats))
stands_left j u unit slot true t n number is mark stands = stands
stands_left j u unit slot false t n number is mark stands = cases (item_at t.seats n) refl
  where
    cases : (x : Option Seated) → item_at t.seats n ≡ x → StandsAs j u unit slot false (disk_of u (cleared n t.seats))
    cases None at =
        let e = disk_stays u n t.seats (λ x there same. cc (sym at ∙ there)) in
        subst (λ (d : Option Seated). StandsAs j u unit slot false d) (sym e) stands
    cases (Some s) at = elim (eqb_tells s.letter.unit u) [
      | inl same ↦
          let own = subst (λ (v : ℕ). disk_of v t.seats ≡ Some s) same.1 (disk_there t.seats n s is.once at) in
          let gone : disk_of u (cleared n t.seats) ≡ None = subst (λ (v : ℕ). disk_of v (cleared n t.seats) ≡ None) same.1 (disk_gone t n s is.once at) in
          subst (λ (d : Option Seated). StandsAs j u unit slot false d) (sym gone)
          (quiet_seated j u unit slot s number (subst (λ (d : Option Seated). StandsAs j u unit slot false d) own stands))
      | inr other ↦
          let e = disk_stays u n t.seats (λ x there same. other.1 (ap (λ (y : Seated). y.letter.unit) (same_Some s x (sym at ∙ there)) ∙ same)) in
          subst (λ (d : Option Seated). StandsAs j u unit slot false d) (sym e) stands
    ]

pub holds_left : (j : Journal) (units : List Slot) (t : AccessTable) (n : ℕ) → HoldsTable j units t → HoldsTable j units (released n t)
holds_left j units t n h = record {
  table = table_released t n h.table;
  same = h.same;
  all = h.all;
  each = λ u unit has.
      let l = h.each u unit has in
      held_with j units t (released n t) u unit l refl (stands_left j u unit l.slot l.doubt t n l.number h.table l.marked l.stands);
}

-- what may be used may be used still
pub usable_left : (j : Journal) (t : AccessTable) (n : ℕ) → IsUsableTable j t → IsUsableTable j (released n t)
usable_left j t n u = record { units = u.units; seats = λ a x unit at has. u.seats a x unit (stays t n a x at).1 has }

-- ---- the state

pub some_of : {A : Type 0} (x : Option A) → IsSome x → (a : A) × (x ≡ Some a)
some_of None is = absurd (cc is)
some_of (Some a) is = (a, refl)

pub state_left : (s : State) (n : ℕ) (t : AccessTable) (places : Places) → t ≡ released n s.table → places ≡ (releasing.released n (machine_of s [])).places
    → record s { table = t; places = places } ≡ without_letter n s
state_left s n t places table kept =
    ap (λ (x : AccessTable). record s { table = x; places = places }) table ∙ ap (λ (p : Places). record s { table = released n s.table; places = p }) kept
