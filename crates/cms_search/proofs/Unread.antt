-- No disk keeps a reading: what is held then.
use Rattle.std.proofs.Common.{◌≡◌, ◌∙◌, ◌<◌, ◌++◌, ℕ, zero, suc, List, [], ◌∷◌, get_or, length, take, drop, map, Bool, true, false, Option, Some, None, refl, sym, ap, subst, slice_get, arith}
use Rattle.std.specs.Prelude.{◌==◌, cond, option_map, slice_set}
use Rattle.std.proofs.lemmas.List.{length-map}
use Rattle.std.proofs.lemmas.Option.{same_Some}
use Rattle.cms_journal.specs.Journal.{Journal}
use Rattle.cms_model.specs.Acts.{Act}
use Rattle.cms_model.specs.Runs.{Ran}
use Rattle.cms_model.specs.Slots.{Slot}
use Rattle.cms_model.proofs.Join.{ran_none}
use Rattle.cms_disk.specs.declared.unit.UnitInfo.{UnitInfo}
use Rattle.cms_world.specs.Seen.{Seen}
use Rattle.cms_search.specs.Calls.{Comes, IsSeatOf, IsUsableTable, Spot, at, machine_of}
use Rattle.cms_search.specs.Held.{HoldsTable, StandsAs, disk_of}
use Rattle.cms_search.specs.Machine.{Letter, Machine}
use Rattle.cms_search.specs.Searches.{item_at}
use Rattle.cms_search.specs.Tables.{AccessTable, IsTable, KeepsItsOwn, Seated, letters_in, unread_seat, without_readings}
use Rattle.cms_search.specs.declared.state.State.{State}
use Rattle.cms_search.proofs.Acts.{later_none}
use Rattle.cms_search.proofs.IdleEvents.{holds_some}
use Rattle.cms_search.proofs.Released.{held_with}
use Rattle.cms_search.proofs.Searches.{item_at_map}

-- ---- letters

-- one place more is looked at
pub map_more : {A : Type 0} (f : A → A) (k : ℕ) (xs : List (Option A)) → k < length xs
    → slice_set (map (λ x. option_map f x) (take k xs) ++ drop k xs) k (option_map f (item_at (map (λ x. option_map f x) (take k xs) ++ drop k xs) k))
    ≡ map (λ x. option_map f x) (take (suc k) xs) ++ drop (suc k) xs
map_more f k [] less = absurd (omega (arith, less))
map_more f zero (x ∷ xs) less = refl
map_more f (suc k) (x ∷ xs) less = ap (λ (l : List (Option _)). option_map f x ∷ l) (map_more f k xs (omega (arith, less)))

-- ---- the disk of one letter

read_item : (xs : List (Option Seated)) (n : ℕ) (x : Option Seated) → n < length xs → x ≡ get_or xs n x → item_at xs n ≡ x
read_item [] n x less is = absurd (omega (arith, less))
read_item (y ∷ ys) zero x less is = sym is
read_item (y ∷ ys) (suc n) x less is = read_item ys n x (omega (arith, less)) is

set_item : (xs : List (Option Seated)) (n : ℕ) → n < length xs → slice_set xs n (item_at xs n) ≡ xs
set_item [] n less = absurd (omega (arith, less))
set_item (x ∷ xs) zero less = refl
set_item (x ∷ xs) (suc n) less = ap (λ (l : List (Option Seated)). x ∷ l) (set_item xs n (omega (arith, less)))

-- where there is none all stays
pub dropped_none : (xs : List (Option Seated)) (n : ℕ) (x : Option Seated) → n < length xs → x ≡ get_or xs n x → x ≡ None → xs ≡ slice_set xs n (option_map unread_seat (item_at xs n))
dropped_none xs n x less is none =
    let at : item_at xs n ≡ None = read_item xs n x less is ∙ none in
    sym (ap (λ (y : Option Seated). slice_set xs n (option_map unread_seat y)) at ∙ (ap (λ (y : Option Seated). slice_set xs n y) (sym at) ∙ set_item xs n less))

-- else it keeps no reading
pub dropped_some : (xs : List (Option Seated)) (n : ℕ) (x : Option Seated) (s has : Seated) → n < length xs → x ≡ get_or xs n x → x ≡ Some has → s ≡ has
    → slice_set xs n (Some (unread_seat s)) ≡ slice_set xs n (option_map unread_seat (item_at xs n))
dropped_some xs n x s has less is some same =
    let at : item_at xs n ≡ Some s = read_item xs n x less is ∙ (some ∙ ap (λ (y : Seated). Some y) (sym same)) in
    ap (λ (y : Option Seated). slice_set xs n (option_map unread_seat y)) (sym at)

-- ---- the table

-- what stands in a place was there, and kept a reading or none
was : (t : AccessTable) (n : ℕ) (x : Seated) → item_at (without_readings t).seats n ≡ Some x → (s : Seated) × (item_at t.seats n ≡ Some s) × (unread_seat s ≡ x)
was t n x is = cases (item_at t.seats n) refl (sym (item_at_map unread_seat t.seats n) ∙ is)
  where
    cases : (y : Option Seated) → item_at t.seats n ≡ y → option_map unread_seat y ≡ Some x → (s : Seated) × (item_at t.seats n ≡ Some s) × (unread_seat s ≡ x)
    cases None at none = absurd (cc none)
    cases (Some s) at some = (s, at, same_Some (unread_seat s) x some)

pub table_unread : (t : AccessTable) → IsTable t → IsTable (without_readings t)
table_unread t is = record {
  distinct = is.distinct;
  doubts = is.doubts;
  letters = length-map t.seats _ ∙ is.letters;
  once = λ a b x y is_x is_y same.
      let p = was t a x is_x in
      let q = was t b y is_y in
      is.once a b p.0 q.0 p.1 q.1 (ap (λ (z : Seated). z.letter.unit) p.2 ∙ (same ∙ sym (ap (λ (z : Seated). z.letter.unit) q.2)));
  sure = λ a x is_x.
      let p = was t a x is_x in
      subst (λ (u : ℕ). slice_get t.doubts u ≡ Some false) (ap (λ (z : Seated). z.letter.unit) p.2) (is.sure a p.0 p.1);
  readings = λ a x is_x. subst (λ (z : Seated). KeepsItsOwn z) (was t a x is_x).2 tt;
}

disk_unread : (u : ℕ) (seats : List (Option Seated)) → disk_of u (map (λ x. option_map unread_seat x) seats) ≡ option_map unread_seat (disk_of u seats)
disk_unread u [] = refl
disk_unread u (None ∷ seats) = disk_unread u seats
disk_unread u (Some s ∷ seats) = cases (s.letter.unit == u) (disk_unread u seats)
  where
    cases : (b : Bool) → disk_of u (map (λ x. option_map unread_seat x) seats) ≡ option_map unread_seat (disk_of u seats)
        → cond b (Some (unread_seat s)) (disk_of u (map (λ x. option_map unread_seat x) seats)) ≡ option_map unread_seat (cond b (Some s) (disk_of u seats))
    cases true h = refl
    cases false h = h

letters_unread : (seats : List (Option Seated)) → letters_in (map (λ x. option_map unread_seat x) seats) ≡ letters_in seats
letters_unread [] = refl
letters_unread (None ∷ seats) = ap (λ (l : List (Option Letter)). None ∷ l) (letters_unread seats)
letters_unread (Some s ∷ seats) = ap (λ (l : List (Option Letter)). Some s.letter ∷ l) (letters_unread seats)

-- ---- what is held

stands_unread : (j : Journal) (u : ℕ) (unit : UnitInfo) (slot : Slot) (doubt : Bool) (seat : Option Seated) → StandsAs j u unit slot doubt seat
    → StandsAs j u unit slot doubt (option_map unread_seat seat)
stands_unread j u unit slot true seat is = is
stands_unread j u unit slot false None is = is
stands_unread j u unit slot false (Some s) is = (is.0, is.1, is.2, is.3, tt)

holds_unread : (j : Journal) (units : List Slot) (t : AccessTable) → HoldsTable j units t → HoldsTable j units (without_readings t)
holds_unread j units t h = record {
  table = table_unread t h.table;
  same = h.same;
  all = h.all;
  each = λ u unit has.
      let l = h.each u unit has in
      held_with j units t (without_readings t) u unit l refl
      (subst (λ (d : Option Seated). StandsAs j u unit l.slot l.doubt d) (sym (disk_unread u t.seats)) (stands_unread j u unit l.slot l.doubt (disk_of u t.seats) l.stands));
}

usable_unread : (j : Journal) (t : AccessTable) → IsUsableTable j t → IsUsableTable j (without_readings t)
usable_unread j t u = record {
  units = u.units;
  seats = λ a x unit is has.
      let p = was t a x is in
      let here = subst (λ (z : Seated). slice_get t.units z.letter.unit ≡ Some unit) (sym p.2) has in
      let before = u.seats a p.0 unit p.1 here in
      subst (λ (z : Seated). IsSeatOf unit z) p.2 (record { on = before.on; marked = before.marked });
}

-- the machine is the same
pub comes_unread : {R : Type 0} (old new : Spot) (next : Machine → Act R) → new.world ≡ old.world → new.state ≡ record old.state { table = without_readings old.state.table }
    → Comes old new (λ units. next (machine_of old.state units)) (λ units. next (machine_of new.state units))
comes_unread {R = R} old new next world state =
    let t = old.state.table in
    let then' : State = record old.state { table = without_readings t } in
    let mid : Spot = record { world = old.world; state = then' } in
    let spot : new ≡ mid = ap (λ (w : Seen). record new { world = w }) world ∙ ap (λ (x : State). record { world = old.world; state = x }) state in
    let machine : (units : List Slot) → machine_of old.state units ≡ machine_of then' units =
    λ units. sym (ap (λ (l : List (Option Letter)). record (machine_of old.state units) { letters = l }) (letters_unread t.seats)) in
    let comes : Comes old mid (λ units. next (machine_of old.state units)) (λ units. next (machine_of then' units)) = record {
      each = λ units h.
          let held = holds_some old.world.told t units h in
          let told = held.1 in (
            units,
            (
              rw told (holds_unread held.0 units t held.2),
              subst (λ (z : Act R). Ran (at old units) (at mid units) (next (machine_of old.state units)) z) (ap next (machine units)) (ran_none (at old units) (next (machine_of old.state units))),
            ),
          );
      later = later_none old.world;
      usable = λ usable j told. usable_unread j t (usable j told);
    } in
    subst (λ (z : Spot). Comes old z (λ units. next (machine_of old.state units)) (λ units. next (machine_of z.state units))) (sym spot) comes
