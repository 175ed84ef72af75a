-- The disk of a letter is the minidisk of its unit.
use Rattle.std.proofs.Common.{◌≡◌, ◌∙◌, ℕ, List, Option, Some, Bool, false, slice_get, refl, sym, ap, subst, arith}
use Rattle.std.specs.Prelude.{option_map}
use Rattle.std.specs.Option.{ForSome}
use Rattle.std.proofs.lemmas.Option.{same_Some}
use Rattle.cms_journal.specs.Journal.{Journal}
use Rattle.cms_journal.specs.Told.{Told}
use Rattle.cms_model.specs.LawsUpdates.{now}
use Rattle.cms_model.specs.Minidisks.{Minidisk, Volume}
use Rattle.cms_model.specs.Slots.{Slot, Settled}
use Rattle.cms_disk.specs.Disks.{IsLookedAt, IsMinidisk, IsOn, IsReadable}
use Rattle.cms_disk.specs.declared.unit.UnitInfo.{UnitInfo}
use Rattle.cms_search.specs.Calls.{Spot, Usable, holds, machine_of}
use Rattle.cms_search.specs.Held.{HoldsTable, HoldsUnit, KeepsWhatIsLeft, StandsAs, disk_of}
use Rattle.cms_search.specs.Searches.{item_at}
use Rattle.cms_search.specs.Shows.{Shows}
use Rattle.cms_search.specs.Tables.{AccessTable, Seated, letters_in}
use Rattle.cms_search.proofs.IdleEvents.{holds_some}
use Rattle.cms_search.proofs.Searches.{item_at_map}
use Rattle.cms_search.proofs.Seats.{disk_there}
use Rattle.cms_search.proofs.Tables.{get_some, unit_within}

-- the line of the disk's unit, and the minidisk at which it is settled
pub record Met (j : Journal) (units : List Slot) (t : AccessTable) (s : Seated) : Type 0 where
  pub unit : UnitInfo
  pub has : slice_get t.units s.letter.unit ≡ Some unit
  pub line : HoldsUnit j units t s.letter.unit unit
  pub minidisk : Minidisk
  pub slot : slice_get units s.letter.unit ≡ Some (Settled (Volume minidisk))
  pub on : IsOn unit s.disk
  pub is : IsMinidisk j s.disk minidisk
  pub own : s.disk.volume.unit ≡ s.letter.unit
  pub looked : IsLookedAt j s.disk
  pub reading : KeepsWhatIsLeft j minidisk s

pub meets : (j : Journal) (units : List Slot) (t : AccessTable) (n : ℕ) (s : Seated) → HoldsTable j units t → item_at t.seats n ≡ Some s → Met j units t s
meets j units t n s h at =
    let within = unit_within t n s h.table at in
    let long = h.table.doubts in
    let unit = get_some t.units s.letter.unit (omega (arith, within, long)) in
    let line = h.each s.letter.unit unit.0 unit.1 in
    let sure : line.doubt ≡ false = same_Some line.doubt false (sym line.marked ∙ h.table.sure n s at) in
    let seat = disk_there t.seats n s h.table.once at in
    let stands : StandsAs j s.letter.unit unit.0 line.slot false (Some s) =
    subst (λ (x : Option Seated). StandsAs j s.letter.unit unit.0 line.slot false x) seat
    (subst (λ (b : Bool). StandsAs j s.letter.unit unit.0 line.slot b (disk_of s.letter.unit t.seats)) sure line.stands) in
    record {
      unit = unit.0;
      has = unit.1;
      line = line;
      minidisk = stands.0;
      slot = line.there ∙ ap (λ (x : Slot). Some x) stands.1;
      on = stands.2;
      is = stands.3;
      own = stands.2.number ∙ line.number;
      looked = λ found there. line.seen found (subst (λ (k : ℕ). slice_get j.units k ≡ Some found) stands.2.number there) ∙ sym stands.2.disk;
      reading = stands.4;
    }

-- ---- at a spot

pub record MetAt (old : Spot) (units : List Slot) (s : Seated) : Type 0 where
  pub journal : Journal
  pub told : old.world.told ≡ Some journal
  pub table : HoldsTable journal units old.state.table
  pub met : Met journal units old.state.table s

pub meets_at : (old : Spot) (units : List Slot) (n : ℕ) (s : Seated) → item_at old.state.table.seats n ≡ Some s → holds old units → MetAt old units s
meets_at old units n s at h =
    let held = holds_some old.world.told old.state.table units h in
    record { journal = held.0; told = held.1; table = held.2; met = meets held.0 units old.state.table n s held.2 at }

-- the machine has the letter
pub letter_is : (t : AccessTable) (n : ℕ) (s : Seated) → item_at t.seats n ≡ Some s → item_at (letters_in t.seats) n ≡ Some s.letter
letter_is t n s at = item_at_map (λ (x : Seated). x.letter) t.seats n ∙ ap (λ (x : Option Seated). option_map (λ (y : Seated). y.letter) x) at

-- the table shows the machine, so that what is found on it is found there
pub holds_shows : (old : Spot) (units : List Slot) → holds old units → Shows old.state.table (machine_of old.state units)
holds_shows old units h = record {
  letters = refl;
  each = λ n seat at.
      let m = meets_at old units n seat at h in
      let slot = m.met.slot in
      (now m.journal seat.disk.volume.unit, m.met.minidisk, rw slot refl, m.met.is.stands);
}

-- ---- what may be called

-- the blocks of an accessed disk may be read
pub readable_seat : (told : Told) (t : AccessTable) (n : ℕ) (s : Seated) (unit : UnitInfo) → item_at t.seats n ≡ Some s → slice_get t.units s.letter.unit ≡ Some unit → Usable told t
    → ForSome told (λ j. IsReadable j s.disk)
readable_seat told t n s unit at has usable j is =
    let on = ((usable j is).seats n s unit at has).on in
    let number = on.number in
    let disk = on.disk in
    rw (number, disk) ((usable j is).units s.letter.unit unit has).blocks
