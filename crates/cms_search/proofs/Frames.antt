-- A call that touches one unit leaves the lines of the others.
use Rattle.std.proofs.Common.{◌≡◌, ◌≢◌, ◌∙◌, ℕ, List, Option, Some, None, Bool, true, false, length, slice_get, refl, sym, ap, subst, inl, inr, ⊎_elim}
use Rattle.std.specs.Prelude.{IfSome}
use Rattle.std.proofs.lemmas.Bool.Decides.{eqb_tells}
use Rattle.cms_journal.specs.declared.event.Event.{Event}
use Rattle.cms_journal.specs.Journal.{Journal, IsUntouched}
use Rattle.cms_journal.specs.Told.{Told, OnlyOf}
use Rattle.cms_journal.proofs.Events.{of_aside}
use Rattle.cms_journal.proofs.Pieces.{plus-some}
use Rattle.cms_model.specs.Trees.{Image, image_of}
use Rattle.cms_model.specs.Minidisks.{Not, State}
use Rattle.cms_model.specs.Volumes.{Disk, Opened}
use Rattle.cms_model.specs.Settled.{IsSettled, IsFirm}
use Rattle.cms_model.specs.LawsSizes.{IsWhole}
use Rattle.cms_model.specs.LawsUpdates.{AsBefore, after}
use Rattle.cms_model.proofs.SettledUnits.{aside_is_as_before}
use Rattle.cms_model.specs.Points.{LeavesIn, Leaves, HasNowIn, HasNow}
use Rattle.cms_model.specs.Slots.{Slot}
use Rattle.cms_model.proofs.Aside.{leaves_aside, now_aside}
use Rattle.cms_disk.specs.Disks.{IsQuiet, disk_on}
use Rattle.cms_disk.specs.declared.unit.UnitInfo.{UnitInfo}
use Rattle.cms_disk.proofs.DisksTold.{minidisk_aside}
use Rattle.cms_search.specs.Tables.{AccessTable, IsTable, Seated}
use Rattle.cms_search.specs.Held.{HoldsTable, HoldsUnit, IsLeftOf, SameUnit, StandsAs, disk_of}

-- what a crash leaves of a unit that a piece leaves alone is what it left before
pub left_before : (j : Journal) (piece : List Event) (u : ℕ) (x : State) → IsUntouched piece u → LeavesIn (after j piece) u x → LeavesIn j u x
left_before j piece u x aside l = leaves_aside (Some j) piece u x aside (subst (λ (t : Told). Leaves t u x) (sym (plus-some j piece)) l)

-- and so is the state of its contents
pub now_before : (j : Journal) (piece : List Event) (u : ℕ) (x : State) → IsUntouched piece u → HasNowIn (after j piece) u x → HasNowIn j u x
now_before j piece u x aside h = now_aside (Some j) piece u x aside (subst (λ (t : Told). HasNow t u x) (sym (plus-some j piece)) h)

-- such a unit is quiet still
quiet_aside : (disk : Disk) (j : Journal) (piece : List Event) (u : ℕ) → AsBefore j piece u → IsQuiet disk j u → IsQuiet disk (after j piece) u
quiet_aside disk j piece u before quiet = ⊎_elim
    (λ (h : (v : Opened) × IsSettled disk j u v). inl (h.0, before.settled_same disk h.0 h.1))
    (λ (h : (k : ℕ) × IsFirm disk j u (Not k)). inr (h.0, λ image left. h.1 image ((before.crash_same image).0 left)))
    quiet

stands_aside : (j : Journal) (piece : List Event) (u : ℕ) (unit : UnitInfo) (slot : Slot) (doubt : Bool) (seat : Option Seated) → unit.unit.number ≡ u → IsUntouched piece u
    → StandsAs j u unit slot doubt seat → StandsAs (after j piece) u unit slot doubt seat
stands_aside j piece u unit slot true seat number aside is = is
stands_aside j piece u unit slot false None number aside is = (is.0, quiet_aside (disk_on unit) j piece u (aside_is_as_before j piece u aside) is.1)
stands_aside j piece u unit slot false (Some s) number aside is =
    let at : s.disk.volume.unit ≡ u = is.2.number ∙ number in
    let own = subst (λ (n : ℕ). IsUntouched piece n) (sym at) aside in
    let before = aside_is_as_before j piece s.disk.volume.unit own in
    let left = subst (λ (i : Image). IfSome s.reading (IsLeftOf i is.0)) (sym (ap image_of before.contents_same)) is.4 in
    (is.0, is.1, is.2, minidisk_aside j piece s.disk is.0 own is.3, left)

-- all units are as before
pub same_unit : (units : List Slot) (t : AccessTable) (u : ℕ) → SameUnit units units t t u
same_unit units t u = record { slot = refl; doubt = refl; disk = refl }

pub holds_aside : (j : Journal) (piece : List Event) (units units' : List Slot) (t t' : AccessTable) (u : ℕ) (unit : UnitInfo) → IsUntouched piece u → SameUnit units units' t t' u
    → HoldsUnit j units t u unit → HoldsUnit (after j piece) units' t' u unit
holds_aside j piece units units' t t' u unit aside same h =
    let before = aside_is_as_before j piece u aside in
    record {
      number = h.number;
      blocks = h.blocks;
      writable = h.writable;
      seen = h.seen;
      whole = subst (λ (i : Image). IsWhole (disk_on unit) i) (sym (ap image_of before.contents_same)) h.whole;
      slot = h.slot;
      there = same.slot ∙ h.there;
      doubt = h.doubt;
      marked = same.doubt ∙ h.marked;
      stands = subst (λ (s : Option Seated). StandsAs (after j piece) u unit h.slot h.doubt s) (sym same.disk)
          (stands_aside j piece u unit h.slot h.doubt (disk_of u t.seats) h.number aside h.stands);
      crash = λ state left. h.crash state (left_before j piece u state aside left);
      has = λ state has. h.has state (now_before j piece u state aside has);
    }

-- the events are of another unit alone
pub holds_other : (j : Journal) (piece : List Event) (units units' : List Slot) (t t' : AccessTable) (v u : ℕ) (unit : UnitInfo) → v ≢ u → OnlyOf v piece → SameUnit units units' t t' u
    → HoldsUnit j units t u unit → HoldsUnit (after j piece) units' t' u unit
holds_other j piece units units' t t' v u unit apart only same h = holds_aside j piece units units' t t' u unit (of_aside v piece u apart only) same h

-- a call touched one unit, whose line is this one now; the others have theirs
pub holds_touched : (j : Journal) (piece : List Event) (units units' : List Slot) (t t' : AccessTable) (v : ℕ) (unit : UnitInfo) → OnlyOf v piece → IsTable t'
    → t'.units ≡ t.units → length units' ≡ length units → slice_get t.units v ≡ Some unit → ((u : ℕ) → v ≢ u → SameUnit units units' t t' u)
    → HoldsUnit (after j piece) units' t' v unit → HoldsTable j units t → HoldsTable (after j piece) units' t'
holds_touched j piece units units' t t' v unit only is same long has others line h = record {
  table = is;
  same = long ∙ (h.same ∙ sym (ap (λ (l : List UnitInfo). length l) same));
  all = ap (λ (l : List UnitInfo). length l) same ∙ h.all;
  each = λ u info there.
      let before : slice_get t.units u ≡ Some info = subst (λ (l : List UnitInfo). slice_get l u ≡ Some info) same there in
      elim (eqb_tells v u) [
        | inl at ↦
            let one : Some unit ≡ Some info = sym has ∙ (ap (λ (n : ℕ). slice_get t.units n) at.1 ∙ before) in
            let info_is : unit ≡ info = cc one in
            subst (λ (x : UnitInfo). HoldsUnit (after j piece) units' t' u x) info_is (subst (λ (n : ℕ). HoldsUnit (after j piece) units' t' n unit) at.1 line)
        | inr apart ↦ holds_other j piece units units' t t' v u info apart.1 only (others u apart.1) (h.each u info before)
      ];
}
