-- What is held after the minidisk of a disk was changed, or after the device failed in that. No command is known here.
use Rattle.std.proofs.Common.{◌≡◌, ◌≢◌, ◌∙◌, ℕ, List, [], ◌∷◌, Bool, true, false, Option, Some, None, refl, sym, ap, subst, slice_get}
use Rattle.std.specs.Prelude.{IfSome, option_map, unwrap_or}
use Rattle.std.proofs.lemmas.Option.{same_Some, slice_get_within}
use Rattle.cms_journal.specs.declared.event.Event.{Event}
use Rattle.cms_journal.specs.declared.event.Attached.{Attached}
use Rattle.cms_journal.specs.Causes.{Counted}
use Rattle.cms_journal.specs.Journal.{Journal}
use Rattle.cms_journal.specs.Told.{Told, plus}
use Rattle.cms_journal.proofs.Pieces.{plus-some}
use Rattle.cms_fields.specs.declared.time.Stamp.{Stamp}
use Rattle.cms_model.specs.Minidisks.{Minidisk, State, Volume}
use Rattle.cms_model.specs.Volumes as volumes
use Rattle.cms_model.specs.Volumes.{state_of}
use Rattle.cms_model.specs.Changes.{Change}
use Rattle.cms_model.specs.LawsSizes.{IsWhole}
use Rattle.cms_model.specs.LawsUpdates.{after, now}
use Rattle.cms_model.specs.Slots.{Slot, Settled, state_in, set_of, unit_set, named}
use Rattle.cms_model.specs.Steps.{Put, Outcome, Good, OldFault, EitherFault, new_slot, put_slot, slot_after, units_after, faults_in}
use Rattle.cms_model.specs.Points.{Leaves, HasNowIn, HasNow}
use Rattle.cms_model.specs.Acts.{Act, Does}
use Rattle.cms_model.specs.Beats.{Covers}
use Rattle.cms_model.specs.Runs.{Ran}
use Rattle.cms_model.proofs.Units.{get_other, get_same, other_slot, units_put}
use Rattle.cms_model.proofs.Single.{ran_step}
use Rattle.cms_line.specs.ConsoleState.{Console}
use Rattle.cms_disk.specs.Disks.{Accessed, IsLookedAt, IsMinidisk, IsOn, disk_on}
use Rattle.cms_disk.specs.Changes.{Altered, Changes, Doubted, HasState, IsOnSame, IsWholeAt, Kept}
use Rattle.cms_disk.specs.CrashStates.{LooksAs}
use Rattle.cms_disk.specs.declared.unit.UnitInfo.{UnitInfo}
use Rattle.cms_disk.proofs.CrashStates.{covers_looked}
use Rattle.cms_disk.proofs.DisksTold.{state_stands}
use Rattle.cms_search.specs.Calls.{Spot, Holds, at}
use Rattle.cms_search.specs.Held.{HoldsTable, IsDoubtSlot, KeepsWhatIsLeft, StandsAs, disk_of}
use Rattle.cms_search.specs.Searches.{item_at}
use Rattle.cms_search.specs.Tables.{AccessTable, IsReadingOf, IsTable, Seated, doubted}
use Rattle.cms_search.specs.declared.readings.KeptReading.{KeptReading}
use Rattle.cms_search.proofs.Frames.{holds_touched}
use Rattle.cms_search.proofs.LetterDisks.{Met}
use Rattle.cms_search.proofs.Seats.{disk_elsewhere, disk_there, is_table_as, is_table_with, item_here, item_within, seat_as, table_as, table_reading, table_with}
use Rattle.cms_search.proofs.Tables.{table_doubted, unit_within}

-- ---- slots

pub slot_there : (units : List Slot) (u : ℕ) (old : Slot) (new : Option Slot) → slice_get units u ≡ Some old → slice_get (put_slot units u new) u ≡ Some (unwrap_or new old)
slot_there units u old None there = there
slot_there units u old (Some new) there = get_same units u u new (slice_get_within units u old there) refl

-- the slot of the unit after its minidisk was changed
abbrev pub changed_slot : ℕ → Minidisk → Change → Stamp → Outcome → Slot
changed_slot u m change stamp o = slot_after (Settled (Volume m)) (Put u m change stamp) o

abbrev pub changed_units : List Slot → ℕ → Minidisk → Change → Stamp → Outcome → List Slot
changed_units units u m change stamp o = units_after units (Put u m change stamp) o

there_after : (units : List Slot) (u : ℕ) (m : Minidisk) (change : Change) (stamp : Stamp) (o : Outcome) → slice_get units u ≡ Some (Settled (Volume m))
    → slice_get (changed_units units u m change stamp o) u ≡ Some (changed_slot u m change stamp o)
there_after units u m change stamp o there = slot_there units u (Settled (Volume m)) (new_slot (Put u m change stamp) o) there

-- ---- the state of the unit's contents

-- its contents have the state of its slot then
abbrev pub IsNow : Told → ℕ → Minidisk → Change → Stamp → Outcome → Type 0
IsNow told u m change stamp o = (x : State) → HasNow told u x → state_in (changed_slot u m change stamp o) ≡ x

-- the state of a unit's contents, by how they are looked at
state_seen : (j : Journal) (d : Accessed) (x y : State) → IsLookedAt j d → state_of d.volume.disk (now j d.volume.unit) ≡ y → HasNowIn j d.volume.unit x → y ≡ x
state_seen j d x y looked state has = sym state ∙ ap (λ (k : volumes.Disk). state_of k (now j d.volume.unit)) (sym (looked has.unit has.attached)) ∙ has.state

-- a journal that is told has grown by a piece
pub told_after : (old new : Told) (j : Journal) (es : List Event) → old ≡ Some j → new ≡ plus old es → new ≡ Some (after j es)
told_after old new j es is grown = grown ∙ ap (λ (t : Told). plus t es) is ∙ plus-some j es

-- its unit is looked at as before
pub looked_changed : (old new : Told) (j later : Journal) (d e : Accessed) (es : List Event) → old ≡ Some j → new ≡ Some later → new ≡ plus old es
    → e.volume.unit ≡ d.volume.unit → e.volume.disk ≡ d.volume.disk → IsLookedAt j d → IsLookedAt later e
looked_changed old new j later d e es is told' told same disk looked unit has =
    let journal : later ≡ after j es = same_Some later (after j es) (sym told' ∙ told_after old new j es is told) in
    let units : later.units ≡ j.units = ap (λ (i : Journal). i.units) journal in
    let there : slice_get j.units e.volume.unit ≡ Some unit = ap (λ (us : List Attached). slice_get us e.volume.unit) (sym units) ∙ has in
    looked unit (subst (λ (v : ℕ). slice_get j.units v ≡ Some unit) same there) ∙ sym disk

-- ---- the change of a letter's disk

-- the piece of the journal that a change of the disk made
abbrev pub SeatChanges : Told → Told → Seated → Minidisk → Change → Stamp → Outcome → Type 0
SeatChanges old new s m change stamp o = Changes old new s.disk.volume.disk s.letter.unit m change stamp o

-- it is covered for the machine too
covers_seat : (old new : Told) (j : Journal) (s : Seated) → s.disk.volume.unit ≡ s.letter.unit → IsLookedAt j s.disk → (m : Minidisk) (change : Change) (stamp : Stamp) (o : Outcome) → old ≡ Some j
    → (c : SeatChanges old new s m change stamp o) → Covers old c.events s.letter.unit (Volume m ∷ []) (set_of (changed_slot s.letter.unit m change stamp o))
covers_seat old new j s own looked m change stamp o is c =
    covers_looked s.disk.volume.disk old j c.events s.letter.unit (Volume m ∷ []) (set_of (changed_slot s.letter.unit m change stamp o)) is
    (subst (λ (v : ℕ). LooksAs j v s.disk.volume.disk) own looked) c.covers

-- ---- what is held

-- what the disk's unit is after it was changed, with this table and this mark
pub record IsThen (j later : Journal) (units : List Slot) (t t' : AccessTable) (s : Seated) (met : Met j units t s) (slot : Slot) : Type 0 where
  pub doubt : Bool
  pub marked : slice_get t'.doubts s.letter.unit ≡ Some doubt
  pub whole : IsWhole (disk_on met.unit) (now later s.letter.unit)
  pub stands : StandsAs later s.letter.unit met.unit slot doubt (disk_of s.letter.unit t'.seats)

-- other units have their marks and disks still
abbrev pub KeepsOthers : AccessTable → AccessTable → ℕ → Type 0
KeepsOthers t t' u = (v : ℕ) → u ≢ v → (slice_get t'.doubts v ≡ slice_get t.doubts v) × (disk_of v t'.seats ≡ disk_of v t.seats)

pub holds_changed : (old new : Told) (j : Journal) (units : List Slot) (t t' : AccessTable) (s : Seated) (met : Met j units t s) (change : Change) (stamp : Stamp) (o : Outcome)
    → old ≡ Some j → HoldsTable j units t → (c : SeatChanges old new s met.minidisk change stamp o) → IsNow new s.letter.unit met.minidisk change stamp o
    → IsTable t' → t'.units ≡ t.units → KeepsOthers t t' s.letter.unit
    → ((later : Journal) → new ≡ Some later → IsThen j later units t t' s met (changed_slot s.letter.unit met.minidisk change stamp o))
    → Holds new t' (changed_units units s.letter.unit met.minidisk change stamp o)
holds_changed old new j units t t' s met change stamp o is h c now' table same others leaves =
    let u = s.letter.unit in
    let m = met.minidisk in
    let es = c.events in
    let told = told_after old new j es is c.told in
    let l = leaves (after j es) told in
    let line = met.line in
    rw told
    (holds_touched j es units (changed_units units u m change stamp o) t t' u met.unit c.of_unit table same (units_put units u (new_slot (Put u m change stamp) o)) met.has
    (λ v apart. record { slot = other_slot units u v (new_slot (Put u m change stamp) o) apart; doubt = (others v apart).0; disk = (others v apart).1 })
    (record {
      number = line.number;
      blocks = line.blocks;
      writable = line.writable;
      seen = line.seen;
      whole = l.whole;
      slot = changed_slot u m change stamp o;
      there = there_after units u m change stamp o met.slot;
      doubt = l.doubt;
      marked = l.marked;
      stands = l.stands;
      crash = λ x left. (covers_seat old new j s met.own met.looked m change stamp o is c).whole x (subst (λ (t : Told). Leaves t u x) (sym told ∙ c.told) left);
      has = λ x has. now' x (subst (λ (t : Told). HasNow t u x) (sym told) has);
    })
    h)

-- ---- the disk is a minidisk then

pub on_same : (unit : UnitInfo) (d e : Accessed) → IsOnSame d e → IsOn unit d → IsOn unit e
on_same unit d e same on = record {
  vdev = same.vdev ∙ on.vdev;
  writable = same.writable ∙ on.writable;
  number = same.unit ∙ on.number;
  disk = same.disk ∙ on.disk;
}

others_as : (t : AccessTable) (n : ℕ) (s : Seated) (e : Accessed) (r : Option KeptReading) → IsTable t → IsTable (table_as t n s e r) → item_at t.seats n ≡ Some s
    → KeepsOthers t (table_as t n s e r) s.letter.unit
others_as t n s e r is is' at v apart = (
  refl,
  disk_elsewhere t.seats n s (Some (seat_as s e r)) v is.once is'.once at (λ x same. ap (λ (y : Seated). y.letter.unit) (sym (same_Some (seat_as s e r) x same))) apart,
)

there_as : (t : AccessTable) (n : ℕ) (s : Seated) (e : Accessed) (r : Option KeptReading) → IsTable (table_as t n s e r) → item_at t.seats n ≡ Some s
    → disk_of s.letter.unit (table_as t n s e r).seats ≡ Some (seat_as s e r)
there_as t n s e r is' at = disk_there (table_as t n s e r).seats n (seat_as s e r) is'.once (item_here t.seats n (Some (seat_as s e r)) (item_within t.seats n s at))

others_with : (t : AccessTable) (n : ℕ) (s : Seated) (e : Accessed) → IsTable t → item_at t.seats n ≡ Some s → KeepsOthers t (table_with t n s e) s.letter.unit
others_with t n s e is at = others_as t n s e None is (is_table_with t n s e is at) at

-- its unit is settled at the minidisk that the disk is then, and a reading that it keeps has left what that has
then_as : (j later : Journal) (units : List Slot) (t : AccessTable) (n : ℕ) (s : Seated) (e : Accessed) (r : Option KeptReading) (met : Met j units t s) (slot : Slot) (m : Minidisk)
    → IsTable t → IsTable (table_as t n s e r) → item_at t.seats n ≡ Some s → IsOnSame s.disk e → slot ≡ Settled (Volume m) → IsMinidisk later e m
    → KeepsWhatIsLeft later m (seat_as s e r) → IsThen j later units t (table_as t n s e r) s met slot
then_as j later units t n s e r met slot m is is' at same settled there left =
    let on = on_same met.unit s.disk e same met.on in
    let unit : e.volume.unit ≡ s.letter.unit = same.unit ∙ met.own in
    record {
      doubt = false;
      marked = is.sure n s at;
      whole = subst (λ (u : ℕ). IsWhole (disk_on met.unit) (now later u)) unit (subst (λ (d : volumes.Disk). IsWhole d (now later e.volume.unit)) on.disk there.stands.whole);
      stands = subst (λ (x : Option Seated). StandsAs later s.letter.unit met.unit slot false x) (sym (there_as t n s e r is' at)) (m, settled, on, there, left);
    }

-- another disk keeps no reading
pub then_minidisk : (j later : Journal) (units : List Slot) (t : AccessTable) (n : ℕ) (s : Seated) (e : Accessed) (met : Met j units t s) (slot : Slot) (m : Minidisk) → IsTable t
    → item_at t.seats n ≡ Some s → IsOnSame s.disk e → slot ≡ Settled (Volume m) → IsMinidisk later e m → IsThen j later units t (table_with t n s e) s met slot
then_minidisk j later units t n s e met slot m is at same settled there =
    then_as j later units t n s e None met slot m is (is_table_with t n s e is at) at same settled there tt

-- where a disk is another that is the same minidisk, or keeps another reading, nothing was done to its unit
holds_as : (j : Journal) (units : List Slot) (t : AccessTable) (n : ℕ) (s : Seated) (e : Accessed) (r : Option KeptReading) (met : Met j units t s) → IsTable (table_as t n s e r)
    → item_at t.seats n ≡ Some s → IsOnSame s.disk e → IsMinidisk j e met.minidisk → KeepsWhatIsLeft j met.minidisk (seat_as s e r) → HoldsTable j units t
    → HoldsTable j units (table_as t n s e r)
holds_as j units t n s e r met is' at same there left h =
    let u = s.letter.unit in
    let t' = table_as t n s e r in
    let l = then_as j j units t n s e r met (Settled (Volume met.minidisk)) met.minidisk h.table is' at same refl there left in
    let line = met.line in
    let slot : line.slot ≡ Settled (Volume met.minidisk) = same_Some line.slot (Settled (Volume met.minidisk)) (sym line.there ∙ met.slot) in
    holds_touched j [] units units t t' u met.unit tt is' refl refl met.has
    (λ v apart. record { slot = refl; doubt = refl; disk = (others_as t n s e r h.table is' at v apart).1 })
    (record {
      number = line.number;
      blocks = line.blocks;
      writable = line.writable;
      seen = line.seen;
      whole = l.whole;
      slot = line.slot;
      there = line.there;
      doubt = l.doubt;
      marked = l.marked;
      stands = subst (λ (x : Slot). StandsAs j u met.unit x l.doubt (disk_of u t'.seats)) (sym slot) l.stands;
      crash = line.crash;
      has = line.has;
    })
    h

pub holds_with : (j : Journal) (units : List Slot) (t : AccessTable) (n : ℕ) (s : Seated) (e : Accessed) (met : Met j units t s) → item_at t.seats n ≡ Some s → IsOnSame s.disk e
    → IsMinidisk j e met.minidisk → HoldsTable j units t → HoldsTable j units (table_with t n s e)
holds_with j units t n s e met at same there h = holds_as j units t n s e None met (is_table_with t n s e h.table at) at same there tt h

pub holds_reading : (j : Journal) (units : List Slot) (t : AccessTable) (n : ℕ) (s : Seated) (r : Option KeptReading) (met : Met j units t s) → item_at t.seats n ≡ Some s
    → IfSome r (IsReadingOf s.disk) → KeepsWhatIsLeft j met.minidisk (seat_as s s.disk r) → HoldsTable j units t → HoldsTable j units (table_reading t n s r)
holds_reading j units t n s r met at own left h =
    holds_as j units t n s s.disk r met (is_table_as t n s s.disk r h.table at own) at (record { vdev = refl; writable = refl; unit = refl; disk = refl }) met.is left h

-- ---- the unit is in doubt

others_doubted : (t : AccessTable) (n : ℕ) (s : Seated) → IsTable t → item_at t.seats n ≡ Some s → KeepsOthers t (doubted n s.letter.unit t) s.letter.unit
others_doubted t n s is at v apart = (
  get_other t.doubts s.letter.unit v true (λ same. apart (sym same)),
  disk_elsewhere t.seats n s None v is.once (table_doubted t n s is at).once at (λ x same. absurd (cc)) apart,
)

then_doubt : (j later : Journal) (units : List Slot) (t : AccessTable) (n : ℕ) (s : Seated) (met : Met j units t s) (slot : Slot) → IsTable t → item_at t.seats n ≡ Some s
    → IsWhole (disk_on met.unit) (now later s.letter.unit) → IsDoubtSlot slot → IsThen j later units t (doubted n s.letter.unit t) s met slot
then_doubt j later units t n s met slot is at whole doubt = record {
  doubt = true;
  marked = get_same t.doubts s.letter.unit s.letter.unit true (unit_within t n s is at) refl;
  whole = whole;
  stands = doubt;
}

-- ---- what a change of the disk leaves

-- the piece of the journal and what is held behind it, with this table
pub record Steps (old new : Told) (j : Journal) (units : List Slot) (t t' : AccessTable) (s : Seated) (met : Met j units t s) (change : Change) (stamp : Stamp) (o : Outcome) : Type 0 where
  pub changes : SeatChanges old new s met.minidisk change stamp o
  pub covers : Covers old changes.events s.letter.unit (Volume met.minidisk ∷ []) (set_of (changed_slot s.letter.unit met.minidisk change stamp o))
  pub now' : IsNow new s.letter.unit met.minidisk change stamp o
  pub holds : Holds new t' (changed_units units s.letter.unit met.minidisk change stamp o)

-- where the disk is a minidisk then
pub steps_with : (old new : Told) (j later : Journal) (units : List Slot) (t : AccessTable) (n : ℕ) (s : Seated) (e : Accessed) (met : Met j units t s) (change : Change) (stamp : Stamp) (o : Outcome)
    (m : Minidisk) → old ≡ Some j → new ≡ Some later → HoldsTable j units t → item_at t.seats n ≡ Some s → IsOnSame s.disk e → IsMinidisk later e m
    → Changes old new e.volume.disk e.volume.unit met.minidisk change stamp o → changed_slot s.letter.unit met.minidisk change stamp o ≡ Settled (Volume m)
    → Steps old new j units t (table_with t n s e) s met change stamp o
steps_with old new j later units t n s e met change stamp o m is told h at same there c slot =
    let u = s.letter.unit in
    let unit : e.volume.unit ≡ u = same.unit ∙ met.own in
    let changes : SeatChanges old new s met.minidisk change stamp o =
    subst (λ (v : ℕ). Changes old new s.disk.volume.disk v met.minidisk change stamp o) unit
    (subst (λ (b : volumes.Disk). Changes old new b e.volume.unit met.minidisk change stamp o) same.disk c) in
    let looked = looked_changed old new j later s.disk e changes.events is told changes.told same.unit same.disk met.looked in
    let now' : IsNow new u met.minidisk change stamp o = λ x has.
    ap state_in slot
    ∙ state_seen later e x (Volume m) looked (state_stands (now later e.volume.unit) e m there.stands)
    (subst (λ (v : ℕ). HasNowIn later v x) (sym unit) (subst (λ (k : Told). HasNow k u x) told has)) in
    record {
      changes = changes;
      covers = covers_seat old new j s met.own met.looked met.minidisk change stamp o is changes;
      now' = now';
      holds = holds_changed old new j units t (table_with t n s e) s met change stamp o is h changes now' (is_table_with t n s e h.table at) refl (others_with t n s e h.table at)
          (λ k told'. then_minidisk j k units t n s e met (changed_slot u met.minidisk change stamp o) m h.table at same slot
          (subst (λ (i : Journal). IsMinidisk i e m) (same_Some later k (sym told ∙ told')) there));
    }

-- it is done
pub steps_good : (old new : Told) (j : Journal) (units : List Slot) (t : AccessTable) (n : ℕ) (s : Seated) (e : Accessed) (met : Met j units t s) (change : Change) (stamp : Stamp) → old ≡ Some j
    → HoldsTable j units t → item_at t.seats n ≡ Some s → IsOnSame s.disk e → Altered old new e met.minidisk change stamp
    → Steps old new j units t (table_with t n s e) s met change stamp Good
steps_good old new j units t n s e met change stamp is h at same a =
    let answer = a.answer in
    steps_with old new j a.later units t n s e met change stamp Good a.after is a.told h at same a.minidisk a.changes (rw answer refl)

-- the device failed before the label was written
pub steps_kept : (old new : Told) (j : Journal) (units : List Slot) (t : AccessTable) (n : ℕ) (s : Seated) (e : Accessed) (met : Met j units t s) (change : Change) (stamp : Stamp) → old ≡ Some j
    → HoldsTable j units t → item_at t.seats n ≡ Some s → IsOnSame s.disk e → Kept old new e met.minidisk change stamp
    → Steps old new j units t (table_with t n s e) s met change stamp OldFault
steps_kept old new j units t n s e met change stamp is h at same k =
    let answer = k.answer in
    steps_with old new j k.later units t n s e met change stamp OldFault met.minidisk is k.told h at same k.minidisk k.changes (rw answer refl)

-- it failed then
pub steps_doubted : (old new : Told) (j : Journal) (units : List Slot) (t : AccessTable) (n : ℕ) (s : Seated) (met : Met j units t s) (change : Change) (stamp : Stamp) → old ≡ Some j
    → HoldsTable j units t → item_at t.seats n ≡ Some s → (d : Doubted old new s.disk met.minidisk change stamp)
    → Steps old new j units t (doubted n s.letter.unit t) s met change stamp (EitherFault d.side)
steps_doubted old new j units t n s met change stamp is h at d =
    let u = s.letter.unit in
    let o = EitherFault d.side in
    let changes : SeatChanges old new s met.minidisk change stamp o =
    subst (λ (v : ℕ). Changes old new s.disk.volume.disk v met.minidisk change stamp o) met.own d.changes in
    let later = after j changes.events in
    let told = told_after old new j changes.events is changes.told in
    let looked = looked_changed old new j later s.disk s.disk changes.events is told changes.told refl refl met.looked in
    let slot : state_in (changed_slot u met.minidisk change stamp o) ≡ named (Volume met.minidisk) (Volume d.after) d.side = let answer = d.answer in rw answer refl in
    let doubt : IsDoubtSlot (changed_slot u met.minidisk change stamp o) = let answer = d.answer in rw answer tt in
    let now' : IsNow new u met.minidisk change stamp o = λ x has.
    slot
    ∙ state_seen later s.disk x (named (Volume met.minidisk) (Volume d.after) d.side) looked
    (subst (λ (k : Told). HasState k s.disk.volume.disk s.disk.volume.unit (named (Volume met.minidisk) (Volume d.after) d.side)) told d.left)
    (subst (λ (v : ℕ). HasNowIn later v x) (sym met.own) (subst (λ (k : Told). HasNow k u x) told has)) in
    record {
      changes = changes;
      covers = covers_seat old new j s met.own met.looked met.minidisk change stamp o is changes;
      now' = now';
      holds = holds_changed old new j units t (doubted n u t) s met change stamp o is h changes now' (table_doubted t n s h.table at) refl (others_doubted t n s h.table at)
          (λ k told'. then_doubt j k units t n s met (changed_slot u met.minidisk change stamp o) h.table at
          (subst (λ (v : ℕ). IsWhole (disk_on met.unit) (now k v)) met.own
          (subst (λ (x : volumes.Disk). IsWhole x (now k s.disk.volume.unit)) met.on.disk (subst (λ (y : Told). IsWholeAt y s.disk.volume.disk s.disk.volume.unit) told' d.whole)))
          doubt);
    }

-- ---- the step

-- a minidisk was changed, with this outcome
pub change_ran : {R : Type 0} (old new : Spot) (units : List Slot) (disk : volumes.Disk) (u : ℕ) (m : Minidisk) (change : Change) (stamp : Stamp) (o : Outcome) (k : Outcome → Act R)
    → slice_get units u ≡ Some (Settled (Volume m)) → (c : Changes old.world.told new.world.told disk u m change stamp o)
    → Covers old.world.told c.events u (Volume m ∷ []) (set_of (changed_slot u m change stamp o)) → IsNow new.world.told u m change stamp o
    → Counted old.world.faults (faults_in (o ∷ [])) new.world.faults → new.state.console ≡ old.state.console
    → Ran (at old units) (at new (changed_units units u m change stamp o)) (Does (Put u m change stamp) k) (k o)
change_ran old new units disk u m change stamp o k there c covered now counted console =
    let slot = there_after units u m change stamp o there in
    let before : unit_set units u ≡ Volume m ∷ [] = rw there refl in
    let behind : unit_set (changed_units units u m change stamp o) u ≡ set_of (changed_slot u m change stamp o) = rw slot refl in
    let covers : Covers old.world.told c.events u (unit_set units u) (unit_set (changed_units units u m change stamp o) u) = rw (before, behind) covered in
    ran_step (at old units) (at new (changed_units units u m change stamp o)) (Put u m change stamp) o k c.events c.told counted c.of_unit c.fits there refl
    (record { unread = ap (λ (s : Console). s.unread) console; ended = ap (λ (s : Console). s.ended) console }) refl (λ sound. covers)
    (λ sound x has. ap (λ (z : Option Slot). option_map state_in z) slot ∙ ap (λ (y : State). Some y) (now x has))
