-- A unit that isn't in doubt, or whose sync was good: what is known of it then.
use Rattle.std.proofs.Common.{◌≡◌, ◌≤◌, ◌∙◌, ◌⊎◌, ⊎_elim, inl, inr, ℕ, List, [], ◌∷◌, ◌++◌, Bool, true, false, Option, Some, None, length, slice_get, refl, sym, ap, subst, arith}
use Rattle.std.specs.Prelude.{⊤, IsSomeAnd}
use Rattle.std.proofs.lemmas.Option.{slice_get_within}
use Rattle.cms_journal.specs.declared.event.Attached.{Attached}
use Rattle.cms_journal.specs.declared.event.Event.{Event}
use Rattle.cms_journal.specs.declared.event.Event.TheVariants.{Synced}
use Rattle.cms_journal.specs.Causes.{Counted}
use Rattle.cms_journal.specs.Journal.{Journal, IsCrashImage, contents_of, start_of}
use Rattle.cms_journal.specs.Told.{Told, OnlyOf, plus, syncs}
use Rattle.cms_journal.proofs.Pieces.{plus-some}
use Rattle.cms_model.specs.Trees.{Image, image_of}
use Rattle.cms_model.specs.Minidisks.{Not, State}
use Rattle.cms_model.specs.Volumes.{Disk, disk_of, reason, state_of}
use Rattle.cms_model.specs.Settled.{IsFirm, MayLeave}
use Rattle.cms_model.specs.LawsSizes.{IsWhole}
use Rattle.cms_model.specs.LawsUpdates.{after, now}
use Rattle.cms_model.specs.declared.fault.OpenFault.{OpenFault}
use Rattle.cms_model.specs.declared.fault.OpenFault.TheVariants as failed
use Rattle.cms_model.proofs.SettledUnits.{synced_leaves, synced_now}
use Rattle.cms_model.specs.Slots.{Slot, Settled, Doubt, Before, After, IsAmong, named, set_of, state_in, unit_set, unit_state}
use Rattle.cms_model.specs.Steps.{Access, MayAccess, Outcome, Good, ReadFault, SyncFault, OldFault, EitherFault, access_syncs, faults_in, units_after}
use Rattle.cms_model.specs.Acts.{Act, Does}
use Rattle.cms_model.specs.Beats.{AreStamped, Covers, KeepsConsole, written_count}
use Rattle.cms_model.specs.Points.{HasNow, HasNowIn, Leaves, LeavesIn, Point, Sound}
use Rattle.cms_model.specs.Runs.{Broke, Ran}
use Rattle.cms_model.proofs.Aside.{of_disk}
use Rattle.cms_model.proofs.Single.{begun_by, broke_step, ran_step}
use Rattle.cms_model.proofs.Units.{get_same}
use Rattle.cms_disk.specs.Disks.{IsRefused, disk_on, synced}
use Rattle.cms_disk.specs.declared.unit.UnitInfo.{UnitInfo}
use Rattle.cms_search.specs.Held.{HoldsUnit, IsDoubtSlot, IsSettledSlot, StandsAs, disk_of as disk_of_unit}
use Rattle.cms_search.specs.Tables.{AccessTable, Seated}

-- ---- the events

-- a sync, where the unit was in doubt
abbrev pub sync_of : Bool → ℕ → List Event
sync_of true u = Synced u ∷ []
sync_of false u = []

pub synced_is : (doubt : Bool) (u : ℕ) (told : Told) → synced doubt u told ≡ plus told (sync_of doubt u)
synced_is true u told = refl
synced_is false u told = refl

pub sync_own : (doubt : Bool) (u : ℕ) → OnlyOf u (sync_of doubt u)
sync_own true u = (refl, tt)
sync_own false u = tt

-- the fronts of these events
sync_fronts : (doubt : Bool) (u : ℕ) (front rest : List Event) → front ++ rest ≡ sync_of doubt u → (front ≡ []) ⊎ (front ≡ sync_of doubt u)
sync_fronts doubt u [] rest is = inl refl
sync_fronts false u (e ∷ front) rest is = absurd (cc is)
sync_fronts true u (e ∷ []) rest is = let same : e ≡ Synced u = cc is in inr (ap (λ (x : Event). x ∷ []) same)
sync_fronts true u (e ∷ f ∷ front) rest is = let more : f ∷ (front ++ rest) ≡ [] = cc is in absurd (cc more)

-- ---- the unit behind them

-- behind these events a crash leaves the state that its contents had before, and its contents have it still
pub record IsSure (j : Journal) (es : List Event) (u : ℕ) (slot : Slot) : Type 0 where
  pub image : now (after j es) u ≡ now j u
  pub crash : (x : State) → LeavesIn (after j es) u x → x ≡ state_in slot
  pub has : (x : State) → HasNowIn (after j es) u x → state_in slot ≡ x

-- a crash behind a sync leaves the contents
left_synced : (j : Journal) (u : ℕ) (x : State) → LeavesIn (after j (Synced u ∷ [])) u x → HasNowIn j u x
left_synced j u x l =
    let at : slice_get j.units u ≡ Some l.unit = l.attached in
    let start : start_of j.units u ≡ l.unit.start = rw at refl in
    let crash : MayLeave (after j (Synced u ∷ [])) u l.image = subst (λ (blocks : List (List ℕ)). IsCrashImage (Synced u ∷ j.events) u blocks l.image) (sym start) l.crash in
    let same = synced_leaves j u l.image crash in
    record { unit = l.unit; attached = at; state = ap (λ (blocks : List (List ℕ)). state_of (disk_of l.unit) (image_of blocks)) (sym same) ∙ l.state }

now_synced : (j : Journal) (u : ℕ) (x : State) → HasNowIn (after j (Synced u ∷ [])) u x → HasNowIn j u x
now_synced j u x h = record {
  unit = h.unit;
  attached = h.attached;
  state = ap (λ (i : Image). state_of (disk_of h.unit) i) (sym (synced_now j u)) ∙ h.state;
}

only_state : (slot : Slot) (x : State) → IsSettledSlot slot → IsAmong x (set_of slot) → x ≡ state_in slot
only_state (Settled state) x is (inl same) = same
only_state (Settled state) x is (inr none) = absurd none
only_state (Doubt before after side) x is among = absurd is

-- the slot is in doubt as the unit is
abbrev pub IsMarked : Bool → Slot → Type 0
IsMarked true slot = IsDoubtSlot slot
IsMarked false slot = IsSettledSlot slot

settled_marked : (slot : Slot) (state : State) → slot ≡ Settled state → IsSettledSlot slot
settled_marked slot state is = rw is tt

pub marked_as : (j : Journal) (u : ℕ) (unit : UnitInfo) (slot : Slot) (doubt : Bool) (seat : Option Seated) → StandsAs j u unit slot doubt seat → IsMarked doubt slot
marked_as j u unit slot true seat is = is
marked_as j u unit slot false None is = is.0
marked_as j u unit slot false (Some s) is = settled_marked slot _ is.1

pub sure : (j : Journal) (units : List Slot) (t : AccessTable) (u : ℕ) (unit : UnitInfo) (h : HoldsUnit j units t u unit) (doubt : Bool) → IsMarked doubt h.slot → IsSure j (sync_of doubt u) u h.slot
sure j units t u unit h false settled = record {
  image = refl;
  crash = λ x left. only_state h.slot x settled (h.crash x left);
  has = h.has;
}
sure j units t u unit h true doubt = record {
  image = synced_now j u;
  crash = λ x left. sym (h.has x (left_synced j u x left));
  has = λ x has. h.has x (now_synced j u x has);
}

some_and : {A : Type 0} (x : Option A) (P : A → Type 0) → IsSomeAnd x P → (a : A) × (x ≡ Some a)
some_and None P h = absurd h
some_and (Some a) P h = (a, refl)

-- the state that its contents have is that of its slot
pub state_now : (j : Journal) (es : List Event) (units : List Slot) (t : AccessTable) (u : ℕ) (unit : UnitInfo) (h : HoldsUnit j units t u unit) → IsSure j es u h.slot → (x : State)
    → state_of (disk_on unit) (now (after j es) u) ≡ x → state_in h.slot ≡ x
state_now j es units t u unit h s x is =
    let at = some_and (slice_get j.units u) (λ (a : Attached). (a.bsize ≡ unit.bsize) × (unit.unit.blocks ≤ length a.start)) h.blocks in
    let looked : disk_of at.0 ≡ disk_on unit = h.seen at.0 (ap (λ (n : ℕ). slice_get j.units n) h.number ∙ at.1) in
    let has : HasNowIn (after j es) u x = record { unit = at.0; attached = at.1; state = ap (λ (k : Disk). state_of k (image_of (contents_of (after j es) u))) looked ∙ is } in
    s.has x has

-- the line of the unit then, with this table
pub sure_line : (j : Journal) (es : List Event) (units units' : List Slot) (t t' : AccessTable) (u : ℕ) (unit : UnitInfo) (h : HoldsUnit j units t u unit) → IsSure j es u h.slot
    → slice_get units' u ≡ Some (Settled (state_in h.slot)) → slice_get t'.doubts u ≡ Some false
    → StandsAs (after j es) u unit (Settled (state_in h.slot)) false (disk_of_unit u t'.seats) → HoldsUnit (after j es) units' t' u unit
sure_line j es units units' t t' u unit h s there mark stands = record {
  number = h.number;
  blocks = h.blocks;
  writable = h.writable;
  seen = h.seen;
  whole = subst (λ (i : Image). IsWhole (disk_on unit) i) (sym s.image) h.whole;
  slot = Settled (state_in h.slot);
  there = there;
  doubt = false;
  marked = mark;
  stands = stands;
  crash = λ x left. inl (s.crash x left);
  has = s.has;
}

-- ---- a refused volume

pub refused_firm : (disk : Disk) (j : Journal) (u : ℕ) (why : OpenFault) → (why ≡ failed.Device → ⊥) → (why ≡ failed.Memory → ⊥) → IsRefused disk j u why → IsFirm disk j u (Not (reason why))
refused_firm disk j u failed.Device device memory is = absurd (device refl)
refused_firm disk j u failed.Memory device memory is = absurd (memory refl)
refused_firm disk j u (failed.Label k) device memory is = is
refused_firm disk j u (failed.Entry n k) device memory is = is
refused_firm disk j u (failed.Pointer holder value) device memory is = is
refused_firm disk j u (failed.Crossed n) device memory is = is
refused_firm disk j u (failed.MapMissing n) device memory is = is
refused_firm disk j u (failed.Var n k) device memory is = is
refused_firm disk j u (failed.Twice n) device memory is = is
refused_firm disk j u (failed.System n) device memory is = is

-- ---- the step

-- the outcomes behind which the unit is sure
abbrev pub IsSureOutcome : Outcome → Type 0
IsSureOutcome Good = ⊤
IsSureOutcome (ReadFault j) = j ≡ 0
IsSureOutcome SyncFault = ⊥
IsSureOutcome OldFault = ⊥
IsSureOutcome (EitherFault side) = ⊥

sure_may : (slot : Slot) (o : Outcome) → IsSureOutcome o → MayAccess slot o
sure_may slot Good is = tt
sure_may slot (ReadFault j) is = is
sure_may slot SyncFault is = absurd is
sure_may slot OldFault is = absurd is
sure_may slot (EitherFault side) is = absurd is

sure_syncs : (doubt : Bool) (u : ℕ) (slot : Slot) (o : Outcome) → IsMarked doubt slot → IsSureOutcome o → syncs (sync_of doubt u) ≡ access_syncs slot o
sure_syncs true u (Settled state) o marked is = absurd marked
sure_syncs true u (Doubt before after side) Good marked is = refl
sure_syncs true u (Doubt before after side) (ReadFault j) marked is = refl
sure_syncs true u (Doubt before after side) SyncFault marked is = absurd is
sure_syncs true u (Doubt before after side) OldFault marked is = absurd is
sure_syncs true u (Doubt before after side) (EitherFault s) marked is = absurd is
sure_syncs false u (Settled state) o marked is = refl
sure_syncs false u (Doubt before after side) o marked is = absurd marked

abbrev pub units_then : List Slot → ℕ → Slot → Outcome → List Slot
units_then units u slot o = units_after units (Access u slot) o

-- its slot is settled then
pub there_then : (units : List Slot) (u : ℕ) (slot : Slot) (o : Outcome) → slice_get units u ≡ Some slot → IsSureOutcome o
    → slice_get (units_then units u slot o) u ≡ Some (Settled (state_in slot))
there_then units u (Settled state) o there is = there
there_then units u (Doubt before after side) Good there is = get_same units u u (Settled (named before after side)) (slice_get_within units u (Doubt before after side) there) refl
there_then units u (Doubt before after side) (ReadFault j) there is = get_same units u u (Settled (named before after side)) (slice_get_within units u (Doubt before after side) there) refl
there_then units u (Doubt before after side) SyncFault there is = absurd is
there_then units u (Doubt before after side) OldFault there is = absurd is
there_then units u (Doubt before after side) (EitherFault s) there is = absurd is

leaves_in : (told : Told) (j : Journal) (es : List Event) (u : ℕ) (x : State) → told ≡ Some j → Leaves (plus told es) u x → LeavesIn (after j es) u x
leaves_in told j es u x is left = subst (λ (t : Told). Leaves t u x) (ap (λ (t : Told). plus t es) is ∙ plus-some j es) left

has_in : (told : Told) (j : Journal) (es : List Event) (u : ℕ) (x : State) → told ≡ Some j → HasNow (plus told es) u x → HasNowIn (after j es) u x
has_in told j es u x is has = subst (λ (t : Told). HasNow t u x) (ap (λ (t : Told). plus t es) is ∙ plus-some j es) has

covers_sync : (p : Point) (j : Journal) (doubt : Bool) (u : ℕ) (slot : Slot) (later : List State) → p.journal ≡ Some j → IsSure j (sync_of doubt u) u slot → IsAmong (state_in slot) later
    → Sound p
    → Covers p.journal (sync_of doubt u) u (unit_set p.units u) later
covers_sync p j doubt u slot later told s among sound = record {
  inside = λ front rest is x left. ⊎_elim
      (λ (none : front ≡ []). inl (sound.each u x (subst (λ (es : List Event). Leaves (plus p.journal es) u x) none left)))
      (λ (all : front ≡ sync_of doubt u). inr (state x (subst (λ (es : List Event). Leaves (plus p.journal es) u x) all left)))
      (sync_fronts doubt u front rest is);
  whole = state;
}
  where
    state : (x : State) → Leaves (plus p.journal (sync_of doubt u)) u x → IsAmong x later
    state x left = subst (λ (y : State). IsAmong y later) (sym (s.crash x (leaves_in p.journal j (sync_of doubt u) u x told left))) among

-- the step was done
pub sure_ran : {R : Type 0} (p q : Point) (j : Journal) (doubt : Bool) (u : ℕ) (slot : Slot) (o : Outcome) (k : Outcome → Act R) → p.journal ≡ Some j
    → q.journal ≡ plus p.journal (sync_of doubt u)
    → slice_get p.units u ≡ Some slot → q.units ≡ units_then p.units u slot o → IsMarked doubt slot → IsSure j (sync_of doubt u) u slot → IsSureOutcome o
    → Counted p.faults (faults_in (o ∷ [])) q.faults → KeepsConsole p q → q.objects ≡ p.objects → Ran p q (Does (Access u slot) k) (k o)
sure_ran p q j doubt u slot o k told grown there units marked s is counted console objects =
    let own = sync_own doubt u in
    let then' : slice_get q.units u ≡ Some (Settled (state_in slot)) = ap (λ (us : List Slot). slice_get us u) units ∙ there_then p.units u slot o there is in
    let set : unit_set q.units u ≡ state_in slot ∷ [] = rw then' refl in
    let state : unit_state q.units u ≡ Some (state_in slot) = rw then' refl in
    ran_step p q (Access u slot) o k (sync_of doubt u) grown counted own
    (record { disk = of_disk u (sync_of doubt u) own; synced = sure_syncs doubt u slot o marked is; stamped = stamped doubt; few = few doubt; outcome = sure_may slot o is })
    there units console objects
    (λ sound. covers_sync p j doubt u slot (unit_set q.units u) told s (rw set (inl refl)) sound)
    (λ sound x has. state ∙ ap (λ (y : State). Some y) (s.has x (has_in p.journal j (sync_of doubt u) u x told (subst (λ (t : Told). HasNow t u x) grown has))))
  where
    stamped : (d : Bool) → AreStamped u None (sync_of d u)
    stamped true = (tt, tt)
    stamped false = tt

    few : (d : Bool) → written_count (sync_of d u) ≡ 0
    few true = refl
    few false = refl

-- it was cut off behind the sync
pub sure_broke : {R : Type 0} (p q : Point) (j : Journal) (doubt : Bool) (u : ℕ) (slot : Slot) (k : Outcome → Act R) → p.journal ≡ Some j → q.journal ≡ plus p.journal (sync_of doubt u)
    → slice_get p.units u ≡ Some slot → q.units ≡ p.units → IsMarked doubt slot → IsSure j (sync_of doubt u) u slot → p.faults ≤ q.faults → Broke p q (Does (Access u slot) k)
sure_broke p q j doubt u slot k told grown there units marked s later =
    let set : unit_set p.units u ≡ set_of slot = rw there refl in
    let state : unit_state p.units u ≡ Some (state_in slot) = rw there refl in
    broke_step p q (Access u slot) k (sync_of doubt u) grown
    (begun_by p (Access u slot) (sync_of doubt u) (sync_own doubt u) (let e = sure_syncs doubt u slot Good marked tt in omega (arith, e))
    (λ sound front rest is x left. rw set (⊎_elim
    (λ (none : front ≡ []). subst (IsAmong x) set (sound.each u x (subst (λ (es : List Event). Leaves (plus p.journal es) u x) none left)))
    (λ (all : front ≡ sync_of doubt u). subst (λ (y : State). IsAmong y (set_of slot))
    (sym (s.crash x (leaves_in p.journal j (sync_of doubt u) u x told (subst (λ (es : List Event). Leaves (plus p.journal es) u x) all left)))) (own_state slot))
    (sync_fronts doubt u front rest is)))
    (λ sound front rest is x has. ⊎_elim
    (λ (none : front ≡ []). sound.now u x (subst (λ (es : List Event). HasNow (plus p.journal es) u x) none has))
    (λ (all : front ≡ sync_of doubt u). state ∙ ap (λ (y : State). Some y)
    (s.has x (has_in p.journal j (sync_of doubt u) u x told (subst (λ (es : List Event). HasNow (plus p.journal es) u x) all has))))
    (sync_fronts doubt u front rest is)))
    later units
  where
    own_state : (x : Slot) → IsAmong (state_in x) (set_of x)
    own_state (Settled state) = inl refl
    own_state (Doubt before after Before) = inl refl
    own_state (Doubt before after After) = inr (inl refl)
