-- The outcomes of device steps fit the events of an update, and what a crash leaves.
use Rattle.std.proofs.Common.{◌≡◌, ◌⊎◌, inl, inr, ⊎_elim, ℕ, ◌+◌, ◌≤◌, false, List, [], ◌∷◌, Some, None, refl, sym, ◌∙◌, ap, subst, arith}
use Rattle.cms_journal.specs.declared.event.Event.{Event}
use Rattle.cms_journal.specs.declared.event.Event.TheVariants.{Wrote, Synced}
use Rattle.cms_journal.specs.Told.{syncs}
use Rattle.cms_journal.proofs.Pieces.{syncs-append}
use Rattle.cms_model.specs.Minidisks.{Minidisk, State}
use Rattle.cms_model.specs.Trees.{image_of}
use Rattle.cms_model.specs.Volumes.{state_of}
use Rattle.cms_model.specs.Settled.{Write, writes, update}
use Rattle.cms_model.specs.Changes.{Change, Put, Add, Drop, Rename, Relabel, Century, Answer, Limited, Full, Changed, answer_of}
use Rattle.cms_model.specs.LawsUpdates.{now, IsFront, with_label}
use Rattle.cms_model.proofs.SettledUnits.{sync_settles}
use Rattle.cms_model.specs.Slots.{Slot, Settled, Doubt, named, set_of, IsAmong}
use Rattle.cms_model.specs.Steps.{Outcome, Good, ReadFault, SyncFault, OldFault, EitherFault, is_taken, MayPut, after_access, after_update, after_put, access_syncs, most_put, update_syncs, put_syncs}
use Rattle.cms_model.specs.LawsSteps.{change_events, SyncsAreCounted, RefusedIsNothing, KeptWithoutSync, AccessEndsDoubt, DoubtHasBoth, FaultsAreCounted}

-- ---- syncs

pub no_syncs : (u : ℕ) (ws : List Write) → syncs (writes u ws) ≡ 0
unfolding writes
no_syncs u [] = refl
no_syncs u (w ∷ ws) = no_syncs u ws

pub update_count : (u : ℕ) (ws : List Write) (label : List ℕ) → syncs (update u ws label) ≡ 2
unfolding update
update_count u ws label = syncs-append (writes u ws) (Synced u ∷ Wrote u 3 label ∷ Synced u ∷ []) ∙ ap (λ (n : ℕ). n + 2) (no_syncs u ws)

label_count : (u : ℕ) (ws : List Write) (label : List ℕ) → syncs (with_label u ws label) ≡ 1
label_count u ws label = syncs-append (writes u ws) (Synced u ∷ Wrote u 3 label ∷ []) ∙ ap (λ (n : ℕ). n + 1) (no_syncs u ws)

front_count : (u : ℕ) (ws : List Write) (front : List Event) → IsFront front (writes u ws) → syncs front ≡ 0
front_count u ws front f =
    let all : syncs front + syncs f.rest ≡ 0 = sym (syncs-append front f.rest) ∙ ap syncs f.is ∙ no_syncs u ws in
    omega (arith, all)

change_count : (u : ℕ) (ws : List Write) (label : List ℕ) (change : Change) (m : Minidisk) → syncs (change_events u change ws label) ≡ put_syncs change (Changed m) Good
change_count u ws label (Put new) m = update_count u ws label
change_count u ws label (Add name more stamp) m = update_count u ws label
change_count u ws label (Drop name) m = update_count u ws label
change_count u ws label (Rename from to number) m = update_count u ws label
change_count u ws label (Relabel volid) m = refl
change_count u ws label (Century pivot) m = update_count u ws label

pub syncs_counted : SyncsAreCounted
syncs_counted u ws label size = record {
  whole = change_count u ws label;
  update_either = λ side. label_count u ws label;
  update_old = front_count u ws;
  wiped = refl;
  label_either = λ side. refl;
}

-- ---- a change that is refused

-- nothing is read and no update is made, so none fails
only_good : (change : Change) (answer : Answer) (o : Outcome) → is_taken answer ≡ false → MayPut change answer o → o ≡ Good
only_good change answer Good none may = refl
only_good change answer (ReadFault j) none may = absurd (let taken = may.2 in cc)
only_good change answer SyncFault none may = absurd may
only_good change answer OldFault none may = absurd (cc)
only_good change answer (EitherFault side) none may = absurd (cc)

no_more : (n : ℕ) → n ≤ 0 → n ≡ 0
no_more n few = omega (arith, few)

refused : (m : Minidisk) (change : Change) (answer : Answer) (o : Outcome) → is_taken answer ≡ false
    → (put_syncs change answer o ≡ 0) × (after_put m answer o ≡ None) × (MayPut change answer o → o ≡ Good) × ((n : ℕ) → n ≤ most_put m change answer → n ≡ 0)
refused m change (Changed new) o none = absurd (cc)
refused m change (Limited k) o none = (refl, refl, only_good change (Limited k) o none, no_more)
refused m change (Full need free) o none = (refl, refl, only_good change (Full need free) o none, no_more)

pub refused_is_nothing : RefusedIsNothing
refused_is_nothing m change o none =
    let all = refused m change (answer_of m change) o none in
    record { few = λ u n stamp. all.3 n; none = all.0; same = all.1; good = all.2 }

-- ---- what the machine knows of a unit

access_kept : (slot : Slot) (o : Outcome) → access_syncs slot o ≡ 0 → after_access slot o ≡ None
access_kept (Settled state) o none = refl
access_kept (Doubt before later side) Good none = absurd (omega (arith, none))
access_kept (Doubt before later side) (ReadFault j) none = absurd (omega (arith, none))
access_kept (Doubt before later side) SyncFault none = refl
access_kept (Doubt before later side) OldFault none = refl
access_kept (Doubt before later side) (EitherFault s) none = refl

update_kept : (old new : State) (o : Outcome) → update_syncs o ≡ 0 → after_update old new o ≡ None
update_kept old new Good none = absurd (omega (arith, none))
update_kept old new (ReadFault j) none = refl
update_kept old new SyncFault none = refl
update_kept old new OldFault none = refl
update_kept old new (EitherFault side) none = absurd (omega (arith, none))

pub kept_without_sync : KeptWithoutSync
kept_without_sync slot old new o = record { access = access_kept slot o; update = update_kept old new o }

pub access_ends_doubt : AccessEndsDoubt
access_ends_doubt disk j u before later side is slot known image left =
    let same : image_of image ≡ now j u = (sync_settles disk j u).leaves image left in
    let state : state_of disk (image_of image) ≡ named before later side = ap (state_of disk) same ∙ is in
    let slot_is : Settled (named before later side) ≡ slot = (let e : Some (Settled (named before later side)) ≡ Some slot = known in cc) in
    subst (λ (s : Slot). IsAmong (state_of disk (image_of image)) (set_of s)) slot_is (inl state)

pub doubt_has_both : DoubtHasBoth
doubt_has_both old new side slot known x either =
    let slot_is : Doubt old new side ≡ slot = (let e : Some (Doubt old new side) ≡ Some slot = known in cc) in
    subst (λ (s : Slot). IsAmong x (set_of s)) slot_is (⊎_elim (λ a. inl a) (λ b. inr (inl b)) either)

-- ---- faults

pub faults_counted : FaultsAreCounted
faults_counted Good os bad = absurd (bad refl)
faults_counted (ReadFault j) os bad = refl
faults_counted SyncFault os bad = refl
faults_counted OldFault os bad = refl
faults_counted (EitherFault side) os bad = refl
