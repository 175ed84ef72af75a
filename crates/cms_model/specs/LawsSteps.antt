-- What follows for device steps: what is said of their outcomes fits the events of an update and what a crash leaves of them.
use Rattle.std.specs.Prelude.{◌≡◌, ◌≢◌, ◌⊎◌, ℕ, suc, ◌≤◌, if◌then◌else◌, false, List, [], ◌∷◌, Some, None, ⊤}
use Rattle.cms_journal.specs.declared.event.Event.{Event}
use Rattle.cms_journal.specs.declared.event.Event.TheVariants.{Wrote, Synced}
use Rattle.cms_journal.specs.Journal.{Journal}
use Rattle.cms_journal.specs.Told.{syncs}
use Rattle.cms_names.specs.declared.name.Name.{Name}
use Rattle.cms_fields.specs.declared.time.Stamp.{Stamp}
use Rattle.cms_model.specs.Minidisks.{Minidisk, State}
use Rattle.cms_model.specs.Volumes.{Disk, state_of}
use Rattle.cms_model.specs.Settled.{EachCrash, Write, writes, update}
use Rattle.cms_model.specs.Changes.{Change, Add, Relabel, Changed, answer_of}
use Rattle.cms_model.specs.LawsUpdates.{after, now, IsFront, with_label, relabel, wipe}
use Rattle.cms_model.specs.Slots.{Side, Slot, Doubt, named, set_of, IsAmong}
use Rattle.cms_model.specs.Steps.{Step, Access, Get, Put, Wipe, Make, Outcome, Good, ReadFault, SyncFault, OldFault, EitherFault, IsOutcome, WritesFew, is_relabel, is_taken, MayPut, after_access, after_update, after_put, access_syncs, update_syncs, label_syncs, put_syncs, faults_in}

-- the events of a change that is made
abbrev pub change_events : ℕ → Change → List Write → List ℕ → List Event
change_events u change ws label = if is_relabel change then relabel u label else update u ws label

-- a step's outcome tells the syncs of its events: of a whole change or wiping, of one that was cut off at the sync behind its
-- label, and of an update that was cut off before its first sync
pub record CountsSyncs (u : ℕ) (ws : List Write) (label : List ℕ) (size : ℕ) : Type 0 where
  pub whole : (change : Change) (m : Minidisk) → syncs (change_events u change ws label) ≡ put_syncs change (Changed m) Good
  pub update_either : (side : Side) → syncs (with_label u ws label) ≡ update_syncs (EitherFault side)
  pub update_old : (front : List Event) → IsFront front (writes u ws) → syncs front ≡ update_syncs OldFault
  pub wiped : syncs (wipe u size) ≡ label_syncs Good
  pub label_either : (side : Side) → syncs (Wrote u 3 label ∷ []) ≡ label_syncs (EitherFault side)

-- an update has as many syncs as its outcome says
abbrev pub SyncsAreCounted : Type 0
SyncsAreCounted = (u : ℕ) (ws : List Write) (label : List ℕ) (size : ℕ) → CountsSyncs u ws label size

-- a change that is refused makes no write and no sync and changes nothing, and no device fails
pub record IsRefused (m : Minidisk) (change : Change) (o : Outcome) : Type 0 where
  pub few : (u n : ℕ) (stamp : Stamp) → WritesFew (Put u m change stamp) o n → n ≡ 0
  pub none : put_syncs change (answer_of m change) o ≡ 0
  pub same : after_put m (answer_of m change) o ≡ None
  pub good : MayPut change (answer_of m change) o → o ≡ Good

-- a change that is refused writes nothing and leaves the unit as before
abbrev pub RefusedIsNothing : Type 0
RefusedIsNothing = (m : Minidisk) (change : Change) (o : Outcome) → is_taken (answer_of m change) ≡ false → IsRefused m change o

-- an access that syncs nothing, and an update, leave the machine's knowledge of the unit as it was
pub record KeepsSlot (slot : Slot) (old new : State) (o : Outcome) : Type 0 where
  pub access : access_syncs slot o ≡ 0 → after_access slot o ≡ None
  pub update : update_syncs o ≡ 0 → after_update old new o ≡ None

-- an outcome without a sync leaves the unit in no doubt
abbrev pub KeptWithoutSync : Type 0
KeptWithoutSync = (slot : Slot) (old new : State) (o : Outcome) → KeepsSlot slot old new o

-- an access ends a doubt: where the contents have the state of its side, a crash behind the sync leaves what the machine knows then
abbrev pub AccessEndsDoubt : Type 0
AccessEndsDoubt =
    (disk : Disk) (j : Journal) (u : ℕ) (before later : State) (side : Side) → state_of disk (now j u) ≡ named before later side
    → (slot : Slot) → after_access (Doubt before later side) Good ≡ Some slot
    → EachCrash (after j (Synced u ∷ [])) u (λ image. IsAmong (state_of disk image) (set_of slot))

-- an update that a device's fault cut off behind its label leaves the old state or the new, and both are what the machine knows then
abbrev pub DoubtHasBoth : Type 0
DoubtHasBoth =
    (old new : State) (side : Side) (slot : Slot) → after_update old new (EitherFault side) ≡ Some slot
    → (x : State) → (x ≡ old) ⊎ (x ≡ new) → IsAmong x (set_of slot)

-- each outcome but Good is a fault
abbrev pub FaultsAreCounted : Type 0
FaultsAreCounted = (o : Outcome) (os : List Outcome) → o ≢ Good → faults_in (o ∷ os) ≡ suc (faults_in os)

-- ---- which faults a step may have, each with all the steps that may

-- the change adds records to a file
abbrev pub IsAddition : Change → Type 0
IsAddition change = (name : Name) × (more : List (List ℕ)) × (stamp : Stamp) × (change ≡ Add name more stamp)

-- neither a limit nor want of room refuses it
abbrev pub IsMade : Minidisk → Change → Type 0
IsMade m change = (new : Minidisk) × (answer_of m change ≡ Changed new)

-- a read may fail in it, behind so many records
abbrev pub MayFailReading : Step → ℕ → Type 0
MayFailReading (Access u slot) j = j ≡ 0
MayFailReading (Get u f wanted) j = j ≤ wanted
MayFailReading (Put u m change stamp) j = (j ≡ 0) × IsAddition change × IsMade m change
MayFailReading (Wipe u old) j = ⊥
MayFailReading (Make u old m stamp) j = ⊥

-- it is an access of a unit in doubt
abbrev pub IsOfDoubt : Step → Type 0
IsOfDoubt s = (u : ℕ) × (before after : State) × (side : Side) × (s ≡ Access u (Doubt before after side))

-- it writes new blocks, and then the label that names them
abbrev pub WritesBlocks : Step → Type 0
WritesBlocks (Access u slot) = ⊥
WritesBlocks (Get u f wanted) = ⊥
WritesBlocks (Put u m change stamp) = IsMade m change × ((volid : List ℕ) → change ≢ Relabel volid)
WritesBlocks (Wipe u old) = ⊥
WritesBlocks (Make u old m stamp) = ⊤

-- it writes the label
abbrev pub WritesLabel : Step → Type 0
WritesLabel (Access u slot) = ⊥
WritesLabel (Get u f wanted) = ⊥
WritesLabel (Put u m change stamp) = IsMade m change
WritesLabel (Wipe u old) = ⊤
WritesLabel (Make u old m stamp) = ⊤

-- a read fails in an access, a reading and an addition that isn't refused alone; a sync that ends a doubt in an access of a unit in doubt alone; a fault
-- leaves the unit as before where new blocks are written before the label, and in doubt where the label is
pub record FaultsOf (s : Step) : Type 0 where
  pub read : (j : ℕ) → IsOutcome s (ReadFault j) → MayFailReading s j
  pub sync : IsOutcome s SyncFault → IsOfDoubt s
  pub old : IsOutcome s OldFault → WritesBlocks s
  pub either : (side : Side) → IsOutcome s (EitherFault side) → WritesLabel s

-- so it is of each step
abbrev pub FaultsFitSteps : Type 0
FaultsFitSteps = (s : Step) → FaultsOf s
