-- Device steps: the five things that a machine does with a unit, and how each may end.
use Rattle.std.specs.Prelude.{◌≡◌, ℕ, suc, ◌+◌, ◌≤◌, length, Bool, true, false, not, IsTrue, List, [], ◌∷◌, Option, Some, None, unwrap_or, slice_set, ⊤}
use Rattle.cms_fields.specs.declared.time.Stamp.{Stamp}
use Rattle.cms_model.specs.Minidisks.{File, Minidisk, State, Volume, Not}
use Rattle.cms_model.specs.Changes.{Change, Add, Relabel, Answer, Limited, Full, Changed, answer_of, file_named}
use Rattle.cms_model.specs.Changes as model
use Rattle.cms_model.specs.Sizes.{map_size}
use Rattle.cms_model.specs.Slots.{Side, Slot, Settled, Doubt, named}

-- each with the unit's number. Access: what the unit holds is found; the slot is the unit's. Get: so many records of a file are
-- read. Put: a minidisk is changed, and its directory has this stamp then. Wipe: the label of a unit in this state is made zero.
-- Make: on a unit in this state an empty minidisk is made, with this stamp.
pub data Step : Type 0 where
  Access : ℕ → Slot → Step
  Get : ℕ → File → ℕ → Step
  Put : ℕ → Minidisk → Change → Stamp → Step
  Wipe : ℕ → State → Step
  Make : ℕ → State → Minidisk → Stamp → Step

-- Good, or the fault of the device. ReadFault: a read failed, after so many of the records wanted were handed out. SyncFault:
-- the sync that was to end a doubt failed. OldFault: an update failed and the unit is as before. EitherFault: an update
-- failed and the unit is in doubt; its contents have the state of this side.
pub data Outcome : Type 0 where
  Good : Outcome
  ReadFault : ℕ → Outcome
  SyncFault : Outcome
  OldFault : Outcome
  EitherFault : Side → Outcome

-- the unit of a step
abbrev pub unit_of : Step → ℕ
unit_of (Access u slot) = u
unit_of (Get u f wanted) = u
unit_of (Put u m change stamp) = u
unit_of (Wipe u old) = u
unit_of (Make u old m stamp) = u

-- ---- which outcomes a step may have

-- the change adds records
abbrev pub is_add : Change → Bool
is_add (Add name more stamp) = true
is_add _ = false

-- the change is of the volume id alone
abbrev pub is_relabel : Change → Bool
is_relabel (Relabel volid) = true
is_relabel _ = false

-- a change that neither a limit nor want of room refuses
abbrev pub is_taken : Answer → Bool
is_taken (Changed m) = true
is_taken (Limited k) = false
is_taken (Full need free) = false

-- the unit is in doubt
abbrev pub is_doubt : Slot → Bool
is_doubt (Settled state) = false
is_doubt (Doubt before after side) = true

-- an access: a read may fail, and the sync of a unit in doubt
abbrev pub MayAccess : Slot → Outcome → Type 0
MayAccess slot Good = ⊤
MayAccess slot (ReadFault j) = j ≡ 0
MayAccess slot SyncFault = IsTrue (is_doubt slot)
MayAccess slot OldFault = ⊥
MayAccess slot (EitherFault side) = ⊥

-- a reading of so many records: a read may fail after any of them
abbrev pub MayGet : ℕ → Outcome → Type 0
MayGet wanted Good = ⊤
MayGet wanted (ReadFault j) = j ≤ wanted
MayGet wanted SyncFault = ⊥
MayGet wanted OldFault = ⊥
MayGet wanted (EitherFault side) = ⊥

-- a change with this answer: it may fail only where it isn't refused; where records are added a read may, and an update that writes
-- nothing but the label can't leave the unit as before
abbrev pub MayPut : Change → Answer → Outcome → Type 0
MayPut change answer Good = ⊤
MayPut change answer (ReadFault j) = (j ≡ 0) × IsTrue (is_add change) × IsTrue (is_taken answer)
MayPut change answer SyncFault = ⊥
MayPut change answer OldFault = IsTrue (is_taken answer) × IsTrue (not (is_relabel change))
MayPut change answer (EitherFault side) = IsTrue (is_taken answer)

-- a wiping may leave the unit in doubt
abbrev pub MayWipe : Outcome → Type 0
MayWipe Good = ⊤
MayWipe (ReadFault j) = ⊥
MayWipe SyncFault = ⊥
MayWipe OldFault = ⊥
MayWipe (EitherFault side) = ⊤

-- a making may leave the unit as before or in doubt
abbrev pub MayMake : Outcome → Type 0
MayMake Good = ⊤
MayMake (ReadFault j) = ⊥
MayMake SyncFault = ⊥
MayMake OldFault = ⊤
MayMake (EitherFault side) = ⊤

-- the step may have this outcome
abbrev pub IsOutcome : Step → Outcome → Type 0
IsOutcome (Access u slot) o = MayAccess slot o
IsOutcome (Get u f wanted) o = MayGet wanted o
IsOutcome (Put u m change stamp) o = MayPut change (answer_of m change) o
IsOutcome (Wipe u old) o = MayWipe o
IsOutcome (Make u old m stamp) o = MayMake o

-- ---- what the unit is after a step

-- after an access of a unit: where its sync was good a doubt is over, also where a read failed then
abbrev pub after_access : Slot → Outcome → Option Slot
after_access (Settled state) o = None
after_access (Doubt before after side) Good = Some (Settled (named before after side))
after_access (Doubt before after side) (ReadFault j) = Some (Settled (named before after side))
after_access (Doubt before after side) SyncFault = None
after_access (Doubt before after side) OldFault = None
after_access (Doubt before after side) (EitherFault s) = None

-- after an update from a state to a state
abbrev pub after_update : State → State → Outcome → Option Slot
after_update old new Good = Some (Settled new)
after_update old new (ReadFault j) = None
after_update old new SyncFault = None
after_update old new OldFault = None
after_update old new (EitherFault side) = Some (Doubt old new side)

-- after a change of a minidisk with this answer
abbrev pub after_put : Minidisk → Answer → Outcome → Option Slot
after_put old (Changed new) o = after_update (Volume old) (Volume new) o
after_put old (Limited k) o = None
after_put old (Full need free) o = None

-- the unit's new slot, where it isn't as before; a wiped unit is none for the second reason, its label
abbrev pub new_slot : Step → Outcome → Option Slot
new_slot (Access u slot) o = after_access slot o
new_slot (Get u f wanted) o = None
new_slot (Put u m change stamp) o = after_put m (answer_of m change) o
new_slot (Wipe u old) o = after_update old (Not 2) o
new_slot (Make u old m stamp) o = after_update old (Volume m) o

-- the unit's slot after a step, from that before
abbrev pub slot_after : Slot → Step → Outcome → Slot
slot_after slot s o = unwrap_or (new_slot s o) slot

-- the units with a new slot, where there is one
abbrev pub put_slot : List Slot → ℕ → Option Slot → List Slot
put_slot units u None = units
put_slot units u (Some slot) = slice_set units u slot

-- the units after a step
abbrev pub units_after : List Slot → Step → Outcome → List Slot
units_after units s o = put_slot units (unit_of s) (new_slot s o)

-- the file is one of the unit's minidisk, and has so many records
pub record Offers (now : Option Slot) (f : File) (wanted : ℕ) : Type 0 where
  pub minidisk : Minidisk
  pub settled : now ≡ Some (Settled (Volume minidisk))
  pub file : file_named f.name minidisk.files ≡ Some f
  pub enough : wanted ≤ length f.records

-- the step speaks of its unit as the machine has it
abbrev pub IsOf : Step → Option Slot → Type 0
IsOf (Access u slot) now = now ≡ Some slot
IsOf (Get u f wanted) now = Offers now f wanted
IsOf (Put u m change stamp) now = now ≡ Some (Settled (Volume m))
IsOf (Wipe u old) now = now ≡ Some (Settled old)
IsOf (Make u old m stamp) now = now ≡ Some (Settled old)

-- ---- how many syncs of the unit a step makes

-- one to end a doubt, where it was good
abbrev pub access_syncs : Slot → Outcome → ℕ
access_syncs (Settled state) o = 0
access_syncs (Doubt before after side) Good = 1
access_syncs (Doubt before after side) (ReadFault j) = 1
access_syncs (Doubt before after side) SyncFault = 0
access_syncs (Doubt before after side) OldFault = 0
access_syncs (Doubt before after side) (EitherFault s) = 0

-- one after the new blocks and one after the label that names them
abbrev pub update_syncs : Outcome → ℕ
update_syncs Good = 2
update_syncs (ReadFault j) = 0
update_syncs SyncFault = 0
update_syncs OldFault = 0
update_syncs (EitherFault side) = 1

-- one after the label alone
abbrev pub label_syncs : Outcome → ℕ
label_syncs Good = 1
label_syncs (ReadFault j) = 0
label_syncs SyncFault = 0
label_syncs OldFault = 0
label_syncs (EitherFault side) = 0

-- how many syncs a change makes; none where it is refused
abbrev pub put_syncs : Change → Answer → Outcome → ℕ
put_syncs change (Limited k) o = 0
put_syncs change (Full need free) o = 0
put_syncs (Relabel volid) (Changed m) o = label_syncs o
put_syncs _ (Changed m) o = update_syncs o

-- the syncs that a step with this outcome makes
abbrev pub sync_count : Step → Outcome → ℕ
sync_count (Access u slot) o = access_syncs slot o
sync_count (Get u f wanted) o = 0
sync_count (Put u m change stamp) o = put_syncs change (answer_of m change) o
sync_count (Wipe u old) o = label_syncs o
sync_count (Make u old m stamp) o = update_syncs o

-- ---- how many blocks a step writes

-- a change writes at most two blocks more than it needs, the directory's first and the label; one that is refused writes none
abbrev pub most_put : Minidisk → Change → Answer → ℕ
most_put m change (Limited k) = 0
most_put m change (Full needs free) = 0
most_put m change (Changed new) = model.need m change + 2

-- a step with this outcome may write so many blocks: an access none, nor a reading, but that one that fails may stand beside a file
-- that is drafted meanwhile; a wiping the label; a making the map, the directory's one block and the label
abbrev pub WritesFew : Step → Outcome → ℕ → Type 0
WritesFew (Access u slot) o n = n ≡ 0
WritesFew (Get u f wanted) Good n = n ≡ 0
WritesFew (Get u f wanted) o n = ⊤
WritesFew (Put u m change stamp) o n = n ≤ most_put m change (answer_of m change)
WritesFew (Wipe u old) o n = n ≤ 1
WritesFew (Make u old m stamp) o n = n ≤ map_size m.bsize m.total + 2

-- ---- the stamp of the directory that a step writes

-- a relabelling writes none
abbrev pub put_stamp : Change → Stamp → Option Stamp
put_stamp (Relabel volid) stamp = None
put_stamp _ stamp = Some stamp

-- the stamp that a step gives a directory, if it writes one
abbrev pub stamp_in : Step → Option Stamp
stamp_in (Access u slot) = None
stamp_in (Get u f wanted) = None
stamp_in (Put u m change stamp) = put_stamp change stamp
stamp_in (Wipe u old) = None
stamp_in (Make u old m stamp) = Some stamp

-- ---- faults

-- how many of the outcomes are faults
abbrev pub faults_in : List Outcome → ℕ
faults_in [] = 0
faults_in (Good ∷ os) = faults_in os
faults_in (ReadFault j ∷ os) = suc (faults_in os)
faults_in (SyncFault ∷ os) = suc (faults_in os)
faults_in (OldFault ∷ os) = suc (faults_in os)
faults_in (EitherFault side ∷ os) = suc (faults_in os)
