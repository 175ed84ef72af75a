-- Which steps may have which fault.
use Rattle.std.proofs.Common.{◌≡◌, ◌≢◌, ℕ, not, IsTrue, List, refl, subst}
use Rattle.cms_model.specs.Minidisks.{Minidisk}
use Rattle.cms_model.specs.Changes.{Change, Put, Add, Drop, Rename, Relabel, Century, Answer, Limited, Full, Changed, answer_of}
use Rattle.cms_model.specs.Slots.{Slot, Settled, Doubt}
use Rattle.cms_model.specs.Steps.{Access, Get, Wipe, Make, is_add, is_relabel, is_taken, is_doubt}
use Rattle.cms_model.specs.Steps as steps
use Rattle.cms_model.specs.LawsSteps.{IsAddition, IsOfDoubt, FaultsFitSteps}

addition : (change : Change) → IsTrue (is_add change) → IsAddition change
addition (Put new) h = absurd (cc)
addition (Add name more stamp) h = (name, more, stamp, refl)
addition (Drop name) h = absurd (cc)
addition (Rename from to number) h = absurd (cc)
addition (Relabel volid) h = absurd (cc)
addition (Century pivot) h = absurd (cc)

changed_by : (answer : Answer) → IsTrue (is_taken answer) → (new : Minidisk) × (answer ≡ Changed new)
changed_by (Changed m) h = (m, refl)
changed_by (Limited k) h = absurd (cc)
changed_by (Full need free) h = absurd (cc)

no_relabel : (change : Change) → IsTrue (not (is_relabel change)) → (volid : List ℕ) → change ≢ Relabel volid
no_relabel change h volid e = let no : IsTrue (not (is_relabel (Relabel volid))) = subst (λ (c : Change). IsTrue (not (is_relabel c))) e h in cc

in_doubt : (u : ℕ) (slot : Slot) → IsTrue (is_doubt slot) → IsOfDoubt (Access u slot)
in_doubt u (Settled state) h = absurd (cc)
in_doubt u (Doubt before after side) h = (u, before, after, side, refl)

pub faults_fit : FaultsFitSteps
faults_fit (Access u slot) = record { read = λ j h. h; sync = in_doubt u slot; old = λ h. h; either = λ side h. h }
faults_fit (Get u f wanted) = record { read = λ j h. h; sync = λ h. absurd h; old = λ h. h; either = λ side h. h }
faults_fit (steps.Put u m change stamp) = record {
  read = λ j h. (h.0, addition change h.1, changed_by (answer_of m change) h.2);
  sync = λ h. absurd h;
  old = λ h. (changed_by (answer_of m change) h.0, no_relabel change h.1);
  either = λ side h. changed_by (answer_of m change) h;
}
faults_fit (Wipe u old) = record { read = λ j h. h; sync = λ h. absurd h; old = λ h. h; either = λ side h. tt }
faults_fit (Make u old m stamp) = record { read = λ j h. h; sync = λ h. absurd h; old = λ h. tt; either = λ side h. tt }
