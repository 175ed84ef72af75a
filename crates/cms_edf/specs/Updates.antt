-- A change of a volume as it is held, once it is planned: its events, and what it comes to.
use Rattle.std.specs.Prelude.{◌≡◌, ◌+◌, ◌≤◌, ℕ, List, [], Result, Ok, Err, ⊤}
use Rattle.std.specs.Option.{ForSome}
use Rattle.cms_journal.specs.declared.event.Event.{Event}
use Rattle.cms_journal.specs.declared.event.Event.TheVariants.{Wrote}
use Rattle.cms_journal.specs.Journal.{Journal, MayAdd}
use Rattle.cms_journal.specs.Told.{Told}
use Rattle.cms_fields.specs.declared.label.Label.{Label}
use Rattle.cms_fields.specs.declared.time.Stamp.{Stamp}
use Rattle.cms_model.specs.Changes.{Change, Changed, answer_of, changed, need}
use Rattle.cms_model.specs.Minidisks.{Minidisk, Volume}
use Rattle.cms_model.specs.Settled.{update}
use Rattle.cms_model.specs.LawsUpdates.{HasEither, IsFront, after, relabel, to_label}
use Rattle.cms_held.specs.HeldVolumes.{HeldVolume}
use Rattle.cms_held.specs.MinidiskUpdates.{IsHeldMinidisk, written_count}
use Rattle.cms_edf.specs.Doubts.{IsCutOff}
use Rattle.cms_held.specs.LawsRenewals.{writes_of}
use Rattle.cms_edf.specs.ChangePlans.{DoesTo, IsPlanFor}
use Rattle.cms_held.specs.Renewals.{Edit, renewed}
use Rattle.cms_edf.specs.declared.doubt.Doubt.{Doubt}
use Rattle.cms_edf.specs.declared.doubt.Doubt.TheVariants.{Old, Either}
use Rattle.cms_edf.specs.declared.step.Step.{Step}
use Rattle.cms_edf.specs.declared.step.Step.TheVariants as step

-- a plan for some change, with some stamp
pub record IsPlan (v : HeldVolume) (s : Step) : Type 0 where
  pub change : Change
  pub stamp : Stamp
  pub is : IsPlanFor v change stamp s

-- its events: an update, or the write of the label
abbrev pub step_events : HeldVolume → Step → List Event
step_events v (step.Edit e s) = update v.unit (writes_of v s) s.label_bytes
step_events v (step.Relabel label bytes) = relabel v.unit bytes.items

-- those before its label's write
abbrev pub safe_events : HeldVolume → Step → List Event
safe_events v (step.Edit e s) = to_label v.unit (writes_of v s)
safe_events v (step.Relabel label bytes) = []

-- it was cut off: in its writes or at its first sync, or with its label
abbrev pub IsStopped : Told → Told → HeldVolume → Step → Doubt → Type 0
IsStopped old new v (step.Edit e s) why = IsCutOff old new v.unit (writes_of v s) s.label_bytes why
IsStopped old new v (step.Relabel label bytes) why = (why ≡ Either) × MayAdd (Wrote v.unit 3 bytes.items) old new

-- the volume with another label
abbrev pub with_label_bytes : HeldVolume → Label → List ℕ → HeldVolume
with_label_bytes v label bytes = record v { label = label; label_bytes = bytes }

-- the volume after it
abbrev pub LeadsTo : HeldVolume → Step → HeldVolume → Type 0
LeadsTo v (step.Edit e s) w = (x : Edit) → DoesTo v.files e x → w ≡ renewed v x s
LeadsTo v (step.Relabel label bytes) w = w ≡ with_label_bytes v label bytes.items

-- the change is made; up to the write of its label the old minidisk is held as before, at every moment each crash image is the old minidisk
-- or the new, and at most two blocks more are written than the change needs
pub record Moves (j : Journal) (v : HeldVolume) (s : Step) (m : Minidisk) (change : Change) : Type 0 where
  pub answer : answer_of m change ≡ Changed (changed m change)
  pub before : (p : List Event) → IsFront p (safe_events v s) → IsHeldMinidisk (after j p) v m
  pub either : (p : List Event) → IsFront p (step_events v s)
      → HasEither v.disk (after j p) v.unit (Volume m) (Volume (changed m change))
  pub small : written_count (step_events v s) ≤ need m change + 2

-- what it comes to: the new minidisk is held, as w, or the old one still is, or each crash image is one of both
abbrev pub CarriesOut : Journal → Told → HeldVolume → HeldVolume → Minidisk → Change → Step → Result ⊤ Doubt → Type 0
CarriesOut j new v w m change s (Ok x) = Moves j v s m change × ForSome new (λ k. IsHeldMinidisk k w (changed m change))
CarriesOut j new v w m change s (Err Old) = Moves j v s m change × ForSome new (λ k. IsHeldMinidisk k v m)
CarriesOut j new v w m change s (Err Either) = Moves j v s m change
    × ForSome new (λ k. HasEither v.disk k v.unit (Volume m) (Volume (changed m change)))
