-- One file that is copied, as its records were measured.
use Rattle.std.specs.Prelude.{◌≡◌, ℕ, List, All}
use Rattle.cms_held.specs.declared.shape.DraftShape.{DraftShape}
use Rattle.cms_model.specs.Slots.{Slot}
use Rattle.cms_model.specs.Records.{Fits}
use Rattle.cms_search.specs.Calls.{Spot, holds, machine_of}
use Rattle.cms_search.specs.Machine.{Machine}
use Rattle.cms_copyfile.specs.Copyfile.{Copying, change_with}
use Rattle.cms_copyfile.specs.Drafts.{HaveRecords, change_as}
use Rattle.cms_copyfile.specs.FileCopies.{IsCopying, copied_to, plan_for}
use Rattle.cms_copyfile.specs.Measures.{measured}
use Rattle.cms_copyfile.specs.Outputs.{copies_in, extended}
use Rattle.cms_copyfile.specs.declared.copy.FileCopy.{FileCopy}
use Rattle.cms_copyfile.specs.declared.line.CopyLine.{CopyLine}
use Rattle.cms_copyfile.specs.declared.measure.Measure.{Measure}
use Rattle.cms_copyfile.specs.declared.output.CopyPlan.{CopyPlan}
use Rattle.cms_copyfile.specs.declared.output.FileForm.{FileForm}
use Rattle.cms_copyfile.specs.declared.draft.CopyWrite.{CopyWrite}

-- the copies were measured, and fit a file of this format
pub record IsMeasured (form : FileForm) (plan : CopyPlan) (m : Measure) (records : List (List ℕ)) : Type 0 where
  pub measure : m ≡ measured form.format (copies_in plan records)
  pub each : All (Fits form.format form.length) (copies_in plan records)

-- so it is with those of the file that is copied, whatever is on the units
abbrev pub AreMeasured : Spot → CopyLine → FileCopy → FileForm → Measure → Type 0
AreMeasured spot line c form m =
    (units : List Slot) → holds spot units → (x : IsCopying (machine_of spot.state units) line c)
    → IsMeasured form (plan_for line form c) m x.file.file.records

-- the copies are those of a file of this shape, or behind those of the file that is there, and the change writes them so
pub record IsShaped (s : Machine) (line : CopyLine) (c : Copying) (plan : CopyPlan) (write : CopyWrite) (shape : DraftShape) :
    Type 0 where
  pub have : HaveRecords write c.there shape (copies_in plan c.input.file.records)
  pub change : change_with s line c (extended line.style.existing c.there)
      ≡ change_as write c.name shape (copies_in plan c.input.file.records)

-- so it is with the file that is copied, whatever is on the units
abbrev pub AreShaped : Spot → CopyLine → FileCopy → CopyPlan → CopyWrite → DraftShape → Type 0
AreShaped spot line c plan write shape =
    (units : List Slot) → holds spot units → (x : IsCopying (machine_of spot.state units) line c)
    → IsShaped (machine_of spot.state units) line (copied_to (machine_of spot.state units) line c x) plan write shape
