-- The copies of a file were measured: whatever is on the units, they are those that were measured, and fit the format.
use Rattle.std.proofs.Common.{◌≡◌, ◌≤◌, ℕ, List, drop, map, take, ap, subst, arith}
use Rattle.std.specs.Prelude.{All}
use Rattle.std.proofs.lemmas.List.{length-take, take_all}
use Rattle.std.proofs.lemmas.List.Elements.{All-weaker}
use Rattle.cms_edf.specs.OpeningSteps.{OfImage}
use Rattle.cms_fields.specs.Limits.{longest_record}
use Rattle.cms_names.specs.declared.name.Format.TheVariants.{V}
use Rattle.cms_model.specs.Records.{Fits}
use Rattle.cms_search.specs.Calls.{Spot}
use Rattle.cms_search.proofs.LetterDisks.{meets_at}
use Rattle.cms_files.specs.Files.{UnitFile}
use Rattle.cms_files.specs.OpenFiles.{IsOpened}
use Rattle.cms_files.specs.declared.open_files.OpenFile.{OpenFile}
use Rattle.cms_copyfile.specs.FileCopies.{IsFileCopy, plan_for}
use Rattle.cms_copyfile.specs.Lines.{IsCopyStyle}
use Rattle.cms_copyfile.specs.Measures.{measured}
use Rattle.cms_copyfile.specs.OneCopy.{AreMeasured}
use Rattle.cms_copyfile.specs.Outputs.{copies_in}
use Rattle.cms_copyfile.specs.Records.{copied}
use Rattle.cms_copyfile.specs.Told.{IsLeftAs}
use Rattle.cms_copyfile.specs.declared.copy.FileCopy.{FileCopy}
use Rattle.cms_copyfile.specs.declared.line.CopyLine.{CopyLine}
use Rattle.cms_copyfile.specs.declared.measure.Measure.{Measure}
use Rattle.cms_copyfile.specs.declared.output.CopyPlan.{CopyPlan}
use Rattle.cms_copyfile.specs.declared.output.FileForm.{FileForm}
use Rattle.cms_copyfile.proofs.CopiesFit.{IsRecord, copies_fit}
use Rattle.cms_copyfile.proofs.InputTold.{input_left}

-- those of the records that are wanted are all
wanted_again : (plan : CopyPlan) (records : List (List ℕ)) → copies_in plan (take plan.wanted records) ≡ copies_in plan records
wanted_again plan records =
    let size = length-take plan.wanted records in
    ap (λ (l : List (List ℕ)). map (copied plan.style) (drop plan.skipped l)) (take_all plan.wanted (take plan.wanted records) (omega (arith, size)))

measured_so : (spot : Spot) (line : CopyLine) (c : FileCopy) (form : FileForm) (file : OpenFile) (m : Measure) → IsFileCopy spot.state.table line c
    → IsOpened spot.state.table c.found.letter c.found.name file → file.cursor.begun.longest ≤ longest_record → IsCopyStyle line.style
    → OfImage spot.world.told file.cursor.unit (λ image. (x : UnitFile) → IsLeftAs spot.state.table c image file.cursor x
    → m ≡ measured (plan_for line form c).format (copies_in (plan_for line form c) x.file.records))
    → OfImage spot.world.told file.cursor.unit (λ image. (x : UnitFile) → IsLeftAs spot.state.table c image file.cursor x
    → All (Fits V longest_record) (take (plan_for line form c).wanted x.file.records))
    → AreMeasured spot line c form m
measured_so spot line c form file m is opened short can measures each units h x =
    let plan = plan_for line form c in
    let records = x.file.file.records in
    let k = meets_at spot units c.found.letter opened.seat opened.there h in
    let left = input_left spot units line c file is opened short h x k.journal k.told in
    let records' = All-weaker (Fits V longest_record) IsRecord (λ text fits. record { some = fits.0; short = fits.1 }) (take plan.wanted records) (each k.journal k.told x.file left) in
    record {
      measure = measures k.journal k.told x.file left;
      each = subst (All (Fits form.format form.length)) (wanted_again plan records) (copies_fit line.style form c.input.count (take plan.wanted records) can records');
    }

-- by the plan that was made
pub measured_as : (spot : Spot) (line : CopyLine) (c : FileCopy) (form : FileForm) (file : OpenFile) (m : Measure) (plan : CopyPlan) → plan ≡ plan_for line form c
    → IsFileCopy spot.state.table line c → IsOpened spot.state.table c.found.letter c.found.name file → file.cursor.begun.longest ≤ longest_record → IsCopyStyle line.style
    → OfImage spot.world.told file.cursor.unit (λ image. (x : UnitFile) → IsLeftAs spot.state.table c image file.cursor x → m ≡ measured plan.format (copies_in plan x.file.records))
    → OfImage spot.world.told file.cursor.unit (λ image. (x : UnitFile) → IsLeftAs spot.state.table c image file.cursor x → All (Fits V longest_record) (take plan.wanted x.file.records))
    → AreMeasured spot line c form m
measured_as spot line c form file m plan planned is opened short can measures each =
    measured_so spot line c form file m is opened short can
    (subst (λ (p : CopyPlan). OfImage spot.world.told file.cursor.unit (λ image. (x : UnitFile) → IsLeftAs spot.state.table c image file.cursor x
    → m ≡ measured p.format (copies_in p x.file.records))) planned measures)
    (subst (λ (p : CopyPlan). OfImage spot.world.told file.cursor.unit (λ image. (x : UnitFile) → IsLeftAs spot.state.table c image file.cursor x
    → All (Fits V longest_record) (take p.wanted x.file.records))) planned each)
