-- The copies of a file have the shape that was measured.
use Rattle.std.proofs.Common.{◌≡◌, ◌∙◌, ℕ, List, Option, refl, sym, ap, subst}
use Rattle.std.specs.Prelude.{None, Some, All}
use Rattle.std.specs.Option.{option_map}
use Rattle.cms_edf.specs.declared.held.FileInfo.{FileInfo}
use Rattle.cms_fields.specs.Moments.{stamp_of}
use Rattle.cms_fields.specs.declared.time.Stamp.{Stamp}
use Rattle.cms_names.specs.declared.name.Format.{Format}
use Rattle.cms_names.specs.declared.name.Format.TheVariants.{F, V}
use Rattle.cms_names.specs.declared.name.Name.{Name}
use Rattle.cms_held.specs.declared.shape.DraftShape.{DraftShape}
use Rattle.cms_disk.specs.Drafts as drafts
use Rattle.cms_disk.specs.Drafts.{HaveCounts}
use Rattle.cms_model.specs.Changes.{Put}
use Rattle.cms_model.specs.Minidisks.{File}
use Rattle.cms_model.specs.Records.{Fits, length_of}
use Rattle.cms_search.specs.Calls.{Spot, machine_of}
use Rattle.cms_search.specs.Machine.{Machine}
use Rattle.cms_copyfile.specs.Copyfile.{change_with}
use Rattle.cms_copyfile.specs.FileCopies.{IsCopying, IsInfoOf, copied_to, copy_number, form_in, form_into, plan_for}
use Rattle.cms_copyfile.specs.Measures.{measured}
use Rattle.cms_copyfile.specs.OneCopy.{AreMeasured, AreShaped}
use Rattle.cms_copyfile.specs.Outputs.{copies_in, extended, file_with, form_for, stamp_for}
use Rattle.cms_copyfile.specs.declared.copy.FileCopy.{FileCopy}
use Rattle.cms_copyfile.specs.declared.line.CopyLine.{CopyLine}
use Rattle.cms_copyfile.specs.declared.line.Existing.{Existing}
use Rattle.cms_copyfile.specs.declared.line.Existing.TheVariants.{Extended, Refused, Replaced}
use Rattle.cms_copyfile.specs.declared.measure.Measure.{Measure}
use Rattle.cms_copyfile.specs.declared.output.CopyPlan.{CopyPlan}
use Rattle.cms_copyfile.specs.declared.output.FileForm.{FileForm}
use Rattle.cms_copyfile.specs.declared.draft.CopyWrite.TheVariants.{Whole}
use Rattle.cms_copyfile.proofs.FilesCopied.{number_told}

pub fits_in : (format : Format) (size : ℕ) (records all : List (List ℕ)) → All (Fits format size) records → All (Fits format (length_of format size all)) records
fits_in F size records all fits = fits
fits_in V size records all fits = fits

pub long_again : (format : Format) (size : ℕ) (records : List (List ℕ)) → length_of format (length_of format size records) records ≡ length_of format size records
long_again F size records = refl
long_again V size records = refl

-- the format of a copy that is a file of its own
abbrev form_alone : CopyLine → FileCopy → FileForm
form_alone line c = form_for line.style (form_in c.input) None

abbrev stamp_in : CopyLine → FileCopy → Stamp → Stamp
stamp_in line c turn = stamp_for line.style c.input.stamp turn

-- a file that isn't extended isn't on the machine
extended_told : (existing : Existing) (x : Option FileInfo) (y : Option File) → IsInfoOf x y → extended existing x ≡ None → extended existing y ≡ None
extended_told Refused x y is none = refl
extended_told Replaced x y is none = refl
extended_told Extended None None is none = refl
extended_told Extended (Some i) (Some f) is none = absurd (cc none)
extended_told Extended None (Some f) is none = absurd is
extended_told Extended (Some i) None is none = absurd is

-- the change puts them
change_so : (s : Machine) (line : CopyLine) (c : FileCopy) (turn : Stamp) (x : IsCopying s line c) → turn ≡ stamp_of s.moment
    → change_with s line (copied_to s line c x) None
    ≡ Put (file_with (copied_to s line c x).name (copy_number line c) (form_alone line c) (stamp_in line c turn) (copies_in (plan_for line (form_alone line c) c) x.file.file.records))
change_so s line c turn x when =
    let format = x.input.format in
    let size = x.input.size in
    let number = x.input.number in
    let stamp = x.input.stamp in
    let count = x.input.count in
    let there = number_told c.there (copied_to s line c x).there x.there in
    rw (when, format, size, number, stamp, count, there) refl

shaped_so : (spot : Spot) (line : CopyLine) (c : FileCopy) (shape : DraftShape) (m : Measure) (turn : Stamp) → extended line.style.existing c.there ≡ None → turn ≡ stamp_of spot.state.moment → AreMeasured spot line c (form_alone line c) m
    → ((records : List (List ℕ)) → m ≡ measured (form_alone line c).format records → HaveCounts shape records)
    → ((name : Name) (records : List (List ℕ)) → m ≡ measured (form_alone line c).format records
    → drafts.file_with name shape records ≡ file_with name (copy_number line c) (form_alone line c) (stamp_in line c turn) records)
    → AreShaped spot line c (plan_for line (form_alone line c) c) Whole shape
shaped_so spot line c shape m turn none when measures counts files units h x =
    let form = form_alone line c in
    let s = machine_of spot.state units in
    let all = copies_in (plan_for line form c) x.file.file.records in
    let so = measures units h x in
    let is = files (copied_to s line c x).name all so.measure in
    let count = counts all so.measure in
    let format : shape.format ≡ form.format = ap (λ (f : File). f.format) is in
    let size : shape.length ≡ length_of form.format form.length all = ap (λ (f : File). f.length) is in
    record {
      have = (
        record {
          count = count.count;
          bytes = count.bytes;
          each = rw (format, size) (fits_in form.format form.length all all so.each);
        },
        rw (format, size) (long_again form.format form.length all),
      );
      change = ap (change_with s line (copied_to s line c x)) (extended_told line.style.existing c.there (copied_to s line c x).there x.there none)
          ∙ (change_so s line c turn x when ∙ ap (λ (f : File). Put f) (sym is));
    }

-- with what calls made of the line and the file
pub shaped_as : (spot : Spot) (line : CopyLine) (c : FileCopy) (shape : DraftShape) (m : Measure) (turn : Stamp) (form : FileForm) (plan : CopyPlan) (number : ℕ) (stamp : Stamp)
    → extended line.style.existing c.there ≡ None → form ≡ form_into line c → plan ≡ plan_for line (form_into line c) c → number ≡ copy_number line c → stamp ≡ stamp_in line c turn
    → turn ≡ stamp_of spot.state.moment → AreMeasured spot line c (form_into line c) m
    → ((records : List (List ℕ)) → m ≡ measured form.format records → HaveCounts shape records)
    → ((name : Name) (records : List (List ℕ)) → m ≡ measured form.format records → drafts.file_with name shape records ≡ file_with name number form stamp records)
    → AreShaped spot line c plan Whole shape
shaped_as spot line c shape m turn form plan number stamp none is_form is_plan is_number is_stamp when measures counts files =
    let alone : form_into line c ≡ form_alone line c = ap (λ (own : Option FileInfo). form_for line.style (form_in c.input) (option_map form_in own)) none in
    let formed : form ≡ form_alone line c = is_form ∙ alone in
    let planned : plan ≡ plan_for line (form_alone line c) c = is_plan ∙ ap (λ (f : FileForm). plan_for line f c) alone in
    subst (λ (p : CopyPlan). AreShaped spot line c p Whole shape) (sym planned)
    (shaped_so spot line c shape m turn none when (subst (λ (f : FileForm). AreMeasured spot line c f m) alone measures)
    (subst (λ (f : FileForm). (records : List (List ℕ)) → m ≡ measured f.format records → HaveCounts shape records) formed counts)
    (subst (λ (f : FileForm). (name : Name) (records : List (List ℕ)) → m ≡ measured f.format records
    → drafts.file_with name shape records ≡ file_with name (copy_number line c) f (stamp_in line c turn) records) formed
    (subst (λ (n : ℕ). (name : Name) (records : List (List ℕ)) → m ≡ measured form.format records → drafts.file_with name shape records ≡ file_with name n form (stamp_in line c turn) records)
    is_number
    (subst (λ (z : Stamp). (name : Name) (records : List (List ℕ)) → m ≡ measured form.format records → drafts.file_with name shape records ≡ file_with name number form z records) is_stamp files))))
