-- Files of records that were measured.
use Rattle.std.proofs.Common.{◌≡◌, ◌≤◌, ℕ, true, List, refl, sym, ap, subst, ◌∙◌}
use Rattle.cms_names.specs.declared.name.Format.{Format}
use Rattle.cms_names.specs.declared.name.Format.TheVariants.{F, V}
use Rattle.cms_names.specs.declared.name.Name.{Name}
use Rattle.cms_fields.specs.Stamps.{is_stamp}
use Rattle.cms_fields.specs.declared.time.Stamp.{Stamp}
use Rattle.cms_model.specs.Records.{length_of}
use Rattle.cms_held.specs.declared.shape.DraftShape.{DraftShape}
use Rattle.cms_edf.specs.FileDrafts.{CanDraft}
use Rattle.cms_disk.specs.Drafts as drafts
use Rattle.cms_disk.specs.Drafts.{HaveCounts}
use Rattle.cms_copyfile.specs.Measures.{IsMeasure, length_by, measured}
use Rattle.cms_copyfile.specs.Outputs.{file_with}
use Rattle.cms_copyfile.specs.declared.measure.Measure.{Measure}
use Rattle.cms_copyfile.specs.declared.output.FileForm.{FileForm}

abbrev pub shape_by : FileForm → ℕ → ℕ → Stamp → Measure → DraftShape
shape_by form size number stamp m = record { format = form.format; length = size; number = number; stamp = stamp; count = m.count; bytes = m.bytes }

pub have_counts : (form : FileForm) (size number : ℕ) (stamp : Stamp) (m : Measure) (records : List (List ℕ)) → m ≡ measured form.format records
    → HaveCounts (shape_by form size number stamp m) records
have_counts form size number stamp m records is = record { count = sym (ap (λ (x : Measure). x.count) is); bytes = sym (ap (λ (x : Measure). x.bytes) is) }

length_so : (format : Format) (size : ℕ) (records : List (List ℕ)) (m : Measure) → m ≡ measured format records → length_by format size m.longest ≡ length_of format size records
length_so F size records m is = refl
length_so V size records m is = ap (λ (x : Measure). x.longest) is

pub same_file : (form : FileForm) (size number : ℕ) (stamp : Stamp) (m : Measure) (name : Name) (records : List (List ℕ)) → size ≡ length_by form.format form.length m.longest
    → m ≡ measured form.format records → drafts.file_with name (shape_by form size number stamp m) records ≡ file_with name number form stamp records
same_file form size number stamp m name records size_is is =
    ap (λ (n : ℕ). record { name = name; number = number; format = form.format; length = n; stamp = stamp; records = records })
    (size_is ∙ length_so form.format form.length records m is)

-- a file may have it
pub can_draft : (form : FileForm) (size number : ℕ) (stamp : Stamp) (m : Measure) → size ≡ length_by form.format form.length m.longest → IsMeasure form m → number ≤ 6
    → is_stamp stamp ≡ true → CanDraft (shape_by form size number stamp m)
can_draft form size number stamp m is sound few valid =
    subst (λ (n : ℕ). CanDraft (shape_by form n number stamp m)) (sym is)
    (record { number = few; stamp = valid; some = sound.some; low = sound.low; high = sound.high; sized = sound.sized })
