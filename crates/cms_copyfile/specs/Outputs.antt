-- What a file becomes that is copied: its format, its records, its number and its stamp.
use Rattle.std.specs.Prelude.{◌≡◌, ℕ, ◌+◌, ◌-◌, ◌≤◌, if◌then◌else◌, List, drop, length, map, min, take, Option, None, Some}
use Rattle.std.specs.Option.{option_and_then, option_map_or, unwrap_or}
use Rattle.cms_names.specs.declared.name.Format.{Format}
use Rattle.cms_names.specs.declared.name.Format.TheVariants.{F, V}
use Rattle.cms_names.specs.declared.name.Name.{Name}
use Rattle.cms_fields.specs.Limits.{longest_record}
use Rattle.cms_fields.specs.declared.time.Stamp.{Stamp}
use Rattle.cms_model.specs.Minidisks.{File}
use Rattle.cms_model.specs.Records.{length_of}
use Rattle.cms_operands.specs.declared.operand.WriteMode.{WriteMode}
use Rattle.cms_copyfile.specs.Lines.{IsCopyStyle}
use Rattle.cms_copyfile.specs.Records.{copied}
use Rattle.cms_copyfile.specs.declared.line.CopyStyle.{CopyStyle}
use Rattle.cms_copyfile.specs.declared.line.Existing.{Existing}
use Rattle.cms_copyfile.specs.declared.line.Existing.TheVariants.{Extended, Refused, Replaced}
use Rattle.cms_copyfile.specs.declared.output.CopyPlan.{CopyPlan}
use Rattle.cms_copyfile.specs.declared.output.FileForm.{FileForm}
use Rattle.cms_copyfile.specs.declared.record.Fit.{Fit}
use Rattle.cms_copyfile.specs.declared.record.Fit.TheVariants.{AtMost, Exactly, Whole}
use Rattle.cms_copyfile.specs.declared.record.RecordStyle.{RecordStyle}

-- ---- which records

-- how many of so many records are read
abbrev pub wanted_of : CopyStyle → ℕ → ℕ
wanted_of style count = option_map_or (λ most. min (style.first - 1 + most) count) style.most count

-- of the records that are read, those behind the first so many, each as it is copied
abbrev pub copies_in : CopyPlan → List (List ℕ) → List (List ℕ)
copies_in plan records = map (copied plan.style) (drop plan.skipped (take plan.wanted records))

-- ---- the format

-- the format and record length of a file
abbrev pub form_of : File → FileForm
form_of f = record { format = f.format; length = f.length }

-- as the options say it, or as the input has it; a file that is extended keeps its own
abbrev pub form_for : CopyStyle → FileForm → Option FileForm → FileForm
form_for style input None = record { format = unwrap_or style.format input.format; length = unwrap_or style.length input.length }
form_for style input (Some output) = output

-- at F all records get the length; at V LRECL alone cuts
abbrev pub fit_in : Format → ℕ → Option ℕ → Fit
fit_in F size most = Exactly size
fit_in V size most = option_map_or (λ n. AtMost n) most Whole

-- what becomes of each record
abbrev pub record_style : CopyStyle → FileForm → RecordStyle
record_style style form = record {
  fold = style.fold;
  truncates = style.truncates;
  fill = style.fill;
  fit = fit_in form.format form.length style.length;
}

-- from so many records into a file of this format
abbrev pub plan_of : CopyStyle → FileForm → ℕ → CopyPlan
plan_of style form count = record {
  skipped = style.first - 1;
  wanted = wanted_of style count;
  style = record_style style form;
  format = form.format;
}

-- records of a file of so many are copied so into one of this format: there is one, and the length is one that records have
pub record IsPlan (form : FileForm) (count : ℕ) (plan : CopyPlan) : Type 0 where
  pub style : CopyStyle
  pub sound : IsCopyStyle style
  pub plan_is : plan ≡ plan_of style form count
  pub first : style.first ≤ count
  pub low : 1 ≤ form.length
  pub high : form.length ≤ longest_record

-- the copies of all records of a file
abbrev pub copied_records : CopyStyle → FileForm → List (List ℕ) → List (List ℕ)
copied_records style form records = copies_in (plan_of style form (length records)) records

-- ---- the file

-- the file that is extended
abbrev pub extended : {A : Type 0} → Existing → Option A → Option A
extended Extended there = there
extended Refused there = None
extended Replaced there = None

-- a file that is there already keeps its number; else it is the output word's, or else the input's
abbrev pub number_for : Option WriteMode → ℕ → Option ℕ → ℕ
number_for mode input (Some there) = there
number_for mode input None = unwrap_or (option_and_then (λ m. m.number) mode) input

-- the input's stamp with OLDDATE, else the turn's
abbrev pub stamp_for : CopyStyle → Stamp → Stamp → Stamp
stamp_for style input turn = if style.old_stamp then input else turn

-- a new file of these records
abbrev pub file_with : Name → ℕ → FileForm → Stamp → List (List ℕ) → File
file_with name number form stamp records = record {
  name = name;
  number = number;
  format = form.format;
  length = length_of form.format form.length records;
  stamp = stamp;
  records = records;
}
