-- The copies of a file's records fit the file that they become.
use Rattle.std.proofs.Common.{◌≡◌, ℕ, ◌≤◌, Bool, true, false, max, List, drop, length, take, Option, Some, arith}
use Rattle.std.specs.Prelude.{None, IfSome}
use Rattle.std.specs.List.{All}
use Rattle.std.specs.Option.{option_map_or}
use Rattle.std.proofs.lemmas.Grind.{common_steps}
use Rattle.std.proofs.lemmas.List.{length-map, length-take}
use Rattle.std.proofs.lemmas.List.Elements.{All-drop, All-map, All-take, All-weaker}
use Rattle.cms_fields.specs.Limits.{longest_record}
use Rattle.cms_names.specs.declared.name.Format.{Format}
use Rattle.cms_names.specs.declared.name.Format.TheVariants.{F, V}
use Rattle.cms_model.specs.Records.{Fits}
use Rattle.cms_records.specs.Views.{fitted}
use Rattle.cms_text.specs.Texts.{without_trailing}
use Rattle.cms_copyfile.specs.Lines.{IsCopyStyle}
use Rattle.cms_copyfile.specs.Outputs.{copies_in, fit_in, plan_of, record_style}
use Rattle.cms_copyfile.specs.Records.{copied, fitted_to, folded, folded_byte, truncated_if}
use Rattle.cms_copyfile.specs.declared.line.CopyStyle.{CopyStyle}
use Rattle.cms_copyfile.specs.declared.output.FileForm.{FileForm}
use Rattle.cms_copyfile.specs.declared.record.Fit.TheVariants.{AtMost, Whole}
use Rattle.cms_copyfile.specs.declared.record.RecordStyle.{RecordStyle}

-- a record has at least one byte and no more than the longest
pub record IsRecord (text : List ℕ) : Type 0 where
  pub some : 1 ≤ length text
  pub short : length text ≤ longest_record

-- ---- before it is cut or filled

cut_if : (b : Bool) (fill : ℕ) (text : List ℕ) → IsRecord text → IsRecord (truncated_if b fill text)
cut_if false fill text is = is
cut_if true fill text is =
    let some = is.some in
    let short = is.short in
    let size = length-take (max 1 (length (without_trailing fill text))) text in
    record { some = omega (arith, size); short = omega (arith, size) }

ready : (style : RecordStyle) (text : List ℕ) → IsRecord text → IsRecord (truncated_if style.truncates style.fill (folded style.fold text))
ready style text is =
    let some = is.some in
    let short = is.short in
    let size = length-map text (folded_byte style.fold) in
    cut_if style.truncates style.fill (folded style.fold text) (record { some = omega (arith, size); short = omega (arith, size) })

-- ---- as it is copied

exactly : (text : List ℕ) (size fill : ℕ) → length (fitted text size fill) ≡ size
exactly text size fill = grind (arith, common_steps)

-- at V it is a record still
cut_to : (most : Option ℕ) (fill : ℕ) (text : List ℕ) → IfSome most (λ n. (1 ≤ n) × (n ≤ longest_record)) → IsRecord text
    → IsRecord (fitted_to (option_map_or (λ n. AtMost n) most Whole) fill text)
cut_to None fill text range is = is
cut_to (Some n) fill text range is =
    let low = range.0 in
    let some = is.some in
    let short = is.short in
    let size = length-take n text in
    record { some = omega (arith, size); short = omega (arith, size) }

fits_so : (format : Format) (size fill : ℕ) (most : Option ℕ) (text : List ℕ) → IfSome most (λ n. (1 ≤ n) × (n ≤ longest_record)) → IsRecord text
    → Fits format size (fitted_to (fit_in format size most) fill text)
fits_so F size fill most text range is = exactly text size fill
fits_so V size fill most text range is = let cut = cut_to most fill text range is in (cut.some, cut.short)

pub copy_fits : (style : CopyStyle) (form : FileForm) (text : List ℕ) → IsCopyStyle style → IsRecord text → Fits form.format form.length (copied (record_style style form) text)
copy_fits style form text can is =
    fits_so form.format form.length style.fill style.length (truncated_if style.truncates style.fill (folded style.fold text)) can.length (ready (record_style style form) text is)

-- so do all that are copied
pub copies_fit : (style : CopyStyle) (form : FileForm) (count : ℕ) (records : List (List ℕ)) → IsCopyStyle style → All IsRecord records
    → All (Fits form.format form.length) (copies_in (plan_of style form count) records)
copies_fit style form count records can all =
    let plan = plan_of style form count in
    All-map (Fits form.format form.length) (copied plan.style) (drop plan.skipped (take plan.wanted records))
    (All-weaker IsRecord (λ (text : List ℕ). Fits form.format form.length (copied plan.style text)) (λ text is. copy_fits style form text can is) (drop plan.skipped (take plan.wanted records))
    (All-drop IsRecord plan.skipped (take plan.wanted records) (All-take IsRecord plan.wanted records all)))
