-- Whole files, by their forms.
use Rattle.std.proofs.Common.{◌≡◌, ◌∙◌, ℕ, ◌<◌, ◌≤◌, true, List, [], ◌∷◌, length, map, All, None, Some, refl, ap, arith, length-append}
use Rattle.std.specs.List.{AllByRecursion, concat}
use Rattle.std.proofs.lemmas.Bool.{eq-eqb, le-leb}
use Rattle.std.proofs.lemmas.List.Elements.{All-head, All-tail}
use Rattle.cms_fields.specs.Limits.{longest_record}
use Rattle.cms_names.specs.declared.name.Format.{Format}
use Rattle.cms_names.specs.declared.name.Format.TheVariants.{F, V}
use Rattle.cms_model.specs.Records.{Fits, with_length}
use Rattle.mini_forms.specs.Output.{is_line, line_of, written}
use Rattle.mini_forms.specs.RecordReads.{records_in}
use Rattle.mini_forms.specs.Laws.{ComesBack, LinesStay, size_of}
use Rattle.mini_forms.specs.declared.form.Form.TheVariants as form
use Rattle.mini_forms.specs.declared.form.Layout.{Layout}
use Rattle.mini_forms.specs.declared.place.Head.TheVariants.{Start}
use Rattle.mini_forms.specs.declared.place.Place.TheVariants.{Line, Block, Stored}
use Rattle.mini_forms.specs.declared.step.Begun.TheVariants.{Fresh}
use Rattle.mini_forms.proofs.Back.{ReadsOne, all_back, block_back, block_ends, filled, line_ends, stored_back, stored_ends, text_back, within_from}
use Rattle.mini_forms.proofs.Stay.{text_stays}

text_each : (format : Format) (size : ℕ) (records : List (List ℕ)) → All (All (λ x. x < 256)) records → All (Fits format size) records
    → All (λ codes. is_line codes ≡ true) records → AllByRecursion (ReadsOne (Line (size_of format size) Fresh) (line_of format)) records
text_each format size [] bytes each plain = tt
text_each format size (codes ∷ more) bytes each plain = (
  text_back format size codes
      (within_from codes (All-head (All (λ x. x < 256)) codes more bytes) (All-head (λ l. is_line l ≡ true) codes more plain))
      (All-head (Fits format size) codes more each),
  text_each format size more (All-tail (All (λ x. x < 256)) codes more bytes) (All-tail (Fits format size) codes more each)
      (All-tail (λ l. is_line l ≡ true) codes more plain),
)

block_each : (size : ℕ) (records : List (List ℕ)) → 1 ≤ size → All (Fits F size) records → AllByRecursion (ReadsOne (Block size) (λ l. l)) records
block_each size [] some each = tt
block_each size (codes ∷ more) some each =
    (block_back size codes some (All-head (Fits F size) codes more each), block_each size more some (All-tail (Fits F size) codes more each))

fixed_each : (size : ℕ) (records : List (List ℕ)) → 1 ≤ size → size ≤ longest_record → All (Fits F size) records
    → AllByRecursion (ReadsOne (Stored (Some size) Start) with_length) records
fixed_each size [] some short each = tt
fixed_each size (codes ∷ more) some short each =
    let long = All-head (Fits F size) codes more each in (
      stored_back (Some size) codes (omega arith) (omega arith) (eq-eqb (length codes) size long),
      fixed_each size more some short (All-tail (Fits F size) codes more each),
    )

own_each : (size : ℕ) (records : List (List ℕ)) → All (Fits V size) records → AllByRecursion (ReadsOne (Stored None Start) with_length) records
own_each size [] each = tt
own_each size (codes ∷ more) each =
    let fits = All-head (Fits V size) codes more each in
    (stored_back None codes fits.0 fits.1 (le-leb 1 (length codes) fits.0), own_each size more (All-tail (Fits V size) codes more each))

filled_fixed : (size : ℕ) (records : List (List ℕ)) → filled (Some size) records ≡ length (concat records)
filled_fixed size [] = refl
filled_fixed size (codes ∷ more) =
    let rest = filled_fixed size more in
    let both = length-append codes (concat more) in
    omega arith

filled_own : (records : List (List ℕ)) → filled None records ≡ length (concat (map with_length records))
filled_own [] = refl
filled_own (codes ∷ more) =
    let rest = filled_own more in
    let both = length-append codes (concat (map with_length more)) in
    omega arith

pub comes_back : ComesBack
comes_back form.Text F size l records are show is =
    let n = filled_fixed size records in
    let few = are.few in
    let some = are.some in
    let short = are.short in
    ap (λ (l : Layout). records_in l (written form.Text F records)) is
    ∙ all_back (Line (Some size) Fresh) (line_of F) records 0 0 (line_ends (Some size)) (text_each F size records are.bytes are.each show) (omega arith) (omega arith) (omega arith)
comes_back form.Text V size l records are show is =
    let n = filled_own records in
    let few = are.few in
    let some = are.some in
    let short = are.short in
    ap (λ (l : Layout). records_in l (written form.Text V records)) is
    ∙ all_back (Line None Fresh) (line_of V) records 0 0 (line_ends None) (text_each V size records are.bytes are.each show) (omega arith) (omega arith) (omega arith)
comes_back form.Binary F size l records are show is =
    let n = filled_fixed size records in
    let few = are.few in
    let some = are.some in
    let short = are.short in
    ap (λ (l : Layout). records_in l (written form.Binary F records)) is
    ∙ all_back (Block size) (λ l. l) records 0 0 (block_ends size) (block_each size records are.size_fits.0 are.each) (omega arith) (omega arith) (omega arith)
comes_back form.Binary V size l records are show is = absurd is
comes_back form.Records F size l records are show is =
    let n = filled_fixed size records in
    let few = are.few in
    let some = are.some in
    let short = are.short in
    ap (λ (l : Layout). records_in l (written form.Records F records)) is
    ∙ all_back (Stored (Some size) Start) with_length records 0 0 (stored_ends (Some size)) (fixed_each size records are.size_fits.0 are.size_fits.1 are.each) (omega arith) (omega arith) (omega arith)
comes_back form.Records V size l records are show is =
    let n = filled_own records in
    let few = are.few in
    let some = are.some in
    let short = are.short in
    ap (λ (l : Layout). records_in l (written form.Records V records)) is
    ∙ all_back (Stored None Start) with_length records 0 0 (stored_ends None) (own_each size records are.each) (omega arith) (omega arith) (omega arith)

bytes_fit : (bytes : List ℕ) → All (λ x. x < 256) bytes → AllByRecursion (λ x. x < 256) bytes
bytes_fit [] all = tt
bytes_fit (x ∷ xs) all = (All-head (λ y. y < 256) x xs all, bytes_fit xs (All-tail (λ y. y < 256) x xs all))

pub lines_stay : LinesStay
lines_stay format size bytes records fits is = text_stays format size bytes Fresh [] 0 0 records (bytes_fit bytes fits) tt (omega arith) is
