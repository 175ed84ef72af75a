-- What comes back where records are written into a host file, and where one is read.
use Rattle.std.specs.Prelude.{◌≡◌, ℕ, ◌≤◌, ◌<◌, true, List, [], ◌∷◌, ◌++◌, length, map, replicate, All, if◌then◌else◌, Option, None, Some, Ok, ⊤}
use Rattle.std.specs.List.{concat}
use Rattle.std.specs.Str.{bytes_eq}
use Rattle.std.specs.Str.Lines.{lines}
use Rattle.cms_text.specs.Texts.{without_trailing}
use Rattle.cms_names.specs.declared.name.Format.{Format}
use Rattle.cms_names.specs.declared.name.Format.TheVariants.{F, V}
use Rattle.cms_fields.specs.Limits.{longest_record, most_bytes, most_records}
use Rattle.cms_model.specs.Records.{Fits, stored}
use Rattle.mini_forms.specs.Output.{is_line, written}
use Rattle.mini_forms.specs.RecordReads.{records_in}
use Rattle.mini_forms.specs.declared.form.Form.{Form}
use Rattle.mini_forms.specs.declared.form.Form.TheVariants as form
use Rattle.mini_forms.specs.declared.form.Layout.{Layout}
use Rattle.mini_forms.specs.declared.form.Layout.TheVariants as layout

-- the records of a file of this format, all of this size at F
pub record AreRecords (format : Format) (size : ℕ) (records : List (List ℕ)) : Type 0 where
  pub bytes : All (All (λ x. x < 256)) records
  pub each : All (Fits format size) records
  pub size_fits : (1 ≤ size) × (size ≤ longest_record)
  pub some : 1 ≤ length records
  pub few : length records ≤ most_records
  pub short : length (stored format records) ≤ most_bytes

-- the form can show these records: as lines where none of them has a line's end within
abbrev pub CanShow : Form → List (List ℕ) → Type 0
CanShow form.Text records = All (λ codes. is_line codes ≡ true) records
CanShow form.Binary records = ⊤
CanShow form.Records records = ⊤

-- a host file of the form is read so for a file of the format
abbrev pub IsLayout : Form → Format → ℕ → Layout → Type 0
IsLayout form.Text F size l = l ≡ layout.Text (Some size)
IsLayout form.Text V size l = l ≡ layout.Text None
IsLayout form.Binary F size l = l ≡ layout.Binary size
IsLayout form.Binary V size l = ⊥
IsLayout form.Records F size l = l ≡ layout.Records (Some size)
IsLayout form.Records V size l = l ≡ layout.Records None

-- what is written of a file's records is read as these records
abbrev pub ComesBack : Type 0
ComesBack =
    (form : Form) (format : Format) (size : ℕ) (l : Layout) (records : List (List ℕ)) → AreRecords format size records
    → CanShow form records → IsLayout form format size l → records_in l (written form format records) ≡ Ok records

-- a line as it comes back: without the blanks at its end at F, and empty at V where it was one blank
abbrev pub kept : Format → List ℕ → List ℕ
kept F line = without_trailing 0x20 line
kept V line = if bytes_eq line (0x20 ∷ []) then [] else line

-- the length that a layout has for the records of a file: none at V
abbrev pub size_of : Format → ℕ → Option ℕ
size_of F size = Some size
size_of V size = None

-- what is written of the records of a text are its lines, each with a line feed
abbrev pub LinesStay : Type 0
LinesStay =
    (format : Format) (size : ℕ) (bytes : List ℕ) (records : List (List ℕ)) → All (λ x. x < 256) bytes
    → records_in (layout.Text (size_of format size)) bytes ≡ Ok records
    → written form.Text format records ≡ concat (map (λ line. kept format line ++ 10 ∷ []) (lines bytes))

-- the bytes joined come back, with fewer zeros behind them than a record has bytes
abbrev pub BinaryStays : Type 0
BinaryStays =
    (size : ℕ) (bytes : List ℕ) (records : List (List ℕ)) → 1 ≤ size → records_in (layout.Binary size) bytes ≡ Ok records
    → (zeros : ℕ) × (zeros < size) × (written form.Binary F records ≡ bytes ++ replicate zeros 0)

-- records behind their lengths come back byte by byte
abbrev pub RecordsStay : Type 0
RecordsStay =
    (format : Format) (size : ℕ) (bytes : List ℕ) (records : List (List ℕ)) → 1 ≤ size → All (λ x. x < 256) bytes
    → records_in (layout.Records (size_of format size)) bytes ≡ Ok records → written form.Records format records ≡ bytes
