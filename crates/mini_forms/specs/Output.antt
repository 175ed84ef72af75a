-- What is written of the records of a file, by the form of the host file.
use Rattle.std.specs.Prelude.{ℕ, ◌==◌, ◌&&◌, not, Bool, if◌then◌else◌, List, [], ◌∷◌, ◌++◌, map}
use Rattle.std.specs.List.{concat, list_all}
use Rattle.std.specs.Str.{bytes_eq}
use Rattle.cms_text.specs.Texts.{without_trailing_blanks}
use Rattle.cms_names.specs.declared.name.Format.{Format}
use Rattle.cms_names.specs.declared.name.Format.TheVariants.{F, V}
use Rattle.cms_model.specs.Records.{with_length}
use Rattle.mini_forms.specs.Lines.{text_of}
use Rattle.mini_forms.specs.declared.form.Form.{Form}
use Rattle.mini_forms.specs.declared.form.Form.TheVariants.{Text, Binary, Records}

-- a code whose character is neither a line feed nor a carriage return
abbrev pub is_plain : ℕ → Bool
is_plain code = not (code == 0x25) && not (code == 0x0D)

-- a record that can be a line
abbrev pub is_line : List ℕ → Bool
is_line codes = list_all is_plain codes

-- what a line shows of a record: at F the blanks at its end are left out, at V one blank alone is an empty line
unfoldable pub shown : Format → List ℕ → List ℕ
shown F codes = without_trailing_blanks codes
shown V codes = if bytes_eq codes (0x40 ∷ []) then [] else codes

-- a record as a line
unfoldable pub line_of : Format → List ℕ → List ℕ
line_of format codes = text_of (shown format codes) ++ 10 ∷ []

-- what is written of one record
abbrev pub one_written : Form → Format → List ℕ → List ℕ
one_written Text format codes = line_of format codes
one_written Binary format codes = codes
one_written Records format codes = with_length codes

-- what is written of all records
abbrev pub written : Form → Format → List (List ℕ) → List ℕ
written form format records = concat (map (one_written form format) records)
