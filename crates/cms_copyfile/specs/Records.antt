-- What becomes of a record that is copied: it is folded, then fill bytes at its end are dropped, then it is cut or filled.
use Rattle.std.specs.Prelude.{ℕ, max, Bool, if◌then◌else◌, List, map, take, length, Option, None, Some}
use Rattle.cms_ebcdic.specs.CodePage.{lower_of, upper_of}
use Rattle.cms_text.specs.Texts.{without_trailing}
use Rattle.cms_records.specs.Views.{fitted}
use Rattle.cms_copyfile.specs.declared.record.Fit.{Fit}
use Rattle.cms_copyfile.specs.declared.record.Fit.TheVariants.{AtMost, Exactly, Whole}
use Rattle.cms_copyfile.specs.declared.record.Fold.{Fold}
use Rattle.cms_copyfile.specs.declared.record.Fold.TheVariants.{Lower, Upper}
use Rattle.cms_copyfile.specs.declared.record.RecordStyle.{RecordStyle}

-- small letters become capitals, or capitals small letters
abbrev pub folded_byte : Option Fold → ℕ → ℕ
folded_byte None byte = byte
folded_byte (Some Upper) byte = upper_of byte
folded_byte (Some Lower) byte = lower_of byte

-- the letters of a text are folded, where that is asked
abbrev pub folded : Option Fold → List ℕ → List ℕ
folded fold text = map (folded_byte fold) text

-- the text without the bytes at its end that are this one, but that the first byte stays
abbrev pub truncated : ℕ → List ℕ → List ℕ
truncated last text = take (max 1 (length (without_trailing last text))) text

-- bytes of this value at the end are dropped, where that is asked
abbrev pub truncated_if : Bool → ℕ → List ℕ → List ℕ
truncated_if truncates last text = if truncates then truncated last text else text

-- cut or filled to a length, or cut alone, or neither
abbrev pub fitted_to : Fit → ℕ → List ℕ → List ℕ
fitted_to (Exactly size) fill text = fitted text size fill
fitted_to (AtMost size) fill text = take size text
fitted_to Whole fill text = text

-- a record as it is copied
abbrev pub copied : RecordStyle → List ℕ → List ℕ
copied style text = fitted_to style.fit style.fill (truncated_if style.truncates style.fill (folded style.fold text))

-- ---- the room that it takes

-- how long a record gets at most, if none was longer before
abbrev pub longest_fit : Fit → ℕ → ℕ
longest_fit (Exactly size) longest = max size longest
longest_fit (AtMost size) longest = longest
longest_fit Whole longest = longest
