-- Labels, &GOTO and &SKIP (VM/SP EXEC 2 Reference, &GOTO and &SKIP). The next line is the one behind the statement's, until it jumps.
use Rattle.std.specs.Prelude.{ℕ, ◌+◌, ◌-◌, nat_le, nat_lt, Bool, ◌&&◌, if◌then◌else◌, List, [], ◌∷◌, drop, length, Option, Some, None, ok_or, Result, Ok, Err, ℤ, pos, negsuc}
use Rattle.std.specs.List.{position_from}
use Rattle.cms_fields.specs.Steps.{◌>>=◌, ◌>>◌}
use Rattle.cms_text.specs.Texts.{Text}
use Rattle.cms_text.specs.Numbers.{number_of}
use Rattle.exec2_run.specs.Given.{seen}
use Rattle.exec2_run.specs.State.{Exec, Step}
use Rattle.exec2_run.specs.Values.{ended, missing, operands, whole}
use Rattle.exec2_parse.specs.Words.{has_label, is_label}
use Rattle.exec2_run.specs.declared.want.Want.TheVariants.{Next}
use Rattle.exec2_run.specs.declared.fault.Fault.{Fault}
use Rattle.exec2_run.specs.declared.fault.Fault.TheVariants.{NotNumber, BadStatement, NoLabel, OutsideLines}

-- the place of the first line with a label, from a place on
unfoldable pub label_from : Text → ℕ → List Text → Option ℕ
label_from label from lines = position_from (has_label label) from (drop from lines)

-- the first place, else the second
abbrev pub or_else : Option ℕ → Option ℕ → Option ℕ
or_else (Some place) other = Some place
or_else None other = other

-- from the next line to the end, and then from the top
abbrev pub label_place : Text → ℕ → List Text → Option ℕ
label_place label next lines = or_else (label_from label next lines) (label_from label 0 lines)

-- what a word of &GOTO or &CALL names
abbrev pub place_named : Exec → Text → Result ℕ Fault
place_named s label = if is_label label then ok_or (label_place label s.next s.lines) NoLabel else Err BadStatement

-- &GOTO -label
abbrev pub gone_by : Exec → List Text → Bool → Step
gone_by s [] is_cut = Err (missing is_cut)
gone_by s (label ∷ others) is_cut = do
  place ← place_named s label
  ended others is_cut
  Ok (record s { next = place }, Next)

-- &GOTO
unfoldable pub gone : Exec → List Text → Step
gone s words = gone_by s (operands (seen s) words).words (operands (seen s) words).is_cut

-- the place behind so many lines from the next one on; the one behind the last line is the last such place
abbrev pub place_below : Exec → ℕ → Result ℕ Fault
place_below s n = if nat_le s.next (length s.lines) && nat_le n (length s.lines - s.next) then Ok (s.next + n) else Err OutsideLines

-- the line so many above the statement's
abbrev pub place_above : Exec → ℕ → Result ℕ Fault
place_above s n = if nat_lt n s.next then Ok (s.next - 1 - n) else Err OutsideLines

-- so many lines down, or up
abbrev pub place_after : Exec → ℤ → Result ℕ Fault
place_after s (pos n) = place_below s n
place_after s (negsuc n) = place_above s (n + 1)

-- &SKIP n, where a number of 0 or more skips so many lines and a negative one goes so many up; without a number it is 1
abbrev pub skipped_by : Exec → List Text → Bool → Step
skipped_by s [] is_cut = do
  whole is_cut
  place ← place_after s (pos 1)
  Ok (record s { next = place }, Next)
skipped_by s (word ∷ others) is_cut = do
  n ← ok_or (number_of word) NotNumber
  place ← place_after s n
  ended others is_cut
  Ok (record s { next = place }, Next)

-- &SKIP
unfoldable pub skipped : Exec → List Text → Step
skipped s words = skipped_by s (operands (seen s) words).words (operands (seen s) words).is_cut
