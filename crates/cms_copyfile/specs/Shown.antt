-- Copies as they are shown.
use Rattle.std.specs.Prelude.{ℕ, List, ◌++◌, codes, Option, None, Some}
use Rattle.cms_text.specs.Texts.{coded}
use Rattle.cms_line.specs.declared.token.Token.{Token}
use Rattle.cms_operands.specs.Refusals.{text_at}
use Rattle.cms_operands.specs.declared.operand.WriteMode.{WriteMode}
use Rattle.cms_search.specs.Texts.{letter_text}
use Rattle.cms_files.specs.Files.{file_text}
use Rattle.cms_copyfile.specs.declared.shown.FileShown.{FileShown}

-- fn ft fm TO fn ft fm
abbrev pub copy_text : FileShown → FileShown → List ℕ
copy_text from to = file_text from.letter from.name from.number ++ coded (codes " TO ") ++ file_text to.letter to.name to.number

-- the output's mode as the line has it; = is shown as the letter
abbrev pub mode_shown : List Token → Option WriteMode → ℕ → List ℕ
mode_shown words None to = letter_text to
mode_shown words (Some mode) to = text_at words 6
