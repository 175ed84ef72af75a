-- The lines of a procedure as they are kept.
use Rattle.std.specs.Prelude.{List, map}
use Rattle.cms_text.specs.Texts.{Text}
use Rattle.exec2_parse.specs.declared.statement.Statement.{Statement}

-- the lines, without the words that are kept with them
abbrev pub lines_in : List Statement → List Text
lines_in = map (λ statement. statement.line)
