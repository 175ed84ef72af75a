-- EXECIO: records of a file are stacked, or lines are written into one.
use Rattle.std.specs.Prelude.{ℕ, List}
use Rattle.cms_model.specs.Acts.{Act}
use Rattle.cms_line.specs.declared.token.Token.{Token}
use Rattle.cms_search.specs.Machine.{Machine, Course}
use Rattle.cms_search.specs.Refusals.{on_line}
use Rattle.cms_execio.specs.Diskr.{disk_read}
use Rattle.cms_execio.specs.Diskw.{disk_write}
use Rattle.cms_execio.specs.Line.{execio_line}
use Rattle.cms_execio.specs.declared.line.ExecioLine.{ExecioLine}
use Rattle.cms_execio.specs.declared.line.ExecioLine.TheVariants as line

-- DISKR or DISKW, as the line says
abbrev pub transferring : Machine → List Token → ExecioLine → Act Course
transferring s words (line.Read read) = disk_read s words read
transferring s words (line.Write target text) = disk_write s words target text

-- on a line of these bytes and words
abbrev pub execio : Machine → List ℕ → List Token → Act Course
execio s bytes words = on_line s words (transferring s words) (execio_line bytes words)
