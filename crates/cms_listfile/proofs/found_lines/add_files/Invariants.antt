use Rattle.std.proofs.Common.{◌≡◌, ◌++◌, take}
use Rattle.cms_listfile.specs.Told.{lines_told}
use Rattle.cms_listfile.proofs.found_lines.add_files.Given as goal

abbrev pub invariant-loop-file : goal.invariant-loop-file
invariant-loop-file l = l.lines ≡ l.fn.lines ++ lines_told l.last l.table (take l.file-index l.found)
