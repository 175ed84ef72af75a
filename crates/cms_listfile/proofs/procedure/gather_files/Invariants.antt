use Rattle.std.proofs.Common.{ℕ, List, ◌++◌, take}
use Rattle.cms_names.specs.declared.name.Format.{Format}
use Rattle.cms_files.specs.Gathered.{IsGathered}
use Rattle.cms_listfile.specs.Told.{lines_told}
use Rattle.cms_listfile.proofs.Procedures.{lines_for}
use Rattle.cms_listfile.proofs.procedure.gather_files.Given as goal

abbrev pub invariant-loop-file : goal.invariant-loop-file
invariant-loop-file l = (format : Format) (size : ℕ) (some : List (List ℕ)) → IsGathered format size some l.fn.records
    → IsGathered format size (some ++ lines_for format size (lines_told l.last l.table (take l.file-index l.found))) l.records
