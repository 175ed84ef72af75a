use Rattle.cms_world.specs.Seen.{seen}
use Rattle.cms_listfile.specs.Told.{line_told}
use Rattle.cms_listfile.proofs.Lines.{IsAt}
use Rattle.cms_listfile.proofs.found_lines.type_files.Given as goal

abbrev pub invariant-loop-file : goal.invariant-loop-file
invariant-loop-file g l = IsAt (λ f. line_told l.last l.table f) l.found (seen g.W.World l.initial.world) (seen g.W.World l.world) l.file-index
