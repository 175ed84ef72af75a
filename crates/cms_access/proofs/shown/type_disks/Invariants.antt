use Rattle.cms_world.specs.Seen.{seen}
use Rattle.cms_access.specs.Shown.{seat_lines}
use Rattle.cms_access.proofs.Queries.{IsAt}
use Rattle.cms_access.proofs.shown.type_disks.Given as goal

abbrev pub invariant-loop-letter : goal.invariant-loop-letter
invariant-loop-letter g l = IsAt (λ n. seat_lines l.shown l.table n) (seen g.W.World l.initial.world) (seen g.W.World l.world) l.letter
