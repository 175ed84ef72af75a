use Rattle.cms_world.specs.Seen.{seen}
use Rattle.cms_fileops.proofs.Typed.{TypedSoFar}
use Rattle.cms_fileops.proofs.type_command.type_records.Given as goal

abbrev pub invariant-loop-nth : goal.invariant-loop-nth
invariant-loop-nth g l = TypedSoFar l.line (seen g.W.World l.initial.world) (seen g.W.World l.world) l.initial.cursor l.cursor l.nth
