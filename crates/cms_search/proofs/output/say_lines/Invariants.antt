use Rattle.cms_world.specs.Seen.{seen}
use Rattle.cms_search.proofs.Lined.{AreSaid}
use Rattle.cms_search.proofs.output.say_lines.Given as goal

abbrev pub invariant-loop-line : goal.invariant-loop-line
invariant-loop-line g l = AreSaid l.lines (seen g.W.World l.initial.world) (seen g.W.World l.world) l.line-index
