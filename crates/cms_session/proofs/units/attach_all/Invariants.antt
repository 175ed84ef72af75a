use Rattle.std.proofs.Common.{take}
use Rattle.cms_world.specs.Seen.{seen}
use Rattle.cms_session.proofs.UnitsAttached.{IsAttaching}
use Rattle.cms_session.proofs.units.attach_all.Given as goal

abbrev pub invariant-loop-word : goal.invariant-loop-word
invariant-loop-word g l = IsAttaching (seen g.W.World l.initial.world) (seen g.W.World l.world) (take l.word-index l.words) l.units
