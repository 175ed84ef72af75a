use Rattle.mini_work.specs.Causes.{AreLater, on_world}
use Rattle.std.proofs.Common.{Ok, take, ℕ}
use Rattle.cms_disk.specs.Disks.{Accessed}
use Rattle.mini_work.specs.CommandActs.{Continues}
use Rattle.mini_work.specs.Gets.{AreSaid}
use Rattle.mini_work.specs.declared.status.Status.TheVariants.{Done}
use Rattle.mini_work.proofs.get.say_names.Given as goal

abbrev pub invariant-loop-name : goal.invariant-loop-name
invariant-loop-name g l = record {
  goes : (d : Accessed) → Continues (AreSaid l.says (take l.name-index l.names)) (g.W.World.told l.initial.world) d (g.W.World.told l.world) d (Ok Done);
  later : (n : ℕ) → AreLater (on_world g.W.World l.initial.world n) (on_world g.W.World l.world n);
}
