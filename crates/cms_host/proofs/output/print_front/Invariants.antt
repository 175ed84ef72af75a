use Rattle.std.proofs.Common.{◌≡◌, ◌≤◌, ◌-◌, length, take}
use Rattle.cms_host.specs.Deeds.{then_done, printing}
use Rattle.cms_host.proofs.output.print_front.Given as goal

abbrev pub invariant-loop-printed : goal.invariant-loop-printed
invariant-loop-printed g l = record {
  inside : l.printed ≤ length l.from;
  told : g.S.System.told l.system ≡ then_done (g.S.System.told l.fn.system) (printing (take l.printed l.from));
  files : g.S.System.files l.system ≡ g.S.System.files l.fn.system;
}

abbrev pub decreases-loop-printed : goal.decreases-loop-printed
decreases-loop-printed g l = length l.from - l.printed
