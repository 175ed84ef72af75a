use Rattle.mini_work.specs.Causes.{Counts, HasEnd, on_host}
use Rattle.std.proofs.Common.{◌≡◌, take, Ok}
use Rattle.mini_work.specs.ChosenFiles.{idle_status}
use Rattle.mini_work.specs.HostTold.{SameFiles}
use Rattle.mini_work.proofs.chosen_files.refuse_idle.Given as goal

abbrev pub invariant-loop-pattern : goal.invariant-loop-pattern
invariant-loop-pattern g l = record {
  idle : l.status ≡ idle_status (take l.pattern-index l.patterns) l.names;
  files : SameFiles (g.H.Host.told l.initial.host) (g.H.Host.told l.host);
  cause : (k : Counts) → HasEnd (on_host k (g.H.Host.faults l.initial.host)) (on_host k (g.H.Host.faults l.host)) (Ok l.status);
}
