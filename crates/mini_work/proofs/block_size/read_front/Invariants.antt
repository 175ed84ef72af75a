use Rattle.std.proofs.Common.{◌≡◌, ◌≤◌, ◌-◌, length}
use Rattle.std.specs.Option.{ForSome}
use Rattle.std.specs.Prelude.{IsSome}
use Rattle.mini_work.proofs.Front.{IsRead}
use Rattle.mini_work.specs.HostTold.{SameFiles}
use Rattle.mini_work.proofs.block_size.read_front.Given as goal

abbrev pub invariant-loop-count : goal.invariant-loop-count
invariant-loop-count g l = record {
  files : SameFiles (g.H.Host.told l.fn.host) (g.H.Host.told l.host);
  within : l.count ≤ length l.into;
  size : length l.into ≡ length l.initial.into;
  opened : ForSome (g.H.Host.told l.host) (λ f. IsSome f.left);
  later : g.H.Host.faults l.fn.host ≤ g.H.Host.faults l.host;
  front : IsRead (g.H.Host.told l.initial.host) (g.H.Host.told l.host) l.into l.count;
}

abbrev pub decreases-loop-count : goal.decreases-loop-count
decreases-loop-count g l = length l.initial.into - l.count
