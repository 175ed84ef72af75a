use Rattle.std.proofs.Common.{◌≤◌}
use Rattle.mini_work.specs.HostRecords.{IsOpen}
use Rattle.mini_work.specs.HostTold.{SameFiles}
use Rattle.mini_work.proofs.MeasuredFile.{MeasuredTo}
use Rattle.mini_work.proofs.host_records.measure_open.Given as goal

abbrev pub invariant-reads : goal.invariant-reads
invariant-reads g l = record {
  to : MeasuredTo (g.H.Host.told l.initial.host) (g.H.Host.told l.host) l.fn.layout l.reader l.measure;
  files : SameFiles (g.H.Host.told l.initial.host) (g.H.Host.told l.host);
  opened : IsOpen (g.H.Host.told l.host);
  later : g.H.Host.faults l.initial.host ≤ g.H.Host.faults l.host;
}

abbrev pub decreases-reads : goal.decreases-reads
decreases-reads g l = g.H.Host.rest l.host
