use Rattle.std.proofs.Common.{◌≡◌, ◌≤◌, take}
use Rattle.std.specs.Prelude.{◌==◌, ◌&&◌, count_by, not}
use Rattle.cms_edf.specs.FilesTold.{infos_in}
use Rattle.cms_access.proofs.shown.count_seen.Given as goal

abbrev pub invariant-loop-nth : goal.invariant-loop-nth
invariant-loop-nth l = record {
  seen : l.count ≡ count_by (λ i. not (l.read_only && (i.number == 0))) (take l.nth (infos_in l.disk.volume));
  few : l.count ≤ l.nth;
}
