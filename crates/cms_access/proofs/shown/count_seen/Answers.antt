use Rattle.std.proofs.Common.{ℕ, ◌+◌, ◌∙◌, take, sym, ap, arith}
use Rattle.std.specs.Prelude.{count_by, not, ◌==◌, ◌&&◌}
use Rattle.cms_edf.specs.FilesTold.{infos_in}
use Rattle.cms_edf.specs.declared.held.FileInfo.{FileInfo}
use Rattle.cms_access.proofs.Queries.{count_more}
use Rattle.cms_access.proofs.shown.count_seen.Goals as goal

pub loop-nth-preserved : goal.loop-nth-preserved
loop-nth-preserved c =
    let b = c.args.read_only in
    let v = c.args.disk.now.volume in
    let k = c.loop-nth.nth in
    let small = c.weight-count.ensures.small in
    let few = c.loop-nth.invariant.few in
    let w = c.weight-count.result in
    let more = count_more b v k c.info.result c.info.ensures.info in
    record {
      seen = ap (λ (n : ℕ). n + w) c.loop-nth.invariant.seen
          ∙ ap (λ (n : ℕ). count_by (λ (i : FileInfo). not (b && (i.number == 0))) (take k (infos_in v)) + n) c.weight-count.ensures.is
          ∙ sym more;
      few = omega (arith, small, few);
    }
