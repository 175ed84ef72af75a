use Rattle.mini_work.specs.Causes.{HasEnd, on_world}
use Rattle.std.proofs.Common.{take, Ok, ℕ}
use Rattle.cms_edf.specs.FilesTold.{infos_in}
use Rattle.cms_model.specs.Acts.{typed_line}
use Rattle.mini_work.specs.Changes.{IsTold}
use Rattle.mini_work.specs.CommandActs.{Continues, Goes}
use Rattle.mini_work.specs.Listing.{file_line, is_listed}
use Rattle.mini_work.proofs.listing.list_files.Given as goal

abbrev pub invariant-loop-nth : goal.invariant-loop-nth
invariant-loop-nth g l = record {
  goes : Continues (Goes (λ info. IsTold (is_listed l.names info) (typed_line (file_line l.long info))) (take l.nth (infos_in l.disk.volume)))
      (g.W.World.told l.initial.world) l.disk (g.W.World.told l.world) l.disk (Ok l.status);
  cause : (n : ℕ) → HasEnd (on_world g.W.World l.initial.world n) (on_world g.W.World l.world n) (Ok l.status);
}
