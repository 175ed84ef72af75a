use Rattle.cms_host.proofs.Exits.{on_ok_at_err}
use Rattle.cms_host.proofs.file_unit.make_blocks.Goals as goal

pub returns-in_err-set_size : goal.returns-in_err-set_size
returns-in_err-set_size g c = on_ok_at_err _ c.from_residual.result _ c.from_residual.ensures.1

pub returns-then-not-sync : goal.returns-then-not-sync
returns-then-not-sync g c = tt
