use Rattle.cms_disk_tests.proofs.Planned.{still}
use Rattle.cms_disk_tests.proofs.edf.written_files.move_in.Goals as goal

pub carry_out-requires-clause-plan : goal.carry_out-requires-clause-plan
carry_out-requires-clause-plan c = still _ _ _ _ _ c.plan.ensures.volume c.in-Ok.ensures.planned
