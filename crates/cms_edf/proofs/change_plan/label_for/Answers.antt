use Rattle.std.proofs.Common.{arith}
use Rattle.cms_map.proofs.Free.{free_from-le}
use Rattle.cms_edf.proofs.change_plan.label_for.Goals as goal

-- no more blocks are free than there are
pub overflow_sub-result-2 : goal.overflow_sub-result-2
overflow_sub-result-2 c = omega (arith, free_from-le 1 c.args.map.now, c.requires, c.free_count.ensures.count)
