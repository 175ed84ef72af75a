use Rattle.std.proofs.Common.{◌∙◌, FitsSigned, w32, w64}
use Rattle.std.proofs.lemmas.Int.{to_z-of_z}
use Rattle.cms_fields.proofs.Calendar.{moment_there, moment_counted}
use Rattle.cms_fields.proofs.time.Moment.of_epoch.Goals as goal

pub returns-clause-count : goal.returns-clause-count
returns-clause-count c =
    let fs : FitsSigned w64 c.args.seconds = c.ranges.seconds in
    let fo : FitsSigned w32 c.args.offset = c.ranges.offset in
    let sum = simp to_z-of_z at c.held_sum.ensures.sum in
    rw c.moment_after.ensures (moment_counted c.held_sum.result c.held_sum.ensures.small ∙ sum)

pub returns-clause-civil : goal.returns-clause-civil
returns-clause-civil c = rw c.moment_after.ensures (moment_there c.held_sum.result c.held_sum.ensures.small)
