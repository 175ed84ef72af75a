use Rattle.std.proofs.Common.{ℕ}
use Rattle.exec2_run.specs.Given.{bound}
use Rattle.exec2_run.specs.Jumps.{gone}
use Rattle.exec2_run.specs.declared.want.Want.TheVariants.{Next}
use Rattle.exec2_run.proofs.Passed.{match_as}
use Rattle.exec2_run.proofs.WordsTaken.{gone_as}
use Rattle.exec2_run.proofs.exec.ExecState.place_of.Goals as goal

pub returns : goal.returns
returns c =
    match_as (gone c.args.self.now c.args.words.now) _ c.place_in.result (λ (n : ℕ). (record c.args.self.now { next = n }, Next))
    (gone_as c.args.self.now (bound c.seen.result) c.args.words.now c.in_ok-operands.operands c.as_slice.result.now c.seen.ensures c.in_ok-operands.ensures c.as_slice.ensures) c.place_in.ensures
