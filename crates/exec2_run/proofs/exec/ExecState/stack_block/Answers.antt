use Rattle.std.proofs.Common.{refl}
use Rattle.exec2_run.specs.Outputs.{stacked_block}
use Rattle.exec2_run.proofs.Passed.{does_part_fail}
use Rattle.exec2_run.proofs.Statements.{stacked_ended, stacked_not, stacked_so}
use Rattle.exec2_run.proofs.exec.ExecState.stack_block.Goals as goal

pub returns-in_err-no_words : goal.returns-in_err-no_words
returns-in_err-no_words c =
    let s = c.args.self.now in
    let words = c.args.words.now in
    let why = c.in_err-no_words.field-0.0 in
    does_part_fail (stacked_block s words) s s c.from_residual.result why _ refl c.from_residual.ensures.1 c.in_err-no_words.ensures (stacked_not s words c.behind_side.result.now c.behind_side.ensures why)

pub returns-in_err-block : goal.returns-in_err-block
returns-in_err-block c =
    let s = c.args.self.now in
    let words = c.args.words.now in
    let why = c.in_err-block.field-0.0 in
    does_part_fail (stacked_block s words) s s c.from_residual-in_err-block.result why _ refl c.from_residual-in_err-block.ensures.1 c.in_err-block.ensures
    (stacked_ended s words c.behind_side.result.now c.behind_side.ensures c.in_ok-no_words.field-0 why c.in_ok-no_words.ensures)

pub returns : goal.returns
returns c =
    stacked_so c.args.self.now c.args.words.now c.behind_side.result.now c.behind_side.ensures _ c.in_ok-no_words.field-0 c.in_ok-block.block c.side_of.result c.self.view_is c.in_ok-no_words.ensures
    c.in_ok-block.ensures c.side_of.ensures
