use Rattle.std.proofs.Common.{refl}
use Rattle.exec2_run.specs.Outputs.{typed_block}
use Rattle.exec2_run.proofs.Passed.{does_part_fail}
use Rattle.exec2_run.proofs.Statements.{typed_ended, typed_not, typed_so}
use Rattle.exec2_run.proofs.exec.ExecState.type_block.Goals as goal

pub returns-in_err-no_words : goal.returns-in_err-no_words
returns-in_err-no_words c =
    let s = c.args.self.now in
    let words = c.args.words.now in
    let why = c.in_err-no_words.field-0.0 in
    does_part_fail (typed_block s words) s s c.from_residual.result why _ refl c.from_residual.ensures.1 c.in_err-no_words.ensures (typed_not s words why)

pub returns-in_err-block : goal.returns-in_err-block
returns-in_err-block c =
    let s = c.args.self.now in
    let words = c.args.words.now in
    let why = c.in_err-block.field-0.0 in
    does_part_fail (typed_block s words) s s c.from_residual-in_err-block.result why _ refl c.from_residual-in_err-block.ensures.1 c.in_err-block.ensures
    (typed_ended s words c.in_ok-no_words.field-0 why c.in_ok-no_words.ensures)

pub returns : goal.returns
returns c = typed_so c.args.self.now c.args.words.now _ c.in_ok-no_words.field-0 c.in_ok-block.block c.self.view_is c.in_ok-no_words.ensures c.in_ok-block.ensures
