use Rattle.std.proofs.Common.{ap, refl}
use Rattle.exec2_run.specs.Readings.{taken_for}
use Rattle.exec2_run.specs.declared.asked_line.Reading.{Reading}
use Rattle.exec2_run.proofs.Passed.{leads_no_memory}
use Rattle.exec2_run.proofs.exec.ExecState.take.Goals as goal

pub returns-in-Nothing : goal.returns-in-Nothing
unfolding taken_for
returns-in-Nothing c = ap (λ (r : Reading). taken_for r c.args.self.now c.args.line.now) c.in-Nothing.is

pub returns-in_err-words-in-Arguments : goal.returns-in_err-words-in-Arguments
returns-in_err-words-in-Arguments c =
    let s = c.args.self.now in
    leads_no_memory (taken_for c.args.reading.now s c.args.line.now) s s c.from_residual.result refl c.from_residual.ensures.1

pub returns-in_err-words-in-Variables : goal.returns-in_err-words-in-Variables
returns-in_err-words-in-Variables c =
    let s = c.args.self.now in
    leads_no_memory (taken_for c.args.reading.now s c.args.line.now) s s c.from_residual-in_err-words-in-Variables.result refl c.from_residual-in_err-words-in-Variables.ensures.1

pub returns-in_err-name-in-Text : goal.returns-in_err-name-in-Text
returns-in_err-name-in-Text c =
    let s = c.args.self.now in
    leads_no_memory (taken_for c.args.reading.now s c.args.line.now) s s c.from_residual-in_err-name-in-Text.result refl c.from_residual-in_err-name-in-Text.ensures.1

pub returns-in_err-value-in-Text : goal.returns-in_err-value-in-Text
returns-in_err-value-in-Text c =
    let s = c.args.self.now in
    leads_no_memory (taken_for c.args.reading.now s c.args.line.now) s s c.from_residual-in_err-value-in-Text.result refl c.from_residual-in_err-value-in-Text.ensures.1
