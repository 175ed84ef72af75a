use Rattle.std.proofs.Common.{refl}
use Rattle.cms_search.proofs.StateCalls.{acts_line, acts_line_fault}
use Rattle.cms_execio.specs.Execio.{transferring}
use Rattle.cms_execio.specs.Line.{execio_line}
use Rattle.cms_execio.proofs.command.run_execio.Goals as goal

pub returns-in-Ok-clause-acts : goal.returns-in-Ok-clause-acts
returns-in-Ok-clause-acts g c =
    acts_line _ _ c.args.words.now (λ s said. transferring s c.args.words.now said) (λ units. execio_line c.args.line.now c.args.words.now) c.in-Ok.said c.transfer.result _
    (λ units. c.in-Ok.ensures) c.transfer.ensures.acts

pub returns-in-Err-clause-acts : goal.returns-in-Err-clause-acts
returns-in-Err-clause-acts g c =
    acts_line_fault _ _ c.args.words.now (λ s said. transferring s c.args.words.now said) (λ units. execio_line c.args.line.now c.args.words.now) c.in-Err.fault c.refuse_command.result
    (λ units. c.in-Err.ensures) c.refuse_command.ensures refl
