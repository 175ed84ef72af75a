use Rattle.std.proofs.Common.{refl}
use Rattle.cms_search.proofs.StateCalls.{acts_line, acts_line_fault}
use Rattle.cms_fileops.specs.State.{look_for, state_line}
use Rattle.cms_fileops.proofs.state.run_state.Goals as goal

pub returns-in-Ok-clause-acts : goal.returns-in-Ok-clause-acts
returns-in-Ok-clause-acts g c =
    acts_line _ _ c.args.words.now (λ s input. look_for s c.args.words.now input) (λ units. state_line c.args.words.now) c.in-Ok.input c.look_for.result _
    (λ units. c.in-Ok.ensures) c.look_for.ensures

pub returns-in-Err-clause-acts : goal.returns-in-Err-clause-acts
returns-in-Err-clause-acts g c =
    acts_line_fault _ _ c.args.words.now (λ s input. look_for s c.args.words.now input) (λ units. state_line c.args.words.now) c.in-Err.fault c.refuse_command.result
    (λ units. c.in-Err.ensures) c.refuse_command.ensures refl
