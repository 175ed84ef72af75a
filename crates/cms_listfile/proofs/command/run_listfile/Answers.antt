use Rattle.std.proofs.Common.{refl}
use Rattle.cms_search.proofs.StateCalls.{acts_line_fault}
use Rattle.cms_listfile.specs.Listfile.{list_files, list_line}
use Rattle.cms_listfile.proofs.Delivered.{stacks_no_line}
use Rattle.cms_listfile.proofs.command.run_listfile.Goals as goal

pub returns-in-Err-clause-acts : goal.returns-in-Err-clause-acts
returns-in-Err-clause-acts g c =
    acts_line_fault _ _ c.args.words.now (λ s line. list_files s c.args.words.now line) (λ units. list_line c.args.words.now) c.in-Err.fault c.refuse_command.result
    (λ units. c.in-Err.ensures) c.refuse_command.ensures refl

pub returns-in-Ok-clause-stack : goal.returns-in-Ok-clause-stack
returns-in-Ok-clause-stack g c = λ s shows. (let line = c.in-Ok.ensures in rw line (c.list_files.ensures.stack s shows))

pub returns-in-Err-clause-stack : goal.returns-in-Err-clause-stack
returns-in-Err-clause-stack g c = λ s shows. stacks_no_line c.args.state.now.table s (list_line c.args.words.now) c.args.state.now.stack
