use Rattle.std.proofs.Common.{refl}
use Rattle.cms_search.proofs.StateCalls.{acts_line, acts_line_fault}
use Rattle.cms_copyfile.specs.Copyfile.{copy_files}
use Rattle.cms_copyfile.specs.Lines.{copy_line}
use Rattle.cms_copyfile.proofs.command.run_copyfile.Goals as goal

pub returns-in-Ok-clause-acts : goal.returns-in-Ok-clause-acts
returns-in-Ok-clause-acts g c =
    acts_line _ _ c.args.words.now (λ s line. copy_files s c.args.words.now line) (λ units. copy_line c.args.words.now) c.in-Ok.line c.copy_files.result _
    (λ units. c.in-Ok.ensures.says) c.copy_files.ensures.acts

pub returns-in-Err-clause-acts : goal.returns-in-Err-clause-acts
returns-in-Err-clause-acts g c =
    acts_line_fault _ _ c.args.words.now (λ s line. copy_files s c.args.words.now line) (λ units. copy_line c.args.words.now) c.in-Err.fault c.refuse_command.result
    (λ units. c.in-Err.ensures.says) c.refuse_command.ensures refl
