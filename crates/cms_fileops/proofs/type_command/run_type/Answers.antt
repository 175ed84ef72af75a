use Rattle.std.proofs.Common.{refl}
use Rattle.cms_search.proofs.StateCalls.{acts_line, acts_line_fault}
use Rattle.cms_fileops.specs.TypeCommand.{type_file, type_line}
use Rattle.cms_fileops.proofs.type_command.run_type.Goals as goal

pub returns-in-Ok-clause-acts : goal.returns-in-Ok-clause-acts
returns-in-Ok-clause-acts g c =
    acts_line _ _ c.args.words.now (λ s line. type_file s c.args.words.now line) (λ units. type_line c.args.words.now) c.in-Ok.line c.type_file.result _
    (λ units. c.in-Ok.ensures) c.type_file.ensures.acts

pub returns-in-Err-clause-acts : goal.returns-in-Err-clause-acts
returns-in-Err-clause-acts g c =
    acts_line_fault _ _ c.args.words.now (λ s line. type_file s c.args.words.now line) (λ units. type_line c.args.words.now) c.in-Err.fault c.refuse_command.result
    (λ units. c.in-Err.ensures) c.refuse_command.ensures refl
