use Rattle.std.proofs.Common.{refl}
use Rattle.cms_search.proofs.StateCalls.{acts_line, acts_line_fault}
use Rattle.cms_fileops.specs.Rename.{rename_files, rename_line}
use Rattle.cms_fileops.proofs.Renames.{line_number}
use Rattle.cms_fileops.proofs.rename.run_rename.Goals as goal

pub returns-in-Ok-clause-acts : goal.returns-in-Ok-clause-acts
returns-in-Ok-clause-acts g c =
    acts_line _ _ c.args.words.now (λ s line. rename_files s c.args.words.now line) (λ units. rename_line c.args.words.now) c.in-Ok.line c.rename_files.result _
    (λ units. c.in-Ok.ensures) c.rename_files.ensures.acts

pub returns-in-Err-clause-acts : goal.returns-in-Err-clause-acts
returns-in-Err-clause-acts g c =
    acts_line_fault _ _ c.args.words.now (λ s line. rename_files s c.args.words.now line) (λ units. rename_line c.args.words.now) c.in-Err.fault c.refuse_command.result
    (λ units. c.in-Err.ensures) c.refuse_command.ensures refl

pub rename_files-requires-clause-number : goal.rename_files-requires-clause-number
rename_files-requires-clause-number g c = line_number c.args.words.now c.in-Ok.line c.in-Ok.ensures
