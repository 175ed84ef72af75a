use Rattle.std.proofs.Common.{refl}
use Rattle.cms_search.proofs.StateCalls.{acts_line, acts_line_fault}
use Rattle.cms_access.specs.Access.{access_disk, access_line}
use Rattle.cms_access.proofs.Lettered.{line_below}
use Rattle.cms_access.proofs.access.run_access.Goals as goal

pub access_disk-requires-clause-letter : goal.access_disk-requires-clause-letter
access_disk-requires-clause-letter g c = line_below c.args.words.now c.in-Ok.line c.in-Ok.ensures

pub returns-in-Ok-clause-acts : goal.returns-in-Ok-clause-acts
returns-in-Ok-clause-acts g c =
    acts_line _ _ c.args.words.now access_disk (λ units. access_line c.args.words.now) c.in-Ok.line c.access_disk.result _ (λ units. c.in-Ok.ensures)
    c.access_disk.ensures.acts

pub returns-in-Err-clause-acts : goal.returns-in-Err-clause-acts
returns-in-Err-clause-acts g c =
    acts_line_fault _ _ c.args.words.now access_disk (λ units. access_line c.args.words.now) c.in-Err.fault c.refuse_command.result (λ units. c.in-Err.ensures)
    c.refuse_command.ensures refl
