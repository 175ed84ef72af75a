use Rattle.std.proofs.Common.{refl}
use Rattle.cms_search.proofs.StateCalls.{acts_line, acts_line_fault}
use Rattle.cms_access.specs.Release.{release_disk, release_line}
use Rattle.cms_access.proofs.release.run_release.Goals as goal

pub returns-in-Ok-clause-acts : goal.returns-in-Ok-clause-acts
returns-in-Ok-clause-acts g c =
    acts_line _ _ c.args.words.now release_disk (λ units. release_line c.args.words.now) c.in-Ok.target c.release_disk.result _ (λ units. c.in-Ok.ensures)
    c.release_disk.ensures.acts

pub returns-in-Err-clause-acts : goal.returns-in-Err-clause-acts
returns-in-Err-clause-acts g c =
    acts_line_fault _ _ c.args.words.now release_disk (λ units. release_line c.args.words.now) c.in-Err.fault c.refuse_command.result (λ units. c.in-Err.ensures)
    c.refuse_command.ensures refl
