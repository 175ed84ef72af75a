use Rattle.std.proofs.Common.{refl}
use Rattle.cms_search.proofs.StateCalls.{acts_line, acts_line_fault}
use Rattle.cms_access.specs.Century.{century_letter, century_line}
use Rattle.cms_access.proofs.Centuries.{line_small}
use Rattle.cms_access.proofs.century.run_century.Goals as goal

pub century_disk-requires-clause-pivot : goal.century_disk-requires-clause-pivot
century_disk-requires-clause-pivot g c = line_small c.args.words.now c.in-Ok.line c.in-Ok.ensures

pub returns-in-Ok-clause-acts : goal.returns-in-Ok-clause-acts
returns-in-Ok-clause-acts g c =
    acts_line _ _ c.args.words.now century_letter (λ units. century_line c.args.words.now) c.in-Ok.line c.century_disk.result _ (λ units. c.in-Ok.ensures)
    c.century_disk.ensures.acts

pub returns-in-Err-clause-acts : goal.returns-in-Err-clause-acts
returns-in-Err-clause-acts g c =
    acts_line_fault _ _ c.args.words.now century_letter (λ units. century_line c.args.words.now) c.in-Err.fault c.refuse_command.result (λ units. c.in-Err.ensures)
    c.refuse_command.ensures refl
