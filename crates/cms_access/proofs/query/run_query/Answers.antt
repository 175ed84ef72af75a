use Rattle.std.proofs.Common.{refl}
use Rattle.cms_search.proofs.StateCalls.{acts_line, acts_line_fault}
use Rattle.cms_access.specs.Query.{answer, query_line}
use Rattle.cms_access.proofs.query.run_query.Goals as goal

pub returns-in-Ok : goal.returns-in-Ok
returns-in-Ok g c =
    acts_line _ _ c.args.words.now answer (λ units. query_line c.args.words.now) c.in-Ok.question c.tell.result _ (λ units. c.in-Ok.ensures) c.tell.ensures

pub returns-in-Err : goal.returns-in-Err
returns-in-Err g c =
    acts_line_fault _ _ c.args.words.now answer (λ units. query_line c.args.words.now) c.in-Err.fault c.refuse_command.result (λ units. c.in-Err.ensures)
    c.refuse_command.ensures refl
