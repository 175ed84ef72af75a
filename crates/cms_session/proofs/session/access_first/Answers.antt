use Rattle.std.proofs.lemmas.Result.{err_from_is_err_and}
use Rattle.std.proofs.Common.{None}
use Rattle.cms_model.specs.Acts.{Done}
use Rattle.cms_search.specs.Access.{accessing_tree}
use Rattle.cms_search.specs.Calls.{beside, itself}
use Rattle.cms_search.proofs.Acts.{acts_done, acts_stop, comes_in}
use Rattle.cms_search.specs.Turns.{machine_now}
use Rattle.cms_session.specs.Calls.{access_tree}
use Rattle.cms_session.proofs.session.access_first.Goals as goal

pub returns-in_err-access-clause-acts : goal.returns-in_err-access-clause-acts
returns-in_err-access-clause-acts g c =
    let p = err_from_is_err_and c.from_residual.result c.from_residual.ensures.1 in
    let s = c.access.new.self in
    rw (p.1, p.2) (acts_stop _ _ (accessing_tree c.args.state.now 0x191 0 None) (λ x. Done x.0) _ (beside s itself) (machine_now s) c.in_err-access.ensures.acts)

pub returns-clause-acts : goal.returns-clause-acts
returns-clause-acts g c =
    let s = c.access.new.self in
    acts_done _ _ (access_tree c.args.state.now) tt (machine_now s)
    (comes_in _ _ (accessing_tree c.args.state.now 0x191 0 None) (λ x. Done x.0) c.in_ok-access.field-0 (beside s itself) c.in_ok-access.ensures.acts)
