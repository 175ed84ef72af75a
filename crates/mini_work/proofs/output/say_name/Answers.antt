use Rattle.std.proofs.Common.{◌∙◌, ℕ, List, subst}
use Rattle.std.proofs.lemmas.Result.{err_from_is_err_and}
use Rattle.cms_model.specs.Acts.{typed_line}
use Rattle.mini_work.specs.Changes.{IsTold}
use Rattle.mini_work.specs.CommandActs.{Continues}
use Rattle.mini_work.specs.Output.{name_line}
use Rattle.mini_work.proofs.PartsJoined.{ended_any}
use Rattle.mini_work.proofs.Caused.{later_same, end_lacks}
use Rattle.mini_work.proofs.output.say_name.Goals as goal

pub returns-clause-goes : goal.returns-clause-goes
returns-clause-goes g c = λ d.
    subst (λ (x : List ℕ). Continues (IsTold c.args.says (typed_line x)) (g.W.World.told c.args.world.now) d (g.W.World.told c.say_if.new.world) d c.say_if.result)
    (c.deref.ensures.value ∙ c.in_ok-text.ensures) (c.say_if.ensures.goes d)

pub returns-in_err-text-clause-goes : goal.returns-in_err-text-clause-goes
returns-in_err-text-clause-goes g c = λ d.
    let p = err_from_is_err_and c.from_residual.result c.from_residual.ensures.1 in
    ended_any (IsTold c.args.says (name_line c.args.name.now)) _ d p.0 _ p.1

pub returns-in_err-text-clause-cause : goal.returns-in_err-text-clause-cause
returns-in_err-text-clause-cause g c = λ n. end_lacks _ _ c.from_residual.result c.from_residual.ensures.1 (later_same _)

pub returns-clause-cause : goal.returns-clause-cause
returns-clause-cause g c = λ n. c.say_if.ensures.cause n
