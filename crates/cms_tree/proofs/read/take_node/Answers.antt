use Rattle.std.proofs.Common.{refl, sym, ◌∙◌}
use Rattle.cms_tree.proofs.Exits.{refused_at_err, none_taken, not_device}
use Rattle.cms_tree.proofs.read.take_node.Goals as goal

pub returns-then-not-is_allowed-clause-refused : goal.returns-then-not-is_allowed-clause-refused
returns-then-not-is_allowed-clause-refused c = (refl, refl, sym c.is_allowed.ensures ∙ c.if-not-is_allowed.true)

pub returns-then-not-is_allowed-clause-ok : goal.returns-then-not-is_allowed-clause-ok
returns-then-not-is_allowed-clause-ok c = tt

pub returns-clause-refused : goal.returns-clause-refused
returns-clause-refused c = tt

pub returns-then-not-is_allowed-clause-device : goal.returns-then-not-is_allowed-clause-device
returns-then-not-is_allowed-clause-device c = λ is. cc

pub returns-clause-device : goal.returns-clause-device
returns-clause-device c = λ is. cc

pub returns-in_err-push-clause-ok : goal.returns-in_err-push-clause-ok
returns-in_err-push-clause-ok c = none_taken _ c.from_residual.result c.from_residual.ensures.1

pub returns-in_err-push-2-clause-ok : goal.returns-in_err-push-2-clause-ok
returns-in_err-push-2-clause-ok c = none_taken _ c.from_residual-in_err-push-2.result c.from_residual-in_err-push-2.ensures.1

pub returns-in_err-push-clause-device : goal.returns-in_err-push-clause-device
returns-in_err-push-clause-device c = not_device c.from_residual.result c.from_residual.ensures.1

pub returns-in_err-push-2-clause-device : goal.returns-in_err-push-2-clause-device
returns-in_err-push-2-clause-device c = not_device c.from_residual-in_err-push-2.result c.from_residual-in_err-push-2.ensures.1

pub returns-in_err-push-clause-refused : goal.returns-in_err-push-clause-refused
returns-in_err-push-clause-refused c = refused_at_err c.from_residual.result _ _ _ c.from_residual.ensures.1

pub returns-in_err-push-2-clause-refused : goal.returns-in_err-push-2-clause-refused
returns-in_err-push-2-clause-refused c = refused_at_err c.from_residual-in_err-push-2.result _ _ _ c.from_residual-in_err-push-2.ensures.1
