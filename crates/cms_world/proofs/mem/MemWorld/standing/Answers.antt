use Rattle.std.proofs.Common.{sym, ◌∙◌}
use Rattle.cms_world.proofs.Calls.{none_some}
use Rattle.cms_world.proofs.Exits.{ok_at_err}
use Rattle.cms_world.proofs.UnitImages.{none_is_named}
use Rattle.cms_world.proofs.mem.MemWorld.standing.Goals as goal

pub returns-else-is_named-clause-absent : goal.returns-else-is_named-clause-absent
returns-else-is_named-clause-absent c = λ none. none_is_named _ _ (sym c.is_named.ensures ∙ c.if-is_named.false)

pub returns-in_err-written_over-in-Some-clause-standing : goal.returns-in_err-written_over-in-Some-clause-standing
returns-in_err-written_over-in-Some-clause-standing c = ok_at_err _ c.from_residual.result _ c.from_residual.ensures.1

pub returns-in_err-written_over-in-Some-clause-absent : goal.returns-in_err-written_over-in-Some-clause-absent
returns-in_err-written_over-in-Some-clause-absent c = ok_at_err _ c.from_residual.result _ c.from_residual.ensures.1

pub returns-in_ok-written_over-in-Some-clause-absent : goal.returns-in_ok-written_over-in-Some-clause-absent
returns-in_ok-written_over-in-Some-clause-absent c = λ none. absurd (none_some none)

pub returns-in_err-written_over-in-None-clause-standing : goal.returns-in_err-written_over-in-None-clause-standing
returns-in_err-written_over-in-None-clause-standing c = ok_at_err _ c.from_residual-in_err-written_over-in-None.result _ c.from_residual-in_err-written_over-in-None.ensures.1

pub returns-in_err-written_over-in-None-clause-absent : goal.returns-in_err-written_over-in-None-clause-absent
returns-in_err-written_over-in-None-clause-absent c = ok_at_err _ c.from_residual-in_err-written_over-in-None.result _ c.from_residual-in_err-written_over-in-None.ensures.1

pub returns-in_ok-written_over-in-None-clause-absent : goal.returns-in_ok-written_over-in-None-clause-absent
returns-in_ok-written_over-in-None-clause-absent c = λ none. absurd (none_some none)
