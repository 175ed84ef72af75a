use Rattle.mini_work.proofs.Caused.{cause_done, cause_fails, cause_then, later_same}
use Rattle.std.proofs.Common.{◌∙◌, subst, sym}
use Rattle.cms_journal.specs.Told.{Told}
use Rattle.mini_work.specs.OpenedImages.{MayUse}
use Rattle.mini_work.proofs.directory.read_leaf.Goals as goal

pub read_any-requires : goal.read_any-requires
read_any-requires g c = subst (λ (t : Told). MayUse t c.args.unit.now) (sym c.find_leaf.ensures.told) c.requires

pub returns-in_err-block-clause-cause : goal.returns-in_err-block-clause-cause
returns-in_err-block-clause-cause g c = λ n. let x = c.in_err-block.ensures.cause n in cause_fails _ _ _ c.in_err-block.field-0.0 c.from_residual.result (later_same _) c.from_residual.ensures.1 x.later x.failed

pub returns-in-Some-clause-told : goal.returns-in-Some-clause-told
returns-in-Some-clause-told g c = c.read_any.ensures.told ∙ c.find_leaf.ensures.told

pub returns-in-Some-clause-cause : goal.returns-in-Some-clause-cause
returns-in-Some-clause-cause g c = λ n. cause_then _ _ _ _ (c.in_ok-block.ensures.cause n).later (c.read_any.ensures.cause n)

pub returns-in-None-clause-cause : goal.returns-in-None-clause-cause
returns-in-None-clause-cause g c = λ n. cause_done _ _ _ (c.in_ok-block.ensures.cause n).later
