use Rattle.cms_edf.proofs.Exits.{ok_at_err, reads_at_err, same_at_err}
use Rattle.cms_edf.proofs.trees.append_block.Goals as goal

pub returns-in_err-block-clause-bytes : goal.returns-in_err-block-clause-bytes
returns-in_err-block-clause-bytes g c = ok_at_err _ c.from_residual.result _ c.from_residual.ensures.1

pub returns-in_err-block-clause-size : goal.returns-in_err-block-clause-size
returns-in_err-block-clause-size g c = ok_at_err _ c.from_residual.result _ c.from_residual.ensures.1

pub returns-in_err-block-clause-fault : goal.returns-in_err-block-clause-fault
returns-in_err-block-clause-fault g c = same_at_err c.from_residual.result _ _ c.from_residual.ensures.1 c.in_err-block.ensures.fault

pub returns-in_err-block-clause-reads : goal.returns-in_err-block-clause-reads
returns-in_err-block-clause-reads g c = reads_at_err c.from_residual.result _ c.from_residual.ensures.1 c.in_err-block.ensures.reads
