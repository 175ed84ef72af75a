use Rattle.mini_work.proofs.Caused.{end_done, end_fails, end_lacks, end_refused, later_same, later_then}
use Rattle.mini_work.proofs.Typed.{types_part, types_same, types_then, types_to}
use Rattle.mini_work.proofs.dump.dump_block.Goals as goal

pub returns-in_err-bytes-clause-goes : goal.returns-in_err-bytes-clause-goes
returns-in_err-bytes-clause-goes g c = types_same _ _ c.find_block.ensures.told

pub returns-in_default-clause-goes : goal.returns-in_default-clause-goes
returns-in_default-clause-goes g c = types_same _ _ c.find_block.ensures.told

pub returns-in_err-text-clause-goes : goal.returns-in_err-text-clause-goes
returns-in_err-text-clause-goes g c = types_same _ _ c.find_block.ensures.told

pub returns-in_err-type_bytes-clause-goes : goal.returns-in_err-type_bytes-clause-goes
returns-in_err-type_bytes-clause-goes g c = types_then _ _ _ (types_same _ _ c.find_block.ensures.told) (types_part _ _ _ c.in_err-type_bytes.ensures.err)

pub returns-clause-goes : goal.returns-clause-goes
returns-clause-goes g c =
    types_then _ _ _ (types_same _ _ c.find_block.ensures.told) (types_to _ _ _ _ c.in_ok-type_bytes.ensures.ok)

pub returns-in_err-bytes-clause-cause : goal.returns-in_err-bytes-clause-cause
returns-in_err-bytes-clause-cause g c = let x = c.in_err-bytes.ensures.cause in end_fails _ _ _ c.in_err-bytes.field-0.0 c.from_residual.result (later_same _) c.from_residual.ensures.1 x.later x.failed

pub returns-in_default-clause-cause : goal.returns-in_default-clause-cause
returns-in_default-clause-cause g c = end_refused _ _ (c.in_ok-bytes.ensures.cause).later

pub returns-in_err-text-clause-cause : goal.returns-in_err-text-clause-cause
returns-in_err-text-clause-cause g c = end_lacks _ _ c.from_residual-in_err-text.result c.from_residual-in_err-text.ensures.1 (c.in_ok-bytes.ensures.cause).later

pub returns-in_err-type_bytes-clause-cause : goal.returns-in_err-type_bytes-clause-cause
returns-in_err-type_bytes-clause-cause g c = let x = c.in_err-type_bytes.ensures.cause (g.H.Host.faults c.find_block.new.host) in end_fails _ _ _ c.in_err-type_bytes.field-0.0 c.from_residual-in_err-type_bytes.result (c.in_ok-bytes.ensures.cause).later c.from_residual-in_err-type_bytes.ensures.1 x.later x.failed

pub returns-clause-cause : goal.returns-clause-cause
returns-clause-cause g c = end_done _ _ (later_then _ _ _ (c.in_ok-bytes.ensures.cause).later (c.in_ok-type_bytes.ensures.cause (g.H.Host.faults c.find_block.new.host)).later)
