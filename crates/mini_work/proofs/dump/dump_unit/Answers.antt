use Rattle.mini_work.proofs.Caused.{end_both, end_done, end_fails, later_same}
use Rattle.mini_work.proofs.LoneUnit.{may_use_still}
use Rattle.mini_work.proofs.Typed.{grown_types, types_none, types_then}
use Rattle.mini_work.proofs.dump.dump_unit.Goals as goal

pub loop-block-init : goal.loop-block-init
loop-block-init g c = record { goes = (types_none (g.W.World.told c.args.world.now)); cause = end_done _ _ (later_same _) }

pub dump_block-requires : goal.dump_block-requires
dump_block-requires g c = may_use_still _ _ c.args.unit.now (grown_types _ _ c.loop-block.invariant.goes) c.requires

pub loop-block-preserved : goal.loop-block-preserved
loop-block-preserved g c = record { goes = (types_then _ _ _ c.loop-block.invariant.goes c.in_ok-dump_block.ensures.goes); cause = end_both _ _ _ c.loop-block.status c.in_ok-dump_block.field-0 c.and-status.result c.loop-block.invariant.cause c.in_ok-dump_block.ensures.cause c.and-status.ensures }

pub returns-in_err-dump_block-clause-goes : goal.returns-in_err-dump_block-clause-goes
returns-in_err-dump_block-clause-goes g c = types_then _ _ _ c.loop-block.invariant.goes c.in_err-dump_block.ensures.goes

pub returns-then-is_empty-clause-cause : goal.returns-then-is_empty-clause-cause
returns-then-is_empty-clause-cause g c = c.dump_volume.ensures.cause

pub returns-clause-cause : goal.returns-clause-cause
returns-clause-cause g c = c.loop-block.invariant.cause

pub returns-in_err-dump_block-clause-cause : goal.returns-in_err-dump_block-clause-cause
returns-in_err-dump_block-clause-cause g c = let x = c.in_err-dump_block.ensures.cause in end_fails _ _ _ c.in_err-dump_block.field-0.0 c.from_residual.result c.loop-block.invariant.cause.later c.from_residual.ensures.1 x.later x.failed
