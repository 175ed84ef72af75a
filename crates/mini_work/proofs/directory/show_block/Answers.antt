use Rattle.mini_work.proofs.Caused.{cause_done, cause_fails, later_same, later_then}
use Rattle.mini_work.proofs.Typed.{types_none, types_then}
use Rattle.mini_work.proofs.directory.show_block.Goals as goal

pub loop-place-init : goal.loop-place-init
loop-place-init g c = record { goes = types_none (g.W.World.told c.args.world.now); later = λ n. later_same _ }

pub loop-place-preserved : goal.loop-place-preserved
loop-place-preserved g c = record { goes = types_then _ _ _ c.loop-place.invariant.goes c.in_ok-show_entry.ensures.goes; later = λ n. later_then _ _ _ (c.loop-place.invariant.later n) (c.in_ok-show_entry.ensures.cause n).later }

pub returns-in_err-show_entry-clause-goes : goal.returns-in_err-show_entry-clause-goes
returns-in_err-show_entry-clause-goes g c = types_then _ _ _ c.loop-place.invariant.goes c.in_err-show_entry.ensures.goes

pub returns-in_err-show_entry-clause-cause : goal.returns-in_err-show_entry-clause-cause
returns-in_err-show_entry-clause-cause g c = λ n. let x = c.in_err-show_entry.ensures.cause n in cause_fails _ _ _ c.in_err-show_entry.field-0.0 c.from_residual.result (c.loop-place.invariant.later n) c.from_residual.ensures.1 x.later x.failed

pub returns-then-is_end-clause-cause : goal.returns-then-is_end-clause-cause
returns-then-is_end-clause-cause g c = λ n. cause_done _ _ _ (c.loop-place.invariant.later n)

pub returns-clause-cause : goal.returns-clause-cause
returns-clause-cause g c = λ n. cause_done _ _ _ (c.loop-place.invariant.later n)
