use Rattle.mini_work.proofs.Caused.{end_done, end_fails, later_same, later_then}
use Rattle.mini_work.proofs.LoneUnit.{may_use_still}
use Rattle.mini_work.proofs.Typed.{grown_types, types_same, types_then}
use Rattle.mini_work.proofs.directory.show_directory.Goals as goal

pub loop-leaf-init : goal.loop-leaf-init
loop-leaf-init g c = record { goes = types_same _ _ c.read_tree.ensures.told; later = λ n. (c.in_ok-tree.ensures.cause n).later }

pub show_leaf-requires : goal.show_leaf-requires
show_leaf-requires g c = may_use_still _ _ c.args.unit.now (grown_types _ _ c.loop-leaf.invariant.goes) c.requires

pub loop-leaf-preserved : goal.loop-leaf-preserved
loop-leaf-preserved g c = record { goes = types_then _ _ _ c.loop-leaf.invariant.goes c.in_ok-more.ensures.goes; later = λ n. later_then _ _ _ (c.loop-leaf.invariant.later n) (c.in_ok-more.ensures.cause n).later }

pub returns-in_err-tree-clause-goes : goal.returns-in_err-tree-clause-goes
returns-in_err-tree-clause-goes g c = types_same _ _ c.read_tree.ensures.told

pub returns-in_err-more-clause-goes : goal.returns-in_err-more-clause-goes
returns-in_err-more-clause-goes g c = types_then _ _ _ c.loop-leaf.invariant.goes c.in_err-more.ensures.goes

pub returns-then-not-more-clause-goes : goal.returns-then-not-more-clause-goes
returns-then-not-more-clause-goes g c = types_then _ _ _ c.loop-leaf.invariant.goes c.in_ok-more.ensures.goes

pub returns-in_err-tree-clause-cause : goal.returns-in_err-tree-clause-cause
returns-in_err-tree-clause-cause g c = λ n. let x = c.in_err-tree.ensures.cause n in end_fails _ _ _ c.in_err-tree.field-0.0 c.from_residual.result (later_same _) c.from_residual.ensures.1 x.later x.failed

pub returns-in_err-more-clause-cause : goal.returns-in_err-more-clause-cause
returns-in_err-more-clause-cause g c = λ n. let x = c.in_err-more.ensures.cause n in end_fails _ _ _ c.in_err-more.field-0.0 c.from_residual-in_err-more.result (c.loop-leaf.invariant.later n) c.from_residual-in_err-more.ensures.1 x.later x.failed

pub returns-then-not-more-clause-cause : goal.returns-then-not-more-clause-cause
returns-then-not-more-clause-cause g c = λ n. end_done _ _ (later_then _ _ _ (c.loop-leaf.invariant.later n) (c.in_ok-more.ensures.cause n).later)

pub returns-clause-cause : goal.returns-clause-cause
returns-clause-cause g c = λ n. end_done _ _ (c.loop-leaf.invariant.later n)
