use Rattle.std.proofs.Common.{◌∷◌, [], arith}
use Rattle.cms_tree.proofs.Paths.{path_takes_no_more}
use Rattle.cms_base_tests.proofs.trees.tell_path.Goals as goal

pub path-requires-clause-fresh : goal.path-requires-clause-fresh
path-requires-clause-fresh g c = omega (arith, path_takes_no_more c.args.fan c.args.before c.args.count (c.args.written ∷ []))
