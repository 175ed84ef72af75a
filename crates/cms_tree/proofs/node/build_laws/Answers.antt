use Rattle.cms_tree.proofs.BuiltTrees.{built_is_tree}
use Rattle.cms_tree.proofs.node.build_laws.Goals as goal

pub returns : goal.returns
returns c = built_is_tree
