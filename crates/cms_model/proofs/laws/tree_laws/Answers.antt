use Rattle.cms_model.proofs.Shapes.{shape_least}
use Rattle.cms_model.proofs.TreeFrame.{tree_keeps, tree_inside, tree_places}
use Rattle.cms_model.proofs.TreeSizes.{tree_has_size, tree_first}
use Rattle.cms_model.proofs.BuiltTrees.{built_reads}
use Rattle.cms_model.proofs.Pointers.{only_pointers, pointers_read}
use Rattle.cms_model.proofs.laws.tree_laws.Goals as goal

pub returns-clause-shape : goal.returns-clause-shape
returns-clause-shape c = shape_least

pub returns-clause-size : goal.returns-clause-size
returns-clause-size c = tree_has_size

pub returns-clause-within : goal.returns-clause-within
returns-clause-within c = tree_places

pub returns-clause-leaves : goal.returns-clause-leaves
returns-clause-leaves c = tree_inside

pub returns-clause-first : goal.returns-clause-first
returns-clause-first c = tree_first

pub returns-clause-frame : goal.returns-clause-frame
returns-clause-frame c = λ form before later k first holder other root count met e agree. tree_keeps form before later k first holder other root count met e agree

pub returns-clause-built : goal.returns-clause-built
returns-clause-built c = built_reads

pub returns-clause-pointers : goal.returns-clause-pointers
returns-clause-pointers c = only_pointers

pub returns-clause-read : goal.returns-clause-read
returns-clause-read c = pointers_read
