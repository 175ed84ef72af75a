-- Lines that are stacked one after another.
use Rattle.std.proofs.Common.{◌≡◌, ℕ, List, [], append-nil, refl, sym}
use Rattle.cms_files.specs.StackedLines.{StacksSome, stacked}
use Rattle.cms_files.specs.declared.stack.StackEnd.{StackEnd}
use Rattle.cms_files.specs.declared.stack.StackEnd.TheVariants.{Front, Back}

-- no line is stacked
pub stacked_none : (end : StackEnd) (was : List (List ℕ)) → was ≡ stacked end [] was
stacked_none Back was = sym (append-nil was)
stacked_none Front was = refl

pub stacks_none : (end : StackEnd) (lines was : List (List ℕ)) → StacksSome end lines was was
stacks_none end lines was = record { first = (0, stacked_none end was); full = λ over. refl }
