use Rattle.cms_edf.specs.NewDirectories.{leaves_over}
use Rattle.cms_edf.proofs.NewLeaves.{IsPut}
use Rattle.cms_edf.proofs.new_directory.NewDirectory.put_into.Given as goal

abbrev pub invariant-loop-at : goal.invariant-loop-at
invariant-loop-at l =
    IsPut (leaves_over l.self-inside.old.value.items l.self-inside.count l.self-inside.part.leaves l.self-inside.numbers.items) l.self-inside.part.leaves l.held.items l.at
