use Rattle.std.proofs.Common.{◌≡◌, take}
use Rattle.cms_held.specs.HeldVolumes.{names_in}
use Rattle.mini_work.proofs.chosen_files.names_of.Given as goal

abbrev pub invariant-loop-nth : goal.invariant-loop-nth
invariant-loop-nth l = l.names.items ≡ take l.nth (names_in l.disk.volume.files)
