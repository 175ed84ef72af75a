use Rattle.std.proofs.Common.{◌≡◌, take, true}
use Rattle.std.specs.List.{list_all}
use Rattle.mini_forms.specs.Lines.{is_simple}
use Rattle.mini_forms.proofs.run.simple_front.Given as goal

abbrev pub invariant-loop-count : goal.invariant-loop-count
invariant-loop-count l = list_all is_simple (take l.count l.bytes) ≡ true
