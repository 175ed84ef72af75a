use Rattle.std.proofs.Common.{◌≡◌, vec_len}
use Rattle.cms_base_tests.proofs.climbs.numbers.Given as goal

abbrev pub invariant-loop-place : goal.invariant-loop-place
invariant-loop-place g l = vec_len l.numbers ≡ l.place
