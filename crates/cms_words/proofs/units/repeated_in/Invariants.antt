use Rattle.std.proofs.Common.{◌≡◌, [], take, drop}
use Rattle.cms_words.specs.Words.{devices_of, repeated_device}
use Rattle.cms_words.proofs.units.repeated_in.Given as goal

abbrev pub invariant-loop-place : goal.invariant-loop-place
invariant-loop-place l = repeated_device [] (devices_of l.units) ≡ repeated_device (devices_of (take l.place l.units)) (devices_of (drop l.place l.units))
