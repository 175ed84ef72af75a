use Rattle.std.proofs.Common.{◌≡◌, ◌+◌, drop}
use Rattle.std.specs.Option.{option_map}
use Rattle.cms_edit.specs.Edits.{place_in}
use Rattle.cms_edit.proofs.place.place_in.Given as goal

abbrev pub invariant-loop-place : goal.invariant-loop-place
invariant-loop-place l =
    option_map (λ k. k + l.place) (place_in l.text (drop l.place l.line)) ≡ place_in l.text l.line
