use Rattle.std.proofs.Common.{◌<◌, ℕ, subst}
use Rattle.cms_world.proofs.Exits.{ok_at_err}
use Rattle.cms_world.proofs.crash.image_of.Goals as goal

pub get-requires : goal.get-requires
get-requires c = subst (λ (n : ℕ). c.loop-place.place < n) c.len-place-end.ensures c.loop-place-test.true

pub returns-in_err-extend_from_slice : goal.returns-in_err-extend_from_slice
returns-in_err-extend_from_slice c = ok_at_err _ c.from_residual.result _ c.from_residual.ensures.1
