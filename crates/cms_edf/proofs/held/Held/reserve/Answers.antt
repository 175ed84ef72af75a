use Rattle.std.proofs.Common.{ap}
use Rattle.cms_held.specs.HeldVolumes.{Held}
use Rattle.cms_edf.proofs.held.Held.reserve.Goals as goal

pub invariant_of-self : goal.invariant_of-self
invariant_of-self c = rw c.reserve.ensures.entries c.self.invariant

pub returns-clause-volume : goal.returns-clause-volume
returns-clause-volume c = rw (c.reserve.ensures.entries, c.reserve-2.ensures.items) (ap (λ (h : Held). h.volume) c.self.view_is)

pub returns-clause-kept : goal.returns-clause-kept
returns-clause-kept c = rw (c.reserve.ensures.entries, c.reserve-2.ensures.items) c.self.invariant.kept
