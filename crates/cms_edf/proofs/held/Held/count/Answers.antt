use Rattle.std.proofs.Common.{subst}
use Rattle.cms_held.specs.HeldVolumes.{Held}
use Rattle.cms_held.specs.Kept.{Keeps}
use Rattle.cms_edf.proofs.held.Held.count.Goals as goal

pub returns-clause-kept : goal.returns-clause-kept
returns-clause-kept c = subst (λ (h : Held). Keeps h.volume) c.self.view_is c.self.invariant.kept
