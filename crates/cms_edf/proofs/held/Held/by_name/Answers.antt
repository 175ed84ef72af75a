use Rattle.cms_edf.proofs.FilesNamed.{keys_held}
use Rattle.std.proofs.Common.{subst}
use Rattle.cms_held.specs.HeldVolumes.{Held}
use Rattle.cms_held.specs.Kept.{Keeps}
use Rattle.cms_edf.proofs.held.Held.by_name.Goals as goal

pub returns-clause-names : goal.returns-clause-names
returns-clause-names c = keys_held c.self.inside.files.entries _ c.args.self.now c.self.invariant.named c.self.view_is

pub returns-clause-kept : goal.returns-clause-kept
returns-clause-kept c = subst (λ (h : Held). Keeps h.volume) c.self.view_is c.self.invariant.kept
