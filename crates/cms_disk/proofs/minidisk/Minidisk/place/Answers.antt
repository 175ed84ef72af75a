use Rattle.std.proofs.Common.{sym, ◌∙◌, ap, subst}
use Rattle.cms_disk.specs.Disks.{Accessed, place_of}
use Rattle.cms_disk.proofs.FilesFound.{none_found}
use Rattle.cms_held.specs.Kept.{Keeps}
use Rattle.cms_edf.proofs.Planned.{named_at}
use Rattle.cms_disk.proofs.minidisk.Minidisk.place.Goals as goal

pub returns-in-None-clause-absent : goal.returns-in-None-clause-absent
returns-in-None-clause-absent c =
    none_found c.args.self.now c.args.name.now (sym (c.in-None.ensures.place ∙ ap (λ (d : Accessed). place_of c.args.name.now d.volume) c.self.view_is))

pub returns-in-Some-clause-missing : goal.returns-in-Some-clause-missing
returns-in-Some-clause-missing c = tt

pub returns-in-Some-clause-absent : goal.returns-in-Some-clause-absent
returns-in-Some-clause-absent c = tt

pub returns-in-Some-clause-fault : goal.returns-in-Some-clause-fault
returns-in-Some-clause-fault c = tt

pub returns-in-None-clause-place : goal.returns-in-None-clause-place
returns-in-None-clause-place c = tt

pub returns-in-None-clause-within : goal.returns-in-None-clause-within
returns-in-None-clause-within c = tt

pub returns-in-Some-clause-place : goal.returns-in-Some-clause-place
returns-in-Some-clause-place c = sym (c.in-Some.ensures.place ∙ ap (λ (d : Accessed). place_of c.args.name.now d.volume) c.self.view_is)

pub returns-in-Some-clause-kept : goal.returns-in-Some-clause-kept
returns-in-Some-clause-kept c = subst (λ (d : Accessed). Keeps d.volume) c.self.view_is c.in-Some.ensures.kept

pub returns-in-None-clause-kept : goal.returns-in-None-clause-kept
returns-in-None-clause-kept c = subst (λ (d : Accessed). Keeps d.volume) c.self.view_is c.in-None.ensures.kept

pub returns-in-None-clause-missing : goal.returns-in-None-clause-missing
returns-in-None-clause-missing c = sym (c.in-None.ensures.place ∙ ap (λ (d : Accessed). place_of c.args.name.now d.volume) c.self.view_is)

pub returns-in-Some-clause-within : goal.returns-in-Some-clause-within
returns-in-Some-clause-within c =
    (named_at c.args.self.now.volume.files c.args.name.now c.in-Some.place (sym (c.in-Some.ensures.place ∙ ap (λ (d : Accessed). place_of c.args.name.now d.volume) c.self.view_is))).within
