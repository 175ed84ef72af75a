use Rattle.std.proofs.Common.{◌∙◌, List, ap, position, subst}
use Rattle.indexmap.specs.IndexMap.{keys}
use Rattle.cms_names.specs.declared.name.Name.{Name}
use Rattle.cms_model.specs.Minidisks.{same_name}
use Rattle.cms_edf.proofs.FilesNamed.{keys_held}
use Rattle.cms_edf.proofs.NamesMet.{place_there}
use Rattle.cms_held.specs.HeldVolumes.{Held}
use Rattle.cms_held.specs.Kept.{Keeps}
use Rattle.cms_edf.proofs.held.Held.find.Goals as goal

pub returns-in-Some-clause-place : goal.returns-in-Some-clause-place
returns-in-Some-clause-place c =
    let keys_are = keys_held c.self.inside.files.entries _ c.args.self.now c.self.invariant.named c.self.view_is in
    c.in-Some.ensures.index ∙ (place_there c.args.name.now (keys c.self.inside.files) ∙ ap (λ (names : List Name). position (same_name c.args.name.now) names) keys_are)

pub returns-in-None-clause-place : goal.returns-in-None-clause-place
returns-in-None-clause-place c =
    let keys_are = keys_held c.self.inside.files.entries _ c.args.self.now c.self.invariant.named c.self.view_is in
    c.in-None.ensures.index ∙ (place_there c.args.name.now (keys c.self.inside.files) ∙ ap (λ (names : List Name). position (same_name c.args.name.now) names) keys_are)

pub returns-in-Some-clause-kept : goal.returns-in-Some-clause-kept
returns-in-Some-clause-kept c = subst (λ (h : Held). Keeps h.volume) c.self.view_is c.self.invariant.kept

pub returns-in-None-clause-kept : goal.returns-in-None-clause-kept
returns-in-None-clause-kept c = subst (λ (h : Held). Keeps h.volume) c.self.view_is c.self.invariant.kept
