-- The data blocks of the file at a place are those of that of the map.
use Rattle.std.proofs.Common.{◌≡◌, List, Some, slice_get, sym, ◌∙◌, ap, subst}
use Rattle.std.specs.Prelude.{option_map}
use Rattle.std.proofs.lemmas.Option.{slice_get-map}
use Rattle.indexmap.specs.IndexMap.{values}
use Rattle.cms_held.specs.HeldVolumes.{HeldFile, Held}
use Rattle.cms_held.specs.Kept.{Keeps}
use Rattle.cms_edf.proofs.held.Held.leaves.Goals as goal

pub returns-clause-leaves : goal.returns-clause-leaves
returns-clause-leaves c =
    let v = c.args.self.now.volume in
    let leaves = λ (f : HeldFile). f.tree.leaves in
    let files : values c.self.inside.files ≡ v.files = ap (λ (h : Held). h.volume.files) c.self.view_is in
    slice_get-map leaves v.files c.args.nth ∙ (ap (λ (l : List HeldFile). option_map leaves (slice_get l c.args.nth)) (sym files)
    ∙ (ap (option_map leaves) c.index.ensures ∙ ap Some (sym c.leaves.ensures)))

pub returns-clause-kept : goal.returns-clause-kept
returns-clause-kept c = subst (λ (h : Held). Keeps h.volume) c.self.view_is c.self.invariant.kept
