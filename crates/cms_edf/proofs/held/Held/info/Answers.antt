-- What is told of the file at a place is told of that of the map.
use Rattle.std.proofs.Common.{◌≡◌, List, Some, slice_get, sym, ◌∙◌, ap, subst}
use Rattle.std.specs.Prelude.{option_map}
use Rattle.std.proofs.lemmas.Option.{slice_get-map}
use Rattle.indexmap.specs.IndexMap.{values}
use Rattle.cms_held.specs.HeldVolumes.{HeldFile, Held}
use Rattle.cms_edf.specs.FilesTold.{info_of}
use Rattle.cms_held.specs.Kept.{Keeps}
use Rattle.cms_edf.proofs.held.Held.info.Goals as goal

pub returns-clause-info : goal.returns-clause-info
returns-clause-info c =
    let v = c.args.self.now.volume in
    let files : values c.self.inside.files ≡ v.files = ap (λ (h : Held). h.volume.files) c.self.view_is in
    slice_get-map info_of v.files c.args.nth ∙ (ap (λ (l : List HeldFile). option_map info_of (slice_get l c.args.nth)) (sym files)
    ∙ (ap (option_map info_of) c.index.ensures ∙ ap Some (sym c.info.ensures)))

pub returns-clause-kept : goal.returns-clause-kept
returns-clause-kept c = subst (λ (h : Held). Keeps h.volume) c.self.view_is c.self.invariant.kept
