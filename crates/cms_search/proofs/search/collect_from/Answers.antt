use Rattle.std.proofs.Common.{◌≡◌, ◌∙◌, sym, ap, subst, map}
use Rattle.std.specs.Prelude.{Option, Some, slice_get}
use Rattle.std.specs.Option.{option_map}
use Rattle.cms_edf.specs.FilesTold.{infos_in}
use Rattle.cms_edf.specs.declared.held.FileInfo.{FileInfo}
use Rattle.cms_search.specs.Searches.{fitting, is_found}
use Rattle.cms_search.specs.Tables.{Seated, listed_held, told_of}
use Rattle.cms_search.proofs.Searches.{none_found, none_listed, one_found}
use Rattle.cms_search.proofs.Shown.{told_listed}
use Rattle.cms_search.proofs.search.collect_from.Goals.{then-is_found+in_ok-push, else-is_found}
use Rattle.cms_search.proofs.search.collect_from.Goals as goal

pub loop-place-init : goal.loop-place-init
loop-place-init c = none_listed (is_found c.args.mode.now (fitting c.args.file.now c.args.kind.now) c.args.seat.now.letter) c.args.letter c.args.found.now

pub loop-place-preserved : goal.loop-place-preserved
loop-place-preserved c =
    let s = c.args.seat.now in
    let k = c.loop-place.place in
    let f = told_of c.info-info.result in
    let passes = is_found c.args.mode.now (fitting c.args.file.now c.args.kind.now) s.letter in
    let told = subst (λ (x : Seated). slice_get (infos_in x.disk.volume) k ≡ Some c.info-info.result) c.seat.view_is c.info-info.ensures.info in
    let at : slice_get (map listed_held s.disk.volume.files) k ≡ Some f = told_listed s.disk.volume.files k ∙ ap (λ (x : Option FileInfo). option_map told_of x) told in
    elim c.if-is_found.branch [
      | then-is_found+in_ok-push w ↦
          let e = w.found-is in
          rw (e, w.in_ok-push.ensures.ok)
          (one_found passes c.args.letter (map listed_held s.disk.volume.files) k c.args.found.now c.loop-place.found c.loop-place.invariant f at (sym c.is_found.ensures ∙ w.if-is_found.true))
      | else-is_found w ↦
          let e = w.found-is in
          rw e (none_found passes c.args.letter (map listed_held s.disk.volume.files) k c.args.found.now c.loop-place.found c.loop-place.invariant f at (sym c.is_found.ensures ∙ w.if-is_found.false))
    ]
