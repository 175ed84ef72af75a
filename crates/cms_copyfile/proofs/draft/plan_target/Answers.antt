use Rattle.std.proofs.Common.{◌∙◌, sym}
use Rattle.cms_world.specs.Seen.{seen}
use Rattle.cms_disk.specs.Disks.{Accessed}
use Rattle.cms_search.specs.Drafts.{DraftsMoreTo, DraftsTo}
use Rattle.cms_search.specs.Tables.{Seated}
use Rattle.cms_copyfile.specs.Drafts.{PlansTo}
use Rattle.cms_copyfile.proofs.Writes.{disk_so, fits_more, fits_whole, planned_more, planned_whole, some_seat, some_there}
use Rattle.cms_copyfile.proofs.draft.plan_target.Goals as goal

pub draft-requires-clause-shape : goal.draft-requires-clause-shape
draft-requires-clause-shape g c =
    let s = some_seat _ c.requires.accessed in
    fits_whole s.0.disk.volume c.args.to.now c.in-Whole.is (c.requires.may s.0 s.1).fits

pub draft-requires-clause-there : goal.draft-requires-clause-there
draft-requires-clause-there g c = λ s at. (c.requires.may s at).there

pub unwrap-place-requires : goal.unwrap-place-requires
unwrap-place-requires g c =
    let s = some_seat _ c.requires.accessed in
    let may = c.requires.may s.0 s.1 in
    some_there s.0.disk.volume c.args.to.now c.in-Added.is may.there may.fits

pub draft_more-requires-clause-may : goal.draft_more-requires-clause-may
draft_more-requires-clause-may g c = λ s at.
    let may = c.requires.may s at in
    record { there = sym may.there ∙ c.unwrap-place.ensures; extends = fits_more s.disk.volume c.args.to.now c.in-Added.is may.fits; blocks = may.blocks }

pub returns-in-Whole : goal.returns-in-Whole
returns-in-Whole g c =
    let s = some_seat _ c.requires.accessed in
    let to = c.args.to.now in
    let w = seen g.W.World c.args.world.now in
    disk_so (λ (x : Seated) (e : Accessed). DraftsTo x.disk e to.name to.shape to.stamp c.draft.result) (λ (x : Seated) (e : Accessed). PlansTo w w x.disk e to c.draft.result) _ _ to.letter s.0 s.1
    c.draft.ensures (λ e so. planned_whole w s.0.disk e to c.draft.result c.in-Whole.is (c.requires.may s.0 s.1) so)

pub returns-in-Added : goal.returns-in-Added
returns-in-Added g c =
    let s = some_seat _ c.requires.accessed in
    let to = c.args.to.now in
    let before = seen g.W.World c.args.world.now in
    let now = seen g.W.World c.draft_more.new.world in
    disk_so (λ (x : Seated) (e : Accessed). DraftsMoreTo before now x.disk e to.name to.shape to.stamp c.draft_more.result)
    (λ (x : Seated) (e : Accessed). PlansTo before now x.disk e to c.draft_more.result) _ _ to.letter s.0 s.1 c.draft_more.ensures
    (λ e so. planned_more before now s.0.disk e to c.draft_more.result c.in-Added.is (c.requires.may s.0 s.1) so)
