use Rattle.std.proofs.Common.{◌≡◌, ◌∙◌, Err, ap, inl, refl, sym}
use Rattle.std.proofs.lemmas.Option.{same_Some}
use Rattle.cms_world.specs.Seen.{seen}
use Rattle.cms_disk.specs.Disks.{Accessed}
use Rattle.cms_search.specs.Tables.{Seated, seat_with}
use Rattle.cms_search.proofs.Seats.{seat_there}
use Rattle.cms_search.proofs.Stepped.{if_some}
use Rattle.cms_copyfile.specs.Drafts.{FillsTo, PlansTo, WritesTo}
use Rattle.cms_copyfile.specs.declared.draft.Written.TheVariants.{Came}
use Rattle.cms_copyfile.proofs.Writes.{disk_so, disk_then, draft_may, failed_from, some_seat, still_there, written_from, written_none}
use Rattle.cms_copyfile.proofs.draft.write_copies.Goals as goal

pub fill-requires-clause-accessed : goal.fill-requires-clause-accessed
fill-requires-clause-accessed g c =
    let to = c.args.to.now in
    let s = some_seat _ c.requires.accessed in
    still_there (λ (x : Seated) (e : Accessed). PlansTo (seen g.W.World c.args.world.now) (seen g.W.World c.plan_target.new.world) x.disk e to c.plan_target.result) _ _ to.letter s.0 s.1 c.plan_target.ensures

pub fill-requires-clause-may : goal.fill-requires-clause-may
fill-requires-clause-may g c = draft_may _ _ _ _ c.args.to.now c.plan_target.result c.in-Ok.draft c.in-Ok.is c.requires.accessed c.plan_target.ensures c.requires.may

-- the draft's plan has dropped the reading that was kept
pub fill-requires-clause-unread : goal.fill-requires-clause-unread
fill-requires-clause-unread g c = λ x at.
    let n = c.args.to.now.letter in
    let s = some_seat _ c.requires.accessed in
    let h = if_some _ _ s.0 s.1 c.plan_target.ensures in
    let one : seat_with s.0 h.disk ≡ x = same_Some (seat_with s.0 h.disk) x (sym (seat_there c.args.table.now c.plan_target.new.table n s.0 s.1 h) ∙ at) in
    sym (ap (λ (y : Seated). y.reading) one)

pub returns-in-Ok-clause-writes : goal.returns-in-Ok-clause-writes
returns-in-Ok-clause-writes g c =
    let s = some_seat _ c.requires.accessed in
    let n = c.args.to.now.letter in
    let before = seen g.W.World c.args.world.now in
    let mid = seen g.W.World c.plan_target.new.world in
    let now = seen g.W.World c.fill.new.world in
    let h = if_some _ _ s.0 s.1 c.plan_target.ensures in
    disk_then (λ (e : Accessed). PlansTo before mid s.0.disk e c.args.to.now c.plan_target.result)
    (λ (x : Seated) (e : Accessed). FillsTo mid now x.disk e c.in-Ok.draft c.args.plan.now c.args.cursor.now c.fill.result)
    (λ (x : Seated) (e : Accessed). WritesTo before now x.disk e c.args.to.now c.args.plan.now c.args.cursor.now c.fill.result)
    _ _ _ n s.0 s.1 h c.fill.ensures.fills
    (λ e so. written_from before mid now s.0.disk h.disk e c.args.to.now c.args.plan.now c.args.cursor.now c.plan_target.result c.in-Ok.draft c.fill.result c.in-Ok.is h.does so)

pub returns-in-Err-clause-writes : goal.returns-in-Err-clause-writes
returns-in-Err-clause-writes g c =
    let s = some_seat _ c.requires.accessed in
    let before = seen g.W.World c.args.world.now in
    let now = seen g.W.World c.plan_target.new.world in
    disk_so (λ (x : Seated) (e : Accessed). PlansTo before now x.disk e c.args.to.now c.plan_target.result)
    (λ (x : Seated) (e : Accessed). WritesTo before now x.disk e c.args.to.now c.args.plan.now c.args.cursor.now (Came (Err c.in-Err.fault))) _ _ c.args.to.now.letter s.0 s.1 c.plan_target.ensures
    (λ e so. written_none before now s.0.disk e c.args.to.now c.args.plan.now c.args.cursor.now c.plan_target.result c.in-Err.fault c.in-Err.is so)

-- ---- on which unit a call failed

pub returns-in-Ok-clause-unit : goal.returns-in-Ok-clause-unit
returns-in-Ok-clause-unit g c = λ s at.
    let n = c.args.to.now.letter in
    let before = seen g.W.World c.args.world.now in
    let mid = seen g.W.World c.plan_target.new.world in
    let now = seen g.W.World c.fill.new.world in
    let h = if_some _ _ s at c.plan_target.ensures in
    failed_from before mid now s.disk h.disk c.args.to.now c.args.plan.now c.args.cursor.now c.fill.new.cursor c.plan_target.result c.in-Ok.draft c.fill.result c.in-Ok.is h.does
    (c.fill.ensures.unit (seat_with s h.disk) (seat_there c.args.table.now c.plan_target.new.table n s at h))

pub returns-in-Err-clause-unit : goal.returns-in-Err-clause-unit
returns-in-Err-clause-unit g c = λ s at m records x. inl refl
