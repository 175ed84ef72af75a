use Rattle.std.proofs.Common.{◌≡◌, ◌∙◌, ℕ, length, Option, Some, refl, sym, ap, subst, ◌≤◌, true, false}
use Rattle.std.specs.Prelude.{IsSome}
use Rattle.std.proofs.lemmas.Result.{err_from_is_err_and}
use Rattle.std.proofs.lemmas.Bool.{true≢false}
use Rattle.cms_journal.specs.Journal.{HasBlocks}
use Rattle.cms_held.specs.HeldVolumes.{HeldVolume}
use Rattle.cms_held.specs.Puts.{limit_put}
use Rattle.cms_edf.specs.declared.draft.Draft.{Draft}
use Rattle.cms_disk.specs.Additions.{MayExtend}
use Rattle.cms_disk.specs.Disks.{Accessed, place_of, IsVolumeOf}
use Rattle.cms_disk.proofs.AddAnswered.{more_fault, planned_so, refused_so, room_for}
use Rattle.cms_disk.proofs.MoreDrafts.{begins_more, behind_file, can_grow, file_there, told_of}
use Rattle.cms_edf.proofs.Exits.{ok_at_err}
use Rattle.cms_edf.specs.FileDrafts.{IsSomeDraft}
use Rattle.cms_disk.proofs.Refused.{same_places}
use Rattle.cms_disk.proofs.minidisk.Minidisk.draft_more_at.Goals as goal

-- it is there
is_some : {o : Option ℕ} {k : ℕ} → o ≡ Some k → IsSome o
is_some e = subst (λ (x : Option ℕ). IsSome x) (sym e) refl

pub returns-then-not-is_writable-clause-answers : goal.returns-then-not-is_writable-clause-answers
returns-then-not-is_writable-clause-answers g c = λ j m file more is has named counts. tt

pub plan_more_at-requires-clause-grows : goal.plan_more_at-requires-clause-grows
plan_more_at-requires-clause-grows g c =
    let view = sym (ap (λ (a : Accessed). a.volume) c.self.view_is) in
    can_grow c.self.inside.held.volume c.args.name.now c.args.shape.now (subst (λ (v : HeldVolume). MayExtend v c.args.name.now c.args.shape.now) view c.requires.extends) c.args.place
    (subst (λ (v : HeldVolume). place_of c.args.name.now v ≡ Some c.args.place) view c.requires.there)

pub plan_more_at-requires-clause-blocks : goal.plan_more_at-requires-clause-blocks
plan_more_at-requires-clause-blocks g c = λ j told.
    subst (λ (v : HeldVolume). HasBlocks j.units v.unit v.disk.count v.disk.bsize) (sym (ap (λ (a : Accessed). a.volume) c.self.view_is)) (c.requires.blocks j told)

pub returns-in_err-draft-clause-fault : goal.returns-in_err-draft-clause-fault
returns-in_err-draft-clause-fault g c =
    let p = err_from_is_err_and c.from_residual.result c.from_residual.ensures.1 in
    let s = c.self.inside in
    let d : Accessed = record { vdev = s.unit.vdev; writable = s.unit.writable; volume = s.held.volume; spare = s.held.spare } in
    rw (← c.self.view_is, p.1, p.2) (more_fault d c.args.name.now c.args.shape.now c.in_err-draft.field-0.0 c.in_err-draft.ensures.refused)

pub returns-in_err-draft-clause-answers : goal.returns-in_err-draft-clause-answers
returns-in_err-draft-clause-answers g c =
    let p = err_from_is_err_and c.from_residual.result c.from_residual.ensures.1 in
    let s = c.self.inside in
    let d : Accessed = record { vdev = s.unit.vdev; writable = s.unit.writable; volume = s.held.volume; spare = s.held.spare } in
    let view = ap (λ (a : Accessed). a.volume) c.self.view_is in
    let may = subst (λ (v : HeldVolume). MayExtend v c.args.name.now c.args.shape.now) (sym view) c.requires.extends in
    let some = is_some (subst (λ (v : HeldVolume). place_of c.args.name.now v ≡ Some c.args.place) (sym view) c.requires.there) in
    rw (← c.self.view_is, p.1, p.2) (refused_so Draft d c.args.name.now c.args.shape.now c.in_err-draft.field-0.0 c.plan_more_at.ensures.kept may some c.in_err-draft.ensures.refused)

pub returns-clause-behind : goal.returns-clause-behind
returns-clause-behind g c = rw (← c.self.view_is) (
    let made = c.in_ok-draft.ensures in
    behind_file c.self.inside.held.volume c.args.name.now c.args.shape.now c.args.stamp.now c.in_ok-draft.draft made.planned made.behind)

pub returns-clause-room : goal.returns-clause-room
returns-clause-room g c = rw (← c.self.view_is) (
    room_for c.self.inside.held.volume c.args.name.now c.args.shape.now c.args.stamp.now c.in_ok-draft.draft c.in_ok-draft.ensures.planned)

pub returns-clause-answers : goal.returns-clause-answers
returns-clause-answers g c =
    let s = c.self.inside in
    let d : Accessed = record { vdev = s.unit.vdev; writable = s.unit.writable; volume = s.held.volume; spare = s.held.spare } in
    let view = ap (λ (a : Accessed). a.volume) c.self.view_is in
    let some = is_some (subst (λ (v : HeldVolume). place_of c.args.name.now v ≡ Some c.args.place) (sym view) c.requires.there) in
    rw (← c.self.view_is) (planned_so c.in_ok-draft.draft d c.args.name.now c.args.shape.now c.args.stamp.now c.in_ok-draft.draft c.plan_more_at.ensures.kept some c.in_ok-draft.ensures.planned)

pub returns-clause-begins : goal.returns-clause-begins
returns-clause-begins g c =
    let old = g.W.World.told c.args.world.now in
    let new = g.W.World.told c.plan_more_at.new.world in
    let s = c.self.inside in
    let d : Accessed = record { vdev = s.unit.vdev; writable = s.unit.writable; volume = s.held.volume; spare = s.held.spare } in
    let e : Accessed = record { vdev = s.unit.vdev; writable = s.unit.writable; volume = c.plan_more_at.new.held.volume; spare = c.plan_more_at.new.held.spare } in
    let name = c.args.name.now in
    let shape = c.args.shape.now in
    let made = c.in_ok-draft.ensures in
    let view = ap (λ (a : Accessed). a.volume) c.self.view_is in
    let may = subst (λ (v : HeldVolume). MayExtend v name shape) (sym view) c.requires.extends in
    let some = is_some (subst (λ (v : HeldVolume). place_of name v ≡ Some c.args.place) (sym view) c.requires.there) in
    let there = file_there d.volume name some in
    let h = there.0 in
    let at = there.1 in
    let can = may _ h.size (told_of d.volume name h at) in
    rw (← c.self.view_is) (begins_more old new d e name shape c.args.stamp.now c.in_ok-draft.draft at.place h made.reads.told c.plan_more_at.ensures.volume c.plan_more_at.ensures.kept at.there at.is
    (made.planned h at) (made.behind h at) can.format_is
    (λ j told. subst (λ (v : HeldVolume). HasBlocks j.units v.unit v.disk.count v.disk.bsize) (sym view) (c.requires.blocks j told))
    (λ j front records told front_is on. made.drafts j told h front records at front_is on))

pub returns-clause-limited : goal.returns-clause-limited
returns-clause-limited g c = λ writable which is.
    let view = ap (λ (a : Accessed). a.volume) c.self.view_is in
    let shape = c.args.shape.now in
    let at = subst (λ (v : HeldVolume). limit_put (length v.files) shape.count shape.bytes ≡ Some which) (sym view) is in
    let e = sym c.in_ok-draft.was ∙ c.plan_more_at.ensures.limited which at in
    absurd (cc e)

pub returns-clause-planned : goal.returns-clause-planned
returns-clause-planned g c = rw (← c.self.view_is) c.in_ok-draft.ensures.planned

pub returns-in_err-draft-clause-planned : goal.returns-in_err-draft-clause-planned
returns-in_err-draft-clause-planned g c = ok_at_err _ c.from_residual.result _ c.from_residual.ensures.1

pub returns-in_err-draft-clause-some : goal.returns-in_err-draft-clause-some
returns-in_err-draft-clause-some g c = ok_at_err _ c.from_residual.result _ c.from_residual.ensures.1

pub returns-in_err-draft-clause-behind : goal.returns-in_err-draft-clause-behind
returns-in_err-draft-clause-behind g c = ok_at_err _ c.from_residual.result _ c.from_residual.ensures.1

pub returns-in_err-draft-clause-begins : goal.returns-in_err-draft-clause-begins
returns-in_err-draft-clause-begins g c = ok_at_err _ c.from_residual.result _ c.from_residual.ensures.1

pub returns-in_err-draft-clause-room : goal.returns-in_err-draft-clause-room
returns-in_err-draft-clause-room g c = ok_at_err _ c.from_residual.result _ c.from_residual.ensures.1

pub returns-in_err-draft-clause-writable : goal.returns-in_err-draft-clause-writable
returns-in_err-draft-clause-writable g c = ok_at_err _ c.from_residual.result _ c.from_residual.ensures.1

pub returns-then-not-is_writable-clause-planned : goal.returns-then-not-is_writable-clause-planned
returns-then-not-is_writable-clause-planned g c = tt

pub returns-then-not-is_writable-clause-some : goal.returns-then-not-is_writable-clause-some
returns-then-not-is_writable-clause-some g c = tt

pub returns-then-not-is_writable-clause-behind : goal.returns-then-not-is_writable-clause-behind
returns-then-not-is_writable-clause-behind g c = tt

pub returns-then-not-is_writable-clause-begins : goal.returns-then-not-is_writable-clause-begins
returns-then-not-is_writable-clause-begins g c = tt

pub returns-then-not-is_writable-clause-room : goal.returns-then-not-is_writable-clause-room
returns-then-not-is_writable-clause-room g c = tt

pub returns-then-not-is_writable-clause-writable : goal.returns-then-not-is_writable-clause-writable
returns-then-not-is_writable-clause-writable g c = tt

pub returns-then-not-is_writable-clause-spare : goal.returns-then-not-is_writable-clause-spare
returns-then-not-is_writable-clause-spare g c = tt

pub returns-then-not-is_writable-clause-fault : goal.returns-then-not-is_writable-clause-fault
returns-then-not-is_writable-clause-fault g c = sym c.is_writable.ensures ∙ c.if-not-is_writable.true

pub returns-then-not-is_writable-clause-locked : goal.returns-then-not-is_writable-clause-locked
returns-then-not-is_writable-clause-locked g c = λ no. refl

pub returns-then-not-is_writable-clause-limited : goal.returns-then-not-is_writable-clause-limited
returns-then-not-is_writable-clause-limited g c = λ writable which limit. absurd (true≢false (sym writable ∙ (sym c.is_writable.ensures ∙ c.if-not-is_writable.true)))

pub returns-then-not-is_writable-clause-kept : goal.returns-then-not-is_writable-clause-kept
returns-then-not-is_writable-clause-kept g c = refl

pub returns-then-not-is_writable-clause-places : goal.returns-then-not-is_writable-clause-places
returns-then-not-is_writable-clause-places g c = same_places c.args.self.now.spare

pub plan_more_at-requires-clause-stamp : goal.plan_more_at-requires-clause-stamp
plan_more_at-requires-clause-stamp g c = c.requires.stamp

pub invariant_of-self : goal.invariant_of-self
invariant_of-self g c = subst (IsVolumeOf c.self.inside.unit) (sym c.in_err-draft.ensures.volume) c.self.invariant

pub invariant_of-self-2 : goal.invariant_of-self-2
invariant_of-self-2 g c = subst (IsVolumeOf c.self.inside.unit) (sym c.in_ok-draft.ensures.volume) c.self.invariant

pub returns-in_err-draft-clause-locked : goal.returns-in_err-draft-clause-locked
returns-in_err-draft-clause-locked g c = λ no. absurd (true≢false (sym (sym c.is_writable.ensures ∙ c.if-not-is_writable.false) ∙ no))

pub returns-clause-locked : goal.returns-clause-locked
returns-clause-locked g c = λ no. absurd (true≢false (sym (sym c.is_writable.ensures ∙ c.if-not-is_writable.false) ∙ no))

pub returns-in_err-draft-clause-kept : goal.returns-in_err-draft-clause-kept
returns-in_err-draft-clause-kept g c =
    let s = c.self.inside in
    ap (λ (v : HeldVolume). record { vdev = s.unit.vdev; writable = s.unit.writable; volume = v; spare = c.plan_more_at.new.held.spare }) c.in_err-draft.ensures.volume
    ∙ ap (λ (a : Accessed). record a { spare = c.plan_more_at.new.held.spare }) c.self.view_is

pub returns-clause-kept : goal.returns-clause-kept
returns-clause-kept g c =
    let s = c.self.inside in
    ap (λ (v : HeldVolume). record { vdev = s.unit.vdev; writable = s.unit.writable; volume = v; spare = c.plan_more_at.new.held.spare }) c.in_ok-draft.ensures.volume
    ∙ ap (λ (a : Accessed). record a { spare = c.plan_more_at.new.held.spare }) c.self.view_is

pub returns-in_err-draft-clause-spare : goal.returns-in_err-draft-clause-spare
returns-in_err-draft-clause-spare g c = ok_at_err _ c.from_residual.result _ c.from_residual.ensures.1

pub returns-in_err-draft-clause-places : goal.returns-in_err-draft-clause-places
returns-in_err-draft-clause-places g c = subst (λ (a : Accessed). a.spare ≤ c.plan_more_at.new.held.spare) c.self.view_is c.in_err-draft.ensures.places

pub returns-clause-some : goal.returns-clause-some
returns-clause-some g c =
    subst (λ (a : Accessed). IsSomeDraft a.volume c.in_ok-draft.draft) c.self.view_is (subst (λ (v : HeldVolume). IsSomeDraft v c.in_ok-draft.draft) c.in_ok-draft.ensures.volume c.in_ok-draft.ensures.some)

pub returns-clause-writable : goal.returns-clause-writable
returns-clause-writable g c = sym c.is_writable.ensures ∙ c.if-not-is_writable.false

pub returns-clause-fault : goal.returns-clause-fault
returns-clause-fault g c = tt

pub returns-clause-spare : goal.returns-clause-spare
returns-clause-spare g c = c.in_ok-draft.ensures.spare

pub returns-clause-places : goal.returns-clause-places
returns-clause-places g c = subst (λ (a : Accessed). a.spare ≤ c.plan_more_at.new.held.spare) c.self.view_is c.in_ok-draft.ensures.places

pub returns-clause-reads : goal.returns-clause-reads
returns-clause-reads g c = record { told = c.in_ok-draft.ensures.reads.told; faults = c.in_ok-draft.ensures.reads.faults; edges = c.in_ok-draft.ensures.reads.edges; cause = tt }
