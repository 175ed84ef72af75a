use Rattle.std.proofs.Common.{◌≡◌, ap, subst, sym, ◌≤◌, ◌∙◌, true, false, refl}
use Rattle.std.proofs.lemmas.Result.{err_from_is_err_and}
use Rattle.std.proofs.lemmas.Bool.{true≢false}
use Rattle.cms_held.specs.HeldVolumes.{HeldVolume}
use Rattle.cms_edf.specs.declared.draft.Draft.{Draft}
use Rattle.cms_disk.specs.Disks.{Accessed, place_of, IsVolumeOf}
use Rattle.cms_disk.proofs.DraftAnswered.{draft_fault, draft_made, draft_refused}
use Rattle.cms_disk.proofs.DraftSteps.{begins_put}
use Rattle.cms_disk.proofs.FilePut.{not_both}
use Rattle.cms_edf.proofs.Exits.{ok_at_err}
use Rattle.cms_edf.specs.FileDrafts.{IsSomeDraft, tree_of}
use Rattle.cms_held.specs.FileWriters.{IsFresh}
use Rattle.cms_disk.proofs.Refused.{same_places}
use Rattle.cms_disk.proofs.minidisk.Minidisk.draft_at.Goals as goal

pub plan_draft_at-requires-clause-place : goal.plan_draft_at-requires-clause-place
plan_draft_at-requires-clause-place c =
    subst (λ (v : HeldVolume). c.args.there ≡ place_of c.args.name.now v) (sym (ap (λ (a : Accessed). a.volume) c.self.view_is)) c.requires.there

pub returns-in_err-draft-clause-answers : goal.returns-in_err-draft-clause-answers
returns-in_err-draft-clause-answers c =
    let p = err_from_is_err_and c.from_residual.result c.from_residual.ensures.1 in
    rw (← c.self.view_is) (λ j m records is has counts.
    let s = c.self.inside in
    let d : Accessed = record { vdev = s.unit.vdev; writable = s.unit.writable; volume = s.held.volume; spare = s.held.spare } in
    rw (p.1, p.2) (draft_refused Draft j d m c.args.name.now c.args.shape.now records c.in_err-draft.field-0.0 is has c.plan_draft_at.ensures.kept counts c.in_err-draft.ensures.refused))

pub returns-in_err-draft-clause-fault : goal.returns-in_err-draft-clause-fault
returns-in_err-draft-clause-fault c =
    let p = err_from_is_err_and c.from_residual.result c.from_residual.ensures.1 in
    let s = c.self.inside in
    let d : Accessed = record { vdev = s.unit.vdev; writable = s.unit.writable; volume = s.held.volume; spare = s.held.spare } in
    rw (← c.self.view_is, p.1, p.2) (draft_fault d c.args.name.now c.args.shape.now c.in_err-draft.field-0.0 c.in_err-draft.ensures.refused)

pub returns-clause-answers : goal.returns-clause-answers
returns-clause-answers c = rw (← c.self.view_is) (λ j m records is has counts.
    let s = c.self.inside in
    let d : Accessed = record { vdev = s.unit.vdev; writable = s.unit.writable; volume = s.held.volume; spare = s.held.spare } in
    let planned = c.in_ok-draft.ensures.planned in
    draft_made j d m c.args.name.now c.args.shape.now records is has c.plan_draft_at.ensures.kept counts (planned.file 0).unlimited (planned.file 0).room)

pub returns-clause-limited : goal.returns-clause-limited
returns-clause-limited c = rw (← c.self.view_is) (λ writable which limit. absurd (not_both which limit (c.in_ok-draft.ensures.planned.file 0).unlimited))

pub returns-clause-begins : goal.returns-clause-begins
returns-clause-begins c = rw (← c.self.view_is) (
    let s = c.self.inside in
    let d : Accessed = record { vdev = s.unit.vdev; writable = s.unit.writable; volume = s.held.volume; spare = s.held.spare } in
    let e : Accessed = record { vdev = s.unit.vdev; writable = s.unit.writable; volume = c.plan_draft_at.new.held.volume; spare = c.plan_draft_at.new.held.spare } in
    let made = c.in_ok-draft.ensures in
    begins_put d e c.args.name.now c.args.shape.now c.args.stamp.now c.in_ok-draft.draft made.volume made.planned made.fresh)

pub returns-clause-planned : goal.returns-clause-planned
returns-clause-planned c = rw (← c.self.view_is) c.in_ok-draft.ensures.planned

pub returns-in_err-draft-clause-planned : goal.returns-in_err-draft-clause-planned
returns-in_err-draft-clause-planned c = ok_at_err _ c.from_residual.result _ c.from_residual.ensures.1

pub returns-in_err-draft-clause-some : goal.returns-in_err-draft-clause-some
returns-in_err-draft-clause-some c = ok_at_err _ c.from_residual.result _ c.from_residual.ensures.1

pub returns-in_err-draft-clause-fresh : goal.returns-in_err-draft-clause-fresh
returns-in_err-draft-clause-fresh c = ok_at_err _ c.from_residual.result _ c.from_residual.ensures.1

pub returns-in_err-draft-clause-begins : goal.returns-in_err-draft-clause-begins
returns-in_err-draft-clause-begins c = ok_at_err _ c.from_residual.result _ c.from_residual.ensures.1

pub returns-in_err-draft-clause-writable : goal.returns-in_err-draft-clause-writable
returns-in_err-draft-clause-writable c = ok_at_err _ c.from_residual.result _ c.from_residual.ensures.1

pub returns-then-not-is_writable-clause-planned : goal.returns-then-not-is_writable-clause-planned
returns-then-not-is_writable-clause-planned c = tt

pub returns-then-not-is_writable-clause-some : goal.returns-then-not-is_writable-clause-some
returns-then-not-is_writable-clause-some c = tt

pub returns-then-not-is_writable-clause-fresh : goal.returns-then-not-is_writable-clause-fresh
returns-then-not-is_writable-clause-fresh c = tt

pub returns-then-not-is_writable-clause-begins : goal.returns-then-not-is_writable-clause-begins
returns-then-not-is_writable-clause-begins c = tt

pub returns-then-not-is_writable-clause-writable : goal.returns-then-not-is_writable-clause-writable
returns-then-not-is_writable-clause-writable c = tt

pub returns-then-not-is_writable-clause-spare : goal.returns-then-not-is_writable-clause-spare
returns-then-not-is_writable-clause-spare c = tt

pub returns-then-not-is_writable-clause-answers : goal.returns-then-not-is_writable-clause-answers
returns-then-not-is_writable-clause-answers c = λ j m records is has counts. tt

pub returns-then-not-is_writable-clause-fault : goal.returns-then-not-is_writable-clause-fault
returns-then-not-is_writable-clause-fault c = sym c.is_writable.ensures ∙ c.if-not-is_writable.true

pub returns-then-not-is_writable-clause-locked : goal.returns-then-not-is_writable-clause-locked
returns-then-not-is_writable-clause-locked c = λ no. refl

pub returns-then-not-is_writable-clause-limited : goal.returns-then-not-is_writable-clause-limited
returns-then-not-is_writable-clause-limited c = λ writable which limit. absurd (true≢false (sym writable ∙ (sym c.is_writable.ensures ∙ c.if-not-is_writable.true)))

pub returns-then-not-is_writable-clause-kept : goal.returns-then-not-is_writable-clause-kept
returns-then-not-is_writable-clause-kept c = refl

pub returns-then-not-is_writable-clause-places : goal.returns-then-not-is_writable-clause-places
returns-then-not-is_writable-clause-places c = same_places c.args.self.now.spare

pub plan_draft_at-requires-clause-stamp : goal.plan_draft_at-requires-clause-stamp
plan_draft_at-requires-clause-stamp c = c.requires.stamp

pub plan_draft_at-requires-clause-asked : goal.plan_draft_at-requires-clause-asked
plan_draft_at-requires-clause-asked c = c.requires.shape

pub invariant_of-self : goal.invariant_of-self
invariant_of-self c = subst (IsVolumeOf c.self.inside.unit) (sym c.in_err-draft.ensures.volume) c.self.invariant

pub invariant_of-self-2 : goal.invariant_of-self-2
invariant_of-self-2 c = subst (IsVolumeOf c.self.inside.unit) (sym c.in_ok-draft.ensures.volume) c.self.invariant

pub returns-in_err-draft-clause-locked : goal.returns-in_err-draft-clause-locked
returns-in_err-draft-clause-locked c = λ no. absurd (true≢false (sym (sym c.is_writable.ensures ∙ c.if-not-is_writable.false) ∙ no))

pub returns-clause-locked : goal.returns-clause-locked
returns-clause-locked c = λ no. absurd (true≢false (sym (sym c.is_writable.ensures ∙ c.if-not-is_writable.false) ∙ no))

pub returns-in_err-draft-clause-kept : goal.returns-in_err-draft-clause-kept
returns-in_err-draft-clause-kept c =
    let s = c.self.inside in
    ap (λ (v : HeldVolume). record { vdev = s.unit.vdev; writable = s.unit.writable; volume = v; spare = c.plan_draft_at.new.held.spare }) c.in_err-draft.ensures.volume
    ∙ ap (λ (a : Accessed). record a { spare = c.plan_draft_at.new.held.spare }) c.self.view_is

pub returns-clause-kept : goal.returns-clause-kept
returns-clause-kept c =
    let s = c.self.inside in
    ap (λ (v : HeldVolume). record { vdev = s.unit.vdev; writable = s.unit.writable; volume = v; spare = c.plan_draft_at.new.held.spare }) c.in_ok-draft.ensures.volume
    ∙ ap (λ (a : Accessed). record a { spare = c.plan_draft_at.new.held.spare }) c.self.view_is

pub returns-in_err-draft-clause-spare : goal.returns-in_err-draft-clause-spare
returns-in_err-draft-clause-spare c = ok_at_err _ c.from_residual.result _ c.from_residual.ensures.1

pub returns-in_err-draft-clause-places : goal.returns-in_err-draft-clause-places
returns-in_err-draft-clause-places c = subst (λ (a : Accessed). a.spare ≤ c.plan_draft_at.new.held.spare) c.self.view_is c.in_err-draft.ensures.places

pub returns-clause-some : goal.returns-clause-some
returns-clause-some c =
    subst (λ (a : Accessed). IsSomeDraft a.volume c.in_ok-draft.draft) c.self.view_is (subst (λ (v : HeldVolume). IsSomeDraft v c.in_ok-draft.draft) c.in_ok-draft.ensures.volume c.in_ok-draft.ensures.some)

pub returns-clause-fresh : goal.returns-clause-fresh
returns-clause-fresh c =
    subst (λ (a : Accessed). IsFresh a.volume.unit a.volume.disk.bsize c.args.shape.now (tree_of c.in_ok-draft.draft) c.in_ok-draft.draft.writer) c.self.view_is c.in_ok-draft.ensures.fresh

pub returns-clause-writable : goal.returns-clause-writable
returns-clause-writable c = sym c.is_writable.ensures ∙ c.if-not-is_writable.false

pub returns-clause-fault : goal.returns-clause-fault
returns-clause-fault c = tt

pub returns-clause-spare : goal.returns-clause-spare
returns-clause-spare c = c.in_ok-draft.ensures.spare

pub returns-clause-places : goal.returns-clause-places
returns-clause-places c = subst (λ (a : Accessed). a.spare ≤ c.plan_draft_at.new.held.spare) c.self.view_is c.in_ok-draft.ensures.places
